use Rattle.std.proofs.Common.{◌≡◌, List, ◌<◌, ◌≤◌, ◌++◌, ◌∷◌, cond, take, drop, refl, sym, ap, ◌∙◌, subst}
use Rattle.std.specs.Prelude.{◌⊎◌, All, Contains, option_map}
use Rattle.std.specs.List.{insert}
use Rattle.std.specs.List.{AllByRecursion as Each}
use Rattle.std.specs.List.Sorted.{IsStrictlyIncreasing}
use Rattle.job_deeds.specs.manager_rules.Jobs.{StoredJob, ids_of}
use Rattle.job_book.specs.Active.{AreActive, AreEntriesOf, IsEntryOf, active_of, ids_in}
use Rattle.job_book.specs.Contract.{new_job, with_new}
use Rattle.job_book.specs.Kept.{IsBook}
use Rattle.job_deeds.specs.Waiting.{IsQueueOf, waits_with}
use Rattle.job_book.proofs.Actives.{active_rise, active_with, entries_with}
use Rattle.job_deeds.proofs.Finding.{is_ok_then}
use Rattle.job_deeds.proofs.Places.{not_among}
use Rattle.job_book.proofs.Queues.{none_there, queue_with}
use Rattle.job_book.proofs.Submitted.{added, book_with}
use Rattle.job_book.proofs.book.Book.submitted.Goals.{Else-is_err}
use Rattle.job_book.proofs.book.Book.submitted.Goals as goal

-- the rows after the new one is among them
made : (c : Else-is_err) → c.insert.new.self.items ≡ insert c.self.inside.rows.items c.place_of-at.result c.in_ok-row.row
made c =
    let at = c.place_of-at.result in
    let row = c.in_ok-row.row in
    c.insert.ensures.items ∙ ap (λ b. cond b (insert c.reserve.new.self.items at row) c.reserve.new.self.items) (is_ok_then c.insert.result (sym c.if-is_err.ensures.value))
    ∙ ap (λ (rows : List StoredJob). insert rows at row) c.in_ok-reserve.ensures.items

pub enter-requires-clause-rising : goal.enter-requires-clause-rising
enter-requires-clause-rising c = subst (λ list. IsStrictlyIncreasing (ids_in list)) (sym c.in_ok-reserve-2.ensures.items) (active_rise c.self.inside.rows.items c.self.inside.active.items c.self.invariant.0.kept.rising c.self.invariant.2)

pub put-requires : goal.put-requires
put-requires c =
    let none = subst (λ v. Contains (ids_of v.jobs) c.args.id → ⊥) (sym c.self.view_is) c.requires.new in
    c.self.invariant.1 c.args.id ∙ ap (option_map waits_with) (none_there c.self.inside.rows.items c.args.id none)

pub invariant_of-self-2 : goal.invariant_of-self-2
invariant_of-self-2 c =
    let none = subst (λ v. Contains (ids_of v.jobs) c.args.id → ⊥) (sym c.self.view_is) c.requires.new in
    let rows = c.self.inside.rows.items in
    let j = new_job c.args.id c.args.spec c.requires.known.0 c.requires.begins.0 c.requires.begins.1 in
    let row = c.in_ok-row.ensures c.requires.known.0 c.requires.begins.0 c.requires.begins.1 c.requires.known.1 c.requires.begins.2 in
    let are = added j c.place_of-at.result rows c.insert.new.self.items
    (subst (λ ks. Each (λ k. k.id < c.args.id) (take c.place_of-at.result ks)) c.deref.ensures.value c.place_of-at.ensures.before)
    (subst (λ ks. Each (λ k. c.args.id ≤ k.id) (drop c.place_of-at.result ks)) c.deref.ensures.value c.place_of-at.ensures.after)
    none (made (goal.at.invariant_of-self-2 c).Else-is_err ∙ ap (λ k. take c.place_of-at.result rows ++ k ∷ drop c.place_of-at.result rows) row) in
    let its : c.args.id ≡ c.entry_of-entry.result.id = sym (c.entry_of-entry.ensures.named ∙ ap (λ k. k.id) row) in (
      subst (λ js. IsBook (record { grant = c.self.inside.grant; policy = c.self.inside.policy; jobs = js }) c.self.inside.graph) (sym are)
          (book_with (record { grant = c.self.inside.grant; policy = c.self.inside.policy; jobs = rows }) c.self.inside.graph c.self.invariant.0 c.args.id c.args.spec c.requires.known.0 c.requires.begins.0 c.requires.begins.1 c.args.event.now c.ranges.id.fits c.requires.spec none),
      subst (λ js. IsQueueOf js c.put.new.self.0) (sym are)
          (queue_with j rows c.self.inside.queue.0 c.put.new.self.0 c.self.invariant.1 (not_among c.args.id rows none) refl c.in_ok-put.ensures.added),
      subst (λ js. AreActive js c.enter.new.active.items) (sym are)
          (active_with j rows c.self.inside.active.items c.enter.new.active.items c.self.invariant.0.kept.rising c.self.invariant.2 refl
          (λ e. c.enter.ensures.ids (active_of rows) j (ap ids_in c.in_ok-reserve-2.ensures.items ∙ e) its)),
      subst (λ js. AreEntriesOf js c.enter.new.active.items) (sym are)
          (entries_with j rows c.self.inside.active.items c.enter.new.active.items c.entry_of-entry.result c.self.invariant.2 c.self.invariant.3 none (sym its)
          (subst (λ k. IsEntryOf k c.entry_of-entry.result) row c.entry_of-entry.ensures.entry)
          (subst (λ list. All (λ a. (a ≡ c.entry_of-entry.result) ⊎ Contains list a) c.enter.new.active.items) c.in_ok-reserve-2.ensures.items c.enter.ensures.from)),
    )

pub returns-clause-added : goal.returns-clause-added
returns-clause-added c = λ needs userid urgency have begins.
    let none = subst (λ v. Contains (ids_of v.jobs) c.args.id → ⊥) (sym c.self.view_is) c.requires.new in
    let rows = c.self.inside.rows.items in
    let j = new_job c.args.id c.args.spec needs userid urgency in
    let row = c.in_ok-row.ensures needs userid urgency have begins in
    let are = added j c.place_of-at.result rows c.insert.new.self.items
    (subst (λ ks. Each (λ k. k.id < c.args.id) (take c.place_of-at.result ks)) c.deref.ensures.value c.place_of-at.ensures.before)
    (subst (λ ks. Each (λ k. c.args.id ≤ k.id) (drop c.place_of-at.result ks)) c.deref.ensures.value c.place_of-at.ensures.after)
    none (made (goal.at.returns-clause-added c).Else-is_err ∙ ap (λ k. take c.place_of-at.result rows ++ k ∷ drop c.place_of-at.result rows) row) in
    ap (λ js. record { grant = c.self.inside.grant; policy = c.self.inside.policy; jobs = js }) are ∙ ap (λ v. with_new v j) c.self.view_is
