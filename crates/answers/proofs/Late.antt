-- What no settled chronicle can hold: an issue or a tick while a command is open that can be told
-- something, and members of a fence that pass by one that came first.
use Rattle.std.proofs.Common.{◌≡◌, ℕ, zero, suc, ◌<◌, inl, inr, List, [], ◌∷◌, ◌++◌, length, true, Option, Some, None, refl, sym, subst, arith, codes, true≢false}
use Rattle.std.specs.Prelude.{slice_index_or}
use Rattle.fl_digest.specs.declared.Hash.TheVariants as hash
use Rattle.kvs_model.specs.Store.{Name, Path}
use Rattle.kvs_rules.specs.Landings.{IsMember}
use Rattle.kvs_rules.specs.Log.{Asked, Happened, IsPending, Log as ServiceLog, before_asked, is_asked}
use Rattle.kvs_rules.specs.Namespaces.{Request, Setting, primary}
use Rattle.kvs_rules.specs.Quiet.{IsLeft, IsShortFence}
use Rattle.kvs_rules.specs.declared.events.KvsAnswer.TheVariants as answer
use Rattle.kvs_rules.specs.declared.events.KvsAsk.TheVariants as ask
use Rattle.kvs_rules.specs.declared.events.KvsEvent.TheVariants as event
use Rattle.kvs_txn.specs.declared.answers.Query.TheVariants as query
use Rattle.kvs_txn.specs.declared.txn.Author.TheVariants as author
use Rattle.kvs_txn.specs.declared.txn.By.{By}
use Rattle.kvs_txn.specs.declared.txn.Group.{Group}
use Rattle.kvs_txn.specs.declared.txn.Txn.{Txn}
use Rattle.resource_set.specs.declared.node.Resources.{Resources}
use Rattle.instance_rules.specs.Log as rules
use Rattle.instance_rules.specs.Log.{JobAsk, service_of}
use Rattle.workload.specs.declared.work.Command.TheVariants as command
use Rattle.workload.specs.declared.work.Workload.{Workload}
use Rattle.answers.specs.declared.chronicle.Entry.{Entry}
use Rattle.answers.specs.declared.chronicle.Entry.TheVariants as entry
use Rattle.answers.specs.declared.chronicle.Reply.TheVariants as reply
use Rattle.answers.specs.Chronicle.{Setup, top}
use Rattle.answers.specs.Floors.{floor}
use Rattle.answers.specs.Jobs.{log_in}
use Rattle.answers.specs.Legal.{HasSettled, IsLegalEntry, IsSettled}
use Rattle.answers.specs.Services.{log_of, request_of, setting_of}
use Rattle.answers.proofs.Plain.{plain_terms}

abbrev key : Path
key = codes "k" ∷ []

abbrev no_resources : Resources
no_resources = record { nodes = []; starttime = 0; expiration = 0 }

abbrev given : Workload → Setup
given work = record { settled = true; size = 1; fanout = 2; hash = hash.Sha1; grant = codes "grant"; resources = no_resources; base = None; terms = plain_terms; birth = 0; work = work }

abbrev first : By
first = record { actor = 0; command = 0 }

-- ---- a read

abbrev reading : Workload
reading = record {
  actors = record { name = codes "a"; rank = 0; of = None } ∷ record { name = codes "b"; rank = 0; of = None } ∷ [];
  lines =
      record { actor = 0; command = command.Get key }
      ∷ record { actor = 1; command = command.Put key (codes "v") }
      ∷ record { actor = 1; command = command.Commit }
      ∷ [];
  grant = None;
}

-- a read isn't left
no_read : (set : Setting) (log : ServiceLog) (r : Request) → Some (record { broker = 0; namespace = primary; ask = ask.Read query.Get key }) ≡ Some r → IsLeft set log r.namespace r.ask → ⊥
no_read set log r e left =
    let same : r ≡ record { broker = 0; namespace = primary; ask = ask.Read query.Get key } = cc in
    subst (λ (x : Request). IsLeft set log x.namespace x.ask) same left

no_job : {ask : JobAsk} → ◌≡◌ {A = Option JobAsk} None (Some ask) → ⊥
no_job e = cc

unread : HasSettled (given reading) (entry.Issued 0 0 ∷ []) → ⊥
unread h = elim (h.waits first (refl, refl)) [
  | inl r ↦ no_read (setting_of (given reading)) (service_of (log_in reading (entry.Issued 0 0 ∷ []))) r.request r.asks r.left
  | inr other ↦ elim other [ inl a ↦ no_job a.asks | inr r ↦ elim r.1.asks [ inl e ↦ no_job e | inr e ↦ no_job e.0 ] ]
]

-- so a settled chronicle replies to it before the next issue, and tells of no later landing
no_late_read : (more : List Entry) → IsSettled (given reading) (entry.Issued 0 0 ∷ entry.Issued 1 0 ∷ more) → ⊥
no_late_read more h = unread h.1.0

-- ---- the state of a job

abbrev asking : Workload
asking = record {
  actors = record { name = codes "a"; rank = 0; of = None } ∷ [];
  lines = record { actor = 0; command = command.StateOf (codes "j") } ∷ [];
  grant = None;
}

unasked : HasSettled (given asking) (entry.Issued 0 0 ∷ []) → ⊥
unasked h = elim (h.waits first (refl, refl)) [
  | inl r ↦ no_request r.asks
  | inr other ↦ elim other [ inl a ↦ no_advance a.asks | inr r ↦ elim r.1.asks [ inl e ↦ no_result e | inr e ↦ no_watch e.0 ] ]
]
  where
    no_request : {r : Request} → ◌≡◌ {A = Option Request} None (Some r) → ⊥
    no_request e = cc

    no_advance : {seconds : ℕ} → ◌≡◌ {A = Option JobAsk} (Some (rules.StateOf (codes "j"))) (Some (rules.Advance seconds)) → ⊥
    no_advance e = cc

    no_result : {label : List ℕ} → ◌≡◌ {A = Option JobAsk} (Some (rules.StateOf (codes "j"))) (Some (rules.ResultOf label)) → ⊥
    no_result e = cc

    no_watch : {label : List ℕ} → ◌≡◌ {A = Option JobAsk} (Some (rules.StateOf (codes "j"))) (Some (rules.Watch label)) → ⊥
    no_watch e = cc

-- no tick comes before its reply
no_early_tick : (second : ℕ) (more : List Entry) → IsSettled (given asking) (entry.Issued 0 0 ∷ entry.Ticked second ∷ more) → ⊥
no_early_tick second more h = unasked h.1.0

-- ---- a fence

abbrev fence : Name
fence = codes "f"

abbrev no_ops : ℕ → Txn
no_ops actor = record { author = author.User actor; ops = [] }

abbrev fencing : Workload
fencing = record {
  actors = record { name = codes "a"; rank = 0; of = None } ∷ record { name = codes "b"; rank = 0; of = None } ∷ record { name = codes "c"; rank = 0; of = None } ∷ [];
  lines =
      record { actor = 0; command = command.Fence fence 3 }
      ∷ record { actor = 1; command = command.Fence fence 2 }
      ∷ record { actor = 2; command = command.Fence fence 2 }
      ∷ [];
  grant = None;
}

abbrev both_open : List Entry
both_open = entry.Issued 0 0 ∷ entry.Issued 1 0 ∷ []

abbrev second : By
second = record { actor = 1; command = 0 }

-- the first one's member is open, and has another count
first_open : IsMember (setting_of (given fencing)) (service_of (log_in fencing both_open)) primary fence 3 first
first_open = (
  record { waits = record { asked = refl; unanswered = refl }; unlanded = refl; undenied = refl },
  (no_ops 0, record { request = record { broker = 0; namespace = primary; ask = ask.Fence fence 3 (no_ops 0) }; made = refl; inside = refl; asked = refl }),
)

not_left : (r : Request) → Some (record { broker = 0; namespace = primary; ask = ask.Fence fence 2 (no_ops 1) }) ≡ Some r → IsLeft (setting_of (given fencing)) (service_of (log_in fencing both_open)) r.namespace r.ask → ⊥
not_left r e left =
    let same : r ≡ record { broker = 0; namespace = primary; ask = ask.Fence fence 2 (no_ops 1) } = cc in
    let short : IsShortFence (setting_of (given fencing)) (service_of (log_in fencing both_open)) primary fence 2 = subst (λ (x : Request). IsLeft (setting_of (given fencing)) (service_of (log_in fencing both_open)) x.namespace x.ask) same left in
    let counts : 3 ≡ 2 = short.agreed first 3 first_open in
    absurd (omega (arith, counts))

unfenced : HasSettled (given fencing) both_open → ⊥
unfenced h = elim (h.waits second (refl, refl)) [
  | inl r ↦ not_left r.request r.asks r.left
  | inr other ↦ elim other [ inl a ↦ no_job a.asks | inr r ↦ elim r.1.asks [ inl e ↦ no_job e | inr e ↦ no_job e.0 ] ]
]

-- so no two members of one count make a fence while the first one waits with another
no_rival_fence : (more : List Entry) → IsSettled (given fencing) (entry.Issued 0 0 ∷ entry.Issued 1 0 ∷ entry.Issued 2 0 ∷ more) → ⊥
no_rival_fence more h = unfenced h.1.1.0

-- ---- a fence of one member

abbrev passing : Workload
passing = record {
  actors = record { name = codes "a"; rank = 0; of = None } ∷ record { name = codes "b"; rank = 0; of = None } ∷ [];
  lines = record { actor = 0; command = command.Fence fence 3 } ∷ record { actor = 1; command = command.Fence fence 1 } ∷ [];
  grant = None;
}

joins : (work : Workload) (by : By) (count : ℕ) → request_of work by ≡ Some (record { broker = 0; namespace = primary; ask = ask.Fence fence count (no_ops by.actor) })
    → IsPending by (log_of work top both_open) → IsMember (setting_of (given work)) (log_of work top both_open) primary fence count by
joins work by count made waits = (waits, (no_ops by.actor, record { request = record { broker = 0; namespace = primary; ask = ask.Fence fence count (no_ops by.actor) }; made = made; inside = refl; asked = refl }))

three_or_one : ◌≡◌ {A = ℕ} 3 1 → ⊥
three_or_one e = absurd (omega (arith, e))

-- it doesn't land past the first one's member
no_passing : (number : ℕ) (groups : List Group) → IsLegalEntry (given passing) both_open (entry.Landed top primary number (Some second ∷ []) groups) → ⊥
no_passing number groups h =
    three_or_one ((h.grounds.0.1.first refl).0 first fence 1 3
    (joins passing second 1 refl (record { waits = record { asked = refl; unanswered = refl }; unlanded = refl; undenied = refl }))
    (joins passing first 3 refl (record { waits = record { asked = refl; unanswered = refl }; unlanded = refl; undenied = refl }))
    (record { waits = record { asked = refl; unanswered = refl }; unlanded = refl; undenied = refl }))

-- ---- who is told of another count

-- nobody asked before the first
none_before : (past later : ServiceLog) → log_of fencing top both_open ≡ past ++ later → is_asked first past ≡ true → (rival : By) → IsPending rival (before_asked first past) → ⊥
none_before [] later e asked rival p = true≢false (sym asked)
none_before (m ∷ rest) later e asked rival p =
    let same : m ≡ Asked first (floor fencing [] 0) = cc in
    let none : IsPending rival (before_asked first (Asked first (floor fencing [] 0) ∷ rest)) = subst (λ x. IsPending rival (before_asked first (x ∷ rest))) same p in
    true≢false (sym none.waits.asked)

-- the first isn't told of the second one's count
not_the_first : (number : Option ℕ) → IsLegalEntry (given fencing) both_open (entry.Replied 0 0 (reply.CountDiffers 2) number) → ⊥
not_the_first number h =
    let since = h.grounds.1.grounds.5 in
    none_before since.past since.later since.split since.asked since.held.rival (since.held.first refl)

-- the second is told of the first one's
the_second : IsLegalEntry (given fencing) both_open (entry.Replied 1 0 (reply.CountDiffers 3) None)
the_second = record {
  goes_on = refl;
  grounds = (
    refl,
    record {
      request = record { broker = 0; namespace = primary; ask = ask.Fence fence 2 (no_ops 1) };
      made = refl;
      waits = record { asked = refl; unanswered = refl };
      tells = (refl, refl);
      grounds = (
        refl,
        fence,
        2,
        no_ops 1,
        refl,
        record {
          past = log_of fencing top both_open;
          later = [];
          split = refl;
          asked = refl;
          held = record {
            rival = first;
            txn = no_ops 0;
            asked = record { request = record { broker = 0; namespace = primary; ask = ask.Fence fence 3 (no_ops 0) }; made = refl; inside = refl; asked = refl };
            differs = λ e. absurd (omega (arith, e));
            pending = record { waits = record { asked = refl; unanswered = refl }; unlanded = refl; undenied = refl };
            accepted = λ number other c. unanswered_there number other c.0 c.1 c.2;
            first = λ settled. record { waits = record { asked = refl; unanswered = refl }; unlanded = refl; undenied = refl };
          };
        },
      );
    },
  );
} where
  unanswered_there : (number : Option ℕ) (other k : ℕ) → k < length (log_of fencing top both_open) → slice_index_or (log_of fencing top both_open) k (Happened (event.Answered first number (answer.CountDiffers other))) ≡ Happened (event.Answered first number (answer.CountDiffers other)) → ⊥
  unanswered_there number other zero l e = cc
  unanswered_there number other (suc zero) l e = cc
  unanswered_there number other (suc (suc k)) l e = absurd (omega arith)
