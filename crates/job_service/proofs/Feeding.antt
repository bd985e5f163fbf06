-- What the log has of feeds, behind a further moment.
use Rattle.std.proofs.Common.{◌≡◌, ◌≢◌, ℕ, ◌+◌, inl, inr, List, [], ◌∷◌, ◌++◌, map, Bool, true, false, Option, Some, None, Contains, cond, refl, sym, ap, ◌∙◌, subst, true≢false, append-nil, append_assoc}
use Rattle.std.specs.Prelude.{filter_map, not, sum, unwrap_or, if◌then◌else◌}
use Rattle.std.specs.List.{cons_option}
use Rattle.std.proofs.lemmas.Bool.{false_from_ne_true, not-true, or_parts}
use Rattle.std.proofs.lemmas.List.Elements.{Contains-append_cases, filter_map-append}
use Rattle.std.proofs.lemmas.List.Sums.{sum_by_push}
use Rattle.instance_rules.specs.Log.{Fed, Instance, JobReply, Log, Moment, Replied, is_replied, replies_now, served, service_of}
use Rattle.instance_rules.specs.Watches.{fed_at, fed_in_all, fed_with, last_fed}
use Rattle.job_commands.proofs.Logs.{same_self, service_push}
use Rattle.job_commands.proofs.Steps.{names_kept}
use Rattle.job_deeds.proofs.job_rules_proofs.Among.{Among, among_filter, among_from, contains_from}
use Rattle.job_deeds.specs.kvs_txn.declared.txn.By.{By}
use Rattle.job_landings.specs.Landings.{happening}
use Rattle.kvs_rules.proofs.Asking.{command_is}
use Rattle.kvs_rules.proofs.Logs.{store_kept}
use Rattle.kvs_rules.proofs.Sequences.{latest_push}
use Rattle.kvs_rules.proofs.Stores.{any_push}
use Rattle.kvs_rules.specs.Log.{same_command}
use Rattle.kvs_rules.specs.Namespaces.{primary, store_after}
use Rattle.kvs_rules.specs.declared.events.KvsEvent.{KvsEvent}
use Rattle.job_service.specs.Watching.{AreFed, WasFed, feed_of, is_feed_of, without_feed}
use Rattle.job_service.specs.declared.feeds.Feed.{Feed}

-- ---- a moment that feeds another command, or none

last_push : (by : By) (log : Log) (m : Moment) → fed_at by m ≡ None → last_fed by (log ++ m ∷ []) ≡ last_fed by log
last_push by log m quiet = latest_push (fed_at by) None log m ∙ ap (λ o. unwrap_or o (last_fed by log)) quiet

all_push : (by : By) (log : Log) (m : Moment) → fed_with by m ≡ None → fed_in_all by (log ++ m ∷ []) ≡ fed_in_all by log
all_push by log m quiet =
    ap sum (filter_map-append (fed_with by) log (m ∷ []) ∙ ap (λ o. filter_map (fed_with by) log ++ cons_option o []) quiet ∙ append-nil (filter_map (fed_with by) log))

was_kept : (inst : Instance) (log : Log) (m : Moment) (f : Feed) → fed_at f.by m ≡ None → fed_with f.by m ≡ None → WasFed inst log f → WasFed inst (log ++ m ∷ []) f
was_kept inst log m f at with_ h = record {
  label = h.label;
  asks = h.asks;
  last = last_push f.by log m at ∙ h.last;
  all = all_push f.by log m with_ ∙ h.all;
  store = h.store;
  standing = ap (λ l. store_after inst.service l primary f.number) (service_push log m) ∙ store_kept inst.service (service_of log) (filter_map served (m ∷ [])) primary f.number h.store h.standing;
  jobs = h.jobs;
  are = h.are;
  j = h.j;
  known = h.known;
  names = names_kept inst log m h.label h.j.id h.names;
  events = h.events;
  logged = h.logged;
  count = h.count;
  bytes = h.bytes;
  told = h.told;
}

unreplied_before : (by : By) (log : Log) (m : Moment) → is_replied by (log ++ m ∷ []) ≡ false → (is_replied by log ≡ false) × (replies_now by m ≡ false)
unreplied_before by log m e = let both = or_parts (is_replied by log) (replies_now by m) (sym (any_push (replies_now by) log m) ∙ e) in (both.0, both.1)

-- a moment that feeds nobody
pub fed_kept : (feeds : List Feed) (inst : Instance) (log : Log) (m : Moment) → ((by : By) → fed_at by m ≡ None) → ((by : By) → fed_with by m ≡ None) → AreFed feeds inst log → AreFed feeds inst (log ++ m ∷ [])
fed_kept feeds inst log m at with_ h = record {
  each = λ f c. was_kept inst log m f (at f.by) (with_ f.by) (h.each f c);
  others = λ by e none.
      let before = h.others by (unreplied_before by log m e).0 none in
      (last_push by log m (at by) ∙ before.0, all_push by log m (with_ by) ∙ before.1);
}

pub fed_events : (feeds : List Feed) (inst : Instance) (es : List KvsEvent) (log : Log) → AreFed feeds inst log → AreFed feeds inst (log ++ map happening es)
fed_events feeds inst [] log h = subst (AreFed feeds inst) (sym (append-nil log)) h
fed_events feeds inst (e ∷ es) log h =
    subst (AreFed feeds inst) (append_assoc log (happening e ∷ []) (map happening es))
    (fed_events feeds inst es (log ++ happening e ∷ []) (fed_kept feeds inst log (happening e) (λ by. refl) (λ by. refl) h))

-- ---- the feeds of others

apart : (by other : By) → same_command other by ≡ false → (f : Feed) → is_feed_of other f ≡ true → is_feed_of by f ≡ false
apart by other ne f is = false_from_ne_true (is_feed_of by f) (λ t.
    let one : other ≡ f.by = command_is other f.by is in
    let two : by ≡ f.by = command_is by f.by t in
    true≢false (sym (ap (same_command other) (two ∙ sym one) ∙ same_self other) ∙ ne))

found_past : (by other : By) (feeds : List Feed) → same_command other by ≡ false → feed_of (without_feed by feeds) other ≡ feed_of feeds other
found_past by other [] ne = refl
found_past by other (f ∷ feeds) ne = at (is_feed_of other f) (is_feed_of by f) refl refl (found_past by other feeds ne)
  where
    at : (a b : Bool) → is_feed_of other f ≡ a → is_feed_of by f ≡ b → feed_of (without_feed by feeds) other ≡ feed_of feeds other
        → feed_of (cond (not b) (f ∷ without_feed by feeds) (without_feed by feeds)) other ≡ cond a (Some f) (feed_of feeds other)
    at true true is its more = absurd (true≢false (sym its ∙ apart by other ne f is))
    at true false is its more = ap (λ b. cond b (Some f) (feed_of (without_feed by feeds) other)) is
    at false true is its more = more
    at false false is its more = ap (λ b. cond b (Some f) (feed_of (without_feed by feeds) other)) is ∙ more

left_feed : (by : By) (feeds : List Feed) (f : Feed) → Contains (without_feed by feeds) f → Contains feeds f × (is_feed_of by f ≡ false)
left_feed by feeds f c =
    let o = among_filter (λ x. not (is_feed_of by x)) feeds f (among_from _ f c) in
    (contains_from feeds f o.0, not-true (is_feed_of by f) o.1)

-- a command is answered
pub fed_replied : (feeds : List Feed) (inst : Instance) (log : Log) (by : By) (reply : JobReply) (number : Option ℕ) → AreFed feeds inst log → AreFed (without_feed by feeds) inst (log ++ Replied by reply number ∷ [])
fed_replied feeds inst log by reply number h = record {
  each = λ f c. was_kept inst log (Replied by reply number) f refl refl (h.each f (left_feed by feeds f c).0);
  others = λ other e none.
      let before = unreplied_before other log (Replied by reply number) e in
      let was = h.others other before.0 (sym (found_past by other feeds before.1) ∙ none) in
      (last_push other log (Replied by reply number) refl ∙ was.0, all_push other log (Replied by reply number) refl ∙ was.1);
}

-- ---- a feed

unfed_at : (other by : By) (number first count : ℕ) → same_command other by ≡ false → fed_at other (Fed by number first count) ≡ None
unfed_at other by number first count ne = ap (λ b. if b then Some (Some number) else None) ne

unfed_with : (other by : By) (number first count : ℕ) → same_command other by ≡ false → fed_with other (Fed by number first count) ≡ None
unfed_with other by number first count ne = ap (λ b. if b then Some count else None) ne

flipped : (a b : By) → same_command a b ≡ false → same_command b a ≡ false
flipped a b ne = false_from_ne_true (same_command b a) (λ t. true≢false (sym (ap (same_command a) (command_is b a t) ∙ same_self a) ∙ ne))

pub now_last : (by : By) (log : Log) (number first count : ℕ) → last_fed by (log ++ Fed by number first count ∷ []) ≡ Some number
now_last by log number first count =
    latest_push (fed_at by) None log (Fed by number first count) ∙ ap (λ b. unwrap_or (if b then Some (Some number) else None) (last_fed by log)) (same_self by)

pub now_all : (by : By) (log : Log) (number first count : ℕ) → fed_in_all by (log ++ Fed by number first count ∷ []) ≡ fed_in_all by log + count
now_all by log number first count =
    ap sum (filter_map-append (fed_with by) log (Fed by number first count ∷ []) ∙ ap (λ b. filter_map (fed_with by) log ++ cons_option (if b then Some count else None) []) (same_self by))
    ∙ sum_by_push (λ n. n) (filter_map (fed_with by) log) count

none_behind : (by : By) (xs : List Feed) (f : Feed) → feed_of (xs ++ f ∷ []) by ≡ None → (feed_of xs by ≡ None) × (is_feed_of by f ≡ false)
none_behind by [] f e = (refl, at (is_feed_of by f) refl e)
  where
    at : (b : Bool) → is_feed_of by f ≡ b → cond b (Some f) None ≡ None → is_feed_of by f ≡ false
    at true t e = cc
    at false t e = t
none_behind by (x ∷ xs) f e = at (is_feed_of by x) refl e (none_behind by xs f)
  where
    at : (b : Bool) → is_feed_of by x ≡ b → cond b (Some x) (feed_of (xs ++ f ∷ []) by) ≡ None → (feed_of (xs ++ f ∷ []) by ≡ None → (feed_of xs by ≡ None) × (is_feed_of by f ≡ false))
        → (feed_of (x ∷ xs) by ≡ None) × (is_feed_of by f ≡ false)
    at true t e more = cc
    at false t e more = let m = more e in (ap (λ b. cond b (Some x) (feed_of xs by)) t ∙ m.0, m.1)

pub fed_on : (feeds : List Feed) (inst : Instance) (log : Log) (f : Feed) (number first count : ℕ) → WasFed inst (log ++ Fed f.by number first count ∷ []) f → AreFed feeds inst log
    → AreFed (without_feed f.by feeds ++ f ∷ []) inst (log ++ Fed f.by number first count ∷ [])
fed_on feeds inst log f number first count now h = record {
  each = λ g c. elim (Contains-append_cases (without_feed f.by feeds) (f ∷ []) g c) [
    | inl old ↦
        let o = left_feed f.by feeds g old in
        let ne = flipped f.by g.by o.1 in
        was_kept inst log (Fed f.by number first count) g (unfed_at g.by f.by number first count ne) (unfed_with g.by f.by number first count ne) (h.each g o.0)
    | inr this ↦ of g (among_from (f ∷ []) g this)
  ];
  others = λ other e none.
      let parts = none_behind other (without_feed f.by feeds) f none in
      let before = unreplied_before other log (Fed f.by number first count) e in
      let was = h.others other before.0 (sym (found_past f.by other feeds parts.1) ∙ parts.0) in (
        last_push other log (Fed f.by number first count) (unfed_at other f.by number first count parts.1) ∙ was.0,
        all_push other log (Fed f.by number first count) (unfed_with other f.by number first count parts.1) ∙ was.1,
      );
}
  where
    of : (g : Feed) → Among g (f ∷ []) → WasFed inst (log ++ Fed f.by number first count ∷ []) g
    of g (inl same) = subst (WasFed inst (log ++ Fed f.by number first count ∷ [])) same now
    of g (inr none) = absurd none
