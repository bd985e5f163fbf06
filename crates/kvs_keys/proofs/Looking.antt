-- Rank 0 sends a read or a wait back to its broker, or tells a request of a namespace an answer.
use Rattle.std.proofs.Common.{◌≡◌, ◌≢◌, ℕ, ◌<◌, List, [], ◌∷◌, length, Bool, true, false, ◌&&◌, not, Some, None, append-nil, refl, sym, ap, ◌∙◌, subst, arith, get_or, set}
use Rattle.std.specs.List.{position}
use Rattle.std.proofs.lemmas.List.Elements.{All-set}
use Rattle.kvs_rules.specs.declared.events.KvsAsk.{KvsAsk}
use Rattle.kvs_rules.specs.declared.events.KvsAsk.TheVariants as ask
use Rattle.kvs_rules.specs.declared.events.KvsAnswer.TheVariants as answer
use Rattle.kvs_rules.specs.Log.{Log, SinceAsked}
use Rattle.kvs_rules.specs.Namespaces.{Setting, is_live, is_opened, is_primary, is_removed, primary}
use Rattle.kvs_rules.specs.Answers.{FindsNoNamespace}
use Rattle.kvs_requests.specs.declared.rows.Kind.TheVariants as kind
use Rattle.kvs_requests.specs.declared.rows.Row.{Row}
use Rattle.kvs_requests.specs.declared.rows.Stage.{Stage}
use Rattle.kvs_requests.specs.declared.rows.Stage.TheVariants as stage
use Rattle.kvs_keys.specs.Agrees.{Agrees, SpaceAgrees}
use Rattle.kvs_requests.specs.Agreement.{IsParkedAsk, MayTell, RowAgrees, RowsAgree, StageAgrees}
use Rattle.kvs_requests.specs.Refused.{IsReturning}
use Rattle.kvs_requests.specs.Rows.{AtPlace, IsPlaced, ArePlaced, IsRisingAsk, with_stage}
use Rattle.kvs_keys.specs.Sound.{IsSound}
use Rattle.kvs_requests.specs.Stages.{all_services, is_arrived_stage, joined_in, kind_of, services_left}
use Rattle.kvs_keys.specs.Value.{KeysValue}
use Rattle.kvs_space.specs.Space.{SpaceValue, is_named, name_at}
use Rattle.kvs_keys.proofs.Heads.{head-of, opened-there, rows-of}
use Rattle.kvs_keys.proofs.Moving.{found-at, found-there, moved-sound}
use Rattle.kvs_requests.proofs.Tables.{rows-moved}
use Rattle.kvs_keys.proofs.Taking.{arrived-left, arrived-staged, arrived-unjoined, by-there, fewer, named-so, placed-there, row-agrees}

-- what looks is a read or a wait
pub looks : (asked : KvsAsk) → kind_of (stage.Arrived asked) ≡ kind.Look → IsParkedAsk asked
looks (ask.Read query path) e = tt
looks (ask.Wait number) e = tt
looks (ask.Commit txn) e = cc
looks (ask.Fence name count txn) e = cc
looks ask.Root e = cc
looks ask.Create e = cc
looks ask.Remove e = cc
looks (ask.Store bytes) e = cc
looks (ask.Load reference) e = cc
looks ask.Flush e = cc
looks ask.DropClean e = cc

-- what opens
pub creates : (x : KvsAsk) → kind_of (stage.Arrived x) ≡ kind.Create → x ≡ ask.Create
creates ask.Create e = refl
creates (ask.Read query path) e = cc
creates (ask.Wait number) e = cc
creates (ask.Commit txn) e = cc
creates (ask.Fence name count txn) e = cc
creates ask.Root e = cc
creates ask.Remove e = cc
creates (ask.Store bytes) e = cc
creates (ask.Load reference) e = cc
creates ask.Flush e = cc
creates ask.DropClean e = cc

-- what removes
pub removes : (x : KvsAsk) → kind_of (stage.Arrived x) ≡ kind.Remove → x ≡ ask.Remove
removes ask.Remove e = refl
removes (ask.Read query path) e = cc
removes (ask.Wait number) e = cc
removes (ask.Commit txn) e = cc
removes (ask.Fence name count txn) e = cc
removes ask.Root e = cc
removes ask.Create e = cc
removes (ask.Store bytes) e = cc
removes (ask.Load reference) e = cc
removes ask.Flush e = cc
removes ask.DropClean e = cc

module _ {v : KeysValue} (s : IsSound v) (i : ℕ) (within : i < length v.rows) (row : Row) (read : row ≡ get_or v.rows i row) (k : ℕ) (found : Some k ≡ position (is_named row.namespace) v.spaces) (asked : KvsAsk) (is : row.stage ≡ stage.Arrived asked) where
  arrived : is_arrived_stage row.stage ≡ true
  arrived = ap is_arrived_stage is

  inside : k < length v.spaces
  inside = found-there s row.namespace k found

  -- it goes back to its broker
  module _ (look : kind_of row.stage ≡ kind.Look) (st : Stage) (goes : IsReturning v.fanout 0 row.broker k asked st) where
    returning-left : (x : Stage) → IsReturning v.fanout 0 row.broker k asked x → services_left x < 2
    returning-left (stage.Returning from to place held) q = omega arith
    returning-left (stage.Parked place held) q = omega arith
    returning-left (stage.Falling from to held) q = absurd q
    returning-left (stage.Ended held) q = absurd q
    returning-left (stage.Joined place w) q = absurd q
    returning-left (stage.Rising from to asks) q = absurd q
    returning-left (stage.Arrived asks) q = absurd q
    returning-left (stage.Landed place n w) q = absurd q
    returning-left (stage.Held n held) q = absurd q

    returning-placed : (x : Stage) → IsReturning v.fanout 0 row.broker k asked x → AtPlace v.fanout v.size v.spaces x
    returning-placed (stage.Returning from to place held) q =
        let b = q.5 in
        let n = (placed-there s i within row read).home in
        (q.3, q.4, omega arith, subst (λ p. p < length v.spaces) (sym q.1) inside)
    returning-placed (stage.Parked place held) q = subst (λ p. p < length v.spaces) (sym q.1) inside
    returning-placed (stage.Falling from to held) q = absurd q
    returning-placed (stage.Ended held) q = absurd q
    returning-placed (stage.Joined place w) q = absurd q
    returning-placed (stage.Rising from to asks) q = absurd q
    returning-placed (stage.Arrived asks) q = absurd q
    returning-placed (stage.Landed place n w) q = absurd q
    returning-placed (stage.Held n held) q = absurd q

    returning-unjoined : (x : Stage) → IsReturning v.fanout 0 row.broker k asked x → (j : ℕ) → joined_in j x ≡ false
    returning-unjoined (stage.Returning from to place held) q j = refl
    returning-unjoined (stage.Parked place held) q j = refl
    returning-unjoined (stage.Joined place w) q j = absurd q
    returning-unjoined (stage.Falling from to held) q j = refl
    returning-unjoined (stage.Ended held) q j = refl
    returning-unjoined (stage.Rising from to asks) q j = refl
    returning-unjoined (stage.Arrived asks) q j = refl
    returning-unjoined (stage.Landed place n w) q j = refl
    returning-unjoined (stage.Held n held) q j = refl

    pub returned-fewer : (rows : List Row) → rows ≡ set v.rows i (with_stage st row) → all_services rows < all_services v.rows
    returned-fewer rows rows-are = fewer s i within row read st rows rows-are (let e : services_left row.stage ≡ 2 = arrived-left row.stage arrived in let q = returning-left st goes in omega arith)

    pub returned-sound : (rows : List Row) → rows ≡ set v.rows i (with_stage st row) → (spent : Bool) → IsSound (record { spent = spent; size = v.size; fanout = v.fanout; grant = v.grant; spaces = v.spaces; rows = rows })
    returned-sound rows rows-are spent = moved-sound s spent rows (subst (ArePlaced v.fanout v.size v.spaces) (sym rows-are)
        (All-set (IsPlaced v.fanout v.size v.spaces) v.rows i (with_stage st row) (record { home = (placed-there s i within row read).home; place = returning-placed st goes }) s.placed))

    module _ {set₀ : Setting} {log : Log} (a : Agrees v set₀ log) where
      abbrev r : RowAgrees a.entered set₀ log v.spaces row
      r = row-agrees s i within row read a

      returning-staged : (x : Stage) → IsReturning v.fanout 0 row.broker k asked x → StageAgrees a.entered set₀ log v.spaces row.by r.request x
      returning-staged (stage.Returning from to place held) q =
          let staged = arrived-staged s i within row read a asked is in
          (staged.0, staged.1 ∙ sym q.0, subst IsParkedAsk (sym q.0) (looks asked (sym (ap kind_of is) ∙ look)), ap (name_at v.spaces) q.1 ∙ found-at s row.namespace k found (get_or v.spaces k (first v.spaces inside)) ∙ ap Some (sym r.inside))
        where
          first : (xs : List SpaceValue) → k < length xs → SpaceValue
          first [] l = absurd (omega arith)
          first (x ∷ xs) l = x
      returning-staged (stage.Parked place held) q =
          let staged = arrived-staged s i within row read a asked is in
          (staged.0, staged.1 ∙ sym q.0, subst IsParkedAsk (sym q.0) (looks asked (sym (ap kind_of is) ∙ look)), ap (name_at v.spaces) q.1 ∙ found-at s row.namespace k found (get_or v.spaces k (first v.spaces inside)) ∙ ap Some (sym r.inside))
        where
          first : (xs : List SpaceValue) → k < length xs → SpaceValue
          first [] l = absurd (omega arith)
          first (x ∷ xs) l = x
      returning-staged (stage.Falling from to held) q = absurd q
      returning-staged (stage.Ended held) q = absurd q
      returning-staged (stage.Joined place w) q = absurd q
      returning-staged (stage.Rising from to asks) q = absurd q
      returning-staged (stage.Arrived asks) q = absurd q
      returning-staged (stage.Landed place n w) q = absurd q
      returning-staged (stage.Held n held) q = absurd q

      pub returned-agrees : (rows : List Row) → rows ≡ set v.rows i (with_stage st row) → RowsAgree a.entered set₀ log v.spaces rows
      returned-agrees rows rows-are =
          let new : RowAgrees a.entered set₀ log v.spaces (with_stage st row) = record {
            asked = r.asked;
            unanswered = r.unanswered;
            request = r.request;
            made = r.made;
            home = r.home;
            inside = r.inside;
            keys = r.keys;
            needed = r.needed;
            staged = returning-staged st goes;
            tied = λ j d l. returning-unjoined st goes j ∙ sym (arrived-unjoined row.stage arrived j) ∙ r.tied j d l;
          } in
          subst (RowsAgree a.entered set₀ log v.spaces) (sym rows-are) (rows-moved (rows-of a) i within (with_stage st row) (by-there s i within row read) new)

  -- what a request is told of a namespace that was opened
  module _ (space : SpaceValue) (read-space : space ≡ get_or v.spaces k space) {set₀ : Setting} {log : Log} (a : Agrees v set₀ log) where
    abbrev ra : RowAgrees a.entered set₀ log v.spaces row
    ra = row-agrees s i within row read a

    named : ra.request.namespace ≡ space.name
    named = ra.inside ∙ named-so s i within row read k found space read-space

    opened : is_opened log ra.request.namespace ≡ true
    opened = ap (is_opened log) named ∙ ap (λ x. is_opened log x.name) read-space ∙ opened-there (head-of a) k space inside

    there : SpaceAgrees set₀ log v.size space
    there = subst (SpaceAgrees set₀ log v.size) (sym read-space) (a.spaces k space inside)

    pub exists-fits : kind_of row.stage ≡ kind.Create → MayTell a.entered set₀ log row.by None answer.Exists
    exists-fits create =
        let staged = arrived-staged s i within row read a asked is in (
          record {
            request = ra.request;
            made = ra.made;
            waits = record { asked = ra.asked; unanswered = ra.unanswered };
            tells = (staged.0.unlanded, staged.0.undenied);
            grounds = (refl, staged.1 ∙ creates asked (sym (ap kind_of is) ∙ create), opened);
          },
          tt,
          tt,
        )

    pub removal-asked : kind_of row.stage ≡ kind.Remove → row.stage ≡ stage.Arrived ask.Remove
    removal-asked remove = is ∙ ap stage.Arrived (removes asked (sym (ap kind_of is) ∙ remove))

    pub primary-fits : kind_of row.stage ≡ kind.Remove → k ≡ 0 → MayTell a.entered set₀ log row.by None answer.IsPrimary
    primary-fits remove zero =
        let staged = arrived-staged s i within row read a asked is in
        let here : Some ra.request.namespace ≡ Some primary = ap Some ra.inside ∙ sym (found-at s row.namespace k found space) ∙ ap (name_at v.spaces) zero ∙ s.first in
        let same : ra.request.namespace ≡ primary = cc in (
          record {
            request = ra.request;
            made = ra.made;
            waits = record { asked = ra.asked; unanswered = ra.unanswered };
            tells = (staged.0.unlanded, staged.0.undenied);
            grounds = (refl, staged.1 ∙ removes asked (sym (ap kind_of is) ∙ remove), subst (λ n. is_primary n ≡ true) (sym same) refl);
          },
          tt,
          tt,
        )

    -- it was removed
    gone-none : (x : KvsAsk) → IsRisingAsk x → kind_of (stage.Arrived x) ≢ kind.Look → kind_of (stage.Arrived x) ≢ kind.Create → SinceAsked row.by (λ past. is_live past ra.request.namespace ≡ false) log → FindsNoNamespace log row.by ra.request x
    gone-none (ask.Commit txn) rising look create since = since
    gone-none (ask.Fence name count txn) rising look create since = since
    gone-none ask.Remove rising look create since = since
    gone-none (ask.Read query path) rising look create since = absurd (look refl)
    gone-none (ask.Wait number) rising look create since = absurd (look refl)
    gone-none ask.Create rising look create since = absurd (create refl)
    gone-none _ rising look create since = absurd rising

    pub gone-fits : space.removed ≡ true → kind_of row.stage ≢ kind.Look → kind_of row.stage ≢ kind.Create → MayTell a.entered set₀ log row.by None answer.NoNamespace
    gone-fits removed look create =
        let staged = arrived-staged s i within row read a asked is in
        let dead : is_live log ra.request.namespace ≡ false = ap (λ b. is_opened log ra.request.namespace && not b) (ap (is_removed log) named ∙ there.removed ∙ removed) ∙ ends (is_opened log ra.request.namespace) in (
          record {
            request = ra.request;
            made = ra.made;
            waits = record { asked = ra.asked; unanswered = ra.unanswered };
            tells = (staged.0.unlanded, staged.0.undenied);
            grounds = (
              refl,
              subst (FindsNoNamespace log row.by ra.request) (sym staged.1) (gone-none asked staged.2 (λ e. look (ap kind_of is ∙ e)) (λ e. create (ap kind_of is ∙ e)) (record { past = log; later = []; split = sym (append-nil log); asked = ra.asked; held = dead })),
            );
          },
          tt,
          tt,
        )
      where
        ends : (x : Bool) → (x && false) ≡ false
        ends true = refl
        ends false = refl
