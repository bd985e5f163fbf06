-- The landings of `primary` in a run are those of the top's own chronicle.
use Rattle.std.proofs.Common.{◌≡◌, ◌∙◌, ◌==◌, ◌&&◌, ◌||◌, Bool, true, false, cond, not, List, [], ◌∷◌, length, filter_map, Option, Some, None, ap, refl, sym, true≢false}
use Rattle.std.specs.List.{cons_option, list_any}
use Rattle.kvs_txn.specs.declared.txn.Group.{Group}
use Rattle.kvs_rules.specs.Namespaces.{is_primary, landings, primary}
use Rattle.kvs_rules.specs.Sequence.{until}
use Rattle.workload.specs.declared.work.Actor.{Actor}
use Rattle.answers.specs.Chronicle.{Setup, top}
use Rattle.answers.specs.declared.chronicle.Entry.{Entry}
use Rattle.answers.specs.declared.chronicle.Entry.TheVariants as entry
use Rattle.hierarchy.specs.Births.{ends, is_gone}
use Rattle.hierarchy.specs.Own.{only_if, own_entry, own_of, setup_in}
use Rattle.summaries.specs.Landings.{groups_landed_by}
use Rattle.summaries.specs.Summary.{top_log}
use Rattle.summaries.proofs.Landed.{landings_in}

-- what an entry lands, where it is the instance's own
abbrev landed_by : Option Entry → Option (List Group)
landed_by None = None
landed_by (Some e) = groups_landed_by e

-- an entry that lands nothing, kept or not
nothing : (own : Bool) (e : Entry) → groups_landed_by e ≡ None → landed_by (only_if own e) ≡ None
nothing true e is = is
nothing false e is = refl

kept : (b p q : Bool) (groups : List Group) (e : Entry) → groups_landed_by e ≡ cond (p && q) (Some groups) None → landed_by (only_if b e) ≡ cond (b && p && q) (Some groups) None
kept true p q groups e is = is
kept false p q groups e is = refl

module _ (actors : List Actor) where
  -- the top has its landings in its own chronicle
  same : (e : Entry) → landed_by (own_entry actors None top e) ≡ groups_landed_by e
  same (entry.Issued actor command) = nothing _ (entry.Issued actor command) refl
  same (entry.Landed instance space number authors groups) =
      kept (instance == top) (is_primary space) (not (length groups == 0)) groups (entry.Landed top space number authors groups) refl
  same (entry.Denied instance space authors group refusal) = nothing (instance == top) (entry.Denied top space authors group refusal) refl
  same (entry.Heard instance broker space number) = nothing (instance == top) (entry.Heard top broker space number) refl
  same (entry.Got instance broker reference) = nothing (instance == top) (entry.Got top broker reference) refl
  same (entry.Dropped instance broker reference) = nothing (instance == top) (entry.Dropped top broker reference) refl
  same (entry.Replied actor command given number) = nothing _ (entry.Replied actor command given number) refl
  same (entry.Told from to) = nothing _ (entry.Told from to) refl
  same (entry.Ticked second) = refl
  same (entry.Born child parent job name second grant) = nothing (parent == top) (entry.Born child top job name second grant) refl
  same (entry.Gone child parent job shut) = nothing (parent == top) (entry.Gone child top job shut) refl
  same (entry.Watched actor command number first count) = nothing _ (entry.Watched actor command number first count) refl
  same entry.Closed = refl

  behind : (o : Option Entry) (es : List Entry) → filter_map groups_landed_by (cons_option o es) ≡ cons_option (landed_by o) (filter_map groups_landed_by es)
  behind None es = refl
  behind (Some e) es = refl

  own_landings : (c : List Entry) → list_any (ends top) c ≡ false → filter_map groups_landed_by (filter_map (own_entry actors None top) (until (ends top) c)) ≡ filter_map groups_landed_by c
  own_landings [] stays = refl
  own_landings (e ∷ c) stays = by (ends top e) refl (own_landings c)
    where
      by : (b : Bool) → ends top e ≡ b
          → (list_any (ends top) c ≡ false → filter_map groups_landed_by (filter_map (own_entry actors None top) (until (ends top) c)) ≡ filter_map groups_landed_by c)
          → filter_map groups_landed_by (filter_map (own_entry actors None top) (until (ends top) (e ∷ c))) ≡ filter_map groups_landed_by (e ∷ c)
      by true is rest = absurd (true≢false (sym (ap (λ b. b || list_any (ends top) c) is) ∙ stays))
      by false is rest =
          ap (λ b. filter_map groups_landed_by (filter_map (own_entry actors None top) (cond b [] (e ∷ until (ends top) c)))) is
          ∙ behind (own_entry actors None top e) (filter_map (own_entry actors None top) (until (ends top) c))
          ∙ ap (λ o. cons_option o (filter_map groups_landed_by (filter_map (own_entry actors None top) (until (ends top) c)))) (same e)
          ∙ ap (cons_option (groups_landed_by e)) (rest (sym (ap (λ b. b || list_any (ends top) c) is) ∙ stays))

pub top_landings : (set : Setup) (c : List Entry) → is_gone c top ≡ false → filter_map groups_landed_by c ≡ landings (top_log set c) primary
top_landings set c lives = sym (own_landings set.work.actors c lives) ∙ landings_in (setup_in set c top).work (own_of set c top)
