-- All the way through a legal run the second that is reserved for the first in the queue of a living
-- instance never rises.
use Rattle.std.proofs.Common.{◌≡◌, ◌∙◌, ℕ, ◌==◌, inl, inr, List, [], ◌∷◌, ◌++◌, Option, Bool, true, false, refl, sym, subst, append-nil, true≢false}
use Rattle.std.specs.List.{cons_option}
use Rattle.std.proofs.lemmas.List.{append_assoc}
use Rattle.kvs_rules.proofs.Sequences.{each_along, each_push}
use Rattle.kvs_rules.specs.Sequence.{EachAfter}
use Rattle.workload.specs.declared.work.Actor.{Actor}
use Rattle.answers.specs.Chronicle.{Setup, top}
use Rattle.answers.specs.declared.chronicle.Entry.{Entry}
use Rattle.answers.specs.declared.chronicle.Entry.TheVariants as entry
use Rattle.run_laws.specs.Reserved.{IsNamed}
use Rattle.run_laws.specs.Times.{HasTime}
use Rattle.run_laws.proofs.Moves.{silent_store}
use Rattle.run_laws.proofs.Reserved.{KeepsSecond, all_along, all_keep, silent_keeps}
use Rattle.hierarchy.specs.Births.{label_of, lives}
use Rattle.hierarchy.specs.Laws.{AreValid}
use Rattle.hierarchy.specs.Legal.{IsLegalRun, IsLegalRunEntry, is_end}
use Rattle.hierarchy.specs.Own.{only_if, own_entry, own_of, setup_in}
use Rattle.hierarchy.specs.Promises.{HeadsKeepTheirSecondsInAll}
use Rattle.hierarchy.proofs.Bearing.{own_none}
use Rattle.hierarchy.proofs.Having.{ends_first}
use Rattle.hierarchy.proofs.Named.{all_named}
use Rattle.hierarchy.proofs.Owning.{alive, lived, own_push, setup_kept}
use Rattle.hierarchy.proofs.Throughout.{end_begins_none, past_kept, past_legal}

-- entry by entry of a chronicle
abbrev Keeps : Setup → List Entry → Type 0
Keeps s own = IsNamed s.resources → EachAfter (KeepsSecond s) [] own

-- an end is no moment of a service, and takes no time
with_end : (s : Setup) (own : List Entry) (actors : List Actor) (label : Option (List ℕ)) (i : ℕ) (e : Entry) → is_end e ≡ true → Keeps s own → Keeps s (own ++ cons_option (own_entry actors label i e) [])
with_end s own actors label i (entry.Gone child parent job shut) ends h known = by (parent == i)
  where
    by : (b : Bool) → EachAfter (KeepsSecond s) [] (own ++ cons_option (only_if b (entry.Gone child top job shut)) [])
    by true = each_push (KeepsSecond s) own (entry.Gone child top job shut) (h known) (silent_keeps s own (entry.Gone child top job shut) (silent_store s own (entry.Gone child top job shut) refl) refl)
    by false = subst (EachAfter (KeepsSecond s) []) (sym (append-nil own)) (h known)
with_end s own actors label i _ ends h known = absurd (true≢false (sym ends))

module _ (set : Setup) (c : List Entry) (fits : HasTime set) (valid : AreValid set c) (legal : IsLegalRun set c) where
  KeepIn : List Entry → Type 0
  KeepIn past = (more : List Entry) → c ≡ past ++ more → (i : ℕ) → lives past i ≡ true → Keeps (setup_in set past i) (own_of set past i)

  first : KeepIn []
  unfolding KeepIn
  first more split i h known = subst (EachAfter (KeepsSecond (setup_in set [] i)) []) (sym (own_none set i)) tt

  behind_end : (xs : List Entry) (e : Entry) → is_end e ≡ true → (i : ℕ) → lives (xs ++ e ∷ []) i ≡ true
      → (lives xs i ≡ true → Keeps (setup_in set xs i) (own_of set xs i)) → Keeps (setup_in set (xs ++ e ∷ []) i) (own_of set (xs ++ e ∷ []) i)
  behind_end xs e ends i h before =
      let v = lived xs e i h in
      let was : lives xs i ≡ true = elim v.how [ inl w ↦ w | inr new ↦ absurd (end_begins_none e ends i new.1) ] in
      subst (λ s. Keeps s (own_of set (xs ++ e ∷ []) i)) (sym (setup_kept set xs (e ∷ []) i (alive xs i was).0))
      (subst (Keeps (setup_in set xs i)) (sym (own_push set xs e i was v.stays))
      (with_end (setup_in set xs i) (own_of set xs i) set.work.actors (label_of xs i) i e ends (before was)))

  step : (xs : List Entry) (e : Entry) → IsLegalRun set xs → IsLegalRunEntry set xs e → KeepIn xs → KeepIn (xs ++ e ∷ [])
  unfolding KeepIn
  step xs e before l again more split i h = by (is_end e) refl (again (e ∷ more) (split ∙ append_assoc xs (e ∷ []) more) i)
    where
      by : (b : Bool) → is_end e ≡ b → (lives xs i ≡ true → Keeps (setup_in set xs i) (own_of set xs i)) → Keeps (setup_in set (xs ++ e ∷ []) i) (own_of set (xs ++ e ∷ []) i)
      by true ends before_it = behind_end xs e ends i h before_it
      by false other before_it = λ known.
          let kept = past_kept set c fits valid legal (xs ++ e ∷ []) more split i h in
          all_keep (setup_in set (xs ++ e ∷ []) i) kept.valid known (own_of set (xs ++ e ∷ []) i) (l.own other i h) kept.timely
          (ends_first set (xs ++ e ∷ []) (past_legal set c fits valid legal (xs ++ e ∷ []) more split) i h)

  all_steps : (past : List Entry) → IsLegalRun set past → KeepIn past
  all_steps past l = each_along (IsLegalRunEntry set) KeepIn (λ xs e before fit again. step xs e before fit again) [] past tt l first

  pub all_reserved : IsNamed set.resources → HeadsKeepTheirSecondsInAll set c
  unfolding KeepIn
  all_reserved named past more split i h =
      let before = past_legal set c fits valid legal past more split in
      all_along (setup_in set past i) (own_of set past i) (all_steps past before more split i h (all_named set c fits valid legal named past before more split i h))
