-- What a reader finds at a path on which no link stands.
use Rattle.std.proofs.Common.{◌≡◌, ◌≢◌, ◌∙◌, ℕ, List, [], ◌∷◌, ◌++◌, Option, Some, None, false, true, refl, sym, ap, subst, append_assoc, append-nil}
use Rattle.std.specs.Prelude.{IsSome, option_and_then, option_map}
use Rattle.job_deeds.specs.kvs_txn.declared.answers.Found.{Found}
use Rattle.job_deeds.specs.kvs_txn.declared.answers.Found.TheVariants as found
use Rattle.job_deeds.specs.kvs_txn.declared.answers.Query.TheVariants as query
use Rattle.job_deeds.specs.kvs_model.Operation.{is_link}
use Rattle.job_deeds.specs.kvs_model.Store.{Name, Path, Node, Value, Directory, Link, Store, IsStore, node_at}
use Rattle.job_deeds.specs.kvs_model.Walk.{Stop, at_end, behind_link, follow, found_from, found_in, go_on, stop_from}
use Rattle.job_deeds.specs.kvs_model.OneStore.{own_next, own_walk}
use Rattle.std.specs.Option.{option_map_or}
use Rattle.job_deeds.specs.kvs_txn.declared.words.Target.{Target}
use Rattle.job_deeds.specs.manager_rules.Keys.{bytes_of, value_at}

-- the text that is found, if one is
abbrev pub text_in : Found → Option (List ℕ)
text_in (found.Value bytes) = Some bytes
text_in _ = None

-- what a reader finds who stops there, with no link to follow
pub record IsRead (st : Store) (path : Path) (at : Stop) : Type 0 where
  pub ends : behind_link (node_at st at.place) at.rest ≡ None
  pub reads : text_in (found_from st query.Get at.place (node_at st at.place) at.rest) ≡ value_at st path

-- no link stands on the way along these names behind a place
abbrev pub AreUnlinked : Store → Path → Path → Type 0
AreUnlinked st place rest = (before behind : Path) → rest ≡ before ++ behind → is_link (node_at st (place ++ before)) ≡ false

none-of : {A : Type 0} (o : Option A) → (IsSome o → ⊥) → o ≡ None
none-of None h = refl
none-of (Some x) h = absurd (h refl)

-- where no directory stands there is nothing below
nothing-below : (st : Store) → IsStore st → (place : Path) (name : Name) (rest : Path) → node_at st place ≢ Some Directory → node_at st (place ++ name ∷ rest) ≡ None
nothing-below st s place name [] other = none-of (node_at st (place ++ name ∷ [])) (λ some. other (s.parents place name some))
nothing-below st s place name (next ∷ rest) other =
    let here = none-of (node_at st (place ++ name ∷ [])) (λ some. other (s.parents place name some)) in
    ap (node_at st) (sym (append_assoc place (name ∷ []) (next ∷ rest)))
    ∙ nothing-below st s (place ++ name ∷ []) next rest (λ e. absurd (none_some (sym here ∙ e)))
  where
    none_some : {A : Type 0} {x : A} → None ≡ Some x → ⊥
    none_some e = cc

nothing-read : (st : Store) (path : Path) → node_at st path ≡ None → None ≡ value_at st path
nothing-read st path e = ap (option_and_then bytes_of) (sym e)

along : (st : Store) → IsStore st → (place rest : Path) → AreUnlinked st place rest → IsRead st (place ++ rest) (stop_from st place rest)
along st s place [] free = at (node_at st place) refl (ap (λ p. is_link (node_at st p)) (sym (append-nil place)) ∙ free [] [] refl)
  where
    at : (o : Option Node) → node_at st place ≡ o → is_link (node_at st place) ≡ false → IsRead st (place ++ []) (record { place = place; rest = [] })
    at None e f = record {
      ends = ap (λ o. behind_link o []) e;
      reads = ap (λ o. text_in (found_from st query.Get place o [])) e ∙ nothing-read st (place ++ []) (ap (node_at st) (append-nil place) ∙ e);
    }
    at (Some (Value bytes)) e f = record {
      ends = ap (λ o. behind_link o []) e;
      reads = ap (λ o. text_in (found_from st query.Get place o [])) e ∙ ap (option_and_then bytes_of) (sym (ap (node_at st) (append-nil place) ∙ e));
    }
    at (Some Directory) e f = record {
      ends = ap (λ o. behind_link o []) e;
      reads = ap (λ o. text_in (found_from st query.Get place o [])) e ∙ ap (option_and_then bytes_of) (sym (ap (node_at st) (append-nil place) ∙ e));
    }
    at (Some (Link target)) e f = absurd (true_false (ap is_link (sym e) ∙ f))
      where
        true_false : true ≡ false → ⊥
        true_false t = cc
along st s place (name ∷ rest) free = at (node_at st place) refl (ap (λ p. is_link (node_at st p)) (sym (append-nil place)) ∙ free [] (name ∷ rest) refl)
    (along st s (place ++ name ∷ []) rest
    (λ before behind e. ap (λ p. is_link (node_at st p)) (append_assoc place (name ∷ []) before) ∙ free (name ∷ before) behind (ap (λ r. name ∷ r) e)))
  where
    at : (o : Option Node) → node_at st place ≡ o → is_link (node_at st place) ≡ false → IsRead st ((place ++ name ∷ []) ++ rest) (stop_from st (place ++ name ∷ []) rest) →
        IsRead st (place ++ name ∷ rest) (stop_from st place (name ∷ rest))
    at None e f further = subst (IsRead st (place ++ name ∷ rest)) (sym stopped) (record {
      ends = ap (λ o. behind_link o (name ∷ rest)) e;
      reads = ap (λ o. text_in (found_from st query.Get place o (name ∷ rest))) e ∙ nothing-read st (place ++ name ∷ rest) (nothing-below st s place name rest (λ d. absurd (no (sym e ∙ d))));
    })
      where
        no : None ≡ Some Directory → ⊥
        no e = cc

        stopped : stop_from st place (name ∷ rest) ≡ record { place = place; rest = name ∷ rest }
        stopped = ap (λ o. go_on o (record { place = place; rest = name ∷ rest }) (stop_from st (place ++ name ∷ []) rest)) e
    at (Some (Value bytes)) e f further = subst (IsRead st (place ++ name ∷ rest)) (sym stopped) (record {
      ends = ap (λ o. behind_link o (name ∷ rest)) e;
      reads = ap (λ o. text_in (found_from st query.Get place o (name ∷ rest))) e ∙ nothing-read st (place ++ name ∷ rest) (nothing-below st s place name rest (λ d. absurd (no (sym e ∙ d))));
    })
      where
        no : Some (Value bytes) ≡ Some Directory → ⊥
        no e = cc

        stopped : stop_from st place (name ∷ rest) ≡ record { place = place; rest = name ∷ rest }
        stopped = ap (λ o. go_on o (record { place = place; rest = name ∷ rest }) (stop_from st (place ++ name ∷ []) rest)) e
    at (Some Directory) e f further =
        subst (λ p. IsRead st p (stop_from st place (name ∷ rest))) (append_assoc place (name ∷ []) rest)
        (subst (IsRead st ((place ++ name ∷ []) ++ rest)) (sym (ap (λ o. go_on o (record { place = place; rest = name ∷ rest }) (stop_from st (place ++ name ∷ []) rest)) e)) further)
    at (Some (Link target)) e f further = absurd (true_false (ap is_link (sym e) ∙ f))
      where
        true_false : true ≡ false → ⊥
        true_false t = cc

-- a reader finds there what stands there
pub read-there : (st : Store) → IsStore st → (path : Path) → AreUnlinked st [] path → text_in (own_walk st query.Get path) ≡ value_at st path
unfolding own_walk
read-there st s path free =
    let read = along st s [] path free in
    ap (λ (o : Option Target). text_in (option_map_or (found_in st query.Get) (at_end path (option_map (λ (t : Target). t.path) o) (λ further. follow (own_next query.Get st) 9 further)) found.Loop)) read.ends ∙ read.reads

-- a reader who finds no value finds no text
pub no-text : (f : Found) → ((bytes : List ℕ) → f ≡ found.Value bytes → ⊥) → text_in f ≡ None
no-text (found.Value bytes) none = absurd (none bytes refl)
no-text (found.Names names) none = refl
no-text (found.Target target) none = refl
no-text found.Nothing none = refl
no-text found.IsDir none = refl
no-text found.NotDir none = refl
no-text found.NotLink none = refl
no-text found.Loop none = refl
