-- How the newest store of `primary` goes on along a legal log of the service.
use Rattle.std.proofs.Common.{◌≡◌, ℕ, suc, ◌⊎◌, inl, inr, List, [], ◌∷◌, ◌++◌, length, Bool, true, false, cond, Option, Some, None, option_and_then, unwrap_or, refl, sym, ap, ap₂, ◌∙◌, subst, arith, append-nil, bytes_eq}
use Rattle.std.specs.Prelude.{IfSome}
use Rattle.std.specs.List.{cons_option}
use Rattle.std.proofs.lemmas.List.{length-append}
use Rattle.kvs_model.specs.History.{after, after_groups}
use Rattle.kvs_model.specs.Store.{IsStore, Store}
use Rattle.kvs_model.proofs.Histories.{IsStore-after_groups}
use Rattle.kvs_rules.proofs.Logs.{along, landed_push, number_or_not, own_number}
use Rattle.kvs_rules.proofs.Stores.{after_push, landings_push}
use Rattle.kvs_rules.specs.Answers.{IsLegalLog, IsLegalMoment}
use Rattle.kvs_rules.specs.Landings.{IsAdvance, IsLegalLanding}
use Rattle.kvs_rules.specs.Log.{Asked, Happened, Log, Moment, Resumed}
use Rattle.kvs_rules.specs.Namespaces.{Setting, above_first, groups_landed, landed, landings, newest_store, number_landed, primary, store_after}
use Rattle.kvs_rules.specs.declared.events.KvsEvent.TheVariants as event
use Rattle.kvs_txn.specs.declared.txn.By.{By}
use Rattle.kvs_txn.specs.declared.txn.Group.{Group}
use Rattle.kvs_txn.specs.declared.txn.Scope.TheVariants as scope

pub same_one : (x y : Store) → Some x ≡ Some y → x ≡ y
same_one x y e = cc

no_groups : (m : Moment) → number_landed primary m ≡ None → groups_landed primary m ≡ None
no_groups (Asked by floors) e = refl
no_groups (Resumed number) e = refl
no_groups (Happened (event.Landed other number authors [])) e = refl
no_groups (Happened (event.Landed other number authors (g ∷ gs))) e = apart (bytes_eq primary other) e
  where
    apart : (b : Bool) → cond b (Some number) None ≡ None → cond b (Some (g ∷ gs)) None ≡ None
    apart true e = cc
    apart false e = refl
no_groups (Happened (event.Denied space authors group refusal)) e = refl
no_groups (Happened (event.Heard broker space number)) e = refl
no_groups (Happened (event.Got broker reference)) e = refl
no_groups (Happened (event.Dropped broker reference)) e = refl
no_groups (Happened (event.Answered by number given)) e = refl

-- a landing in `primary` that makes one store of another
pub record LandsOn (m : Moment) (st new : Store) : Type 0 where
  pub number : ℕ
  pub authors : List (Option By)
  pub groups : List Group
  pub is : m ≡ Happened (event.Landed primary number authors groups)
  pub made : after_groups scope.Primary groups st ≡ Some new

module _ (set : Setting) (none : set.base.number ≡ 0) where
  -- the store of `primary` at a number is that after so many landings
  newest_is : (log : Log) (number : ℕ) → store_after set log primary number ≡ after scope.Primary (landings log primary) number set.base.store
  newest_is log number = ap (λ k. option_and_then (λ count. after scope.Primary (landings log primary) count set.base.store) (above_first k number)) none

  pub record Newest (log : Log) : Type 0 where
    pub counted : landed log primary ≡ length (landings log primary)
    pub store : Store
    pub is : IsStore store
    pub stands : newest_store set log primary ≡ Some store

  -- the newest store one moment further
  pub record Next (log : Log) (m : Moment) (st : Store) : Type 0 where
    pub newest : Newest (log ++ m ∷ [])
    pub how : (newest.store ≡ st) ⊎ LandsOn m st newest.store

  begins : IsStore set.base.store → Newest []
  begins sound = record { counted = refl; store = set.base.store; is = sound; stands = newest_is [] 0 }

  -- a moment that lands nothing
  stays : (log : Log) (m : Moment) → landed (log ++ m ∷ []) primary ≡ landed log primary → groups_landed primary m ≡ None → (n : Newest log) → Next log m n.store
  stays log m number silent n =
      let same : landings (log ++ m ∷ []) primary ≡ landings log primary = landings_push log m primary ∙ ap (λ o. landings log primary ++ cons_option o []) silent ∙ append-nil _ in
      record {
        newest = record {
          counted = number ∙ n.counted ∙ ap length (sym same);
          store = n.store;
          is = n.is;
          stands = newest_is (log ++ m ∷ []) (landed (log ++ m ∷ []) primary)
              ∙ ap₂ (λ ls k. after scope.Primary ls k set.base.store) same number
              ∙ sym (newest_is log (landed log primary)) ∙ n.stands;
        };
        how = inl refl;
      }

  passes : (log : Log) (m : Moment) → number_landed primary m ≡ None → (n : Newest log) → Next log m n.store
  passes log m e n = stays log m (landed_push log m primary ∙ ap (λ o. unwrap_or o (landed log primary)) e) (no_groups m e) n

  resumes : (log : Log) (number : ℕ) → log ≡ [] → number ≡ set.base.number → (n : Newest log) → Next log (Resumed number) n.store
  resumes log number first is n =
      let still : landed log primary ≡ 0 = ap (λ l. landed l primary) first in
      stays log (Resumed number) (landed_push log (Resumed number) primary ∙ is ∙ none ∙ sym still) refl n

  advances : (log : Log) (number : ℕ) (authors : List (Option By)) (groups : List Group) → (n : Newest log) → IsAdvance set log primary number authors groups
      → Next log (Happened (event.Landed primary number authors groups)) n.store
  advances log number authors [] n a = absurd (a.some refl)
  advances log number authors (g ∷ gs) n a =
      let m : Moment = Happened (event.Landed primary number authors (g ∷ gs)) in
      let ls = landings log primary in
      let more : landings (log ++ m ∷ []) primary ≡ ls ++ (g ∷ gs) ∷ [] = landings_push log m primary in
      let count : landed (log ++ m ∷ []) primary ≡ suc (length ls) = landed_push log m primary ∙ ap (λ o. unwrap_or o (landed log primary)) (own_number primary number authors (g ∷ gs)) ∙ a.next ∙ ap suc n.counted in
      let long : length (ls ++ (g ∷ gs) ∷ []) ≡ suc (length ls) = length-append ls ((g ∷ gs) ∷ []) ∙ (omega arith) in
      let old : n.store ≡ a.old = same_one n.store a.old (sym n.stands ∙ a.standing) in
      let stood : after scope.Primary ls (length ls) set.base.store ≡ Some n.store = ap (λ k. after scope.Primary ls k set.base.store) (sym n.counted) ∙ sym (newest_is log (landed log primary)) ∙ n.stands in
      let made : after_groups scope.Primary (g ∷ gs) n.store ≡ Some a.new = ap (after_groups scope.Primary (g ∷ gs)) old ∙ a.made in
      record {
        newest = record {
          counted = count ∙ sym long ∙ ap length (sym more);
          store = a.new;
          is = subst (λ o. IfSome o IsStore) made (IsStore-after_groups scope.Primary (g ∷ gs) n.store n.is);
          stands = newest_is (log ++ m ∷ []) (landed (log ++ m ∷ []) primary) ∙ ap₂ (λ l k. after scope.Primary l k set.base.store) more count ∙ after_push scope.Primary ls (g ∷ gs) set.base.store n.store stood ∙ made;
        };
        how = inr (record { number = number; authors = authors; groups = g ∷ gs; is = refl; made = made });
      }

  -- a landing in `primary` neither opens nor removes it
  lands : (log : Log) (number : ℕ) (authors : List (Option By)) (groups : List Group) → (n : Newest log) → IsLegalLanding set log primary number authors groups
      → Next log (Happened (event.Landed primary number authors groups)) n.store
  lands log number authors groups n legal = elim legal.form [
    | inl o ↦ let e : true ≡ false = o.unused in cc
    | inr more ↦ elim more [
      | inl r ↦ let e : true ≡ false = r.other in cc
      | inr a ↦ advances log number authors groups n a
    ]
  ]

  pub goes_on : (log : Log) (m : Moment) → IsLegalMoment set log m → (n : Newest log) → Next log m n.store
  goes_on log m legal n = elim (number_or_not primary m) [
    | inl none ↦ passes log m none n
    | inr (inr r) ↦
        let first : IsLegalMoment set log (Resumed r.number) = subst (IsLegalMoment set log) r.is legal in
        subst (λ x. Next log x n.store) (sym r.is) (resumes log r.number first.0 first.1 n)
    | inr (inl l) ↦ subst (λ x. Next log x n.store) (sym l.is) (lands log l.number l.authors l.groups n (subst (IsLegalMoment set log) l.is legal))
  ]

  -- a legal log has its newest store
  pub newest_of : IsStore set.base.store → (log : Log) → IsLegalLog set log → Newest log
  newest_of sound log legal = along set Newest (λ before m h g n. (goes_on before m g n).newest) [] log tt legal (begins sound)
