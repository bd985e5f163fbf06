-- The store that the landings of `primary` leave along a legal log.
use Rattle.std.proofs.Common.{◌≡◌, ◌∙◌, ◌⊎◌, inl, inr, ℕ, suc, Bool, true, false, cond, List, [], ◌∷◌, ◌++◌, length, length-append, unwrap_or, option_and_then, Option, Some, None, ap, refl, sym, subst, arith, append-nil, true≢false, bytes_eq}
use Rattle.std.specs.List.{cons_option}
use Rattle.kvs_txn.specs.declared.txn.By.{By}
use Rattle.kvs_txn.specs.declared.txn.Group.{Group}
use Rattle.kvs_model.specs.Store.{Name, Store}
use Rattle.kvs_model.specs.History.{after, after_groups}
use Rattle.kvs_rules.specs.declared.events.KvsEvent.TheVariants as event
use Rattle.kvs_rules.specs.Log.{Moment, Asked, Happened, Resumed, Log}
use Rattle.kvs_rules.specs.Namespaces.{Setting, above_first, begun_at, store_after, groups_landed, landed, landings, newest_store, number_landed, primary, scope_of}
use Rattle.kvs_rules.specs.Landings.{IsAdvance, IsLegalLanding, IsOpening, IsRemoval}
use Rattle.kvs_rules.specs.Answers.{IsLegalLog, IsLegalMoment}
use Rattle.kvs_rules.proofs.Logs.{LandsIn, ResumesIn, along, landed_push, number_or_not, own_number}
use Rattle.kvs_rules.proofs.Stores.{after_push, landings_push}

-- a moment that gives no number in the namespace has no transactions there
no_groups : (space : Name) (m : Moment) → number_landed space m ≡ None → groups_landed space m ≡ None
no_groups space (Asked by floors) e = refl
no_groups space (Resumed number) e = refl
no_groups space (Happened (event.Landed other number authors [])) e = refl
no_groups space (Happened (event.Landed other number authors (g ∷ gs))) e = apart (bytes_eq space other) e
  where
    apart : (b : Bool) → cond b (Some number) None ≡ None → cond b (Some (g ∷ gs)) None ≡ None
    apart true e = cc
    apart false e = refl
no_groups space (Happened (event.Denied other authors group refusal)) e = refl
no_groups space (Happened (event.Heard broker other number)) e = refl
no_groups space (Happened (event.Got broker reference)) e = refl
no_groups space (Happened (event.Dropped broker reference)) e = refl
no_groups space (Happened (event.Answered by number answer)) e = refl

module _ (set : Setting) (none : set.base.number ≡ 0) where
  -- the store of `primary` at a number is that after so many landings
  newest_is : (log : Log) (number : ℕ) → store_after set log primary number ≡ after (scope_of primary) (landings log primary) number (begun_at set primary)
  newest_is log number = ap (λ k. option_and_then (λ count. after (scope_of primary) (landings log primary) count (begun_at set primary)) (above_first k number)) none

  -- the store of all landings of `primary`, which are as many as the last one's number says
  pub record Left (log : Log) : Type 0 where
    pub store : Store
    pub counted : landed log primary ≡ length (landings log primary)
    pub stands : after (scope_of primary) (landings log primary) (length (landings log primary)) (begun_at set primary) ≡ Some store

  same_of : (x y : Store) → Some x ≡ Some y → x ≡ y
  same_of x y e = cc

  -- a landing of `primary` is an advance, and leaves the store after its transactions
  advanced : (log : Log) (number : ℕ) (authors : List (Option By)) (g : Group) (gs : List Group) → Left log → IsAdvance set log primary number authors (g ∷ gs) → Left (log ++ Happened (event.Landed primary number authors (g ∷ gs)) ∷ [])
  advanced log number authors g gs n a =
      let m : Moment = Happened (event.Landed primary number authors (g ∷ gs)) in
      let more : landings (log ++ m ∷ []) primary ≡ landings log primary ++ (g ∷ gs) ∷ [] = landings_push log m primary in
      let counted : landed (log ++ m ∷ []) primary ≡ suc (length (landings log primary)) = landed_push log m primary ∙ ap (λ o. unwrap_or o (landed log primary)) (own_number primary number authors (g ∷ gs)) ∙ a.next ∙ ap suc n.counted in
      let long : length (landings log primary ++ (g ∷ gs) ∷ []) ≡ suc (length (landings log primary)) = length-append (landings log primary) ((g ∷ gs) ∷ []) ∙ (omega arith) in
      let stood : after (scope_of primary) (landings log primary) (landed log primary) (begun_at set primary) ≡ Some a.old = sym (newest_is log (landed log primary)) ∙ a.standing in
      let old : n.store ≡ a.old = same_of n.store a.old (sym n.stands ∙ ap (λ k. after (scope_of primary) (landings log primary) k (begun_at set primary)) (sym n.counted) ∙ stood) in
      let made : after_groups (scope_of primary) (g ∷ gs) n.store ≡ Some a.new = ap (after_groups (scope_of primary) (g ∷ gs)) old ∙ a.made in
      record {
        store = a.new;
        counted = counted ∙ sym long ∙ ap length (sym more);
        stands = subst (λ ls. after (scope_of primary) ls (length ls) (begun_at set primary) ≡ Some a.new) (sym more)
            (ap (λ k. after (scope_of primary) (landings log primary ++ (g ∷ gs) ∷ []) k (begun_at set primary)) long
            ∙ after_push (scope_of primary) (landings log primary) (g ∷ gs) (begun_at set primary) n.store n.stands
            ∙ made);
      }

  landed_left : (log : Log) (number : ℕ) (authors : List (Option By)) (groups : List Group) → IsLegalLanding set log primary number authors groups → Left log → Left (log ++ Happened (event.Landed primary number authors groups) ∷ [])
  landed_left log number authors groups h n = by groups h.form
    where
      by : (groups : List Group) → IsOpening set log primary number authors groups ⊎ IsRemoval set log primary number authors groups ⊎ IsAdvance set log primary number authors groups → Left (log ++ Happened (event.Landed primary number authors groups) ∷ [])
      by groups (inl o) = absurd (true≢false o.unused)
      by groups (inr (inl r)) = absurd (true≢false r.other)
      by [] (inr (inr a)) = absurd (a.some refl)
      by (g ∷ gs) (inr (inr a)) = advanced log number authors g gs n a

  moved : (log : Log) (m : Moment) → number_landed primary m ≡ None → Left log → Left (log ++ m ∷ [])
  moved log m e n =
      let same : landings (log ++ m ∷ []) primary ≡ landings log primary = landings_push log m primary ∙ ap (λ o. landings log primary ++ cons_option o []) (no_groups primary m e) ∙ append-nil _ in
      let still : landed (log ++ m ∷ []) primary ≡ landed log primary = landed_push log m primary ∙ ap (λ o. unwrap_or o (landed log primary)) e in
      record {
        store = n.store;
        counted = still ∙ n.counted ∙ ap length (sym same);
        stands = subst (λ ls. after (scope_of primary) ls (length ls) (begun_at set primary) ≡ Some n.store) (sym same) n.stands;
      }

  -- the service resumes where nothing has landed
  resumed : (log : Log) (number : ℕ) → log ≡ [] → number ≡ set.base.number → Left (log ++ Resumed number ∷ [])
  resumed log number first is = subst (λ l. Left (l ++ Resumed number ∷ [])) (sym first) (record { store = begun_at set primary; counted = is ∙ none; stands = refl })

  step : (log : Log) (m : Moment) → IsLegalLog set log → IsLegalMoment set log m → Left log → Left (log ++ m ∷ [])
  step log m legal g n = by (number_or_not primary m)
    where
      by : (number_landed primary m ≡ None) ⊎ LandsIn primary m ⊎ ResumesIn primary m → Left (log ++ m ∷ [])
      by (inl e) = moved log m e n
      by (inr (inr r)) =
          let first : IsLegalMoment set log (Resumed r.number) = subst (IsLegalMoment set log) r.is g in
          subst (λ x. Left (log ++ x ∷ [])) (sym r.is) (resumed log r.number first.0 first.1)
      by (inr (inl l)) = subst (λ x. Left (log ++ x ∷ [])) (sym l.is) (landed_left log l.number l.authors l.groups (subst (IsLegalMoment set log) l.is g) n)

  pub left : (log : Log) → IsLegalLog set log → Left log
  left log h = along set Left step [] log tt h (record { store = begun_at set primary; counted = refl; stands = refl })

  -- the newest store of `primary` is the one that all its landings leave
  pub newest_left : (log : Log) (legal : IsLegalLog set log) → newest_store set log primary ≡ Some (left log legal).store
  newest_left log legal = newest_is log (landed log primary) ∙ ap (λ k. after (scope_of primary) (landings log primary) k (begun_at set primary)) (left log legal).counted ∙ (left log legal).stands
