-- What holds of each job in each store of a legal chronicle, where each due post keeps it.
use Rattle.std.proofs.Common.{◌≡◌, ℕ, ◌<◌, ◌^◌, inl, inr, List, [], ◌∷◌, ◌++◌, Some, sym, subst, append-nil}
use Rattle.std.specs.List.{AllByRecursion as Each}
use Rattle.kvs_model.specs.History.{first_store}
use Rattle.kvs_model.specs.Store.{Store}
use Rattle.kvs_rules.proofs.Sequences.{each_along, each_both, each_left}
use Rattle.kvs_rules.specs.Namespaces.{Base, newest_store, primary}
use Rattle.kvs_rules.specs.Sequence.{EachAfter}
use Rattle.resource_set.specs.Writing.{r_text}
use Rattle.manager_rules.specs.Jobs.{AreJobsOf, StoredJob}
use Rattle.manager_rules.specs.Sound.{IsSoundStore}
use Rattle.manager_rules.proofs.Others.{first_jobs}
use Rattle.manager_rules.proofs.Unique.{jobs_are_one}
use Rattle.instance_rules.specs.Log.{IsInstance}
use Rattle.answers.specs.declared.chronicle.Entry.{Entry}
use Rattle.answers.specs.Chronicle.{Setup}
use Rattle.answers.specs.Jobs.{instance_of, log_in, second_of}
use Rattle.answers.specs.Legal.{IsLegal, IsLegalEntry}
use Rattle.answers.specs.Services.{setting_of}
use Rattle.run_laws.specs.Jobs.{store_of}
use Rattle.run_laws.specs.Times.{KeepsTime}
use Rattle.run_laws.proofs.Landings.{AllJobs, KeptByPosts, landing_jobs}
use Rattle.run_laws.proofs.Moves.{entry_lands, stands}
use Rattle.run_laws.proofs.Newest.{same_one}
use Rattle.run_laws.proofs.Sounds.{stay_sound}

-- an entry may follow, and its second has its place
abbrev Fits : Setup → List Entry → Entry → Type 0
Fits set c e = IsLegalEntry set c e × (second_of set c < 2 ^ 64)

right_of : {A : Type 0} (P Q : List A → A → Type 0) (base xs : List A) → EachAfter (λ l y. P l y × Q l y) base xs → EachAfter Q base xs
right_of P Q base [] h = tt
right_of P Q base (x ∷ xs) h = (h.0.1, right_of P Q (base ++ x ∷ []) xs h.1)

pub apart : (set : Setup) (c : List Entry) → EachAfter (λ d e. IsLegalEntry set d e × (second_of set d < 2 ^ 64)) [] c → IsLegal set c × KeepsTime set c
apart set c fits = (each_left (IsLegalEntry set) (λ d e. second_of set d < 2 ^ 64) [] c fits, right_of (IsLegalEntry set) (λ d e. second_of set d < 2 ^ 64) [] c fits)

module _ (set : Setup) (valid : IsInstance (instance_of set)) (P : StoredJob → Type 0) (keeps : KeptByPosts set.resources P) where
  abbrev grant : List ℕ
  grant = r_text set.resources

  HoldAt : List Entry → Type 0
  HoldAt c = (st : Store) → store_of set c ≡ Some st → AllJobs P st

  Begin : Base → Type 0
  Begin base = (st : Store) → newest_store (record (setting_of set) { base = base }) [] primary ≡ Some st → AllJobs P st

  first : HoldAt []
  unfolding HoldAt Begin
  first = subst Begin (sym valid.text) (λ st e jobs are.
      subst (Each P) (jobs_are_one st [] jobs (subst (λ x. AreJobsOf x []) (same_one (first_store grant) st e) (first_jobs grant)) are) tt)

  step : (c : List Entry) (e : Entry) → EachAfter (Fits set) [] c → Fits set c e → HoldAt c → HoldAt (c ++ e ∷ [])
  unfolding HoldAt
  step c e before fits h st now =
      let t = apart set c before in
      let s = stands set grant valid.text c t.0 in
      let sound : IsSoundStore set.resources.nodes s.store = stay_sound set valid c t.0 t.1 c [] (sym (append-nil c)) s.store s.standing in
      elim (entry_lands set grant valid.text c t.0 e fits.0 s.store st s.standing now) [
        | inl same ↦ subst (AllJobs P) (sym same) (h s.store s.standing)
        | inr l ↦ landing_jobs (instance_of set) valid (log_in set.work c) fits.1 P keeps l.groups s.store st s.is sound l.due l.made (h s.store s.standing)
      ]

  pub jobs_at : (c : List Entry) → IsLegal set c → KeepsTime set c → (st : Store) → store_of set c ≡ Some st → AllJobs P st
  unfolding HoldAt
  jobs_at c legal timely = each_along (Fits set) HoldAt step [] c tt (each_both (IsLegalEntry set) (λ d e. second_of set d < 2 ^ 64) [] c legal timely) first
