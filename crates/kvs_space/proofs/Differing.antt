-- A member whose fence has its own count.
use Rattle.std.proofs.Common.{◌≡◌, ◌≢◌, ℕ, Bool, Option, Some, None, Result, Err, option_map, sym, ap, ◌∙◌, subst}
use Rattle.std.specs.Prelude.{IfErr}
use Rattle.std.specs.Option.{option_map_or}
use Rattle.fence_merge.specs.declared.member.Member.{Member}
use Rattle.fence_merge.specs.declared.faults.JoinFault.{JoinFault}
use Rattle.fence_merge.specs.declared.faults.JoinFault.TheVariants as fault
use Rattle.fence_merge.specs.Faults.{handed_back}
use Rattle.fence_merge.specs.Fences.{Fence}

kept-is : (o : Option Fence) (count kept : ℕ) → option_map (λ f. f.count) o ≡ Some kept → option_map_or (λ f. f.count) o count ≡ kept
kept-is None count kept e = cc
kept-is (Some f) count kept e = cc

-- it is not told that the counts differ
pub never-differs : (r : Result Bool JoinFault) (f : JoinFault) (kept : ℕ) (given member : Member) (o : Option Fence) (count : ℕ) → r ≡ Err f → f ≡ fault.CountDiffers kept given → IfErr r (λ x. handed_back x ≡ member)
    → (r ≡ Err (fault.CountDiffers kept member) → (option_map (λ x. x.count) o ≡ Some kept) × (kept ≢ count)) → option_map_or (λ x. x.count) o count ≡ count → ⊥
never-differs r f kept given member o count is says back differs same =
    let whole : r ≡ Err (fault.CountDiffers kept given) = is ∙ ap Err says in
    let b : given ≡ member = subst (λ x. IfErr x (λ y. handed_back y ≡ member)) whole back in
    let d = differs (whole ∙ ap (λ m. Err (fault.CountDiffers kept m)) b) in
    d.1 (sym (kept-is o count kept d.0) ∙ same)
