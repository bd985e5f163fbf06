-- A description tells its dependency again.
use Rattle.std.proofs.Common.{◌≡◌, ℕ, ◌<◌, ◌^◌, List, ◌++◌, get_or, drop, refl, sym, ap, ◌∙◌, arith, Ok}
use Rattle.fluid_ids.specs.Texts.{meaning, printed}
use Rattle.fluid_ids.specs.declared.forms.Form.TheVariants.{F58}
use Rattle.fluid_ids.proofs.Rereads.{printed_again}
use Rattle.job_spec.specs.declared.spec.Depend.{Depend}
use Rattle.job_spec.specs.declared.spec.Scheme.{Scheme}
use Rattle.job_spec.specs.declared.spec.Scheme.TheVariants.{After, AfterAny, AfterOk, AfterNotOk}
use Rattle.manager_rules.specs.Jobs.{description_of}
use Rattle.job_texts.specs.Listed.{mark_of}

pub described : (need : Depend) → description_of need ≡ mark_of need.scheme ++ printed F58 need.on
unfolding description_of
described need = refl

differs : {A : Type 0} (a b : List ℕ) (x y : ℕ) → a ≡ b → get_or a 5 0 ≡ x → get_or b 5 0 ≡ y → (x ≡ y → ⊥) → A
differs a b x y e f g other = absurd (other (sym f ∙ ap (λ t. get_or t 5 0) e ∙ g))

-- marks of two schemes differ, and behind one mark stands one text
pub same_scheme : (a b : Scheme) (s t : List ℕ) → mark_of a ++ s ≡ mark_of b ++ t → a ≡ b
same_scheme After After s t e = refl
same_scheme After AfterAny s t e = differs _ _ 58 97 e refl refl (λ n. omega (arith, n))
same_scheme After AfterOk s t e = differs _ _ 58 111 e refl refl (λ n. omega (arith, n))
same_scheme After AfterNotOk s t e = differs _ _ 58 110 e refl refl (λ n. omega (arith, n))
same_scheme AfterAny After s t e = differs _ _ 97 58 e refl refl (λ n. omega (arith, n))
same_scheme AfterAny AfterAny s t e = refl
same_scheme AfterAny AfterOk s t e = differs _ _ 97 111 e refl refl (λ n. omega (arith, n))
same_scheme AfterAny AfterNotOk s t e = differs _ _ 97 110 e refl refl (λ n. omega (arith, n))
same_scheme AfterOk After s t e = differs _ _ 111 58 e refl refl (λ n. omega (arith, n))
same_scheme AfterOk AfterAny s t e = differs _ _ 111 97 e refl refl (λ n. omega (arith, n))
same_scheme AfterOk AfterOk s t e = refl
same_scheme AfterOk AfterNotOk s t e = differs _ _ 111 110 e refl refl (λ n. omega (arith, n))
same_scheme AfterNotOk After s t e = differs _ _ 110 58 e refl refl (λ n. omega (arith, n))
same_scheme AfterNotOk AfterAny s t e = differs _ _ 110 97 e refl refl (λ n. omega (arith, n))
same_scheme AfterNotOk AfterOk s t e = differs _ _ 110 111 e refl refl (λ n. omega (arith, n))
same_scheme AfterNotOk AfterNotOk s t e = refl

pub same_rest : (a : Scheme) (s t : List ℕ) → mark_of a ++ s ≡ mark_of a ++ t → s ≡ t
same_rest After s t e = ap (λ xs. drop 6 xs) e
same_rest AfterAny s t e = ap (λ xs. drop 9 xs) e
same_rest AfterOk s t e = ap (λ xs. drop 8 xs) e
same_rest AfterNotOk s t e = ap (λ xs. drop 11 xs) e

pub same_ids : (m n : ℕ) → m < 2 ^ 64 → n < 2 ^ 64 → printed F58 m ≡ printed F58 n → m ≡ n
same_ids m n a b e = let both : Ok m ≡ Ok n = sym (printed_again F58 m a) ∙ ap meaning e ∙ printed_again F58 n b in cc
