-- What first fit gives has the slots that are wanted.
use Rattle.std.proofs.Common.{◌≡◌, ℕ, ◌-◌, ◌*◌, ◌/◌, ◌≤◌, ◌==◌, min, List, [], ◌∷◌, length, take, Bool, true, false, cond, Option, Some, None, option_map, refl, sym, ap, ◌∙◌, subst, arith, length-take, eqb→eq, T, div-mul-le_self, le_trans}
use Rattle.std.proofs.Math.Nat.{mul-le-mul_right}
use Rattle.job_spec.specs.declared.spec.JobSpec.{JobSpec}
use Rattle.resource_set.specs.declared.node.Node.{Node}
use Rattle.job_rules.specs.Fits.{HasSlots, HaveSlots, room_on, lowest, with_host, spread}

number_is : (x y : ℕ) → (x == y) ≡ true → x ≡ y
number_is x y e = eqb→eq x y (subst T (sym e) tt)

-- so many times a part fit where the division says so
parts_fit : (count part whole : ℕ) → count ≤ whole / part → count * part ≤ whole
parts_fit count part whole h = le_trans (mul-le-mul_right part h) (div-mul-le_self whole part)

taken : (count part : ℕ) (ids : List ℕ) → count * part ≤ length ids → length (take (count * part) ids) ≡ count * part
taken count part ids h = length-take (count * part) ids ∙ (omega arith)

module _ (spec : JobSpec) where
  pub slots_on : (count : ℕ) (node : Node) (b : Bool) → (spec.gpus == 0) ≡ b → count ≤ cond b (length node.cores / spec.cores) (min (length node.cores / spec.cores) (length node.gpus / spec.gpus)) → HasSlots spec count (lowest spec count node)
  slots_on count node true e h =
      let none : spec.gpus ≡ 0 = number_is spec.gpus 0 e in
      let zero_units : count * spec.gpus ≡ 0 = ap (λ g. count * g) none ∙ (omega arith) in
      (taken count spec.cores node.cores (parts_fit count spec.cores (length node.cores) h), ap (λ n. length (take n node.gpus)) zero_units ∙ sym zero_units)
  slots_on count node false e h =
      let cores : count ≤ length node.cores / spec.cores = omega arith in
      let gpus : count ≤ length node.gpus / spec.gpus = omega arith in
      (taken count spec.cores node.cores (parts_fit count spec.cores (length node.cores) cores), taken count spec.gpus node.gpus (parts_fit count spec.gpus (length node.gpus) gpus))

  pub spread_has : (wanted : ℕ) (nodes given : List Node) → spread spec wanted nodes ≡ Some given → HaveSlots spec wanted given
  spread_has wanted [] given e = at_end (wanted == 0) refl e
    where
      at_end : (b : Bool) → (wanted == 0) ≡ b → cond b (Some []) None ≡ Some given → HaveSlots spec wanted given
      at_end true t e = let same : [] ≡ given = cc in subst (HaveSlots spec wanted) same (number_is wanted 0 t)
      at_end false t e = cc
  spread_has wanted (node ∷ nodes) given e = onward (spread spec (wanted - min wanted (room_on spec node)) nodes) (λ rest r. spread_has (wanted - min wanted (room_on spec node)) nodes rest r) e
    where
      here : ℕ
      here = min wanted (room_on spec node)

      with_node : (rest : List Node) (b : Bool) → (min wanted (room_on spec node) == 0) ≡ b → HaveSlots spec (wanted - min wanted (room_on spec node)) rest → HaveSlots spec wanted (cond b rest (lowest spec (min wanted (room_on spec node)) node ∷ rest))
      with_node rest true t h = let none : min wanted (room_on spec node) ≡ 0 = number_is _ 0 t in subst (λ n. HaveSlots spec n rest) (ap (λ k. wanted - k) none ∙ (omega arith)) h
      with_node rest false t h = (min wanted (room_on spec node), wanted - min wanted (room_on spec node), omega arith, slots_on (min wanted (room_on spec node)) node (spec.gpus == 0) refl (omega arith), h)

      onward : (o : Option (List Node)) → ((rest : List Node) → o ≡ Some rest → HaveSlots spec (wanted - min wanted (room_on spec node)) rest) → option_map (with_host (min wanted (room_on spec node)) (lowest spec (min wanted (room_on spec node)) node)) o ≡ Some given → HaveSlots spec wanted given
      onward None again e = cc
      onward (Some rest) again e =
          let same : with_host (min wanted (room_on spec node)) (lowest spec (min wanted (room_on spec node)) node) rest ≡ given = cc in
          subst (HaveSlots spec wanted) same (with_node rest (min wanted (room_on spec node) == 0) refl (again rest refl))
