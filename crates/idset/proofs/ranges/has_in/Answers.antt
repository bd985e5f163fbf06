use Rattle.std.proofs.Common.{◌≡◌, ℕ, ◌<◌, ◌≤◌, true, false, ltb, leb, List, length, get_or, ap, sym, ◌∙◌, arith, rules}
use Rattle.std.specs.List.Sorted.{IsPartitionPoint}
use Rattle.std.proofs.lemmas.Bool.Decides.{nat_tests}
use Rattle.std.proofs.lemmas.List.Sorted.{IsPartitionPoint-from_clause, IsPartitionedBy-ltb}
use Rattle.idset.specs.Ranges.{AreApart, are_in}
use Rattle.idset.specs.declared.ranges.IdRange.{IdRange}
use Rattle.idset.proofs.Walks.{found_at, found_nowhere, lasts_rise}
use Rattle.idset.proofs.Gaps.{no_range}
use Rattle.idset.proofs.ranges.has_in.Goals as goal

abbrev Parts : List IdRange → ℕ → ℕ → Type 0
Parts rs id place = IsPartitionPoint (λ y. ltb y.last id ≡ true) (λ y. ltb y.last id ≡ false) rs place

below : (m n : ℕ) → ltb m n ≡ true → m < n
below m n e = grind (arith, nat_tests)

not_below : (m n : ℕ) → ltb m n ≡ false → n ≤ m
not_below m n e = grind (arith, nat_tests)

there : (rs : List IdRange) (id place : ℕ) (r : IdRange) → AreApart 0 rs → true ≡ ltb place (length rs) → r ≡ get_or rs place r → Parts rs id place → leb r.first id ≡ are_in rs id
there rs id place r a t is p =
    let within : place < length rs = below place (length rs) (sym t) in
    ap (λ x. leb x.first id) is ∙ sym (found_at rs 0 place id r a within (λ k h. below _ id (p.0 k r (omega arith) h)) (not_below _ id (p.1 place r (omega arith) within)))

nowhere : (rs : List IdRange) (id place : ℕ) → false ≡ ltb place (length rs) → Parts rs id place → false ≡ are_in rs id
nowhere rs id place t p =
    let past : length rs ≤ place = not_below place (length rs) (sym t) in
    sym (found_nowhere rs id no_range (λ k h. below _ id (p.0 k no_range (omega arith) (omega arith))))

pub returns-in-Some : goal.returns-in-Some
returns-in-Some c =
    let rs = c.args.ranges.now in
    let look = c.in-Some.ensures.lookup in
    there rs c.args.id c.partition_point-place.result c.in-Some.range.now c.requires look.0 look.1
    (IsPartitionPoint-from_clause (λ r. ltb r.last c.args.id) rs c.partition_point-place.result c.partition_point-place.ensures.partitioned (IsPartitionedBy-ltb (λ r. r.last) rs c.args.id (λ i j d h k. lasts_rise rs 0 i j d c.requires h k)) (λ a r q k. search rules))

pub returns-in-None : goal.returns-in-None
returns-in-None c =
    let rs = c.args.ranges.now in
    let look = c.in-None.ensures.lookup in
    nowhere rs c.args.id c.partition_point-place.result look.0
    (IsPartitionPoint-from_clause (λ r. ltb r.last c.args.id) rs c.partition_point-place.result c.partition_point-place.ensures.partitioned (IsPartitionedBy-ltb (λ r. r.last) rs c.args.id (λ i j d h k. lasts_rise rs 0 i j d c.requires h k)) (λ a r q k. search rules))
