-- On announcements: what a hearing and a delivery leave of them.
use Rattle.std.proofs.Common.{◌≡◌, ◌≢◌, ℕ, zero, suc, ◌<◌, ◌≤◌, inl, inr, List, [], ◌∷◌, ◌++◌, length, max, refl, sym, ap, ◌∙◌, subst, arith, get_or, set, get_or-set_other, get_or-set_same}
use Rattle.std.proofs.lemmas.Bool.{cases_eq}
use Rattle.std.proofs.lemmas.Bool.Decides.{nat_tests}
use Rattle.std.proofs.lemmas.List.{length-set, get_or_default}
use Rattle.std.specs.Prelude.{slice_index, slice_set}
use Rattle.kvs_rules.specs.Brokers.{parent}
use Rattle.kvs_space.specs.Space.{link_at}
use Rattle.kvs_space.specs.Links.{greatest, told, AreTold, IsAnnounced, IsAnnouncedBut, after_loss}
use Rattle.kvs_space.specs.declared.links.Loss.{Loss}
use Rattle.kvs_space.specs.declared.links.Loss.TheVariants as loss

pub greatest-push : (h n : ℕ) (ns : List ℕ) → greatest h (ns ++ n ∷ []) ≡ max (greatest h ns) n
greatest-push h n [] = refl
greatest-push h n (m ∷ ns) = greatest-push (max h m) n ns

pub greatest-from : (h : ℕ) (ns : List ℕ) → h ≤ greatest h ns
greatest-from h [] = omega arith
greatest-from h (n ∷ ns) = omega (arith, greatest-from (max h n) ns)

-- who has heard more, hears of as much at least
pub greatest-mono : (h k : ℕ) (ns : List ℕ) → h ≤ k → greatest h ns ≤ greatest k ns
greatest-mono h k [] l = l
greatest-mono h k (n ∷ ns) l = greatest-mono (max h n) (max k n) ns (omega (arith, l))

greatest-max : (h n : ℕ) (ns : List ℕ) → greatest (max h n) ns ≡ max (greatest h ns) n
greatest-max h n [] = refl
greatest-max h n (m ∷ ns) =
    let e : max (max h n) m ≡ max (max h m) n = omega arith in
    ap (λ x. greatest x ns) e ∙ greatest-max (max h m) n ns

-- a loss brings nothing new
pub loss-less : (l : Loss) (h : ℕ) (link : List ℕ) → greatest h (after_loss l link) ≤ greatest h link
loss-less l h [] = omega arith
loss-less loss.Lost h (n ∷ ns) = greatest-mono h (max h n) ns (omega arith)
loss-less loss.Repeated h (n ∷ ns) =
    let p = greatest-push (max h n) n ns in
    let f = greatest-from (max h n) ns in
    omega (arith, p, f)
loss-less loss.Swapped h (n ∷ ns) =
    let p = greatest-push h n ns in
    let m = greatest-max h n ns in
    omega (arith, p, m)

-- a broker above 0 is above its parent
pub parent-below : (fanout b : ℕ) → 0 < b → parent fanout b < b
parent-below fanout b h = grind arith

same-under : {a b c d : ℕ} → a ≡ b → b ≤ c → d ≡ c → a ≤ d
same-under p l q = omega (arith, p, l, q)

told_not : (fanout from n k : ℕ) (link : List ℕ) → parent fanout k ≢ from → told fanout from n k link ≡ link
told_not fanout from n k link ne = grind (arith, nat_tests)

told_here : (fanout from n k : ℕ) (link : List ℕ) → 0 < k → parent fanout k ≡ from → told fanout from n k link ≡ link ++ n ∷ []
told_here fanout from n k link pos e = grind (arith, nat_tests)

-- a broker is no lower than its parent
pub parent-low : (fanout b : ℕ) → parent fanout b ≤ b
parent-low zero b = omega arith
parent-low (suc fanout) b = omega arith

module _ {fanout broker number : ℕ} {heard : List ℕ} {links links' : List (List ℕ)}
    (but : IsAnnouncedBut broker number fanout heard links) (tells : AreTold fanout broker number links links') where
  at_broker : 0 < broker → greatest (slice_index (slice_set heard broker number) broker) (link_at links' broker) ≤ slice_index (slice_set heard broker number) (parent fanout broker)
  at_broker pos =
      let below : broker < length links = omega (arith, but.same_len, but.within) in
      let pb : parent fanout broker < broker = parent-below fanout broker pos in
      let ne : parent fanout broker ≢ broker = λ q. omega (arith, q) in
      let f1 : get_or (set heard broker number) broker 0 ≡ number = get_or-set_same heard broker number 0 but.within in
      let f2 : get_or (set heard broker number) (parent fanout broker) 0 ≡ get_or heard (parent fanout broker) 0 = get_or-set_other heard broker (parent fanout broker) number 0 ne in
      let f3 : link_at links' broker ≡ link_at links broker = tells.each broker below ∙ told_not fanout broker number broker (link_at links broker) ne in
      same-under (ap (λ x. greatest x (link_at links' broker)) f1 ∙ ap (greatest number) f3) (but.here pos) f2

  at_other : (b : ℕ) → 0 < b → b < length heard → b ≢ broker → greatest (slice_index (slice_set heard broker number) b) (link_at links' b) ≤ slice_index (slice_set heard broker number) (parent fanout b)
  at_other b pos le nb =
      let below : b < length links = omega (arith, but.same_len) in
      let f1 : get_or (set heard broker number) b 0 ≡ get_or heard b 0 = get_or-set_other heard broker b number 0 nb in
      let is : link_at links' b ≡ told fanout broker number b (link_at links b) = tells.each b below in
      let was : greatest (get_or heard b 0) (link_at links b) ≤ get_or heard (parent fanout b) 0 = but.others b pos le nb in
      elim (cases_eq (parent fanout b) broker) [
        | inl q ↦
            let f3 : link_at links' b ≡ link_at links b ++ number ∷ [] = is ∙ told_here fanout broker number b (link_at links b) pos q in
            let e : get_or heard (parent fanout b) 0 ≡ get_or heard broker 0 = ap (λ x. get_or heard x 0) q in
            let f4 : get_or (set heard broker number) (parent fanout b) 0 ≡ number = ap (λ x. get_or (set heard broker number) x 0) q ∙ get_or-set_same heard broker number 0 but.within in
            let m : max (greatest (get_or heard b 0) (link_at links b)) number ≤ number = omega (arith, but.higher, was, e) in
            same-under (ap (λ x. greatest x (link_at links' b)) f1 ∙ ap (greatest (get_or heard b 0)) f3 ∙ greatest-push (get_or heard b 0) number (link_at links b)) m f4
        | inr q ↦
            let f2 : get_or (set heard broker number) (parent fanout b) 0 ≡ get_or heard (parent fanout b) 0 = get_or-set_other heard broker (parent fanout b) number 0 q in
            let f3 : link_at links' b ≡ link_at links b = is ∙ told_not fanout broker number b (link_at links b) q in
            same-under (ap (λ x. greatest x (link_at links' b)) f1 ∙ ap (greatest (get_or heard b 0)) f3) was f2
      ]

  pub heard_announced : IsAnnounced fanout (slice_set heard broker number) links'
  heard_announced = record {
    same_len = grind (arith, length-set, but.same_len, tells.same_len);
    under = λ b pos below.
        let le : b < length heard = simp length-set at below in
        let P : ℕ → Type 0 = λ x. greatest (slice_index (slice_set heard broker number) x) (link_at links' x) ≤ slice_index (slice_set heard broker number) (parent fanout x) in
        elim (cases_eq b broker) [
          | inl e ↦ subst P (sym e) (at_broker (subst (λ x. 0 < x) e pos))
          | inr nb ↦ at_other b pos le nb
        ];
  }

-- other links than the one that was written
link-others : {fanout : ℕ} {heard : List ℕ} {links : List (List ℕ)} → IsAnnounced fanout heard links → (broker : ℕ) (link : List ℕ) (b : ℕ) → 0 < b → b < length heard → b ≢ broker → greatest (slice_index heard b) (link_at (set links broker link) b) ≤ slice_index heard (parent fanout b)
link-others {fanout} {heard} {links} ann broker link b pos below ne =
    subst (λ l. greatest (slice_index heard b) l ≤ slice_index heard (parent fanout b)) (sym (get_or-set_other links broker b link [] ne)) (ann.under b pos below)

-- with other numbers on the way to one broker, none of them higher than its parent's
pub relinked : {fanout : ℕ} {heard : List ℕ} {links : List (List ℕ)} → IsAnnounced fanout heard links → (broker : ℕ) (link : List ℕ)
    → (0 < broker → broker < length heard → greatest (slice_index heard broker) (link_at (set links broker link) broker) ≤ slice_index heard (parent fanout broker)) → IsAnnounced fanout heard (set links broker link)
relinked {fanout} {heard} {links} ann broker link here = record {
  same_len = length-set links broker link ∙ ann.same_len;
  under = λ b pos below.
      let P : ℕ → Type 0 = λ x. greatest (slice_index heard x) (link_at (set links broker link) x) ≤ slice_index heard (parent fanout x) in
      elim (cases_eq b broker) [
        | inl e ↦ subst P (sym e) (here (subst (λ x. 0 < x) e pos) (subst (λ x. x < length heard) e below))
        | inr ne ↦ link-others ann broker link b pos below ne
      ];
}

module _ {fanout broker number : ℕ} {heard : List ℕ} {links : List (List ℕ)} {link rest : List ℕ}
    (ann : IsAnnounced fanout heard links) (above : 0 < broker) (within : broker < length heard)
    (read : link ≡ get_or links broker link) (popped : link ≡ number ∷ rest) where
  pub popped-is : link_at links broker ≡ number ∷ rest
  popped-is =
      let below : broker < length links = omega (arith, ann.same_len) in
      get_or_default links broker [] link below ∙ sym read ∙ popped

  pub popped-le : number ≤ slice_index heard (parent fanout broker)
  popped-le =
      let u : greatest (slice_index heard broker) (number ∷ rest) ≤ slice_index heard (parent fanout broker) = subst (λ l. greatest (slice_index heard broker) l ≤ slice_index heard (parent fanout broker)) popped-is (ann.under broker above within) in
      omega (arith, greatest-from (max (slice_index heard broker) number) rest, u)

  pub popped-rest : greatest (max (slice_index heard broker) number) (link_at (set links broker rest) broker) ≤ slice_index heard (parent fanout broker)
  popped-rest =
      let below : broker < length links = omega (arith, ann.same_len) in
      subst (λ l. greatest (max (slice_index heard broker) number) l ≤ slice_index heard (parent fanout broker)) (sym (get_or-set_same links broker rest [] below))
      (subst (λ l. greatest (slice_index heard broker) l ≤ slice_index heard (parent fanout broker)) popped-is (ann.under broker above within))

  pub popped-others : (b : ℕ) → 0 < b → b < length heard → b ≢ broker → greatest (slice_index heard b) (link_at (set links broker rest) b) ≤ slice_index heard (parent fanout b)
  popped-others b pos below ne = link-others ann broker rest b pos below ne

  pub popped-but : slice_index heard broker < number → IsAnnouncedBut broker number fanout heard (set links broker rest)
  popped-but higher = record {
    same_len = length-set links broker rest ∙ ann.same_len;
    within = within;
    higher = higher;
    others = popped-others;
    here = λ _. let m : max (slice_index heard broker) number ≡ number = omega arith in
        subst (λ x. greatest x (link_at (set links broker rest) broker) ≤ slice_index heard (parent fanout broker)) m popped-rest;
  }

  pub popped-kept : number ≤ slice_index heard broker → IsAnnounced fanout heard (set links broker rest)
  popped-kept lower =
      let m : max (slice_index heard broker) number ≡ slice_index heard broker = omega arith in
      relinked ann broker rest (λ _ _. subst (λ x. greatest x (link_at (set links broker rest) broker) ≤ slice_index heard (parent fanout broker)) m popped-rest)

-- no broker has heard more than rank 0
below_fuel : (fuel : ℕ) {fanout : ℕ} {heard : List ℕ} {links : List (List ℕ)} → IsAnnounced fanout heard links → (b : ℕ) → b < fuel → b < length heard → slice_index heard b ≤ slice_index heard 0
below_fuel zero ann b f h = absurd (omega arith)
below_fuel (suc fuel) {fanout} {heard} {links} ann b f h = elim (cases_eq b 0) [
  | inl e ↦ omega (arith, ap (slice_index heard) e)
  | inr ne ↦
      let pos : 0 < b = omega arith in
      let pb : parent fanout b < b = parent-below fanout b pos in
      let up : slice_index heard (parent fanout b) ≤ slice_index heard 0 = below_fuel fuel ann (parent fanout b) (omega arith) (omega arith) in
      omega (arith, greatest-from (slice_index heard b) (link_at links b), ann.under b pos h, up)
]

pub below-newest : {fanout : ℕ} {heard : List ℕ} {links : List (List ℕ)} → IsAnnounced fanout heard links → (b : ℕ) → b < length heard → slice_index heard b ≤ slice_index heard 0
below-newest ann b h = below_fuel (suc b) ann b (omega arith) h

-- a broker's own link isn't one to its children
pub told-own : {fanout broker number : ℕ} {links links' : List (List ℕ)} → AreTold fanout broker number links links' → 0 < broker → broker < length links → link_at links' broker ≡ link_at links broker
told-own {fanout} {broker} {number} {links} {links'} tells pos l =
    let pb : parent fanout broker < broker = parent-below fanout broker pos in
    let ne : parent fanout broker ≢ broker = λ q. omega (arith, q) in
    tells.each broker l ∙ told_not fanout broker number broker (link_at links broker) ne

-- a broker has heard no more than its parent
pub own-below : {fanout broker : ℕ} {heard : List ℕ} {links : List (List ℕ)} → IsAnnounced fanout heard links → 0 < broker → broker < length heard → slice_index heard broker ≤ slice_index heard (parent fanout broker)
own-below {fanout} {broker} {heard} {links} ann above within = omega (arith, greatest-from (slice_index heard broker) (link_at links broker), ann.under broker above within)

-- a link that is read has its length
pub popped-some : {fanout broker : ℕ} {heard : List ℕ} {links : List (List ℕ)} {link : List ℕ} → IsAnnounced fanout heard links → broker < length heard → link ≡ get_or links broker link → 0 < length (link_at links broker) → 0 < length link
popped-some {fanout} {broker} {heard} {links} {link} ann within read some =
    subst (λ l. 0 < length l) (get_or_default links broker [] link (let n = ann.same_len in omega arith) ∙ sym read) some
