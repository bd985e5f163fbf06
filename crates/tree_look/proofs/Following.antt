-- A walk goes on along the path behind each link.
use Rattle.std.proofs.Common.{◌≡◌, ◌==◌, ℕ, zero, suc, ◌+◌, ◌-◌, ◌<◌, ◌≤◌, true, false, List, [], ◌∷◌, ◌++◌, length, map, take, drop, Option, Some, None, option_map, refl, sym, ap, ◌∙◌, subst, arith, append_assoc, append-nil, length-drop}
use Rattle.std.specs.Prelude.{flat_map}
use Rattle.std.specs.Option.{option_map_or}
use Rattle.std.proofs.lemmas.List.{map-append, drop_all}
use Rattle.fl_digest.specs.declared.BlobRef.{BlobRef}
use Rattle.fl_digest.specs.declared.Hash.{Hash}
use Rattle.kvs_txn.specs.declared.answers.Query.{Query}
use Rattle.kvs_txn.specs.declared.answers.Query.TheVariants as query
use Rattle.kvs_txn.specs.declared.answers.Found.{Found}
use Rattle.kvs_txn.specs.declared.answers.Found.TheVariants as found
use Rattle.kvs_txn.specs.declared.words.Target.{Target}
use Rattle.kvs_model.specs.Store.{Path, Node, Value, Directory, Link, Store, node_at}
use Rattle.kvs_model.specs.Walk.{Stop, stop, at_end, follow, followed, found_in, behind_link, behind_inner_link}
use Rattle.tree_rules.specs.Held.{Table}
use Rattle.kvs_model.specs.OneStore.{own_end, own_next, own_walk}
use Rattle.tree_rules.specs.Needs.{looked_in}
use Rattle.tree_rules.specs.OneStore.{own_found_needs, own_needs, own_passed}
use Rattle.tree_rules.specs.Texts.{stored_at, directory_reference}
use Rattle.tree_objects.specs.Level.{tree_of}
use Rattle.tree_objects.specs.declared.object.Object.{Object}
use Rattle.tree_look.specs.declared.Advance.{Advance}
use Rattle.tree_look.specs.declared.Advance.TheVariants as advance
use Rattle.tree_look.specs.Looks.{AreKnown, PassesAll, Misses, EndTells}
use Rattle.tree_look.specs.Legs.{target_in, leaves_link, leg_needs, StopsAt, EndsAt, GoesFrom, TurnTells}
use Rattle.tree_look.specs.declared.legs.Turn.{Turn}
use Rattle.tree_look.specs.declared.legs.Turn.TheVariants as turn
use Rattle.tree_look.proofs.Stored.{link_target, target_stored}
use Rattle.tree_look.proofs.Passing.{none_known, both_known}

-- ---- the path behind a link

behind_is : (o : Option Node) (rest : Path) → option_map (λ (t : Target). t.path) (behind_link o rest) ≡ option_map (λ (t : Target). t.path ++ rest) (link_target o)
behind_is None rest = refl
behind_is (Some (Value bytes)) rest = refl
behind_is (Some Directory) rest = refl
behind_is (Some (Link target)) rest = refl

inner_is : (o : Option Node) (rest : Path) → 0 < length rest → option_map (λ (t : Target). t.path) (behind_inner_link o rest) ≡ option_map (λ (t : Target). t.path ++ rest) (link_target o)
inner_is o [] h = absurd (omega arith)
inner_is o (x ∷ rest) h = behind_is o (x ∷ rest)

same_of : (n m : ℕ) → (n == m) ≡ true → n ≡ m
same_of n m e = grind arith

less_of : (n m : ℕ) → n ≤ m → (n == m) ≡ false → n < m
less_of n m w e = grind arith

rest_some : (path : Path) (n : ℕ) → n ≤ length path → (n == length path) ≡ false → 0 < length (drop n path)
rest_some path n w e = omega (arith, length-drop n path, less_of n (length path) w e)

rest_none : (path : Path) (n : ℕ) → (n == length path) ≡ true → drop n path ≡ []
rest_none path n e = drop_all n path (omega (arith, same_of n (length path) e))

-- the path behind the link at which a walk stops, where it isn't left
next_is : (st : Store) (asked : Query) (path : Path) (n : ℕ) → stop st path ≡ record { place = take n path; rest = drop n path } → n ≤ length path → leaves_link asked (n == length path) ≡ false
    → own_next asked st path ≡ option_map (λ (t : Target). t.path ++ drop n path) (link_target (node_at st (take n path)))
next_is st query.Get path n s w e = ap (λ (at : Stop). option_map (λ (t : Target). t.path) (behind_link (node_at st at.place) at.rest)) s ∙ behind_is (node_at st (take n path)) (drop n path)
next_is st query.List path n s w e = ap (λ (at : Stop). option_map (λ (t : Target). t.path) (behind_link (node_at st at.place) at.rest)) s ∙ behind_is (node_at st (take n path)) (drop n path)
next_is st query.Link path n s w e = ap (λ (at : Stop). option_map (λ (t : Target). t.path) (behind_inner_link (node_at st at.place) at.rest)) s ∙ inner_is (node_at st (take n path)) (drop n path) (rest_some path n w e)

-- a query for a link leaves one in the last place
next_left : (st : Store) (asked : Query) (path : Path) (n : ℕ) → stop st path ≡ record { place = take n path; rest = drop n path } → leaves_link asked (n == length path) ≡ true → own_next asked st path ≡ None
next_left st query.Get path n s e = absurd (cc)
next_left st query.List path n s e = absurd (cc)
next_left st query.Link path n s e = ap (λ (at : Stop). option_map (λ (t : Target). t.path) (behind_inner_link (node_at st at.place) at.rest)) s ∙ ap (λ (rest : Path). option_map (λ (t : Target). t.path) (behind_inner_link (node_at st (take n path)) rest)) (rest_none path n e)

ends_there : (h : Hash) (st : Store) (path : Path) (n : ℕ) (found : Option Object) → StopsAt h st path n found → n ≤ length path → EndsAt h st path found (n == length path)
ends_there h st path n found stops w = record {
  stands = stops.stands ∙ ap (λ (at : Stop). stored_at h st at.place) (sym stops.ends);
  all = λ e. ap (λ (at : Stop). at.rest) stops.ends ∙ rest_none path n e;
  part = λ e. subst (λ (r : Path). 0 < length r) (sym (ap (λ (at : Stop). at.rest) stops.ends)) (rest_some path n w e);
}

-- a walk that leaves a link goes no further, as one that stops at none
pub goes_left : (h : Hash) (st : Store) (asked : Query) (path : Path) (n : ℕ) (found : Option Object) → StopsAt h st path n found → n ≤ length path → leaves_link asked (n == length path) ≡ true
    → GoesFrom h st asked path (turn.Ends found (n == length path))
goes_left h st asked path n found stops w leaves = (next_left st asked path n stops.ends leaves, ends_there h st path n found stops w)

next_told : (h : Hash) (st : Store) (asked : Query) (path : Path) (n : ℕ) (found : Option Object) (o : Option Target) → StopsAt h st path n found → n ≤ length path → leaves_link asked (n == length path) ≡ false → o ≡ target_in (option_map tree_of found)
    → own_next asked st path ≡ option_map (λ (t : Target). t.path ++ drop n path) o
next_told h st asked path n found o stops w leaves is =
    next_is st asked path n stops.ends w leaves ∙ ap (option_map (λ (t : Target). t.path ++ drop n path)) (sym (is ∙ target_stored h st (take n path) (option_map tree_of found) stops.stands))

pub goes_nowhere : (h : Hash) (st : Store) (asked : Query) (path : Path) (n : ℕ) (found : Option Object) → StopsAt h st path n found → n ≤ length path → leaves_link asked (n == length path) ≡ false → None ≡ target_in (option_map tree_of found)
    → GoesFrom h st asked path (turn.Ends found (n == length path))
goes_nowhere h st asked path n found stops w leaves is = (next_told h st asked path n found None stops w leaves is, ends_there h st path n found stops w)

-- and one that doesn't goes on along the path behind the link
pub goes_on : (h : Hash) (st : Store) (asked : Query) (path : Path) (n : ℕ) (found : Option Object) (target : Target) (next : Path) → StopsAt h st path n found → n ≤ length path → leaves_link asked (n == length path) ≡ false → Some target ≡ target_in (option_map tree_of found)
    → next ≡ target.path ++ drop n path → own_next asked st path ≡ Some next
goes_on h st asked path n found target next stops w leaves is joined = next_told h st asked path n found (Some target) stops w leaves is ∙ ap Some (sym joined)

-- what a walk along a path has passed, and how it goes on
pub turn_tells : (h : Hash) (st : Store) (asked : Query) (path : Path) (texts : Table) (old new : List BlobRef) (told : Turn) → PassesAll texts (leg_needs h st path) old new → GoesFrom h st asked path told → TurnTells h st asked path texts old new told
turn_tells h st asked path texts old new (turn.Needs r) passes goes = absurd goes
turn_tells h st asked path texts old new (turn.Follows next) passes goes = (passes, goes)
turn_tells h st asked path texts old new (turn.Ends found whole) passes goes = (passes, goes)

-- ---- link by link

-- the references that are needed along a path and behind its links, at most so many
abbrev legs_needs : Hash → Store → Query → ℕ → Path → List BlobRef
legs_needs hash st asked n path = map (directory_reference hash st) (flat_map (looked_in st) (followed (own_next asked st) n path))

-- a walk has followed so many links and come to this path, all that it needed before being passed
pub record OnLinks (hash : Hash) (st : Store) (asked : Query) (path : Path) (texts : Table) (old new : List BlobRef) (links : ℕ) (here : Path) : Type 0 where
  pub done : List BlobRef
  pub noted : new ≡ old ++ done
  pub known : AreKnown texts done
  pub all : map (directory_reference hash st) (own_passed st asked path) ≡ done ++ legs_needs hash st asked (10 - links) here
  pub end : own_end st asked path ≡ follow (own_next asked st) (10 - links) here

end_followed : (st : Store) (asked : Query) (path : Path) → own_end st asked path ≡ follow (own_next asked st) 10 path
end_followed st query.Get path = refl
end_followed st query.List path = refl
end_followed st query.Link path = refl

pub links_begin : (h : Hash) (st : Store) (asked : Query) (path : Path) (texts : Table) (old : List BlobRef) → OnLinks h st asked path texts old old 0 path
links_begin h st asked path texts old = record {
  done = [];
  noted = sym (append-nil old);
  known = none_known texts;
  all = refl;
  end = end_followed st asked path;
}

-- what is needed along a path comes before what is needed behind its links
abbrev Behind : Hash → Store → Query → Option Path → ℕ → List BlobRef
Behind hash st asked o n = map (directory_reference hash st) (flat_map (looked_in st) (option_map_or (λ further. followed (own_next asked st) n further) o []))

legs_suc : (h : Hash) (st : Store) (asked : Query) (n : ℕ) (here : Path) (o : Option Path) → own_next asked st here ≡ o → legs_needs h st asked (suc n) here ≡ leg_needs h st here ++ Behind h st asked o n
legs_suc h st asked n here o e =
    ap (λ (p : Option Path). map (directory_reference h st) (looked_in st here ++ flat_map (looked_in st) (option_map_or (λ further. followed (own_next asked st) n further) p []))) e
    ∙ map-append (directory_reference h st) (looked_in st here) (flat_map (looked_in st) (option_map_or (λ further. followed (own_next asked st) n further) o []))

legs_zero : (h : Hash) (st : Store) (asked : Query) (here : Path) → legs_needs h st asked 0 here ≡ leg_needs h st here
legs_zero h st asked here = ap (map (directory_reference h st)) (append-nil (looked_in st here))

legs_none : (h : Hash) (st : Store) (asked : Query) (n : ℕ) (here : Path) → own_next asked st here ≡ None → legs_needs h st asked n here ≡ leg_needs h st here
legs_none h st asked zero here e = legs_zero h st asked here
legs_none h st asked (suc n) here e = legs_suc h st asked n here None e ∙ append-nil (leg_needs h st here)

legs_parts : (h : Hash) (st : Store) (asked : Query) (n : ℕ) (here : Path) → (behind : List BlobRef) × (legs_needs h st asked n here ≡ leg_needs h st here ++ behind)
legs_parts h st asked zero here = ([], legs_zero h st asked here ∙ sym (append-nil (leg_needs h st here)))
legs_parts h st asked (suc n) here = (Behind h st asked (own_next asked st here) n, legs_suc h st asked n here (own_next asked st here) refl)

-- links that are left to follow
one_less : (n : ℕ) → n < 10 → 10 - n ≡ suc (10 - (n + 1))
one_less n w = omega arith

pub links_on : (h : Hash) (st : Store) (asked : Query) (path : Path) (texts : Table) (old new more : List BlobRef) (n : ℕ) (here next : Path) → OnLinks h st asked path texts old new n here → n < 10
    → PassesAll texts (leg_needs h st here) new more → own_next asked st here ≡ Some next → OnLinks h st asked path texts old more (n + 1) next
links_on h st asked path texts old new more n here next on w passes goes = record {
  done = on.done ++ leg_needs h st here;
  noted = passes.passed ∙ ap (λ (rs : List BlobRef). rs ++ leg_needs h st here) on.noted ∙ append_assoc old on.done (leg_needs h st here);
  known = both_known texts on.done (leg_needs h st here) on.known passes.known;
  all = on.all ∙ ap (λ (rs : List BlobRef). on.done ++ rs) (ap (λ k. legs_needs h st asked k here) (one_less n w) ∙ legs_suc h st asked (10 - (n + 1)) here (Some next) goes)
      ∙ sym (append_assoc on.done (leg_needs h st here) (legs_needs h st asked (10 - (n + 1)) next));
  end = on.end ∙ ap (λ k. follow (own_next asked st) k here) (one_less n w) ∙ ap (λ o. at_end here o (λ further. follow (own_next asked st) (10 - (n + 1)) further)) goes;
}

-- the text that is missing along a path is the next one that the walk needs
pub links_miss : (h : Hash) (st : Store) (asked : Query) (path : Path) (texts : Table) (old new more : List BlobRef) (n : ℕ) (here : Path) (r : BlobRef) → OnLinks h st asked path texts old new n here
    → Misses texts (leg_needs h st here) new more r → Misses texts (own_needs h st asked path) old more r
unfolding own_needs
links_miss h st asked path texts old new more n here r on misses =
    let parts = legs_parts h st asked (10 - n) here in
    let last = own_found_needs h st (own_end st asked path) (own_walk st asked path) in
    let rest = misses.behind ++ parts.0 ++ last in
    record {
      before = on.done ++ misses.before;
      behind = rest;
      parts = ap (λ (rs : List BlobRef). rs ++ last) (on.all ∙ ap (λ (rs : List BlobRef). on.done ++ rs) (parts.1 ∙ ap (λ (rs : List BlobRef). rs ++ parts.0) misses.parts))
          ∙ regroup on.done misses.before r misses.behind parts.0 last;
      passed = misses.passed ∙ ap (λ (rs : List BlobRef). rs ++ misses.before) on.noted ∙ append_assoc old on.done misses.before;
      known = both_known texts on.done misses.before on.known misses.known;
      missing = misses.missing;
    }
  where
    regroup : (a b : List BlobRef) (r : BlobRef) (c d e : List BlobRef) → (a ++ ((b ++ r ∷ c) ++ d)) ++ e ≡ (a ++ b) ++ r ∷ (c ++ d ++ e)
    regroup a b r c d e = simp append_assoc

-- where the walk goes no further, what is found there is found, and what that needs is needed last
pub links_end : (h : Hash) (st : Store) (asked : Query) (path : Path) (texts : Table) (old new more last : List BlobRef) (n : ℕ) (here : Path) (told : Advance) → OnLinks h st asked path texts old new n here
    → PassesAll texts (leg_needs h st here) new more → own_next asked st here ≡ None
    → EndTells (found_in st asked here) (own_found_needs h st (Some here) (found_in st asked here)) texts more last told
    → EndTells (own_walk st asked path) (own_needs h st asked path) texts old last told
unfolding own_needs own_walk
links_end h st asked path texts old new more last n here told on passes none ends =
    let end : own_end st asked path ≡ Some here = on.end ∙ end_here (10 - n) in
    let done = on.done ++ leg_needs h st here in
    let all : map (directory_reference h st) (own_passed st asked path) ≡ done = on.all ∙ ap (λ (rs : List BlobRef). on.done ++ rs) (legs_none h st asked (10 - n) here none) in
    let now : more ≡ old ++ done = passes.passed ∙ ap (λ (rs : List BlobRef). rs ++ leg_needs h st here) on.noted ∙ append_assoc old on.done (leg_needs h st here) in
    let known : AreKnown texts done = both_known texts on.done (leg_needs h st here) on.known passes.known in
    subst (λ (o : Option Path). EndTells (option_map_or (found_in st asked) o found.Loop) (map (directory_reference h st) (own_passed st asked path) ++ own_found_needs h st o (option_map_or (found_in st asked) o found.Loop)) texts old last told) (sym end)
    (subst (λ (rs : List BlobRef). EndTells (found_in st asked here) (rs ++ own_found_needs h st (Some here) (found_in st asked here)) texts old last told) (sym all)
    (after_done (found_in st asked here) (own_found_needs h st (Some here) (found_in st asked here)) done told now known ends))
  where
    end_here : (k : ℕ) → follow (own_next asked st) k here ≡ Some here
    end_here zero = ap (λ o. at_end here o (λ _. None)) none
    end_here (suc k) = ap (λ o. at_end here o (λ further. follow (own_next asked st) k further)) none

    after_done : (what : Found) (wanted done : List BlobRef) (told : Advance) → more ≡ old ++ done → AreKnown texts done → EndTells what wanted texts more last told → EndTells what (done ++ wanted) texts old last told
    after_done what wanted done (advance.Done found) now known ends = (
      ends.0,
      record {
        passed = ends.1.passed ∙ ap (λ (rs : List BlobRef). rs ++ wanted) now ∙ append_assoc old done wanted;
        known = both_known texts done wanted known ends.1.known;
      },
    )
    after_done what wanted done (advance.Needs r) now known ends = record {
      before = done ++ ends.before;
      behind = ends.behind;
      parts = ap (λ (rs : List BlobRef). done ++ rs) ends.parts ∙ sym (append_assoc done ends.before (r ∷ ends.behind));
      passed = ends.passed ∙ ap (λ (rs : List BlobRef). rs ++ ends.before) now ∙ append_assoc old done ends.before;
      known = both_known texts done ends.before known ends.known;
      missing = ends.missing;
    }

-- behind the most links nothing more is followed
pub links_out : (h : Hash) (st : Store) (asked : Query) (path : Path) (texts : Table) (old new more : List BlobRef) (n : ℕ) (here next : Path) → OnLinks h st asked path texts old new n here → n ≡ 10
    → PassesAll texts (leg_needs h st here) new more → own_next asked st here ≡ Some next → EndTells (own_walk st asked path) (own_needs h st asked path) texts old more (advance.Done found.Loop)
unfolding own_needs own_walk
links_out h st asked path texts old new more n here next on is passes goes =
    let zero_left : 10 - n ≡ 0 = omega arith in
    let end : own_end st asked path ≡ None = on.end ∙ ap (λ k. follow (own_next asked st) k here) zero_left ∙ ap (λ o. at_end here o (λ _. None)) goes in
    let done = on.done ++ leg_needs h st here in
    let all : map (directory_reference h st) (own_passed st asked path) ≡ done = on.all ∙ ap (λ (rs : List BlobRef). on.done ++ rs) (ap (λ k. legs_needs h st asked k here) zero_left ∙ legs_zero h st asked here) in
    let now : more ≡ old ++ done = passes.passed ∙ ap (λ (rs : List BlobRef). rs ++ leg_needs h st here) on.noted ∙ append_assoc old on.done (leg_needs h st here) in
    let known : AreKnown texts done = both_known texts on.done (leg_needs h st here) on.known passes.known in
    subst (λ (o : Option Path). EndTells (option_map_or (found_in st asked) o found.Loop) (map (directory_reference h st) (own_passed st asked path) ++ own_found_needs h st o (option_map_or (found_in st asked) o found.Loop)) texts old more (advance.Done found.Loop)) (sym end)
    (refl, subst (λ (rs : List BlobRef). PassesAll texts rs old more) (sym (append-nil (map (directory_reference h st) (own_passed st asked path)) ∙ all)) (record { passed = now; known = known }))

-- the walk as it is after so many links, of which one may be too many
pub record IsAfter (hash : Hash) (st : Store) (asked : Query) (path : Path) (texts : Table) (old new : List BlobRef) (links : ℕ) (here : Path) : Type 0 where
  pub on : links ≤ 10 → OnLinks hash st asked path texts old new links here
  pub out : links ≡ 11 → EndTells (own_walk st asked path) (own_needs hash st asked path) texts old new (advance.Done found.Loop)

pub after_none : (h : Hash) (st : Store) (asked : Query) (path : Path) (texts : Table) (old : List BlobRef) (here : Path) → here ≡ path → IsAfter h st asked path texts old old 0 here
after_none h st asked path texts old here same = record {
  on = λ w. subst (λ (q : Path). OnLinks h st asked path texts old old 0 q) (sym same) (links_begin h st asked path texts old);
  out = λ e. absurd (omega arith);
}

pub after_more : (h : Hash) (st : Store) (asked : Query) (path : Path) (texts : Table) (old new more : List BlobRef) (n : ℕ) (here next : Path) → IsAfter h st asked path texts old new n here → n ≤ 10
    → PassesAll texts (leg_needs h st here) new more → own_next asked st here ≡ Some next → IsAfter h st asked path texts old more (n + 1) next
after_more h st asked path texts old new more n here next after w passes goes = record {
  on = λ v. links_on h st asked path texts old new more n here next (after.on w) (omega arith) passes goes;
  out = λ e. links_out h st asked path texts old new more n here next (after.on w) (omega arith) passes goes;
}
