-- The commands of the transactions that wait to land.
use Rattle.std.proofs.Common.{◌≡◌, ◌≢◌, ℕ, ◌<◌, List, [], ◌∷◌, ◌++◌, length, Bool, true, false, ◌||◌, ◌⊎◌, Option, Some, None, map, append_assoc, refl, sym, ap, ◌∙◌, subst, get_or, true≢false, inl, inr}
use Rattle.std.specs.Prelude.{IsSome, IsTrue}
use Rattle.std.specs.Option.{is_some, option_map_or}
use Rattle.std.proofs.lemmas.Bool.{cases_eq}
use Rattle.std.specs.List.{list_any, AllByRecursion as Each}
use Rattle.std.proofs.lemmas.Grind.{flat_map-append}
use Rattle.std.proofs.lemmas.List.Elements.{filter_map-append}
use Rattle.kvs_txn.specs.declared.txn.By.{By}
use Rattle.kvs_txn.specs.declared.txn.Group.{Group}
use Rattle.kvs_txn.specs.declared.txn.Op.{Op}
use Rattle.kvs_model.specs.Store.{Name}
use Rattle.kvs_rules.specs.Sequence.{AreDistinct}
use Rattle.kvs_rules.specs.Log.{Log, Moment, same_command}
use Rattle.kvs_rules.specs.Namespaces.{Setting, Asks, Request, is_primary}
use Rattle.kvs_rules.specs.declared.events.KvsAsk.{KvsAsk}
use Rattle.kvs_requests.specs.Rows.{asks_contents, is_about_contents}
use Rattle.kvs_rules.specs.Landings.{AreFresh, IsFreshCommand, IsCommit, IsFence, AreMembers, commands_of, names_of, names_of_group}
use Rattle.kvs_rules.proofs.Asking.{command_is}
use Rattle.kvs_requests.specs.declared.rows.Row.{Row}
use Rattle.kvs_requests.specs.declared.rows.Stage.{Stage}
use Rattle.kvs_requests.specs.declared.rows.Stage.TheVariants as stage
use Rattle.fence_merge.specs.declared.member.Member.{Member}
use Rattle.fence_merge.specs.Fences.{Fences}
use Rattle.fence_merge.specs.Groups.{authors_of, group_of}
use Rattle.fence_merge.specs.Merging.{MergerValue}
use Rattle.kvs_rules.specs.declared.events.KvsAsk.TheVariants as ask
use Rattle.kvs_space.specs.Space.{SpaceValue, is_authored, carries, members_in, queued}
use Rattle.kvs_requests.specs.Stages.{joined_in}
use Rattle.kvs_keys.specs.Agrees.{AreJoining, IsWaiting, SpaceAgrees}
use Rattle.kvs_requests.specs.Agreement.{RowAgrees, RowsAgree, Entrants}
use Rattle.store_laws.specs.Posts.{is_manager, posts_in}
use Rattle.kvs_space.proofs.Posting.{managers-is, with-post, with-user}
use Rattle.kvs_space.proofs.Finding.{eq-is}
use Rattle.kvs_requests.proofs.Later.{IsAside, asked-kept, answered-kept, landed-kept, denied-kept}
use Rattle.kvs_requests.proofs.Tables.{same-self, beside}

pub each-left : {A : Type 0} (P : A → Type 0) (xs ys : List A) → Each P (xs ++ ys) → Each P xs
each-left P [] ys h = tt
each-left P (x ∷ xs) ys h = (h.0, each-left P xs ys h.1)

pub each-right : {A : Type 0} (P : A → Type 0) (xs ys : List A) → Each P (xs ++ ys) → Each P ys
each-right P [] ys h = h
each-right P (x ∷ xs) ys h = each-right P xs ys h.1

pub each-join : {A : Type 0} (P : A → Type 0) (xs ys : List A) → Each P xs → Each P ys → Each P (xs ++ ys)
each-join P [] ys h g = g
each-join P (x ∷ xs) ys h g = (h.0, each-join P xs ys h.1 g)

pub each-map : {A : Type 0} (P Q : A → Type 0) (xs : List A) → Each P xs → ((x : A) → P x → Q x) → Each Q xs
each-map P Q [] h f = tt
each-map P Q (x ∷ xs) h f = (f x h.0, each-map P Q xs h.1 f)

pub each-both : {A : Type 0} (P Q R : A → Type 0) (xs : List A) → Each P xs → Each Q xs → ((x : A) → P x → Q x → R x) → Each R xs
each-both P Q R [] h g f = tt
each-both P Q R (x ∷ xs) h g f = (f x h.0 g.0, each-both P Q R xs h.1 g.1 f)

pub each-all : {A : Type 0} (P : A → Type 0) (xs : List A) → ((x : A) → P x) → Each P xs
each-all P [] f = tt
each-all P (x ∷ xs) f = (f x, each-all P xs f)

each-flip : {A : Type 0} (R : A → A → Type 0) (xs ys : List A) → Each (λ x. Each (λ y. R x y) ys) xs → Each (λ y. Each (λ x. R x y) xs) ys
each-flip R xs [] h = tt
each-flip R xs (y ∷ ys) h = (each-map (λ x. R x y × Each (λ z. R x z) ys) (λ x. R x y) xs h (λ x q. q.0), each-flip R xs ys (each-map (λ x. R x y × Each (λ z. R x z) ys) (λ x. Each (λ z. R x z) ys) xs h (λ x q. q.1)))

pub distinct-left : {A : Type 0} (xs ys : List A) → AreDistinct (xs ++ ys) → AreDistinct xs
distinct-left [] ys h = tt
distinct-left (x ∷ xs) ys h = (each-left (λ y. x ≢ y) xs ys h.0, distinct-left xs ys h.1)

pub distinct-right : {A : Type 0} (xs ys : List A) → AreDistinct (xs ++ ys) → AreDistinct ys
distinct-right [] ys h = h
distinct-right (x ∷ xs) ys h = distinct-right xs ys h.1

distinct-cross : {A : Type 0} (xs ys : List A) → AreDistinct (xs ++ ys) → Each (λ x. Each (λ y. x ≢ y) ys) xs
distinct-cross [] ys h = tt
distinct-cross (x ∷ xs) ys h = (each-right (λ y. x ≢ y) xs ys h.0, distinct-cross xs ys h.1)

commands-named : (bys : List By) → commands_of (map Some bys) ≡ bys
commands-named [] = refl
commands-named (b ∷ bys) = ap (λ xs. b ∷ xs) (commands-named bys)

pub commands-group : (bys : List By) → commands_of (names_of_group bys) ≡ bys
commands-group [] = refl
commands-group (b ∷ bys) = ap (λ xs. b ∷ xs) (commands-named bys)

-- the commands of transactions, in order
abbrev pub waiting : List Group → List By
waiting gs = commands_of (names_of gs)

pub waiting-append : (gs hs : List Group) → waiting (gs ++ hs) ≡ waiting gs ++ waiting hs
waiting-append gs hs = ap commands_of (flat_map-append (λ g. names_of_group g.authors) gs hs) ∙ filter_map-append (λ name. name) (names_of gs) (names_of hs)

pub waiting-cons : (g : Group) (gs : List Group) → waiting (g ∷ gs) ≡ g.authors ++ waiting gs
waiting-cons g gs = filter_map-append (λ name. name) (names_of_group g.authors) (names_of gs) ∙ ap (λ xs. xs ++ waiting gs) (commands-group g.authors)

or-pick : {X : Type 0} (a b : Bool) → (a || b) ≡ true → (a ≡ true → X) → (b ≡ true → X) → X
or-pick true b e f g = f refl
or-pick false b e f g = g e

pub or-one : (a b : Bool) → a ≡ true → (a || b) ≡ true
or-one true b e = refl
or-one false b e = cc

pub or-other : (a b : Bool) → b ≡ true → (a || b) ≡ true
or-other true b e = refl
or-other false b e = e

pub untrue : (b : Bool) → (b ≡ true → ⊥) → b ≡ false
untrue true h = absurd (h refl)
untrue false h = refl

pub among-is : (P : By → Type 0) (by : By) (bys : List By) → list_any (same_command by) bys ≡ true → Each P bys → P by
among-is P by [] e h = cc
among-is P by (b ∷ bys) e h = or-pick (same_command by b) (list_any (same_command by) bys) e (λ t. subst P (sym (command_is by b t)) h.0) (λ t. among-is P by bys t h.1)

pub authored-is : (P : By → Type 0) (by : By) (gs : List Group) → list_any (is_authored by) gs ≡ true → Each P (waiting gs) → P by
authored-is P by [] e h = cc
authored-is P by (g ∷ gs) e h =
    let both : Each P (g.authors ++ waiting gs) = subst (Each P) (waiting-cons g gs) h in
    or-pick (is_authored by g) (list_any (is_authored by) gs) e (λ t. among-is P by g.authors t (each-left P g.authors (waiting gs) both)) (λ t. authored-is P by gs t (each-right P g.authors (waiting gs) both))

pub each-among : (bys : List By) → Each (λ by. list_any (same_command by) bys ≡ true) bys
each-among [] = tt
each-among (b ∷ bys) = (or-one (same_command b b) (list_any (same_command b) bys) (same-self b), each-map (λ by. list_any (same_command by) bys ≡ true) (λ by. list_any (same_command by) (b ∷ bys) ≡ true) bys (each-among bys) (λ by t. or-other (same_command by b) _ t))

pub each-authored : (gs : List Group) → Each (λ by. list_any (is_authored by) gs ≡ true) (waiting gs)
each-authored [] = tt
each-authored (g ∷ gs) =
    subst (Each (λ by. list_any (is_authored by) (g ∷ gs) ≡ true)) (sym (waiting-cons g gs))
    (each-join (λ by. list_any (is_authored by) (g ∷ gs) ≡ true) g.authors (waiting gs)
    (each-map (λ by. list_any (same_command by) g.authors ≡ true) (λ by. list_any (is_authored by) (g ∷ gs) ≡ true) g.authors (each-among g.authors) (λ by t. or-one (is_authored by g) _ t))
    (each-map (λ by. list_any (is_authored by) gs ≡ true) (λ by. list_any (is_authored by) (g ∷ gs) ≡ true) (waiting gs) (each-authored gs) (λ by t. or-other (is_authored by g) _ t)))

-- commands that differ from all of a landing's are in none of its transactions
pub unauthored : (by : By) (gs : List Group) → Each (λ x. x ≢ by) (waiting gs) → list_any (is_authored by) gs ≡ false
unauthored by gs h = untrue (list_any (is_authored by) gs) (λ t. authored-is (λ x. x ≢ by) by gs t h refl)

-- the commands behind a landing are in none of its transactions
pub behind-unauthored : (gs rest : List Group) → AreDistinct (waiting (gs ++ rest)) → Each (λ by. list_any (is_authored by) gs ≡ false) (waiting rest)
behind-unauthored gs rest h =
    each-map (λ by. Each (λ x. x ≢ by) (waiting gs)) (λ by. list_any (is_authored by) gs ≡ false) (waiting rest)
    (each-flip (λ x y. x ≢ y) (waiting gs) (waiting rest) (distinct-cross (waiting gs) (waiting rest) (subst AreDistinct (waiting-append gs rest) h))) (λ by q. unauthored by gs q)

-- what is fresh stays so with a moment that is about none of the commands
pub command-kept : {set₀ : Setting} (log : Log) (m : Moment) (by : By) → IsAside by m → IsFreshCommand set₀ log by → IsFreshCommand set₀ (log ++ m ∷ []) by
command-kept log m by q p = record {
  unanswered = answered-kept log q ∙ p.unanswered;
  unlanded = landed-kept log q ∙ p.unlanded;
  undenied = denied-kept log q ∙ p.undenied;
  asked = λ some. asked-kept log q ∙ p.asked some;
}

pub fresh-kept : {set₀ : Setting} (log : Log) (m : Moment) (bys : List By) → AreFresh set₀ log bys → Each (λ by. IsAside by m) bys → AreFresh set₀ (log ++ m ∷ []) bys
fresh-kept {set₀} log m bys h a = record { differ = h.differ; fresh = each-both (IsFreshCommand set₀ log) (λ by. IsAside by m) (IsFreshCommand set₀ (log ++ m ∷ [])) bys h.fresh a (λ by p q. command-kept log m by q p) }

pub fresh-left : {set₀ : Setting} (log : Log) (gs rest : List Group) → AreFresh set₀ log (waiting (gs ++ rest)) → AreFresh set₀ log (waiting gs)
fresh-left {set₀} log gs rest h = record {
  differ = distinct-left (waiting gs) (waiting rest) (subst AreDistinct (waiting-append gs rest) h.differ);
  fresh = each-left (IsFreshCommand set₀ log) (waiting gs) (waiting rest) (subst (Each (IsFreshCommand set₀ log)) (waiting-append gs rest) h.fresh);
}

pub fresh-right : {set₀ : Setting} (log : Log) (gs rest : List Group) → AreFresh set₀ log (waiting (gs ++ rest)) → AreFresh set₀ log (waiting rest)
fresh-right {set₀} log gs rest h = record {
  differ = distinct-right (waiting gs) (waiting rest) (subst AreDistinct (waiting-append gs rest) h.differ);
  fresh = each-right (IsFreshCommand set₀ log) (waiting gs) (waiting rest) (subst (Each (IsFreshCommand set₀ log)) (waiting-append gs rest) h.fresh);
}

-- a command that waits to land doesn't ask about contents
abbrev pub IsPlain : Setting → By → Type 0
IsPlain set₀ by = asks_contents set₀ by ≡ false

pub plain-asks : (set₀ : Setting) (name : Name) (by : By) (asked : KvsAsk) → Asks set₀ name by asked → is_about_contents asked ≡ false → IsPlain set₀ by
plain-asks set₀ name by asked h e =
    ap (λ (o : Option Request). option_map_or (λ request. is_about_contents request.ask) o false) h.made ∙ ap is_about_contents h.asked ∙ e

plain-none : (set₀ : Setting) (by : By) → set₀.asks by ≡ None → IsPlain set₀ by
plain-none set₀ by e = ap (λ (o : Option Request). option_map_or (λ request. is_about_contents request.ask) o false) e

members-plain : (set₀ : Setting) (name : Name) (fence : List ℕ) (count : ℕ) (bys : List By) (ops : List Op) → AreMembers set₀ name fence count bys ops → Each (IsPlain set₀) bys
members-plain set₀ name fence count [] ops m = tt
members-plain set₀ name fence count (by ∷ bys) ops m = (plain-asks set₀ name by _ m.2 refl, members-plain set₀ name fence count bys m.1 m.4)

group-plain : (set₀ : Setting) (name : Name) (g : Group) → IsWaiting set₀ name g → Each (IsPlain set₀) g.authors
group-plain set₀ name g (inl u) = elim u.1 [
  | inl c ↦ subst (Each (IsPlain set₀)) (sym c.alone) (plain-asks set₀ name c.by _ c.asked refl, tt)
  | inr f ↦ members-plain set₀ name f.name f.count g.authors g.txn.ops f.members
]
group-plain set₀ name g (inr p) = each-map (λ by. set₀.asks by ≡ None) (IsPlain set₀) g.authors p.others (λ by e. plain-none set₀ by e)

groups-plain : (set₀ : Setting) (name : Name) (gs : List Group) → Each (IsWaiting set₀ name) gs → Each (IsPlain set₀) (waiting gs)
groups-plain set₀ name [] h = tt
groups-plain set₀ name (g ∷ gs) h =
    subst (Each (IsPlain set₀)) (sym (waiting-cons g gs)) (each-join (IsPlain set₀) g.authors (waiting gs) (group-plain set₀ name g h.0) (groups-plain set₀ name gs h.1))

-- the commands of users' transactions ask
members-ask : (set₀ : Setting) (name : Name) (fence : List ℕ) (count : ℕ) (bys : List By) (ops : List Op) → AreMembers set₀ name fence count bys ops → Each (λ by. IsSome (set₀.asks by)) bys
members-ask set₀ name fence count [] ops m = tt
members-ask set₀ name fence count (by ∷ bys) ops m = (ap is_some m.2.made, members-ask set₀ name fence count bys m.1 m.4)

kinds-ask : (set₀ : Setting) (name : Name) (g : Group) → IsCommit set₀ name g ⊎ IsFence set₀ name g → Each (λ by. IsSome (set₀.asks by)) g.authors
kinds-ask set₀ name g (inl c) = subst (Each (λ by. IsSome (set₀.asks by))) (sym c.alone) (ap is_some c.asked.made, tt)
kinds-ask set₀ name g (inr f) = members-ask set₀ name f.name f.count g.authors g.txn.ops f.members

-- a command that waits asks, or it is the manager's, in `primary`
abbrev pub AsksOrPosts : Setting → Name → By → Type 0
AsksOrPosts set₀ name by = IsSome (set₀.asks by) ⊎ IsTrue (is_primary name)

pub users-ask : (set₀ : Setting) (name : Name) (gs : List Group) → Each (IsWaiting set₀ name) gs → Each (AsksOrPosts set₀ name) (waiting gs)
users-ask set₀ name [] h = tt
users-ask set₀ name (g ∷ gs) h =
    subst (Each (AsksOrPosts set₀ name)) (sym (waiting-cons g gs)) (each-join (AsksOrPosts set₀ name) g.authors (waiting gs) (kind g h.0) (users-ask set₀ name gs h.1))
  where
    kind : (g : Group) → IsWaiting set₀ name g → Each (AsksOrPosts set₀ name) g.authors
    kind g (inl u) = each-map (λ by. IsSome (set₀.asks by)) (AsksOrPosts set₀ name) g.authors (kinds-ask set₀ name g u.1) (λ by s. inl s)
    kind g (inr p) = each-all (AsksOrPosts set₀ name) g.authors (λ by. inr p.inside)

-- the command that brings a member
abbrev pub bringer : Member → By
bringer m = record { actor = m.actor; command = m.command }

pub solo-waiting : (ms : List Member) → waiting (map (group_of []) ms) ≡ authors_of ms
solo-waiting [] = refl
solo-waiting (m ∷ ms) = waiting-cons (group_of [] m) (map (group_of []) ms) ∙ ap (λ bs. bringer m ∷ bs) (solo-waiting ms)

pub waiting-queued : (m : MergerValue) → waiting (queued m) ≡ waiting m.ready ++ authors_of (members_in m.fences)
waiting-queued m = waiting-append m.ready (map (group_of []) (members_in m.fences)) ∙ ap (λ bs. waiting m.ready ++ bs) (solo-waiting (members_in m.fences))

pub map-append : {X Y : Type 0} (f : X → Y) (xs ys : List X) → map f (xs ++ ys) ≡ map f xs ++ map f ys
map-append f [] ys = refl
map-append f (x ∷ xs) ys = ap (λ zs. f x ∷ zs) (map-append f xs ys)

-- what waits where some of what is ready stands in front
pub queue-split : (fences : Fences) (ready groups rest : List Group) → ready ≡ groups ++ rest → queued (record { fences = fences; ready = ready }) ≡ groups ++ queued (record { fences = fences; ready = rest })
queue-split fences ready groups rest e = ap (λ r. r ++ map (group_of []) (members_in fences)) e ∙ append_assoc groups rest (map (group_of []) (members_in fences))

-- the commands of members of open fences ask
joiners-ask : (set₀ : Setting) (name : Name) (fs : Fences) → Each (AreJoining set₀ name) fs → Each (λ by. IsSome (set₀.asks by)) (authors_of (members_in fs))
joiners-ask set₀ name [] h = tt
joiners-ask set₀ name (f ∷ fs) h =
    subst (Each (λ by. IsSome (set₀.asks by))) (sym (map-append bringer f.1.members (members_in fs)))
    (each-join (λ by. IsSome (set₀.asks by)) (authors_of f.1.members) (authors_of (members_in fs)) (one f.1.members h.0) (joiners-ask set₀ name fs h.1))
  where
    one : (ms : List Member) → Each (λ m. Asks set₀ name (bringer m) (ask.Fence f.0 f.1.count m.txn)) ms → Each (λ by. IsSome (set₀.asks by)) (authors_of ms)
    one [] q = tt
    one (m ∷ ms) q = (ap is_some q.0.made, one ms q.1)

pub queue-asks : (set₀ : Setting) (name : Name) (m : MergerValue) → Each (IsWaiting set₀ name) m.ready → Each (AreJoining set₀ name) m.fences → Each (AsksOrPosts set₀ name) (waiting (queued m))
queue-asks set₀ name m kinds joining =
    subst (Each (AsksOrPosts set₀ name)) (sym (waiting-queued m))
    (each-join (AsksOrPosts set₀ name) (waiting m.ready) (authors_of (members_in m.fences)) (users-ask set₀ name m.ready kinds)
    (each-map (λ by. IsSome (set₀.asks by)) (AsksOrPosts set₀ name) (authors_of (members_in m.fences)) (joiners-ask set₀ name m.fences joining) (λ by s. inl s)))

joiners-plain : (set₀ : Setting) (name : Name) (fs : Fences) → Each (AreJoining set₀ name) fs → Each (IsPlain set₀) (authors_of (members_in fs))
joiners-plain set₀ name [] h = tt
joiners-plain set₀ name (f ∷ fs) h =
    subst (Each (IsPlain set₀)) (sym (map-append bringer f.1.members (members_in fs)))
    (each-join (IsPlain set₀) (authors_of f.1.members) (authors_of (members_in fs)) (one f.1.members h.0) (joiners-plain set₀ name fs h.1))
  where
    one : (ms : List Member) → Each (λ m. Asks set₀ name (bringer m) (ask.Fence f.0 f.1.count m.txn)) ms → Each (IsPlain set₀) (authors_of ms)
    one [] q = tt
    one (m ∷ ms) q = (plain-asks set₀ name (bringer m) _ q.0 refl, one ms q.1)

pub space-plain : {set₀ : Setting} {log : Log} {size : ℕ} {s : SpaceValue} → SpaceAgrees set₀ log size s → Each (IsPlain set₀) (waiting (queued s.merger))
space-plain {set₀} {s = s} a =
    subst (Each (IsPlain set₀)) (sym (waiting-queued s.merger))
    (each-join (IsPlain set₀) (waiting s.merger.ready) (authors_of (members_in s.merger.fences)) (groups-plain set₀ s.name s.merger.ready a.kinds) (joiners-plain set₀ s.name s.merger.fences a.joining))

none-same : (by : By) (bys : List By) → list_any (same_command by) bys ≡ false → Each (λ b. b ≢ by) bys
none-same by [] h = tt
none-same by (b ∷ bys) h = (
  λ e. true≢false (sym (or-one (same_command by b) (list_any (same_command by) bys) (subst (λ x. same_command by x ≡ true) (sym e) (same-self by))) ∙ h),
  none-same by bys (untrue (list_any (same_command by) bys) (λ t. true≢false (sym (or-other (same_command by b) _ t) ∙ h))),
)

-- a command that asks nothing, and for which no transaction of the manager waits, is none of those that wait
pub differ-from : (set₀ : Setting) (name : Name) (by : By) (gs : List Group) → Each (IsWaiting set₀ name) gs → set₀.asks by ≡ None → list_any (is_authored by) (posts_in gs) ≡ false → Each (λ b. b ≢ by) (waiting gs)
differ-from set₀ name by [] h none off = tt
differ-from set₀ name by (g ∷ gs) h none off =
    subst (Each (λ b. b ≢ by)) (sym (waiting-cons g gs)) (each-join (λ b. b ≢ by) g.authors (waiting gs) (one h.0) (differ-from set₀ name by gs h.1 none (rest (is_manager g.txn.author) refl)))
  where
    one : IsWaiting set₀ name g → Each (λ b. b ≢ by) g.authors
    one (inl u) = each-map (λ b. IsSome (set₀.asks b)) (λ b. b ≢ by) g.authors (kinds-ask set₀ name g u.1) (λ b some e. true≢false (sym some ∙ ap (λ x. is_some (set₀.asks x)) e ∙ ap is_some none))
    one (inr p) = none-same by g.authors (untrue (is_authored by g) (λ t. true≢false (sym (or-one (is_authored by g) (list_any (is_authored by) (posts_in gs)) t) ∙ sym (ap (list_any (is_authored by)) (with-post g gs (managers-is g.txn.author p.author))) ∙ off)))

    rest : (b : Bool) → is_manager g.txn.author ≡ b → list_any (is_authored by) (posts_in gs) ≡ false
    rest true m = untrue (list_any (is_authored by) (posts_in gs)) (λ t. true≢false (sym (or-other (is_authored by g) _ t) ∙ sym (ap (list_any (is_authored by)) (with-post g gs m)) ∙ off))
    rest false m = sym (ap (list_any (is_authored by)) (with-user g gs m)) ∙ off

pub queue-differs : (set₀ : Setting) (name : Name) (by : By) (m : MergerValue) → Each (IsWaiting set₀ name) m.ready → Each (AreJoining set₀ name) m.fences → set₀.asks by ≡ None → list_any (is_authored by) (posts_in m.ready) ≡ false → Each (λ b. b ≢ by) (waiting (queued m))
queue-differs set₀ name by m kinds joining none off =
    subst (Each (λ b. b ≢ by)) (sym (waiting-queued m))
    (each-join (λ b. b ≢ by) (waiting m.ready) (authors_of (members_in m.fences)) (differ-from set₀ name by m.ready kinds none off)
    (each-map (λ b. IsSome (set₀.asks b)) (λ b. b ≢ by) (authors_of (members_in m.fences)) (joiners-ask set₀ name m.fences joining) (λ b some e. true≢false (sym some ∙ ap (λ x. is_some (set₀.asks x)) e ∙ ap is_some none))))

-- a request waits to land in one namespace
pub joined-once : (st : Stage) (j k : ℕ) → joined_in j st ≡ true → joined_in k st ≡ true → j ≡ k
joined-once (stage.Joined space work) j k e f = sym (eq-is space j e) ∙ eq-is space k f
joined-once (stage.Rising from to asks) j k e f = cc
joined-once (stage.Arrived asks) j k e f = cc
joined-once (stage.Landed space number work) j k e f = cc
joined-once (stage.Falling from to given) j k e f = cc
joined-once (stage.Ended given) j k e f = cc
joined-once (stage.Returning from to space asked) j k e f = cc
joined-once (stage.Parked space asked) j k e f = cc
joined-once (stage.Held number given) j k e f = cc

-- the row of a command that waits to land
pub record HasJoined (rows : List Row) (k : ℕ) (by : By) : Type 0 where
  pub at : ℕ
  pub within : at < length rows
  pub is : (d : Row) → (get_or rows at d).by ≡ by
  pub joined : (d : Row) → joined_in k (get_or rows at d).stage ≡ true

-- a command that waits asks nothing, being the manager's, or its row has joined
abbrev pub IsAwaited : Setting → List Row → ℕ → By → Type 0
IsAwaited set₀ rows k by = (set₀.asks by ≡ None) ⊎ HasJoined rows k by

asks-or-not : {A : Type 0} (o : Option A) → (o ≡ None) ⊎ IsSome o
asks-or-not None = inl refl
asks-or-not (Some x) = inr refl

module _ {entered : Entrants} {set₀ : Setting} {log : Log} {spaces : List SpaceValue} {rows : List Row} (all : RowsAgree entered set₀ log spaces rows) where
  pub awaited : (k : ℕ) (d : SpaceValue) → k < length spaces → (by : By) → IsPlain set₀ by → IsFreshCommand set₀ log by → carries (get_or spaces k d) by ≡ true → IsAwaited set₀ rows k by
  awaited k d l by plain p c = elim (asks-or-not (set₀.asks by)) [
    | inl none ↦ inl none
    | inr some ↦
        let at = all.open_rows by plain (record { asked = p.asked some; unanswered = p.unanswered }) in
        inr (record { at = at.0; within = at.1; is = at.2; joined = λ r. (all.rows at.0 r at.1).tied k d l ∙ ap (carries (get_or spaces k d)) (at.2 r) ∙ c })
  ]

  -- the commands that wait to land in a namespace have joined it
  pub all-joined : (k : ℕ) (d : SpaceValue) → k < length spaces → AreFresh set₀ log (waiting (queued (get_or spaces k d).merger)) → Each (IsPlain set₀) (waiting (queued (get_or spaces k d).merger)) → Each (IsAwaited set₀ rows k) (waiting (queued (get_or spaces k d).merger))
  all-joined k d l fresh plain =
      each-both (λ by. IsFreshCommand set₀ log by × IsPlain set₀ by) (λ by. list_any (is_authored by) (queued (get_or spaces k d).merger) ≡ true) (IsAwaited set₀ rows k) (waiting (queued (get_or spaces k d).merger))
      (each-both (IsFreshCommand set₀ log) (IsPlain set₀) (λ by. IsFreshCommand set₀ log by × IsPlain set₀ by) (waiting (queued (get_or spaces k d).merger)) fresh.fresh plain (λ by p q. (p, q)))
      (each-authored (queued (get_or spaces k d).merger)) (λ by p c. awaited k d l by p.1 p.0 c)

  -- a command whose row has not joined a namespace waits to land in none
  pub other-commands : (i : ℕ) (row : Row) → i < length rows → row ≡ get_or rows i row → (k : ℕ) → joined_in k row.stage ≡ false → (by : By) → IsAwaited set₀ rows k by → by ≢ row.by
  other-commands i row l read k e by (inl none) same =
      let made = subst (RowAgrees entered set₀ log spaces) (sym read) (all.rows i row l) in
      let m = made.made in
      silent (sym none ∙ ap set₀.asks same ∙ m)
    where
      silent : {A : Type 0} {x : A} → None ≡ Some x → ⊥
      silent e = cc
  other-commands i row l read k e by (inr h) same =
      elim (cases_eq h.at i) [
        | inl q ↦ true≢false (sym (h.joined row) ∙ ap (λ j. joined_in k (get_or rows j row).stage) q ∙ ap (λ r. joined_in k r.stage) (sym read) ∙ e)
        | inr ne ↦ beside all i h.at row l h.within ne (h.is row ∙ same ∙ ap (λ r. r.by) read)
      ]
