-- What is drawn of a run.
use Rattle.std.proofs.Common.{◌≡◌, ℕ, ◌+◌, ◌<◌, ◌==◌, List, [], ◌∷◌, ◌++◌, Bool, true, false, cond, ◌&&◌, ◌||◌, length, get_or, map, take, take-suc, add-one, drop, Some, None, is_some, refl, sym, ap, ap₂, ◌∙◌, subst, arith, append-nil, append_assoc}
use Rattle.std.specs.Prelude.{IfSome, filter_map, find, flat_map}
use Rattle.std.specs.List.{cons_option}
use Rattle.std.specs.Option.{option_map_or}
use Rattle.std.proofs.lemmas.Bool.{false_from_ne_true, eq-eqb}
use Rattle.std.proofs.lemmas.List.{take-append-drop}
use Rattle.std.proofs.lemmas.List.Concat.{flat_map-cons}
use Rattle.kvs_rules.proofs.Sequences.{each_at, each_parts}
use Rattle.kvs_rules.specs.Sequence.{until}
use Rattle.resource_set.specs.Units.{core_of, gpu_of, units_of, units_of_node}
use Rattle.resource_set.specs.declared.node.Node.{Node}
use Rattle.resource_set.specs.declared.node.Resources.{Resources}
use Rattle.answers.specs.Chronicle.{Setup, top}
use Rattle.answers.specs.declared.chronicle.Entry.{Entry}
use Rattle.answers.specs.declared.chronicle.Entry.TheVariants as entry
use Rattle.instance_rules.specs.Log.{IsInstance}
use Rattle.answers.specs.Jobs.{instance_of, start_of}
use Rattle.hierarchy.specs.Births.{Birth, birth_in, birth_of, births, ends, is_birth_of, is_born, label_of, numbers}
use Rattle.hierarchy.specs.Legal.{IsLegalRun, IsLegalRunEntry}
use Rattle.hierarchy.specs.Own.{brokers_for, child_setup, own_entry, own_of, setup_in, work_for}
use Rattle.hierarchy.specs.Whole.{IsWholeRun}
use Rattle.hierarchy.proofs.Advances.{timely}
use Rattle.hierarchy.specs.Grows.{born_by}
use Rattle.hierarchy.specs.Legal.{AreOwnLegal}
use Rattle.hierarchy.proofs.Numbering.{born_exactly, numbers_count}
use Rattle.hierarchy.proofs.Owning.{alive, birth_kept, births_push, born_kept, setup_kept}
use Rattle.hierarchy.proofs.Sound.{sound_in}
use Rattle.run_picture.specs.Cells.{place_of_host, place_of_unit, places_of}
use Rattle.run_picture.specs.Columns.{AreColumns, AreScenes, IsScene, ends_of}
use Rattle.run_picture.specs.Follows.{Enters, IsBegun, IsFollowed, IsGiven, IsRun, KeepsUp, first_heard, with_column}
use Rattle.run_picture.specs.Rows.{cell_of}
use Rattle.run_picture.specs.Shown.{AddsBorn, IsShownRun, IsSubject, place_of_id, places_of_node}
use Rattle.run_picture.specs.declared.following.Following.{Following}
use Rattle.run_picture.specs.declared.picture.Place.{Place}
use Rattle.run_picture.specs.declared.picture.Rows.{Rows}
use Rattle.run_picture.specs.declared.picture.Rows.TheVariants as rows
use Rattle.run_picture.specs.declared.picture.Scene.{Scene}
use Rattle.run_picture.proofs.Own.{first_keeps}
use Rattle.run_picture.proofs.Run.{birth_new, born_so, shows, with_shown}

-- ---- the rows of a grant

map_joined : {A B : Type 0} (f : A → B) (xs ys : List A) → map f (xs ++ ys) ≡ map f xs ++ map f ys
map_joined f [] ys = refl
map_joined f (x ∷ xs) ys = ap (λ l. f x ∷ l) (map_joined f xs ys)

map_twice : {A B C : Type 0} (f : B → C) (g : A → B) (xs : List A) → map f (map g xs) ≡ map (λ x. f (g x)) xs
map_twice f g [] = refl
map_twice f g (x ∷ xs) = ap (λ l. f (g x) ∷ l) (map_twice f g xs)

pub units_shown : (node : Node) → map place_of_unit (units_of_node node) ≡ map (place_of_id node.host false) node.cores ++ map (place_of_id node.host true) node.gpus
units_shown node =
    map_joined place_of_unit (map (core_of node) node.cores) (map (gpu_of node) node.gpus)
    ∙ ap₂ (λ a b. a ++ b) (map_twice place_of_unit (core_of node) node.cores) (map_twice place_of_unit (gpu_of node) node.gpus)

-- the places of the cores and then those of the GPUs
pub units_added : (r : Rows) (node : Node) (old with_cores new : List Place) (cores gpus : List ℕ) → r ≡ rows.Units → cores ≡ node.cores → gpus ≡ node.gpus
    → with_cores ≡ old ++ map (place_of_id node.host false) cores → new ≡ with_cores ++ map (place_of_id node.host true) gpus → new ≡ old ++ places_of_node r node
units_added r node old with_cores new cores gpus units c g first next =
    next ∙ ap₂ (λ l ids. l ++ map (place_of_id node.host true) ids) (first ∙ ap (λ ids. old ++ map (place_of_id node.host false) ids) c) g
    ∙ append_assoc old (map (place_of_id node.host false) node.cores) (map (place_of_id node.host true) node.gpus)
    ∙ ap (λ l. old ++ l) (sym (units_shown node)) ∙ ap (λ x. old ++ places_of_node x node) (sym units)

pub all_places : (r : Rows) (nodes : List Node) → flat_map (places_of_node r) nodes ≡ places_of r nodes
all_places rows.Hosts [] = refl
all_places rows.Hosts (node ∷ nodes) = flat_map-cons (places_of_node rows.Hosts) node nodes ∙ ap (λ l. place_of_host node ∷ l) (all_places rows.Hosts nodes)
all_places rows.Units [] = refl
all_places rows.Units (node ∷ nodes) =
    flat_map-cons (places_of_node rows.Units) node nodes
    ∙ ap (λ l. map place_of_unit (units_of_node node) ++ l) (all_places rows.Units nodes)
    ∙ sym (ap (map place_of_unit) (flat_map-cons units_of_node node nodes) ∙ map_joined place_of_unit (units_of_node node) (units_of nodes))

-- ---- a run and its parts

pub run_part : (set : Setup) (c past more : List Entry) → c ≡ past ++ more → IsRun set c → IsRun set past
run_part set c past more split run = record {
  legal = (each_parts (IsLegalRunEntry set) [] past more (subst (IsLegalRun set) split run.legal)).0;
  valid = λ i born. subst (λ s. IsInstance (instance_of s)) (ap (λ d. setup_in set d i) split ∙ setup_kept set past more i born)
      (run.valid i (ap (λ d. is_born d i) split ∙ born_kept past more i born));
  timely = run.timely;
}

born_is : (e : Entry) (b : Birth) → birth_in e ≡ Some b → e ≡ born_by b
born_is (entry.Born child parent job label second grant) b is =
    let same : ◌≡◌ {A = Birth} (record { child = child; parent = parent; job = job; label = label; second = second; grant = grant }) b = cc in
    ap born_by same
born_is (entry.Issued actor command) b is = cc
born_is (entry.Landed instance space number authors groups) b is = cc
born_is (entry.Denied instance space authors group refusal) b is = cc
born_is (entry.Heard instance broker space number) b is = cc
born_is (entry.Got instance broker reference) b is = cc
born_is (entry.Dropped instance broker reference) b is = cc
born_is (entry.Replied actor command given number) b is = cc
born_is (entry.Told from to) b is = cc
born_is (entry.Ticked second) b is = cc
born_is (entry.Gone child parent job shut) b is = cc
born_is (entry.Watched actor command number first count) b is = cc
born_is entry.Closed b is = cc

-- a birth tells how many brokers its instance has
module _ (set : Setup) (c past more : List Entry) (e : Entry) (split : c ≡ past ++ e ∷ more) (run : IsRun set c) where
  whole_split : c ≡ (past ++ e ∷ []) ++ more
  whole_split = split ∙ sym (append_assoc past (e ∷ []) more)

  up_to : IsRun set (past ++ e ∷ [])
  up_to = run_part set c (past ++ e ∷ []) more whole_split run

  before : IsRun set past
  before = run_part set c past (e ∷ more) split run

  pub birth_there : (b : Birth) → birth_in e ≡ Some b → birth_of c b.child ≡ Some b
  birth_there b is =
      let follows : IsLegalRunEntry set past (born_by b) = subst (IsLegalRunEntry set past) (born_is e b is) (each_parts (IsLegalRunEntry set) [] past (e ∷ []) up_to.legal).1.0 in
      let next : b.child ≡ length (births past) + 1 = follows.grounds.next in
      let unborn : is_born past b.child ≡ false = false_from_ne_true (is_born past b.child) (λ w.
      let low : b.child < length (numbers past) = (born_exactly set past b.child before.legal).0 w in
      omega (arith, low, next, numbers_count past)) in
      let new : birth_of (past ++ e ∷ []) b.child ≡ Some b = birth_new past b.child e b unborn is (eq-eqb b.child b.child refl) in
      ap (λ d. birth_of d b.child) whole_split ∙ birth_kept (past ++ e ∷ []) more b.child (born_so (past ++ e ∷ []) b.child b new) ∙ new

  pub given_there : (i brokers : ℕ) → brokers ≡ (setup_in set c i).size → IsGiven e i brokers
  given_there i brokers size b is named =
      size ∙ ap (λ o. (option_map_or (child_setup set) o (record set { work = work_for set.work None set.size })).size)
      (ap (birth_of c) (sym named) ∙ birth_there b is)

-- ---- before anything has happened

none_before : (set : Setup) (i : ℕ) → own_of set [] i ≡ []
none_before set i = by (i == top)
  where
    by : (b : Bool) → filter_map (own_entry set.work.actors (label_of [] i) i) (until (ends i) (cond b [] [])) ≡ []
    by true = refl
    by false = refl

none_born : (i : ℕ) → birth_of [] i ≡ None
none_born i = by (i == top)
  where
    by : (b : Bool) → cond b None (find (is_birth_of i) []) ≡ None
    by true = refl
    by false = refl

top_alone : (i : ℕ) → is_born [] i ≡ (i == top)
top_alone i = ap (λ o. (i == top) || is_some o) (none_born i) ∙ or-false (i == top)
  where
    or-false : (b : Bool) → (b || false) ≡ b
    or-false true = refl
    or-false false = refl

-- the top has as many brokers as the run
top_size : (set : Setup) (c : List Entry) (i : ℕ) → (i == top) ≡ true → (setup_in set c i).size ≡ set.size
top_size set c i is = ap (λ b. (option_map_or (child_setup set) (cond b None (find (is_birth_of i) (births c))) (record set { work = work_for set.work None set.size })).size) is

pub begun : (set : Setup) (c : List Entry) (i brokers : ℕ) (places : List Place) (f : Following) → IsRun set [] → start_of set ≡ 0 → brokers ≡ (setup_in set c i).size → IsBegun (i == top) brokers f → IsFollowed set [] i brokers places f
begun set c i brokers places f run start size h = record {
  second = h.second ∙ sym start;
  living = h.living ∙ sym (ap (λ b. b && true) (top_alone i) ∙ and-true (i == top));
  fresh = λ unborn. (h.rows, h.heard);
  keeps = λ living.
      let is : (i == top) ≡ true = sym (ap (λ b. b && true) (top_alone i) ∙ and-true (i == top)) ∙ living in
      let s = setup_in set [] i in
      let same : s.size ≡ brokers = top_size set [] i is ∙ sym (size ∙ top_size set c i is) in
      subst (λ own. KeepsUp s own f.rows.items f.heard.items) (sym (none_before set i))
      (subst (λ rows. KeepsUp s [] rows f.heard.items) (sym h.rows)
      (subst (λ known. KeepsUp s [] [] known) (sym (h.heard ∙ ap first_heard (sym same))) (first_keeps s (run.valid i (alive [] i living).0))));
  drawn = subst (λ o. IfSome o (λ cells. cells ≡ map (cell_of f.rows.items) places)) (sym h.undrawn) tt;
  columns = subst (λ cs. AreColumns set i places [] cs) (sym h.columns) tt;
}
  where
    and-true : (b : Bool) → (b && true) ≡ b
    and-true true = refl
    and-true false = refl

-- ---- one entry further

pub entered : (c : List Entry) (k i brokers : ℕ) (places : List Place) (e : Entry) (old new : Following) → k < length c → e ≡ get_or c k e → Enters i places e old new
    → (set : Setup) → IsShownRun set c → IsSubject set c i brokers → IsFollowed set (take k c) i brokers places old → IsFollowed set (take (k + 1) c) i brokers places new
entered c k i brokers places e old new within is enters set shown subject h =
    let one : take (k + 1) c ≡ take k c ++ e ∷ [] = ap (λ n. take n c) (add-one k) ∙ take-suc c k e within ∙ ap (λ x. take k c ++ x ∷ []) (sym is) in
    let split : c ≡ (take k c ++ e ∷ []) ++ drop (k + 1) c = sym (take-append-drop (k + 1) c) ∙ ap (λ l. l ++ drop (k + 1) c) one in
    let apart : c ≡ take k c ++ e ∷ drop (k + 1) c = split ∙ append_assoc (take k c) (e ∷ []) (drop (k + 1) c) in
    subst (λ past. IsFollowed set past i brokers places new) (sym one)
    (enters set (take k c) brokers (run_part set c (take k c ++ e ∷ []) (drop (k + 1) c) split shown.run)
    (given_there set c (take k c) (drop (k + 1) c) e apart shown.run i brokers subject.size) h)

-- ---- at the end

own_legal : (set : Setup) (c : List Entry) → IsLegalRun set c → IsWholeRun set c → AreOwnLegal set c
own_legal set c l w =
    subst (AreOwnLegal set) (sym w.split)
    ((each_at (IsLegalRunEntry set) (w.earlier ++ w.closings) entry.Closed [] (subst (IsLegalRun set) w.split l)).own refl)

pub ended : (set : Setup) (c : List Entry) (i brokers : ℕ) (places : List Place) (f : Following) → IsShownRun set c → IsFollowed set c i brokers places f → AreColumns set i places (ends_of set c i) (with_column f places).columns
ended set c i brokers places f shown h = with_shown set i brokers places c f h (λ was.
    shows set i brokers places c (shown.run.valid i (alive c i was).0) (own_legal set c shown.run.legal shown.whole i was)
    (sound_in set c shown.run.legal i was (record { valid = shown.run.valid i (alive c i was).0; timely = timely set shown.run.timely c shown.run.legal i was }))
    f was h)

-- ---- the scenes

scenes_push : (set : Setup) (c : List Entry) (r : Rows) (is : List ℕ) (scenes : List Scene) (i : ℕ) (scene : Scene) → AreScenes set c r is scenes → IsScene set c r i scene → AreScenes set c r (is ++ i ∷ []) (scenes ++ scene ∷ [])
scenes_push set c r [] [] i scene h s = (s, tt)
scenes_push set c r (x ∷ xs) (y ∷ ys) i scene h s = (h.0, scenes_push set c r xs ys i scene h.1 s)
scenes_push set c r [] (y ∷ ys) i scene h s = absurd h
scenes_push set c r (x ∷ xs) [] i scene h s = absurd h

numbers_push : (past : List Entry) (e : Entry) → numbers (past ++ e ∷ []) ≡ numbers past ++ map (λ b. b.child) (cons_option (birth_in e) [])
numbers_push past e = ap (λ l. top ∷ l) (ap (map (λ b. b.child)) (births_push past e) ∙ map_joined (λ b. b.child) (births past) (cons_option (birth_in e) []))

-- the entries of the other kinds tell no birth
pub no_birth : (e : Entry) → ((child parent job : ℕ) (label : List ℕ) (second : ℕ) (grant : Resources) → e ≡ entry.Born child parent job label second grant → ⊥) → birth_in e ≡ None
no_birth (entry.Born child parent job label second grant) b = absurd (b child parent job label second grant refl)
no_birth (entry.Issued actor command) b = refl
no_birth (entry.Landed instance space number authors groups) b = refl
no_birth (entry.Denied instance space authors group refusal) b = refl
no_birth (entry.Heard instance broker space number) b = refl
no_birth (entry.Got instance broker reference) b = refl
no_birth (entry.Dropped instance broker reference) b = refl
no_birth (entry.Replied actor command given number) b = refl
no_birth (entry.Told from to) b = refl
no_birth (entry.Ticked second) b = refl
no_birth (entry.Gone child parent job shut) b = refl
no_birth (entry.Watched actor command number first count) b = refl
no_birth entry.Closed b = refl

pub adds_none : (c : List Entry) (r : Rows) (e : Entry) (picture : List Scene) → birth_in e ≡ None → AddsBorn c r e picture picture
adds_none c r e picture none set past more shown split h =
    subst (λ is. AreScenes set c r is picture) (sym (numbers_push past e ∙ ap (λ o. numbers past ++ map (λ b. b.child) (cons_option o [])) none ∙ append-nil (numbers past))) h

-- the scenes of the instances that are born up to an entry
pub born_further : (c : List Entry) (r : Rows) (k : ℕ) (e : Entry) (old new : List Scene) → k < length c → e ≡ get_or c k e → AddsBorn c r e old new
    → (set : Setup) → IsShownRun set c → AreScenes set c r (numbers (take k c)) old → AreScenes set c r (numbers (take (k + 1) c)) new
born_further c r k e old new within is adds set shown h =
    let one : take (k + 1) c ≡ take k c ++ e ∷ [] = ap (λ n. take n c) (add-one k) ∙ take-suc c k e within ∙ ap (λ x. take k c ++ x ∷ []) (sym is) in
    let split : c ≡ take k c ++ e ∷ drop (k + 1) c = sym (take-append-drop (k + 1) c) ∙ ap (λ l. l ++ drop (k + 1) c) one ∙ append_assoc (take k c) (e ∷ []) (drop (k + 1) c) in
    subst (λ past. AreScenes set c r (numbers past) new) (sym one) (adds set (take k c) (drop (k + 1) c) shown split h)

-- the scene of an instance that is born in an entry
pub adds_one : (c : List Entry) (r : Rows) (e : Entry) (b : Birth) (picture : List Scene) (scene : Scene) → birth_in e ≡ Some b
    → ((set : Setup) → IsShownRun set c → IsSubject set c b.child (brokers_for b) → b.grant ≡ (setup_in set c b.child).resources → IsScene set c r b.child scene)
    → AddsBorn c r e picture (picture ++ scene ∷ [])
adds_one c r e b picture scene is drawn set past more shown split h =
    let there : birth_of c b.child ≡ Some b = birth_there set c past more e split shown.run b is in
    let given : setup_in set c b.child ≡ child_setup set b = ap (λ o. option_map_or (child_setup set) o (record set { work = work_for set.work None set.size })) there in
    let one : IsScene set c r b.child scene = drawn set shown (record { born = born_so c b.child b there; size = ap (λ s. s.size) (sym given) }) (ap (λ s. s.resources) (sym given)) in
    subst (λ is. AreScenes set c r is (picture ++ scene ∷ [])) (sym (numbers_push past e ∙ ap (λ o. numbers past ++ map (λ b. b.child) (cons_option o [])) is))
    (scenes_push set c r (numbers past) picture b.child scene h one)
