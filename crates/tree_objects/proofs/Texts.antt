-- The texts of entries, of which that of their directory is made.
use Rattle.std.proofs.Common.{◌≡◌, ℕ, zero, suc, ◌<◌, ◌≤◌, Bool, true, false, List, [], ◌∷◌, ◌++◌, length, get_or, codes, refl, sym, ap, ap₂, ◌∙◌, subst, arith, append_assoc, append-nil}
use Rattle.std.specs.Fmt.{digits}
use Rattle.std.specs.List.{insert, remove}
use Rattle.std.proofs.Math.ListN.{set}
use Rattle.json.specs.Token.{Token, string}
use Rattle.json.specs.Print.{escape_byte, quoted, print, print_from}
use Rattle.serde_json.specs.Written.{comma_if, members_text}
use Rattle.kvs_model.specs.Store.{Name}
use Rattle.tree_rules.specs.Objects.{Tree, dir, Entries, entries_of, entries_data, tree_text}
use Rattle.tree_objects.specs.Level.{tree_of}
use Rattle.tree_objects.specs.Pieces.{entry_text, IsTextOf, AreTexts}
use Rattle.tree_objects.specs.declared.object.Object.{Object}

abbrev Texts : Type 0
Texts = List (List ℕ)

-- ---- entries that are put, taken out or added behind

pub none_text : (n : Name) (tree : Tree) (t : List ℕ) → t ≡ [] → IsTextOf n tree t
none_text n tree [] is = tt
none_text n tree (b ∷ t) is = absurd (cc)

pub texts_set : (names : List Name) (objects : List Object) (texts : Texts) (place : ℕ) (o : Object) (t : List ℕ) → t ≡ [] → AreTexts names objects texts → AreTexts names (set objects place o) (set texts place t)
texts_set [] objects [] place o t none h = tt
texts_set [] objects (u ∷ us) place o t none h = absurd h
texts_set (n ∷ ns) [] [] place o t none h = absurd h
texts_set (n ∷ ns) (p ∷ ps) [] place o t none h = absurd h
texts_set (n ∷ ns) [] (u ∷ us) place o t none h = absurd h
texts_set (n ∷ ns) (p ∷ ps) (u ∷ us) zero o t none h = (none_text n (tree_of o) t none, h.1)
texts_set (n ∷ ns) (p ∷ ps) (u ∷ us) (suc place) o t none h = (h.0, texts_set ns ps us place o t none h.1)

pub texts_insert : (names : List Name) (objects : List Object) (texts : Texts) (place : ℕ) (n : Name) (o : Object) (t : List ℕ) → t ≡ [] → place ≤ length names → AreTexts names objects texts
    → AreTexts (insert names place n) (insert objects place o) (insert texts place t)
texts_insert names objects texts zero n o t none w h = (none_text n (tree_of o) t none, h)
texts_insert [] objects texts (suc place) n o t none w h = absurd (omega arith)
texts_insert (k ∷ ks) [] [] (suc place) n o t none w h = absurd h
texts_insert (k ∷ ks) (p ∷ ps) [] (suc place) n o t none w h = absurd h
texts_insert (k ∷ ks) [] (u ∷ us) (suc place) n o t none w h = absurd h
texts_insert (k ∷ ks) (p ∷ ps) (u ∷ us) (suc place) n o t none w h = (h.0, texts_insert ks ps us place n o t none (omega arith) h.1)

pub texts_remove : (names : List Name) (objects : List Object) (texts : Texts) (place : ℕ) → place < length names → AreTexts names objects texts
    → AreTexts (remove names place) (remove objects place) (remove texts place)
texts_remove [] objects texts place w h = absurd (omega arith)
texts_remove (k ∷ ks) [] [] place w h = absurd h
texts_remove (k ∷ ks) (p ∷ ps) [] place w h = absurd h
texts_remove (k ∷ ks) [] (t ∷ ts) place w h = absurd h
texts_remove (k ∷ ks) (p ∷ ps) (t ∷ ts) zero w h = h.1
texts_remove (k ∷ ks) (p ∷ ps) (t ∷ ts) (suc place) w h = (h.0, texts_remove ks ps ts place (omega arith) h.1)

pub texts_last : (names : List Name) (objects : List Object) (texts : Texts) (n : Name) (o : Object) (t : List ℕ) → t ≡ [] → length names ≡ length objects → AreTexts names objects texts
    → AreTexts (names ++ n ∷ []) (objects ++ o ∷ []) (texts ++ t ∷ [])
texts_last [] [] [] n o t none e h = (none_text n (tree_of o) t none, tt)
texts_last [] (p ∷ ps) texts n o t none e h = absurd (omega arith)
texts_last [] [] (u ∷ us) n o t none e h = absurd h
texts_last (k ∷ ks) [] texts n o t none e h = absurd (omega arith)
texts_last (k ∷ ks) (p ∷ ps) [] n o t none e h = absurd h
texts_last (k ∷ ks) (p ∷ ps) (u ∷ us) n o t none e h = (h.0, texts_last ks ps us n o t none (omega arith) h.1)

-- the same of equal lists
pub same_texts : {names names2 : List Name} {objects objects2 : List Object} {texts texts2 : Texts} → names2 ≡ names → objects2 ≡ objects → texts2 ≡ texts → AreTexts names objects texts → AreTexts names2 objects2 texts2
same_texts {names = ns} {names2 = ns2} {objects = os} {objects2 = os2} {texts = ts} {texts2 = ts2} a b c h =
    subst (λ (x : List Name). AreTexts x os2 ts2) (sym a) (subst (λ (x : List Object). AreTexts ns x ts2) (sym b) (subst (AreTexts ns os) (sym c) h))

-- ---- the text at a place

pub texts_count : (names : List Name) (objects : List Object) (texts : Texts) → AreTexts names objects texts → length texts ≡ length names
texts_count [] objects [] h = refl
texts_count [] objects (t ∷ ts) h = absurd h
texts_count (n ∷ ns) [] [] h = absurd h
texts_count (n ∷ ns) (p ∷ ps) [] h = absurd h
texts_count (n ∷ ns) [] (t ∷ ts) h = absurd h
texts_count (n ∷ ns) (p ∷ ps) (t ∷ ts) h = ap suc (texts_count ns ps ts h.1)

pub text_there : (names : List Name) (objects : List Object) (texts : Texts) (i : ℕ) (n : Name) (o : Object) (t : List ℕ) → AreTexts names objects texts
    → i < length names → n ≡ get_or names i n → o ≡ get_or objects i o → IsTextOf n (tree_of o) (get_or texts i t)
text_there [] objects texts i n o t h w a b = absurd (omega arith)
text_there (k ∷ ks) [] [] i n o t h w a b = absurd h
text_there (k ∷ ks) (p ∷ ps) [] i n o t h w a b = absurd h
text_there (k ∷ ks) [] (u ∷ us) i n o t h w a b = absurd h
text_there (k ∷ ks) (p ∷ ps) (u ∷ us) zero n o t h w a b =
    subst (λ (x : Name). IsTextOf x (tree_of o) u) (sym a) (subst (λ (x : Object). IsTextOf k (tree_of x) u) (sym b) h.0)
text_there (k ∷ ks) (p ∷ ps) (u ∷ us) (suc i) n o t h w a b = text_there ks ps us i n o t h.1 (omega arith) a b

pub text_put : (names : List Name) (objects : List Object) (texts : Texts) (i : ℕ) (n : Name) (o : Object) (t : List ℕ) → AreTexts names objects texts
    → i < length names → n ≡ get_or names i n → o ≡ get_or objects i o → IsTextOf n (tree_of o) t → AreTexts names objects (set texts i t)
text_put [] objects texts i n o t h w a b is = absurd (omega arith)
text_put (k ∷ ks) [] [] i n o t h w a b is = absurd h
text_put (k ∷ ks) (p ∷ ps) [] i n o t h w a b is = absurd h
text_put (k ∷ ks) [] (u ∷ us) i n o t h w a b is = absurd h
text_put (k ∷ ks) (p ∷ ps) (u ∷ us) zero n o t h w a b is =
    (subst (λ (x : Name). IsTextOf x (tree_of p) t) a (subst (λ (x : Object). IsTextOf n (tree_of x) t) b is), h.1)
text_put (k ∷ ks) (p ∷ ps) (u ∷ us) (suc i) n o t h w a b is = (h.0, text_put ks ps us i n o t h.1 (omega arith) a b is)

-- ---- the text of the whole

pub is_there : (n : Name) (tree : Tree) (t : List ℕ) → IsTextOf n tree t → 0 < length t → t ≡ entry_text n tree
is_there n tree [] is some = absurd (omega arith)
is_there n tree (b ∷ t) is some = is

pub is_text : (n : Name) (tree : Tree) (t : List ℕ) → t ≡ entry_text n tree → IsTextOf n tree t
is_text n tree [] is = tt
is_text n tree (b ∷ t) is = is

abbrev pub rest_text : Bool → List (Name × Tree) → List ℕ
rest_text later rest = members_text later (entries_data (entries_of rest))

pub text_next : (later : Bool) (rest : List (Name × Tree)) (n : Name) (tree : Tree) (more : List (Name × Tree)) → rest ≡ (n, tree) ∷ more
    → rest_text later rest ≡ comma_if later ++ (entry_text n tree ++ rest_text true more)
unfolding entry_text
text_next later rest n tree more is =
    ap (rest_text later) is ∙ ap (λ (l : List ℕ). comma_if later ++ l) (sym (append_assoc (quoted n) (58 ∷ tree_text tree) (rest_text true more)))

-- one entry more
pub text_turn : (out next last all : List ℕ) (later : Bool) (rest : List (Name × Tree)) (n : Name) (tree : Tree) (more : List (Name × Tree)) → rest ≡ (n, tree) ∷ more → next ≡ out ++ comma_if later → last ≡ next ++ entry_text n tree
    → out ++ rest_text later rest ≡ all → last ++ rest_text true more ≡ all
text_turn out next last all later rest n tree more is comma added whole =
    ap (λ (l : List ℕ). l ++ rest_text true more) (added ∙ ap (λ (l : List ℕ). l ++ entry_text n tree) comma)
    ∙ append_assoc (out ++ comma_if later) (entry_text n tree) (rest_text true more)
    ∙ append_assoc out (comma_if later) (entry_text n tree ++ rest_text true more)
    ∙ ap (λ (l : List ℕ). out ++ l) (sym (text_next later rest n tree more is))
    ∙ whole

-- the bracket behind the last
pub text_ends : (out last all : List ℕ) (later : Bool) (rest : List (Name × Tree)) → rest ≡ [] → last ≡ out ++ 125 ∷ [] → out ++ rest_text later rest ≡ all → last ≡ all
text_ends out last all later rest none added whole = added ∙ ap (λ (r : List (Name × Tree)). out ++ rest_text later r) (sym none) ∙ whole

pub whole_text : (es : Entries) → ((codes "{\"data\":{") ++ members_text false (entries_data es)) ++ codes ",\"type\":\"dir\",\"ver\":1}" ≡ tree_text (dir es)
unfolding escape_byte digits
whole_text es = append_assoc (codes "{\"data\":{") (members_text false (entries_data es)) (codes ",\"type\":\"dir\",\"ver\":1}")

pub directory_whole : (es : Entries) (a b c d : List ℕ) → a ≡ [] → b ≡ a ++ codes "{\"data\":{" → c ≡ b ++ members_text false (entries_data es) → d ≡ c ++ codes ",\"type\":\"dir\",\"ver\":1}" → d ≡ tree_text (dir es)
directory_whole es a b c d none head body tail =
    tail
    ∙ ap (λ (l : List ℕ). l ++ codes ",\"type\":\"dir\",\"ver\":1}") (body ∙ ap (λ (l : List ℕ). l ++ members_text false (entries_data es)) (head ∙ ap (λ (l : List ℕ). l ++ codes "{\"data\":{") none))
    ∙ whole_text es

-- the text of one entry
pub made_text : (name : Name) (tree : Tree) (a b d : List ℕ) → a ≡ quoted name → b ≡ a ++ 58 ∷ [] → d ≡ b ++ tree_text tree → d ≡ entry_text name tree
unfolding entry_text
made_text name tree a b d x y z =
    z
    ∙ ap (λ (l : List ℕ). l ++ tree_text tree) (y ∙ ap (λ (l : List ℕ). l ++ 58 ∷ []) x)
    ∙ append_assoc (quoted name) (58 ∷ []) (tree_text tree)

-- the text of one key, which a writer printed
pub key_text : (name : Name) (text before : List ℕ) (ts : List Token) → text ≡ before ++ print ts → before ≡ [] → ts ≡ string name ∷ [] → text ≡ quoted name
unfolding print_from
key_text name text before ts is none same = is ∙ ap₂ (λ (b : List ℕ) (l : List Token). b ++ print l) none same ∙ append-nil (quoted name)
