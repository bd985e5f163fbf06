-- On the tokens of the texts of objects.
use Rattle.std.proofs.Common.{◌≡◌, ℕ, zero, suc, ◌+◌, ◌<◌, ◌≤◌, List, [], ◌∷◌, ◌++◌, length, get_or, drop, map, codes, decimal, refl, sym, ap, ap₂, ◌∙◌, arith, append_assoc, add-one, subst}
use Rattle.std.proofs.Math.Seq.{drop-cons}
use Rattle.std.proofs.lemmas.List.{drop_all, length-map}
use Rattle.std.specs.List.{AllByRecursion}
use Rattle.std.specs.Str.{IsUtf8}
use Rattle.fl_digest.specs.declared.BlobRef.{BlobRef}
use Rattle.fl_digest.specs.Reference.{reference_text}
use Rattle.json.specs.Token.{Token, begin_object, end_object, end_array, key, string, number}
use Rattle.json.specs.Print.{print}
use Rattle.json.specs.Tree.{items_tokens, members_tokens}
use Rattle.serde_json.specs.Data.{Data, object}
use Rattle.serde_json.specs.Data as value
use Rattle.serde_json.specs.View.{items_of}
use Rattle.serde_json.specs.Written.{items_outline, members_outline}
use Rattle.serde_json.proofs.Texts.{print-outline}
use Rattle.kvs_model.specs.Store.{Name}
use Rattle.tree_rules.specs.Objects.{Tree, Entries, listed, entries_of, framed, tree_data, entries_data, tree_text}
use Rattle.tree_objects.specs.Directories.{names_of}
use Rattle.tree_objects.specs.Level.{tree_of, paired}
use Rattle.tree_objects.specs.Reading.{HasTextNames, HaveTextNames}
use Rattle.tree_objects.specs.Tokens.{tokens_of}
use Rattle.tree_objects.specs.declared.object.Object.{Object}

-- what stands before the data of an object, and behind it
abbrev pub front : List Token
front = begin_object ∷ key (codes "data") ∷ []

abbrev pub back : List ℕ → List Token
back kind = key (codes "type") ∷ string kind ∷ key (codes "ver") ∷ number (decimal 1) ∷ end_object ∷ []

pub framed_tokens : (old one two new : List Token) (kind : List ℕ) (content : Data) → one ≡ old ++ front → two ≡ one ++ tokens_of content → new ≡ two ++ back kind → new ≡ old ++ tokens_of (framed kind content)
framed_tokens old one two new kind content a b c =
    c
    ∙ ap (λ l. l ++ back kind) (b ∙ ap (λ l. l ++ tokens_of content) a)
    ∙ append_assoc (old ++ front) (tokens_of content) (back kind)
    ∙ append_assoc old front (tokens_of content ++ back kind)

-- tokens behind tokens
pub added : (old mid new ts us : List Token) → mid ≡ old ++ ts → new ≡ mid ++ us → new ≡ old ++ (ts ++ us)
added old mid new ts us a b = b ∙ ap (λ l. l ++ us) a ∙ append_assoc old ts us

pub added_rest : (old new ts rest more all : List Token) → new ≡ old ++ ts → rest ≡ ts ++ more → old ++ rest ≡ all → new ++ more ≡ all
added_rest old new ts rest more all a b c = ap (λ l. l ++ more) a ∙ append_assoc old ts more ∙ ap (λ l. old ++ l) (sym b) ∙ c

pub added_last : (old new ts rest all : List Token) → new ≡ old ++ ts → rest ≡ ts → old ++ rest ≡ all → new ≡ all
added_last old new ts rest all a b c = a ∙ ap (λ l. old ++ l) (sym b) ∙ c

-- the tokens of references, with the closing bracket
abbrev pub references_rest : List BlobRef → List Token
references_rest rs = items_tokens (items_outline (items_of (map (λ r. value.string (reference_text r)) rs)))

pub references_next : (rs : List BlobRef) (i : ℕ) (r : BlobRef) → i < length rs → r ≡ get_or rs i r → references_rest (drop i rs) ≡ string (reference_text r) ∷ references_rest (drop (i + 1) rs)
references_next rs i r within is = ap references_rest (rest_at rs i r within) ∙ ap (λ x. string (reference_text x) ∷ references_rest (drop (i + 1) rs)) (sym is)
  where
    rest_at : (rs : List BlobRef) (i : ℕ) (d : BlobRef) → i < length rs → drop i rs ≡ get_or rs i d ∷ drop (i + 1) rs
    rest_at rs i d h = rw (add-one, drop-cons rs i d) refl

pub references_end : (rs : List BlobRef) (i : ℕ) → length rs ≤ i → references_rest (drop i rs) ≡ end_array ∷ []
references_end rs i h = ap references_rest (drop_all i rs h)

-- the tokens of members, with the closing bracket
abbrev pub members_rest : List (Name × Tree) → List Token
members_rest es = members_tokens (members_outline (entries_data (entries_of es)))

pub drop_next : (names : List Name) (objects : List Object) → length names ≡ length objects → (i : ℕ) (m : Name) (o : Object) → i < length names → m ≡ get_or names i m → o ≡ get_or objects i o
    → drop i (listed (paired names objects)) ≡ (m, tree_of o) ∷ drop (suc i) (listed (paired names objects))
drop_next [] objects e i m o w is it = absurd (omega arith)
drop_next (n ∷ ns) [] e i m o w is it = absurd (omega arith)
drop_next (n ∷ ns) (p ∷ ps) e zero m o w is it = ap₂ (λ (k : Name) (q : Object). (k, tree_of q) ∷ listed (paired ns ps)) (sym is) (sym it)
drop_next (n ∷ ns) (p ∷ ps) e (suc i) m o w is it = drop_next ns ps (omega arith) i m o (omega arith) is it

pub listed_next : (es : Entries) (names : List Name) (objects : List Object) → names ≡ names_of es → paired (names_of es) objects ≡ es → length objects ≡ length (names_of es) → (i : ℕ) (m : Name) (o : Object) → i < length names → m ≡ get_or names i m → o ≡ get_or objects i o
    → drop i (listed es) ≡ (m, tree_of o) ∷ drop (i + 1) (listed es)
listed_next es names objects named same long i m o w is it =
    let next : drop i (listed (paired (names_of es) objects)) ≡ (m, tree_of o) ∷ drop (suc i) (listed (paired (names_of es) objects)) = drop_next (names_of es) objects (sym long) i m o (subst (λ (ns : List Name). i < length ns) named w) (subst (λ (ns : List Name). m ≡ get_or ns i m) named is) it in
    rw add-one (subst (λ (l : Entries). drop i (listed l) ≡ (m, tree_of o) ∷ drop (suc i) (listed l)) same next)

pub members_next : (rest : List (Name × Tree)) (m : Name) (t : Tree) (more : List (Name × Tree)) → rest ≡ (m, t) ∷ more → members_rest rest ≡ (key m ∷ tokens_of (tree_data t)) ++ members_rest more
members_next rest m t more is = ap members_rest is

pub members_end : (es : Entries) (names : List Name) (i : ℕ) → names ≡ names_of es → length names ≤ i → drop i (listed es) ≡ []
members_end es names i named h = drop_all i (listed es) (omega (arith, h, ap length named, length-map (listed es) (λ (e : Name × Tree). e.0)))

pub names_next : (es : Entries) (rest : List (Name × Tree)) (m : Name) (t : Tree) (more : List (Name × Tree)) → rest ≡ (m, t) ∷ more → (HaveTextNames (entries_of rest) → HaveTextNames es) → IsUtf8 m → HasTextNames t → HaveTextNames (entries_of more) → HaveTextNames es
names_next es rest m t more is h text inner others = h (subst (λ (l : List (Name × Tree)). HaveTextNames (entries_of l)) (sym is) (text, inner, others))

pub names_end : (es : Entries) (rest : List (Name × Tree)) → rest ≡ [] → (HaveTextNames (entries_of rest) → HaveTextNames es) → HaveTextNames es
names_end es rest is h = h (subst (λ (l : List (Name × Tree)). HaveTextNames (entries_of l)) (sym is) tt)

pub text_at : (names : List Name) (i : ℕ) (m : Name) → AllByRecursion IsUtf8 names → i < length names → m ≡ get_or names i m → IsUtf8 m
text_at [] i m h w is = absurd (omega arith)
text_at (n ∷ ns) zero m h w is = subst IsUtf8 (sym is) h.0
text_at (n ∷ ns) (suc i) m h w is = text_at ns i m h.1 (omega arith) is

-- the text of a value's tokens
pub text_of_tokens : (text before : List ℕ) (ts : List Token) (tree : Tree) → text ≡ before ++ print ts → before ≡ [] → ts ≡ tokens_of (tree_data tree) → text ≡ tree_text tree
text_of_tokens text before ts tree is none same = is ∙ ap₂ (λ b l. b ++ print l) none same ∙ print-outline (tree_data tree)
