-- On the tokens of a link's data, and on what its data tell.
use Rattle.std.proofs.Common.{◌≡◌, List, [], ◌∷◌, ◌++◌, Some, None, codes, sym, ap, ◌∙◌, append_assoc}
use Rattle.std.specs.Prelude.{Err}
use Rattle.json.specs.Token.{Token, begin_object, end_object, key, string}
use Rattle.kvs_model.specs.Store.{Name, Path}
use Rattle.kvs_txn.specs.Words.{path_text}
use Rattle.kvs_txn.specs.declared.words.Target.{Target}
use Rattle.serde_json.specs.Data.{Data}
use Rattle.tree_rules.specs.Objects.{target_data}
use Rattle.tree_objects.specs.Reading.{GivesPart, TellsPath, TellsSpace, TellsTarget}
use Rattle.tree_objects.specs.Tokens.{tokens_of}
use Rattle.tree_objects.specs.declared.faults.ObjectFault.{ObjectFault}
use Rattle.tree_objects.proofs.Refused.{part_refused}

abbrev pub path_tokens : Path → List Token
path_tokens path = key (codes "target") ∷ string (path_text path) ∷ end_object ∷ []

pub own_link : (target : Target) (old one new : List Token) → target.namespace ≡ None → one ≡ old ++ begin_object ∷ [] → new ≡ one ++ path_tokens target.path → new ≡ old ++ tokens_of (target_data target)
own_link target old one new none a b =
    b ∙ ap (λ l. l ++ path_tokens target.path) a ∙ append_assoc old (begin_object ∷ []) (path_tokens target.path)
    ∙ ap (λ n. old ++ tokens_of (target_data (record { path = target.path; namespace = n }))) (sym none)

pub named_link : (target : Target) (name : Name) (old one two new : List Token) → target.namespace ≡ Some name → one ≡ old ++ begin_object ∷ [] → two ≡ one ++ key (codes "namespace") ∷ string name ∷ [] → new ≡ two ++ path_tokens target.path
    → new ≡ old ++ tokens_of (target_data target)
named_link target name old one two new some a b c =
    let named : List Token = key (codes "namespace") ∷ string name ∷ [] in
    c
    ∙ ap (λ l. l ++ path_tokens target.path) (b ∙ ap (λ l. l ++ named) a)
    ∙ append_assoc (old ++ begin_object ∷ []) named (path_tokens target.path)
    ∙ append_assoc old (begin_object ∷ []) (named ++ path_tokens target.path)
    ∙ ap (λ n. old ++ tokens_of (target_data (record { path = target.path; namespace = n }))) (sym some)

-- where a part of a link tells nothing, the link doesn't
pub no_space : (d : Data) (fault : ObjectFault) → GivesPart (TellsSpace d) (Err fault) → GivesPart (TellsTarget d) (Err fault)
no_space d fault h = part_refused (TellsSpace d) (TellsTarget d) fault h (λ none target told. none target.namespace told.space)

pub no_path : (d : Data) (fault : ObjectFault) → GivesPart (TellsPath d) (Err fault) → GivesPart (TellsTarget d) (Err fault)
no_path d fault h = part_refused (TellsPath d) (TellsTarget d) fault h (λ none target told. none target.path told.inside)
