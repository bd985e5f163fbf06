-- The texts of entries, of which that of their directory is made.
use Rattle.std.specs.Prelude.{◌≡◌, ℕ, List, [], ◌∷◌, ◌++◌, ⊤}
use Rattle.json.specs.Print.{quoted}
use Rattle.lists.specs.Ascii.{colon}
use Rattle.kvs_model.specs.Store.{Name}
use Rattle.tree_rules.specs.Objects.{Tree, tree_text}
use Rattle.tree_objects.specs.Level.{tree_of}
use Rattle.tree_objects.specs.declared.object.Object.{Object}

-- an entry as it stands in the text of its directory
unfoldable pub entry_text : Name → Tree → List ℕ
entry_text name tree = quoted name ++ colon ∷ tree_text tree

-- the text of an entry, if there is one
abbrev pub IsTextOf : Name → Tree → List ℕ → Type 0
IsTextOf name tree [] = ⊤
IsTextOf name tree (byte ∷ text) = byte ∷ text ≡ entry_text name tree

-- the texts of entries, each at the place of its entry
abbrev pub AreTexts : List Name → List Object → List (List ℕ) → Type 0
AreTexts [] objects [] = ⊤
AreTexts [] objects (text ∷ texts) = ⊥
AreTexts (name ∷ names) objects [] = ⊥
AreTexts (name ∷ names) [] (text ∷ texts) = ⊥
AreTexts (name ∷ names) (object ∷ objects) (text ∷ texts) =
    IsTextOf name (tree_of object) text × AreTexts names objects texts
