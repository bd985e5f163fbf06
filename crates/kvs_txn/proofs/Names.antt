-- Names of namespaces as texts.
use Rattle.std.proofs.Common.{◌≡◌, ℕ, List, [], ◌∷◌, true, arith}
use Rattle.std.specs.List.{list_all}
use Rattle.std.specs.Str.{IsUtf8, IsAscii}
use Rattle.std.proofs.lemmas.Bool.{and_parts}
use Rattle.std.proofs.lemmas.Bool.Decides.{nat_tests}
use Rattle.std.proofs.lemmas.Str.{IsUtf8-from_ascii}
use Rattle.std.proofs.lemmas.Str.Ascii.{IsAscii-nil, IsAscii-cons}
use Rattle.kvs_txn.specs.Names.{is_name, is_name_byte}

bytes_ascii : (name : List ℕ) → list_all is_name_byte name ≡ true → IsAscii name
bytes_ascii [] h = IsAscii-nil
bytes_ascii (b ∷ bs) h =
    let both = and_parts (is_name_byte b) (list_all is_name_byte bs) h in
    IsAscii-cons b bs (grind (arith, nat_tests)) (bytes_ascii bs both.1)

pub name_utf8 : (name : List ℕ) → is_name name ≡ true → IsUtf8 name
name_utf8 name h = IsUtf8-from_ascii name (bytes_ascii name (and_parts _ (list_all is_name_byte name) h).1)
