-- What the look-up before a put says of it.
use Rattle.std.proofs.Common.{◌≡◌, ℕ, false, List, [], ◌∷◌, ◌++◌, Option, None, Result, Ok, Err, sym, ap, ◌∙◌}
use Rattle.std.specs.Prelude.{◌≢◌, ◌↔◌, IfErr}
use Rattle.std.specs.Option.{option_map_or}
use Rattle.std.specs.Str.{bytes_eq}
use Rattle.std.proofs.lemmas.Slice.Eq.{bytes_eq-Decides}
use Rattle.indexmap.specs.IndexMap.{insert_entry}
use Rattle.indexmap.proofs.MapLemmas.{absent_from_lookup, insert_entry-absent}
use Rattle.fl_digest.specs.declared.BlobRef.{BlobRef}
use Rattle.fl_digest.specs.Reference.{same_reference}
use Rattle.blob_store.specs.declared.PutFault.{PutFault}
use Rattle.blob_store.specs.declared.PutFault.TheVariants.{NoMemory, Clash}
use Rattle.blob_store.specs.Blobs.{blob_at, stored, HasOther, IsClash}

-- a new reference goes last
pub added : (store : List (BlobRef × List ℕ)) (r : BlobRef) (bytes : List ℕ) → blob_at r store ≡ None
    → insert_entry same_reference store r bytes ≡ stored store r bytes
added store r bytes h =
    insert_entry-absent same_reference r bytes store (absent_from_lookup (same_reference r) store h)
    ∙ sym (ap (λ (o : Option (List ℕ)). option_map_or (λ kept. store) o (store ++ (r, bytes) ∷ [])) h)

-- under a new reference nothing clashes
pub none_clashes : (store : List (BlobRef × List ℕ)) (r : BlobRef) (bytes : List ℕ) (result : Result Unit PutFault)
    → blob_at r store ≡ None → IfErr result (λ fault. fault ≡ NoMemory bytes) → IsClash result ↔ HasOther store r bytes
none_clashes store r bytes (Ok done) h memory = (λ clash. absurd clash, λ other. cc (sym h ∙ other.1))
none_clashes store r bytes (Err (NoMemory kept)) h memory = (λ clash. absurd clash, λ other. cc (sym h ∙ other.1))
none_clashes store r bytes (Err (Clash kept)) h memory = (λ clash. cc memory, λ other. tt)

-- bytes that the test finds apart aren't the same
pub apart : (xs ys : List ℕ) → bytes_eq xs ys ≡ false → xs ≢ ys
apart xs ys h same = cc (sym h ∙ (bytes_eq-Decides xs ys).1 same)
