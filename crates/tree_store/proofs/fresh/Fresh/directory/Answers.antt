use Rattle.std.proofs.Common.{rules, ◌≡◌, ◌++◌, ◌∷◌, [], Some, ℕ, List, sym, ap, ◌∙◌, subst}
use Rattle.blob_store.specs.Blobs.{blob_at}
use Rattle.fl_digest.specs.Reference.{reference_of}
use Rattle.tree_rules.specs.Objects.{Entries, dir, tree_text}
use Rattle.tree_store.specs.Fresh.{AddsSome, ClashesIn, IsClashOf, Blobs}
use Rattle.tree_store.specs.Shown.{long_values, entries_text, strings_of}
use Rattle.std.specs.Prelude.{Contains}
use Rattle.std.proofs.lemmas.Result.{on_ok_weaker, IfOk-weaker, IfErr-weaker}
use Rattle.tree_store.specs.declared.faults.TreeFault.{TreeFault}
use Rattle.tree_store.specs.declared.faults.TreeFault.TheVariants.{NoMemory}
use Rattle.tree_store.proofs.Added.{adds_more, adds_of, adds_keep, clashes_of, clash_still, held_still, first_one, behind_one, one_of, text_is}
use Rattle.tree_store.proofs.fresh.Fresh.directory.Goals as goal

pub returns-in_err-shorten-clause-only : goal.returns-in_err-shorten-clause-only
returns-in_err-shorten-clause-only c =
    let es : Entries = c.args.directory.now in
    let h = c.args.hash in
    let store : Blobs = c.args.store.now in
    let behind : (bytes : List ℕ) → Contains (long_values es) bytes → Contains (strings_of h es) bytes = λ bytes d. behind_one (entries_text h es) bytes (long_values es) d in
    adds_of h (long_values es) (strings_of h es) c.args.self.now c.shorten.new.self behind c.shorten.ensures.only

pub returns-in_err-shorten-clause-clash : goal.returns-in_err-shorten-clause-clash
returns-in_err-shorten-clause-clash c =
    let es : Entries = c.args.directory.now in
    let h = c.args.hash in
    let store : Blobs = c.args.store.now in
    let behind : (bytes : List ℕ) → Contains (long_values es) bytes → Contains (strings_of h es) bytes = λ bytes d. behind_one (entries_text h es) bytes (long_values es) d in
    let mine : ClashesIn h (strings_of h es) (store ++ c.shorten.new.self) c.in_err-shorten.field-0.0 = clashes_of h (long_values es) (strings_of h es) (store ++ c.shorten.new.self) c.in_err-shorten.field-0.0 behind c.in_err-shorten.ensures.clash in
    search rules

pub returns-in_err-text-clause-only : goal.returns-in_err-text-clause-only
returns-in_err-text-clause-only c =
    let es : Entries = c.args.directory.now in
    let h = c.args.hash in
    let store : Blobs = c.args.store.now in
    let behind : (bytes : List ℕ) → Contains (long_values es) bytes → Contains (strings_of h es) bytes = λ bytes d. behind_one (entries_text h es) bytes (long_values es) d in
    adds_of h (long_values es) (strings_of h es) c.args.self.now c.shorten.new.self behind c.shorten.ensures.only

pub returns-in_err-text-clause-clash : goal.returns-in_err-text-clause-clash
returns-in_err-text-clause-clash c =
    let es : Entries = c.args.directory.now in
    let h = c.args.hash in
    let store : Blobs = c.args.store.now in
    let behind : (bytes : List ℕ) → Contains (long_values es) bytes → Contains (strings_of h es) bytes = λ bytes d. behind_one (entries_text h es) bytes (long_values es) d in
    let want : (fault : TreeFault) → fault ≡ NoMemory → ClashesIn h (strings_of h es) (store ++ c.shorten.new.self) fault =
    λ fault is. subst (ClashesIn h (strings_of h es) (store ++ c.shorten.new.self)) (sym is) (entries_text h es, first_one (entries_text h es) (long_values es), tt) in
    search (rules, want)

pub returns-clause-reference : goal.returns-clause-reference
returns-clause-reference c =
    let es : Entries = c.args.directory.now in
    let h = c.args.hash in
    let store : Blobs = c.args.store.now in
    let behind : (bytes : List ℕ) → Contains (long_values es) bytes → Contains (strings_of h es) bytes = λ bytes d. behind_one (entries_text h es) bytes (long_values es) d in
    let is : c.from_vec.result ≡ entries_text h es = c.from_vec.ensures ∙ c.in_ok-text.ensures.canonical ∙ ap (λ (xs : Entries). tree_text (dir xs)) c.in_ok-shorten.ensures.shortened ∙ sym (text_is h es) in
    let only : AddsSome h (entries_text h es ∷ []) c.shorten.new.self c.add.new.self = subst (λ (b : List ℕ). AddsSome h (b ∷ []) c.shorten.new.self c.add.new.self) is c.add.ensures.only in
    IfOk-weaker c.add.result (λ r. r ≡ reference_of h c.from_vec.result) (λ r. r ≡ reference_of h (entries_text h es)) (λ r e. e ∙ ap (reference_of h) is) c.add.ensures.reference

pub returns-clause-held : goal.returns-clause-held
returns-clause-held c =
    let es : Entries = c.args.directory.now in
    let h = c.args.hash in
    let store : Blobs = c.args.store.now in
    let behind : (bytes : List ℕ) → Contains (long_values es) bytes → Contains (strings_of h es) bytes = λ bytes d. behind_one (entries_text h es) bytes (long_values es) d in
    let is : c.from_vec.result ≡ entries_text h es = c.from_vec.ensures ∙ c.in_ok-text.ensures.canonical ∙ ap (λ (xs : Entries). tree_text (dir xs)) c.in_ok-shorten.ensures.shortened ∙ sym (text_is h es) in
    let only : AddsSome h (entries_text h es ∷ []) c.shorten.new.self c.add.new.self = subst (λ (b : List ℕ). AddsSome h (b ∷ []) c.shorten.new.self c.add.new.self) is c.add.ensures.only in
    on_ok_weaker c.add.result (λ held. (
      subst (λ (b : List ℕ). blob_at (reference_of h b) (store ++ c.add.new.self) ≡ Some b) is held,
      held_still h (entries_text h es ∷ []) (long_values es) store c.shorten.new.self c.add.new.self only c.in_ok-shorten.ensures.held,
    )) c.add.ensures.held

pub returns-clause-only : goal.returns-clause-only
returns-clause-only c =
    let es : Entries = c.args.directory.now in
    let h = c.args.hash in
    let store : Blobs = c.args.store.now in
    let behind : (bytes : List ℕ) → Contains (long_values es) bytes → Contains (strings_of h es) bytes = λ bytes d. behind_one (entries_text h es) bytes (long_values es) d in
    let is : c.from_vec.result ≡ entries_text h es = c.from_vec.ensures ∙ c.in_ok-text.ensures.canonical ∙ ap (λ (xs : Entries). tree_text (dir xs)) c.in_ok-shorten.ensures.shortened ∙ sym (text_is h es) in
    let only : AddsSome h (entries_text h es ∷ []) c.shorten.new.self c.add.new.self = subst (λ (b : List ℕ). AddsSome h (b ∷ []) c.shorten.new.self c.add.new.self) is c.add.ensures.only in
    adds_more h (strings_of h es) c.args.self.now c.shorten.new.self c.add.new.self (adds_of h (long_values es) (strings_of h es) c.args.self.now c.shorten.new.self behind c.shorten.ensures.only)
    (adds_of h (entries_text h es ∷ []) (strings_of h es) c.shorten.new.self c.add.new.self (λ bytes d. one_of (entries_text h es) (long_values es) bytes d) only)

pub returns-clause-clash : goal.returns-clause-clash
returns-clause-clash c =
    let es : Entries = c.args.directory.now in
    let h = c.args.hash in
    let store : Blobs = c.args.store.now in
    let behind : (bytes : List ℕ) → Contains (long_values es) bytes → Contains (strings_of h es) bytes = λ bytes d. behind_one (entries_text h es) bytes (long_values es) d in
    let is : c.from_vec.result ≡ entries_text h es = c.from_vec.ensures ∙ c.in_ok-text.ensures.canonical ∙ ap (λ (xs : Entries). tree_text (dir xs)) c.in_ok-shorten.ensures.shortened ∙ sym (text_is h es) in
    let only : AddsSome h (entries_text h es ∷ []) c.shorten.new.self c.add.new.self = subst (λ (b : List ℕ). AddsSome h (b ∷ []) c.shorten.new.self c.add.new.self) is c.add.ensures.only in
    IfErr-weaker c.add.result (λ fault. IsClashOf h (store ++ c.shorten.new.self) c.from_vec.result fault) (λ fault. ClashesIn h (strings_of h es) (store ++ c.add.new.self) fault) (λ fault clash. (
      entries_text h es,
      first_one (entries_text h es) (long_values es),
      clash_still h (store ++ c.shorten.new.self) (store ++ c.add.new.self) (entries_text h es) fault (adds_keep h (entries_text h es ∷ []) store c.shorten.new.self c.add.new.self only) (subst (λ (b : List ℕ). IsClashOf h (store ++ c.shorten.new.self) b fault) is clash),
    )) c.add.ensures.clash
