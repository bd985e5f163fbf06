use Rattle.std.proofs.Common.{rules, ◌≡◌, ◌++◌, Some, sym, ap, ◌∙◌, subst}
use Rattle.fl_digest.specs.Reference.{reference_of}
use Rattle.kvs_model.specs.Store.{Path}
use Rattle.tree_rules.specs.Objects.{Entries, dirref}
use Rattle.tree_rules.specs.Texts.{blobs}
use Rattle.tree_store.specs.Fresh.{Blobs}
use Rattle.tree_store.specs.Landing.{table, IsClashIn}
use Rattle.tree_store.specs.Shown.{entries_text, strings_of, Directories, above, with_object}
use Rattle.std.specs.Prelude.{IfSome, ℕ, List, Ok}
use Rattle.blob_store.specs.Blobs.{blob_at}
use Rattle.tree_objects.specs.Reading.{Gives}
use Rattle.tree_objects.specs.declared.object.Object.TheVariants.{Dir}
use Rattle.std.specs.Str.{IsUtf8}
use Rattle.fl_digest.specs.declared.BlobRef.{BlobRef}
use Rattle.tree_store.proofs.Entered.{text_above}
use Rattle.tree_store.proofs.Opening.{some_same}
use Rattle.tree_store.proofs.Turns.{AreLeft}
use Rattle.tree_store.proofs.Added.{clashes_of}
use Rattle.tree_store.proofs.Closed.{last_named, fewer_left, all_within, turn_left, turn_adds, turn_decoded, clash_in}
use Rattle.tree_store.proofs.fresh.Fresh.write.Goals as goal

pub returns-in_err-reference-clause-clash : goal.returns-in_err-reference-clause-clash
returns-in_err-reference-clause-clash c = λ st shows.
    let es : Entries = c.in-Some.directory in
    let h = c.args.hash in
    let store : Blobs = c.args.store.now in
    let left = c.loop-path.invariant.left st shows in
    let front : Directories = c.pop.new.self in
    let within = all_within h store c.loop-path.self c.directory.new.self c.loop-path.opened front c.in-Some.path.items es c.loop-path.root st left c.in-Some.ensures.some c.in-Some.ensures.last c.is_directory.ensures.sorted in
    let adds = turn_adds h store c.loop-path.self c.directory.new.self c.loop-path.opened front c.in-Some.path.items es c.loop-path.root st left c.in-Some.ensures.some c.in-Some.ensures.last c.is_directory.ensures.sorted (c.loop-path.invariant.only st shows) c.directory.ensures.only in
    let mine : IsClashIn h st (table store) c.in_err-reference.field-0.0 =
    clash_in h st store c.directory.new.self c.in_err-reference.field-0.0 (clashes_of h (strings_of h es) (blobs h st) (store ++ c.directory.new.self) c.in_err-reference.field-0.0 within c.in_err-reference.ensures.clash) adds in
    search rules

pub put-requires : goal.put-requires
put-requires c =
    let named = last_named c.args.hash (table (c.args.store.now ++ c.loop-path.self)) c.loop-path.opened c.pop.new.self c.in-Some.path.items c.in-Some.directory c.loop-path.root c.requires.1.0 (c.loop-path.invariant.left c.requires.1.0 c.requires.1.1) c.in-Some.ensures.some in
    subst (λ (p : Path). IfSome (above p) (λ at. IsUtf8 at.1)) (sym c.as_slice.ensures.value) (text_above c.in-Some.path.items named)

pub loop-path-smaller : goal.loop-path-smaller
loop-path-smaller c =
    fewer_left c.loop-path.opened c.pop.new.self c.put.new.self (c.in-Some.path.items, c.in-Some.directory) c.as_slice.result.now (dirref c.in_ok-reference.reference) c.in-Some.ensures.some c.pop.ensures.order c.in_ok-put.ensures

pub loop-path-preserved : goal.loop-path-preserved
loop-path-preserved c = record {
  apart = c.in_ok-reference.ensures.apart;
  left = λ st shows. (
      let es : Entries = c.in-Some.directory in
      let h = c.args.hash in
      let store : Blobs = c.args.store.now in
      let left = c.loop-path.invariant.left st shows in
      let front : Directories = c.pop.new.self in
      let turned = turn_left h store c.loop-path.self c.directory.new.self c.loop-path.opened front c.in-Some.path.items es c.loop-path.root st left c.in-Some.ensures.some c.in-Some.ensures.last c.is_directory.ensures.sorted c.directory.ensures.only c.in_ok-reference.ensures.held in
      let named : reference_of h (entries_text h es) ≡ c.in_ok-reference.reference = sym c.in_ok-reference.ensures.reference in
      let put : with_object front c.in-Some.path.items (dirref c.in_ok-reference.reference) ≡ c.put.new.self = ap (λ (p : Path). with_object front p (dirref c.in_ok-reference.reference)) (sym c.as_slice.ensures.value) ∙ sym c.in_ok-put.ensures in
      subst (λ (d : Directories). AreLeft h (table (store ++ c.directory.new.self)) d (Some c.in_ok-reference.reference) st) put
      (subst (λ (r : BlobRef). AreLeft h (table (store ++ c.directory.new.self)) (with_object front c.in-Some.path.items (dirref r)) (Some r) st) named turned));
  only = λ st shows. (
      let es : Entries = c.in-Some.directory in
      let h = c.args.hash in
      let store : Blobs = c.args.store.now in
      let left = c.loop-path.invariant.left st shows in
      let front : Directories = c.pop.new.self in
      turn_adds h store c.loop-path.self c.directory.new.self c.loop-path.opened front c.in-Some.path.items es c.loop-path.root st left c.in-Some.ensures.some c.in-Some.ensures.last c.is_directory.ensures.sorted (c.loop-path.invariant.only st shows) c.directory.ensures.only);
}

pub keep-requires : goal.keep-requires
keep-requires c = λ text found.
    let es : Entries = c.in-Some.directory in
    let h = c.args.hash in
    let store : Blobs = c.args.store.now in
    let st = c.requires.1.0 in
    let left = c.loop-path.invariant.left st c.requires.1.1 in
    let front : Directories = c.pop.new.self in
    let told = turn_decoded h store c.loop-path.self c.directory.new.self c.loop-path.opened front c.in-Some.path.items es c.loop-path.root st left c.in-Some.ensures.some c.in-Some.ensures.last c.is_directory.ensures.sorted in
    let there : blob_at c.in_ok-reference.reference (store ++ c.directory.new.self) ≡ Some (entries_text h es) = subst (λ (r : BlobRef). blob_at r (store ++ c.directory.new.self) ≡ Some (entries_text h es)) (sym c.in_ok-reference.ensures.reference) c.in_ok-reference.ensures.held.0 in
    let same : text ≡ entries_text h es = some_same text (entries_text h es) (sym found ∙ there) in
    subst (λ (b : List ℕ). Gives b (Ok (Dir c.directory.new.directory))) (sym same)
    (subst (λ (x : Entries). Gives (entries_text h es) (Ok (Dir x))) (sym c.in_ok-reference.ensures.shortened) told)
