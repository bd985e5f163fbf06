use Rattle.std.proofs.Common.{◌≡◌, ◌+◌, ◌++◌, ◌∷◌, [], drop, false, refl, sym, ap, ◌∙◌, subst, add-one}
use Rattle.std.specs.List.{AllByRecursion}
use Rattle.std.specs.Str.{IsUtf8}
use Rattle.std.proofs.Math.ListN.{length-set}
use Rattle.serde_json.specs.Written.{members_text}
use Rattle.tree_rules.specs.Objects.{Entries, listed, entries_data}
use Rattle.tree_objects.specs.Level.{tree_of, paired}
use Rattle.tree_objects.proofs.Pairs.{names_of_paired, entries_of_listed}
use Rattle.tree_objects.proofs.Tokens.{drop_next, members_end, text_at}
use Rattle.tree_objects.proofs.Texts.{rest_text, text_there, text_put, text_turn, text_ends}
use Rattle.tree_objects.proofs.pieces.add_entries.Goals as goal

pub add_entry-requires-clause-named : goal.add_entry-requires-clause-named
add_entry-requires-clause-named c =
    let names = c.args.names.now in
    let objects = c.args.objects.now in
    let named : AllByRecursion IsUtf8 names = subst (AllByRecursion IsUtf8) (names_of_paired names objects c.requires.same) c.requires.named.texts in
    text_at names c.loop-index.index c.index-names-index.result named c.loop-index-test.true c.index-names-index.is

pub add_entry-requires-clause-text : goal.add_entry-requires-clause-text
add_entry-requires-clause-text c =
    text_there c.args.names.now c.args.objects.now c.loop-index.texts c.loop-index.index c.index-names-index.result c.index-objects-index.result c.index-texts-index.result
    c.loop-index.invariant.texts c.loop-index-test.true c.index-names-index.is c.index-objects-index.is

pub loop-index-init : goal.loop-index-init
loop-index-init c = record { counted = refl; texts = c.requires.texts; added = refl }

pub loop-index-preserved : goal.loop-index-preserved
loop-index-preserved c =
    let names = c.args.names.now in
    let objects = c.args.objects.now in
    let i = c.loop-index.index in
    let n = c.index-names-index.result in
    let o = c.index-objects-index.result in
    let all = listed (paired names objects) in
    let more = drop (i + 1) all in
    let next : drop i all ≡ (n, tree_of o) ∷ more = rw add-one (drop_next names objects c.requires.same i n o c.loop-index-test.true c.index-names-index.is c.index-objects-index.is) in
    record {
      counted = length-set c.loop-index.texts i c.add_entry.new.text ∙ c.loop-index.invariant.counted;
      texts = text_put names objects c.loop-index.texts i n o c.add_entry.new.text c.loop-index.invariant.texts c.loop-index-test.true c.index-names-index.is c.index-objects-index.is c.add_entry.ensures.text;
      added = text_turn c.loop-index.out.items c.add_comma.new.out.items c.add_entry.new.out.items (c.args.out.now.items ++ rest_text false all) c.loop-index.later (drop i all) n (tree_of o) more next c.in_ok-add_comma.ensures c.in_ok-add_entry.ensures.added c.loop-index.invariant.added;
    }

pub returns-in_err-add_entry-clause-texts : goal.returns-in_err-add_entry-clause-texts
returns-in_err-add_entry-clause-texts c =
    text_put c.args.names.now c.args.objects.now c.loop-index.texts c.loop-index.index c.index-names-index.result c.index-objects-index.result c.add_entry.new.text
    c.loop-index.invariant.texts c.loop-index-test.true c.index-names-index.is c.index-objects-index.is c.add_entry.ensures.text

pub returns-clause-added : goal.returns-clause-added
returns-clause-added c =
    let names = c.args.names.now in
    let es = paired names c.args.objects.now in
    let out = c.args.out.now.items in
    let i = c.loop-index.index in
    let none : drop i (listed es) ≡ [] = members_end es names i (sym (names_of_paired names c.args.objects.now c.requires.same)) c.loop-index-test.false in
    text_ends c.loop-index.out.items c.push.new.self.items (out ++ rest_text false (listed es)) c.loop-index.later (drop i (listed es)) none c.in_ok-push.ensures.items c.loop-index.invariant.added
    ∙ ap (λ (l : Entries). out ++ members_text false (entries_data l)) (entries_of_listed es)
