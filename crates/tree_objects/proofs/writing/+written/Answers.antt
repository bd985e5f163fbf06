use Rattle.std.proofs.Common.{◌≡◌, ◌+◌, ◌<◌, [], ◌∷◌, ◌++◌, List, length, get_or, drop, sym, ap, subst, ◌∙◌, arith, append_assoc, refl, rules, codes}
use Rattle.std.proofs.lemmas.Result.{on_ok_weaker}
use Rattle.base64.specs.Engines.{standard}
use Rattle.base64.specs.GeneralPurpose.{encode_of}
use Rattle.json.specs.Token.{begin_object, end_object, key, string}
use Rattle.serde_json.specs.Data as value
use Rattle.json.specs.Tree.{members_tokens}
use Rattle.serde_json.specs.Written.{members_outline}
use Rattle.kvs_model.specs.Store.{Name}
use Rattle.tree_rules.specs.Objects.{tree_data, target_data, entries_data, listed}
use Rattle.tree_objects.specs.Directories.{names_of, tree_size, entries_size}
use Rattle.tree_objects.specs.Level.{tree_of, paired}
use Rattle.tree_objects.specs.Reading.{HaveTextNames}
use Rattle.tree_objects.specs.Tokens.{tokens_of}
use Rattle.tree_objects.proofs.Pairs.{smaller, entries_of_listed}
use Rattle.tree_objects.proofs.Tokens.{members_rest, members_next, members_end, listed_next, names_next, text_at, framed_tokens, added, added_rest, added_last}
use Rattle.tree_objects.proofs.writing.+written.Goals as goal

pub add_members-add_object-requires : goal.add_members-add_object-requires
add_members-add_object-requires t c =
    let map = c.args.map.now in
    let objects = c.objects-objects.result.now in
    let i = c.loop-index.index in
    let o = c.index-objects-index.result in
    let within : i < length (names_of map) = subst (λ (ns : List Name). i < length ns) c.names-names.ensures c.loop-index-test.true in
    let s : tree_size (tree_of o) < entries_size (paired (names_of map) objects) = smaller (names_of map) objects (sym c.objects-objects.ensures.length) i o within c.index-objects-index.is in
    let e : entries_size (paired (names_of map) objects) ≡ entries_size map = ap entries_size c.objects-objects.ensures.objects in
    (omega arith, tt)

pub add_members-loop-index-preserved : goal.add_members-loop-index-preserved
add_members-loop-index-preserved t c =
    let map = c.args.map.now in
    let i = c.loop-index.index in
    let name = c.index-names-index.result in
    let o = c.index-objects-index.result in
    let more = drop (i + 1) (listed map) in
    let next : drop i (listed map) ≡ (name, tree_of o) ∷ more = listed_next map c.names-names.result.now c.objects-objects.result.now c.names-names.ensures c.objects-objects.ensures.objects c.objects-objects.ensures.length i name o c.loop-index-test.true c.index-names-index.is c.index-objects-index.is in
    let within : i < length (names_of map) = subst (λ (ns : List Name). i < length ns) c.names-names.ensures c.loop-index-test.true in
    let named : name ≡ get_or (names_of map) i name = subst (λ (ns : List Name). name ≡ get_or ns i name) c.names-names.ensures c.index-names-index.is in
    let both = added c.loop-index.out.tokens c.add_name.new.out.tokens c.add_object.new.out.tokens (key name ∷ []) (tokens_of (tree_data (tree_of o))) c.in_ok-add_name.ensures.1 c.in_ok-add_object.ensures.written.1 in
    record {
      before = c.in_ok-add_object.ensures.written.0 ∙ c.in_ok-add_name.ensures.0 ∙ c.loop-index.invariant.before;
      tokens = added_rest c.loop-index.out.tokens c.add_object.new.out.tokens (key name ∷ tokens_of (tree_data (tree_of o))) (members_rest (drop i (listed map))) (members_rest more) (c.begin_object.new.self.tokens ++ members_rest (listed map)) both (members_next (drop i (listed map)) name (tree_of o) more next) c.loop-index.invariant.tokens;
      names = names_next map (drop i (listed map)) name (tree_of o) more next c.loop-index.invariant.names (text_at (names_of map) i name c.is_directory.ensures.texts within named) c.in_ok-add_object.ensures.names;
    }

pub add_members-returns-clause-written : goal.add_members-returns-clause-written
add_members-returns-clause-written t c =
    let map = c.args.map.now in
    let i = c.loop-index.index in
    let end : members_rest (drop i (listed map)) ≡ end_object ∷ [] = ap members_rest (members_end map c.names-names.result.now i c.names-names.ensures c.loop-index-test.false) in
    on_ok_weaker c.end_object.result (λ e. (
      c.end_object.ensures.room.0 ∙ c.loop-index.invariant.before ∙ c.in_ok-begin_object.ensures.room.0,
      added_last c.loop-index.out.tokens c.end_object.new.self.tokens (end_object ∷ []) (members_rest (drop i (listed map))) (c.begin_object.new.self.tokens ++ members_rest (listed map)) e end c.loop-index.invariant.tokens
          ∙ ap (λ l. l ++ members_rest (listed map)) c.in_ok-begin_object.ensures.ok
          ∙ append_assoc c.args.out.now.tokens (begin_object ∷ []) (members_rest (listed map))
          ∙ ap (λ es. c.args.out.now.tokens ++ begin_object ∷ members_tokens (members_outline (entries_data es))) (entries_of_listed map),
    )) c.end_object.ensures.ok

pub add_members-loop-index-init : goal.add_members-loop-index-init
add_members-loop-index-init t c = record { before = refl; tokens = refl; names = λ h. subst HaveTextNames (entries_of_listed c.args.map.now) h }

pub add_object-returns-in_ok-string-in-Val-clause-written : goal.add_object-returns-in_ok-string-in-Val-clause-written
add_object-returns-in_ok-string-in-Val-clause-written t c =
    let letters = encode_of standard c.in-Val.bytes in
    let text : c.as_str.result.now ≡ letters = search rules in
    let two : c.string.new.self.tokens ≡ c.begin.new.out.tokens ++ string letters ∷ [] = c.in_ok-string-in-Val.ensures.ok ∙ ap (λ s. c.begin.new.out.tokens ++ string s ∷ []) text in
    on_ok_weaker c.end.result (λ e. (
      e.0 ∙ c.in_ok-string-in-Val.ensures.room.0 ∙ c.in_ok-begin.ensures.0,
      framed_tokens c.args.out.now.tokens c.begin.new.out.tokens c.string.new.self.tokens c.end.new.out.tokens (codes "val") (value.string letters) c.in_ok-begin.ensures.1 two e.1
          ∙ ap (λ o. c.args.out.now.tokens ++ tokens_of (tree_data (tree_of o))) (sym c.in-Val.is),
    )) c.end.ensures

pub add_object-returns-in_ok-add_target-in-Symlink-clause-written : goal.add_object-returns-in_ok-add_target-in-Symlink-clause-written
add_object-returns-in_ok-add_target-in-Symlink-clause-written t c =
    on_ok_weaker c.end-in-Symlink.result (λ e. (
      e.0 ∙ c.in_ok-add_target-in-Symlink.ensures.0 ∙ c.in_ok-begin.ensures.0,
      framed_tokens c.args.out.now.tokens c.begin.new.out.tokens c.add_target.new.out.tokens c.end-in-Symlink.new.out.tokens (codes "symlink") (target_data c.in-Symlink.target) c.in_ok-begin.ensures.1 c.in_ok-add_target-in-Symlink.ensures.1 e.1
          ∙ ap (λ o. c.args.out.now.tokens ++ tokens_of (tree_data (tree_of o))) (sym c.in-Symlink.is),
    )) c.end-in-Symlink.ensures
