use Rattle.std.proofs.Common.{◌≡◌, ◌+◌, ◌<◌, [], ◌∷◌, ◌++◌, Some, None, cond, is_eq, ◌&&◌, map, take, length, sym, ap, ap₂, subst, ◌∙◌, arith}
use Rattle.std.specs.List.{AllByRecursion}
use Rattle.std.specs.Ordering.{nat_cmp}
use Rattle.std.specs.Str.{bytes_eq}
use Rattle.std.specs.Cmp.Lexicographic.{slice_cmp}
use Rattle.std.specs.BTreeMap.{get}
use Rattle.std.proofs.lemmas.List.Sums.{fold_more}
use Rattle.idset.specs.Runs.{printed}
use Rattle.resource_set.specs.Places.{place_of}
use Rattle.resource_set.specs.Writing.{entries_of, with_node, fits_in, written, has_texts, IsWritten}
use Rattle.std.proofs.lemmas.Grind.{common_steps}
use Rattle.resource_set.specs.declared.entries.Group.{Group}
use Rattle.resource_set.proofs.Places.{place_of-inside}
use Rattle.resource_set.proofs.Grouping.{rank_added, group_added, place_alike, written-with_node, places_kept, is_key, group_placed}
use Rattle.resource_set.proofs.printing.groups_of.Goals as goal
use Rattle.resource_set.proofs.printing.groups_of.Goals.{in-Some+in_ok-add_rank-in-Some, in-None+in_ok-insert-in-None+in_ok-group_of-in-None+in_ok-push-in-None}

pub add_rank-requires : goal.add_rank-requires
add_rank-requires c =
    let node = c.node-item.result in
    let groups = c.loop-node.groups.items in
    let its_texts = has_texts (printed node.cores) (printed node.gpus) in
    let at : place_of its_texts groups ≡ Some c.in-Some.place =
    sym (c.in-Some.ensures ∙ c.get.ensures.value ∙ ap (get (slice_cmp (slice_cmp nat_cmp)) c.loop-node.places) c.in_ok-texts.ensures.texts ∙ c.loop-node.invariant.placed (printed node.cores) (printed node.gpus)) in
    place_of-inside its_texts groups c.in-Some.place at

pub loop-node-preserved : goal.loop-node-preserved
loop-node-preserved c =
    let nodes = c.args.nodes.now in
    let i = c.loop-node.node-index in
    let inside : i < length nodes = omega arith in
    let node = c.node-item.result in
    let groups = c.loop-node.groups.items in
    let its_texts = has_texts (printed node.cores) (printed node.gpus) in
    let entries = entries_of (take i nodes) in
    let spelled = c.in_ok-texts.ensures.spelled in
    let before = c.loop-node.invariant in
    let more : entries_of (take (i + 1) nodes) ≡ with_node entries node = fold_more with_node [] nodes i node inside ∙ ap (with_node entries) (sym c.node-item.is) in
    let there = c.get.ensures.value ∙ ap (get (slice_cmp (slice_cmp nat_cmp)) c.loop-node.places) c.in_ok-texts.ensures.texts ∙ before.placed (printed node.cores) (printed node.gpus) in
    let alike : place_of (fits_in node) entries ≡ place_of its_texts groups = sym (place_alike node entries spelled.0 spelled.1 before.spelled) ∙ ap (place_of its_texts) (sym before.grouped) in
    let written_all : AllByRecursion IsWritten (entries_of (take (i + 1) nodes)) = subst (AllByRecursion IsWritten) (sym more) (written-with_node entries node spelled.0 spelled.1 before.spelled) in
    elim c.match-copied.branch [
      | in-Some+in_ok-add_rank-in-Some w ↦
          let at : place_of (fits_in node) entries ≡ Some w.in-Some.place = alike ∙ sym (w.in-Some.ensures ∙ there) in
          let new : c.match-copied.groups.items ≡ map written (with_node entries node) = ap (λ v. v.items) w.groups-is ∙ rank_added entries groups w.add_rank.new.groups.items node w.in-Some.place before.grouped at w.in_ok-add_rank-in-Some.ensures in
          record {
            grouped = new ∙ ap (map written) (sym more);
            placed = λ cores gpus. ap (λ m. get (slice_cmp (slice_cmp nat_cmp)) m (cores ∷ gpus ∷ [])) w.places-is ∙ before.placed cores gpus
                ∙ ap (place_of (has_texts cores gpus)) before.grouped ∙ sym (places_kept cores gpus entries node w.in-Some.place at) ∙ ap (place_of (has_texts cores gpus)) (sym new);
            spelled = written_all;
          }
      | in-None+in_ok-insert-in-None+in_ok-group_of-in-None+in_ok-push-in-None w ↦
          let group = w.in_ok-group_of-in-None.field-0 in
          let none : place_of its_texts groups ≡ None = sym (w.in-None.ensures ∙ there) in
          let pushed : c.match-copied.groups.items ≡ groups ++ group ∷ [] = ap (λ v. v.items) w.groups-is ∙ w.in_ok-push-in-None.ensures.items in
          let new : c.match-copied.groups.items ≡ map written (with_node entries node) = group_added entries groups c.match-copied.groups.items group node before.grouped (alike ∙ none) w.in_ok-group_of-in-None.ensures pushed in
          let len : w.len.result ≡ length groups = grind (arith, common_steps) in
          record {
            grouped = new ∙ ap (map written) (sym more);
            placed = λ cores gpus. ap (λ m. get (slice_cmp (slice_cmp nat_cmp)) m (cores ∷ gpus ∷ [])) w.places-is ∙ w.in_ok-insert-in-None.ensures.updates.0 (cores ∷ gpus ∷ [])
                ∙ ap₂ (λ b o. cond b (Some w.len.result) o) (ap (λ k. is_eq (slice_cmp (slice_cmp nat_cmp) k (cores ∷ gpus ∷ []))) c.in_ok-texts.ensures.texts ∙ is_key (printed node.cores) (printed node.gpus) cores gpus) (before.placed cores gpus)
                ∙ ap (λ n. cond (bytes_eq cores (printed node.cores) && bytes_eq gpus (printed node.gpus)) (Some n) (place_of (has_texts cores gpus) groups)) len
                ∙ group_placed cores gpus (printed node.cores) (printed node.gpus) groups group (ap (λ (g : Group). g.cores) w.in_ok-group_of-in-None.ensures) (ap (λ (g : Group). g.gpus) w.in_ok-group_of-in-None.ensures) none
                ∙ ap (place_of (has_texts cores gpus)) (sym pushed);
            spelled = written_all;
          }
    ]
