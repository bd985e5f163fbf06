use Rattle.std.proofs.Common.{◌≡◌, ◌∙◌, ◌++◌, List, map, flat_map, length, ap, ap₂, sym, subst}
use Rattle.std.proofs.lemmas.List.{length-map}
use Rattle.kvs_txn.specs.declared.txn.Group.{Group}
use Rattle.kvs_rules.specs.Namespaces.{landings, primary}
use Rattle.answers.specs.Chronicle.{Setup, top}
use Rattle.answers.specs.Services.{log_of}
use Rattle.answers.specs.Text.{answers_text}
use Rattle.answers.specs.declared.chronicle.Entry.{Entry}
use Rattle.hierarchy.specs.Own.{own_of, setup_in}
use Rattle.tree_rules.specs.Texts.{root_reference}
use Rattle.summaries.specs.Counts.{first_words, row_text, IsTally}
use Rattle.summaries.specs.Summary.{last_lines, top_log, IsTopLegal}
use Rattle.summaries.proofs.Landed.{landings_in}
use Rattle.summaries.proofs.Owned.{top_landings}
use Rattle.summaries.proofs.Said.{left_at, newest_at, some_left, store_at}
use Rattle.summaries.proofs.summary.Goals as goal

-- the landings that were found are those of the top's own chronicle
found_in : (set : Setup) (c : List Entry) (legal : IsTopLegal set c) (found : List (List Group)) → found ≡ landings (log_of set.work top c) primary → found ≡ landings (top_log set c) primary
found_in set c legal found is = is ∙ sym (landings_in set.work c) ∙ top_landings set c legal.lives

pub root_after-requires : goal.root_after-requires
root_after-requires c =
    let set = c.requires.0 in
    let all = c.args.chronicle.now in
    let legal = c.requires.3 in
    some_left (setup_in set all top) c.requires.1 (own_of set all top) legal.legal c.args.grant.now (map (λ groups. groups.now) c.deref.result.now) c.requires.2
    (found_in set all legal _ (ap (map (λ groups. groups.now)) c.deref.ensures.value ∙ c.in_ok-landings.ensures set.work))

pub returns : goal.returns
returns c = λ set anew grant hash legal answers.
    let all = c.args.chronicle.now in
    let top_set = setup_in set all top in
    let own = own_of set all top in
    let st = store_at top_set anew own legal.legal in
    let found : map (λ groups. groups.now) c.deref.result.now ≡ landings (top_log set all) primary = found_in set all legal _ (ap (map (λ groups. groups.now)) c.deref.ensures.value ∙ c.in_ok-landings.ensures set.work) in
    let words : map (λ w. w.now) c.deref-2.result.now ≡ first_words (answers_text set.work all) = ap (map (λ w. w.now)) c.deref-2.ensures.value ∙ c.in_ok-first_words.ensures ∙ ap first_words answers in
    let many : c.len.result ≡ length c.deref.result.now = cc (c.len.ensures, c.deref.ensures.len) in
    let count : c.len.result ≡ length (landings (top_log set all) primary) = many ∙ sym (length-map c.deref.result.now (λ groups. groups.now)) ∙ ap length found in
    let root : c.in_ok-root.root ≡ root_reference set.hash st = c.in_ok-root.ensures st (left_at top_set anew own legal.legal c.args.grant.now (map (λ groups. groups.now) c.deref.result.now) grant found) ∙ ap (λ h. root_reference h st) (sym hash) in
    record {
      rows = c.in_ok-rows.rows.entries;
      tally = subst (λ ws. IsTally ws c.in_ok-rows.rows.entries) words c.in_ok-rows.ensures;
      store = st;
      newest = newest_at top_set anew own legal.legal;
      printed =
          c.into_vec.ensures
          ∙ c.in_ok-add_last_lines.ensures
          ∙ ap (λ t. t ++ last_lines c.len.result c.in_ok-root.root) (c.in_ok-add_rows.ensures ∙ ap (λ t. t ++ flat_map row_text c.in_ok-rows.rows.entries) c.new-text.ensures)
          ∙ ap₂ (λ n r. flat_map row_text c.in_ok-rows.rows.entries ++ last_lines n r) count root;
    }
