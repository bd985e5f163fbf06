-- What the summary of a run says.
use Rattle.std.specs.Prelude.{◌≡◌, ℕ, List, [], ◌∷◌, ◌++◌, false, Some, codes, decimal, flat_map, length}
use Rattle.lists.specs.Ascii.{newline}
use Rattle.fl_digest.specs.declared.BlobRef.{BlobRef}
use Rattle.fl_digest.specs.Reference.{reference_text}
use Rattle.kvs_model.specs.Store.{Store}
use Rattle.kvs_rules.specs.Namespaces.{landings, newest_store, primary}
use Rattle.tree_rules.specs.Texts.{root_reference}
use Rattle.answers.specs.declared.chronicle.Entry.{Entry}
use Rattle.answers.specs.Chronicle.{Setup, top}
use Rattle.answers.specs.Legal.{IsLegal}
use Rattle.answers.specs.Services.{log_of, setting_of}
use Rattle.answers.specs.Text.{answers_text}
use Rattle.hierarchy.specs.Births.{is_gone}
use Rattle.hierarchy.specs.Own.{own_of, setup_in}
use Rattle.kvs_rules.specs.Log.{Log}
use Rattle.summaries.specs.Counts.{first_words, row_text, IsTally}

-- how often `primary` landed, and its last root
abbrev pub last_lines : ℕ → BlobRef → List ℕ
last_lines landings root = codes "landings " ++ decimal landings ++ codes "\nroot "
    ++ reference_text root ++ newline ∷ []

-- what the key-value service of the top has seen in a run
abbrev pub top_log : Setup → List Entry → Log
top_log set c = log_of (setup_in set c top).work top (own_of set c top)

-- the top lives, and its own chronicle is legal
pub record IsTopLegal (set : Setup) (c : List Entry) : Type 0 where
  pub lives : is_gone c top ≡ false
  pub legal : IsLegal (setup_in set c top) (own_of set c top)

-- one line for each first word of the answers, in byte order, with how often it occurs; then how
-- often `primary` of the top landed, and the reference of the root of its newest store
pub record IsSummary (set : Setup) (c : List Entry) (text : List ℕ) : Type 0 where
  pub rows : List (List ℕ × ℕ)
  pub tally : IsTally (first_words (answers_text set.work c)) rows
  pub store : Store
  pub newest : newest_store (setting_of set) (top_log set c) primary ≡ Some store
  pub printed : text ≡ flat_map row_text rows ++ last_lines
      (length (landings (top_log set c) primary)) (root_reference set.hash store)
