-- What clap's walk makes of one word.
use Rattle.std.proofs.Common.{◌≡◌, ◌⊎◌, ◌++◌, ◌&&◌, Bool, true, false, List, [], ◌∷◌, map, Option, Some, None, refl, sym, ap, inl, inr, codes, bytes_eq, true≢false}
use Rattle.clap.specs.Walk.{Held, Row, Rule, Text, Walk, idle, option, settled_rows, used, walked}
use Rattle.clap.specs.Simple.{Shape, is_simple, built, new_shape}
use Rattle.clap.specs.Kinds.{or_else}
use Rattle.clap.specs.Faults.{react_fault, settle_fault, is_simple_and_free, turn_fault}
use Rattle.clap.specs.declared.builder.value_parser.ValueParser.TheVariants as vp
use Rattle.run_options.specs.Command.{flag, run_app, valued}

-- the options with a value
pub data Name : Type 0 where
  by_size : Name
  by_fanout : Name
  by_hash : Name
  by_shuffle : Name
  by_losses : Name
  by_workers : Name

abbrev pub text : Name → Text
text by_size = codes "size"
text by_fanout = codes "fanout"
text by_hash = codes "hash"
text by_shuffle = codes "shuffle"
text by_losses = codes "losses"
text by_workers = codes "workers"

-- all of them, as they stand in the command
abbrev pub all_names : List Name
all_names = by_size ∷ by_fanout ∷ by_hash ∷ by_shuffle ∷ by_losses ∷ by_workers ∷ []

abbrev pub dashed : Name → Text
dashed n = 45 ∷ 45 ∷ text n

-- each has a text of its own
pub same_name : (n m : Name) → bytes_eq (text n) (text m) ≡ true → n ≡ m
same_name by_size by_size e = refl
same_name by_fanout by_fanout e = refl
same_name by_hash by_hash e = refl
same_name by_shuffle by_shuffle e = refl
same_name by_losses by_losses e = refl
same_name by_workers by_workers e = refl
same_name _ _ e = absurd (true≢false (sym e))

-- ---- a test of each

abbrev pub both : Bool → Bool → Bool
both a b = a && b

abbrev pub every : (Name → Bool) → Bool
every p = both (p by_size) (both (p by_fanout) (both (p by_hash) (both (p by_shuffle) (both (p by_losses) (p by_workers)))))

not_first : (a b : Bool) → a ≡ false → both a b ≡ false
not_first a b e = ap (λ x. both x b) e

not_later : (a b : Bool) → b ≡ false → both a b ≡ false
not_later true b e = e
not_later false b e = refl

pub not_every : (p : Name → Bool) (n : Name) → p n ≡ false → every p ≡ false
not_every p by_size e = not_first _ _ e
not_every p by_fanout e = not_later (p by_size) _ (not_first _ _ e)
not_every p by_hash e = not_later (p by_size) _ (not_later (p by_fanout) _ (not_first _ _ e))
not_every p by_shuffle e = not_later (p by_size) _ (not_later (p by_fanout) _ (not_later (p by_hash) _ (not_first _ _ e)))
not_every p by_losses e = not_later (p by_size) _ (not_later (p by_fanout) _ (not_later (p by_hash) _ (not_later (p by_shuffle) _ (not_first _ _ e))))
not_every p by_workers e = not_later (p by_size) _ (not_later (p by_fanout) _ (not_later (p by_hash) _ (not_later (p by_shuffle) _ (not_later (p by_losses) _ e))))

-- one passes, or none
abbrev pub Passes : (Name → Bool) → Type 0
Passes p = ((n : Name) × (p n ≡ true)) ⊎ ((n : Name) → p n ≡ false)

pub passes : (p : Name → Bool) → Passes p
passes p = at by_size (λ size. at by_fanout (λ fanout. at by_hash (λ hash. at by_shuffle (λ shuffle. at by_losses (λ losses. at by_workers (λ workers. inr (none size fanout hash shuffle losses workers)))))))
  where
    at : (n : Name) → (p n ≡ false → Passes p) → Passes p
    at n next = go (p n) refl
      where
        go : (b : Bool) → p n ≡ b → Passes p
        go true e = inl (n, e)
        go false e = next e

    none : p by_size ≡ false → p by_fanout ≡ false → p by_hash ≡ false → p by_shuffle ≡ false → p by_losses ≡ false → p by_workers ≡ false → (n : Name) → p n ≡ false
    none size fanout hash shuffle losses workers by_size = size
    none size fanout hash shuffle losses workers by_fanout = fanout
    none size fanout hash shuffle losses workers by_hash = hash
    none size fanout hash shuffle losses workers by_shuffle = shuffle
    none size fanout hash shuffle losses workers by_losses = losses
    none size fanout hash shuffle losses workers by_workers = workers

-- ---- the options without a value

pub data Flag : Type 0 where
  by_journal : Flag
  by_backfill : Flag

abbrev pub flag_text : Flag → Text
flag_text by_journal = codes "journal"
flag_text by_backfill = codes "backfill"

abbrev pub flag_dashed : Flag → Text
flag_dashed f = 45 ∷ 45 ∷ flag_text f

-- the rules of the command as it is built
abbrev pub rule : Name → Rule
rule n = record (valued (text n)) {
  parser = Some vp.String;
  range = Some (record { start_inclusive = 1; end_inclusive = 1 });
}

abbrev pub flag_rule : Flag → Rule
flag_rule f = record (flag (flag_text f)) {
  defaults = codes "false" ∷ [];
  missing = codes "true" ∷ [];
  parser = Some vp.Bool;
  range = Some (record { start_inclusive = 0; end_inclusive = 0 });
}

abbrev pub flag_rules : List Rule
flag_rules = flag_rule by_journal ∷ flag_rule by_backfill ∷ []

abbrev pub run_rules : List Rule
run_rules = map rule all_names ++ flag_rules

abbrev pub run_shape : Shape
run_shape = record (new_shape (codes "run")) {
  rules = run_rules;
  no_binary_name = true;
  disable_help_flag = true;
  disable_help_subcommand = true;
  is_built = true;
}

pub built_is : built run_app ≡ record { top = run_shape; subs = [] }
unfolding run_app
built_is = refl

pub simple_app : is_simple run_app ≡ true
unfolding run_app
simple_app = refl

pub free_app : is_simple_and_free run_app ≡ true
unfolding run_app
free_app = refl

-- between two words
abbrev pub holding : List Row → Option (Text × List Text) → Held
holding rows p = record { rows = rows; pending = p; skip = 0 }

abbrev pub at : List Row → Option (Text × List Text) → Walk
at rows p = record { held = holding rows p; waiting = idle; position = 1; is_trailing = false; stopped = None }

abbrev pub waits : Name → List Row → Walk
waits n rows = record (at rows (Some (text n, []))) { waiting = option (text n) }

pub whole_turn : (n : Name) (v : Text) (rows : List Row) (p : Option (Text × List Text))
    → turn_fault run_shape [] (at rows p) (dashed n ++ 61 ∷ v) ≡ or_else (react_fault run_rules false (rule n) (v ∷ []) (holding rows p)) []
whole_turn by_size v rows p = refl
whole_turn _ v rows p = refl

pub whole_walk : (n : Name) (v : Text) (rows : List Row) (p : Option (Text × List Text))
    → walked run_rules [] (at rows p) (dashed n ++ 61 ∷ v) ≡ at (used (rule n) (v ∷ []) (settled_rows run_rules p rows)) None
unfolding walked
whole_walk by_size v rows p = refl
whole_walk _ v rows p = refl

pub named_turn : (n : Name) (rows : List Row) (p : Option (Text × List Text))
    → turn_fault run_shape [] (at rows p) (dashed n) ≡ or_else (settle_fault run_rules false (holding rows p)) []
named_turn by_size rows p = refl
named_turn _ rows p = refl

pub named_walk : (n : Name) (rows : List Row) (p : Option (Text × List Text))
    → walked run_rules [] (at rows p) (dashed n) ≡ waits n (settled_rows run_rules p rows)
unfolding walked
named_walk by_size rows p = refl
named_walk _ rows p = refl

pub flag_turn : (f : Flag) (rows : List Row) (p : Option (Text × List Text))
    → turn_fault run_shape [] (at rows p) (flag_dashed f) ≡ or_else (react_fault run_rules false (flag_rule f) [] (holding rows p)) []
flag_turn by_journal rows p = refl
flag_turn by_backfill rows p = refl

pub flag_walk : (f : Flag) (rows : List Row) (p : Option (Text × List Text))
    → walked run_rules [] (at rows p) (flag_dashed f) ≡ at (used (flag_rule f) [] (settled_rows run_rules p rows)) None
unfolding walked
flag_walk by_journal rows p = refl
flag_walk by_backfill rows p = refl
