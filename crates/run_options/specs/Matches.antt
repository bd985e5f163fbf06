-- What clap's matches give.
use Rattle.std.specs.Prelude.{◌≡◌, ◌⊎◌, ◌&&◌, ℕ, Bool, false, List, Option, Some, None, is_some, codes, option_and_then, option_map, if◌then◌else◌}
use Rattle.std.specs.Option.{option_map_or}
use Rattle.std.specs.Str.{bytes_eq}
use Rattle.clap.specs.Words.{first_value, one_text}
use Rattle.clap.specs.declared.parser.matches.Found.{Found}
use Rattle.run_options.specs.declared.given.Given.{Given}
use Rattle.run_options.specs.Given.{brokers_of, hash_of, losses_of, number_of, workers_of}

-- an option is not given, or its text is a value of its kind
abbrev pub field : {X : Type 0} → (List ℕ → Option X) → Option (List ℕ) → Option (Option X)
field read None = Some None
field read (Some text) = option_map (λ x. Some x) (read text)

-- each option with a value is fine
abbrev pub are_fine : Option (List ℕ) → Option (List ℕ) → Option (List ℕ) → Option (List ℕ)
    → Option (List ℕ) → Option (List ℕ) → Bool
are_fine size fanout hash shuffle losses workers = is_some (field brokers_of size)
    && (is_some (field brokers_of fanout) && (is_some (field hash_of hash)
    && (is_some (field number_of shuffle) && (is_some (field losses_of losses)
    && is_some (field workers_of workers)))))

-- what the texts of the options with a value give, where each is fine
abbrev pub given_by : Option (List ℕ) → Option (List ℕ) → Option (List ℕ) → Option (List ℕ)
    → Option (List ℕ) → Option (List ℕ) → Bool → Bool → Option Given
given_by size fanout hash shuffle losses workers journal backfill =
    if are_fine size fanout hash shuffle losses workers
    then Some (record {
      size = option_and_then brokers_of size;
      fanout = option_and_then brokers_of fanout;
      hash = option_and_then hash_of hash;
      shuffle = option_and_then number_of shuffle;
      losses = option_and_then losses_of losses;
      workers = option_and_then workers_of workers;
      journal = journal;
      backfill = backfill;
    }) else None

abbrev pub flag_of : Option (List ℕ) → Bool
flag_of text = option_map_or (λ t. bytes_eq t (codes "true")) text false

-- what the matches give
unfoldable pub given_in : Found → Option Given
given_in f = given_by (first_value f (codes "size")) (first_value f (codes "fanout"))
    (first_value f (codes "hash")) (first_value f (codes "shuffle"))
    (first_value f (codes "losses")) (first_value f (codes "workers"))
    (flag_of (one_text f (codes "journal"))) (flag_of (one_text f (codes "backfill")))

-- a flag is written out in the matches
abbrev pub IsFlag : Option (List ℕ) → Type 0
IsFlag text = (text ≡ Some (codes "true")) ⊎ (text ≡ Some (codes "false"))
