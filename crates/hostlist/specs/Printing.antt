-- The one canonical text of a list of hosts (Flux RFC 29).
use Rattle.std.specs.Prelude.{ℕ, ◌-◌, ◌==◌, List, [], ◌∷◌, ◌++◌, map, Bool, length, slice_index_or, if◌then◌else◌}
use Rattle.std.specs.List.{join_with_byte}
use Rattle.lists.specs.Ascii.{closing_bracket, comma, dash}
use Rattle.hostlist.specs.Names.{number_digits, number_prefix, shares_prefix, follows}

-- one element more before these parts: in the first of them, or in a part of its own
abbrev pub onto_chunks : {X : Type 0} → (X → X → Bool) → X → List (List X) → List (List X)
onto_chunks goes x [] = (x ∷ []) ∷ []
onto_chunks goes x ([] ∷ more) = (x ∷ []) ∷ more
onto_chunks goes x ((y ∷ ys) ∷ more) =
    if goes x y then (x ∷ y ∷ ys) ∷ more else (x ∷ []) ∷ (y ∷ ys) ∷ more

-- a list cut into its longest parts in which each element goes with the one before it
abbrev pub chunks_by : {X : Type 0} → (X → X → Bool) → List X → List (List X)
chunks_by goes [] = []
chunks_by goes (x ∷ xs) = onto_chunks goes x (chunks_by goes xs)

abbrev pub first_name : List (List ℕ) → List ℕ
first_name names = slice_index_or names 0 []

abbrev pub last_name : List (List ℕ) → List ℕ
last_name names = slice_index_or names (length names - 1) []

-- a run of followers: the digits of its first host, and of its last
unfoldable pub run_text : List (List ℕ) → List ℕ
run_text run = if length run == 1 then number_digits (first_name run)
    else number_digits (first_name run) ++ dash ∷ number_digits (last_name run)

-- a group of neighbours that share a prefix: one host as it stands, several as the prefix and their
-- runs in a bracket
unfoldable pub group_text : List (List ℕ) → List ℕ
group_text group = if length group == 1 then first_name group
    else number_prefix (first_name group) ++ 91
    ∷ join_with_byte comma (map run_text (chunks_by follows group)) ++ closing_bracket ∷ []

-- the canonical text
unfoldable pub canonical : List (List ℕ) → List ℕ
canonical names = join_with_byte comma (map group_text (chunks_by shares_prefix names))
