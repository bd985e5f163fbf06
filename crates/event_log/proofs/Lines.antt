-- The lines of a log, one after another, and the keys of an event.
use Rattle.std.proofs.Common.{◌≡◌, ℕ, zero, suc, ◌+◌, ◌-◌, ◌<◌, ◌≤◌, Bool, true, false, ◌&&◌, ◌==◌, cond, List, [], ◌∷◌, ◌++◌, length, take, drop, map, Some, String, Global, string_bytes, refl, sym, ap, ap₂, ◌∙◌, subst, arith, append_assoc, add-one, eq-eqb, ne_eqb, inl, inr, ◌⊎◌}
use Rattle.std.specs.Prelude.{Result, Ok, Err, IsErrAnd, not}
use Rattle.std.specs.List.{list_all, prefix_len, slice_split, onto_first}
use Rattle.std.proofs.lemmas.Bool.{cases_lt}
use Rattle.std.proofs.lemmas.List.{take_all}
use Rattle.std.proofs.lemmas.List.Sums.{prefix_len-le-length}
use Rattle.outcomes.specs.Outcomes.{Fails, Gives}
use Rattle.serde_json.specs.Data.{Data, Members}
use Rattle.serde_json.specs.Data as json
use Rattle.serde_json.specs.Find.{as_object}
use Rattle.serde_json.specs.View.{members_view}
use Rattle.serde_json.specs.declared.value.Value.{Value}
use Rattle.event_log.specs.declared.event.Event.{Event}
use Rattle.event_log.specs.declared.event.LogFault.{LogFault}
use Rattle.event_log.specs.declared.event.LogFault.TheVariants.{NoMemory, NoNewline, BadLine}
use Rattle.event_log.specs.Events.{◌>>=◌, told, is_event_key, keys_of, has_event_keys}
use Rattle.event_log.specs.Logs.{at_line, events_from, first_told, log_reading, lasting}

-- ---- keys

pub keys_known : (d : Data) (ms : Members) → Some ms ≡ as_object d → has_event_keys d ≡ list_all is_event_key (keys_of ms)
keys_known json.null ms h = cc
keys_known (json.boolean b) ms h = cc
keys_known (json.number n) ms h = cc
keys_known (json.string s) ms h = cc
keys_known (json.array ds) ms h = cc
keys_known (json.object os) ms h = let same : ms ≡ os = cc in ap (λ m. list_all is_event_key (keys_of m)) (sym same)

pub keys_viewed : (es : List (String Global × Value)) → list_all is_event_key (keys_of (members_view es)) ≡ list_all (λ key. is_event_key (string_bytes key)) (map (λ e. e.0) es)
keys_viewed [] = refl
keys_viewed (e ∷ es) = ap (λ b. is_event_key (string_bytes e.0) && b) (keys_viewed es)

-- ---- lines

abbrev is_newline : ℕ → Bool
is_newline b = b == 10

abbrev pub parts : List ℕ → List (List ℕ)
parts t = slice_split is_newline t

abbrev pub first_len : List ℕ → ℕ
first_len t = prefix_len (λ b. not (b == 10)) t

onto : (b : ℕ) (ps : List (List ℕ)) (first : List ℕ) (more : List (List ℕ)) → ps ≡ first ∷ more → onto_first b ps ≡ (b ∷ first) ∷ more
onto b ps first more e = ap (onto_first b) e

-- the first line ends at the first newline
pub first_line : (t : List ℕ) → first_len t < length t → parts t ≡ take (first_len t) t ∷ parts (drop (first_len t + 1) t)
first_line [] h = absurd (omega arith)
first_line (b ∷ bs) h = go (b == 10) refl (λ k. first_line bs k)
  where
    longer : 1 + first_len bs ≡ suc (first_len bs)
    longer = omega arith

    len_is : (v : Bool) → (b == 10) ≡ v → first_len (b ∷ bs) ≡ cond (not v) (suc (first_len bs)) 0
    len_is v e = ap (λ z. cond (not z) (1 + first_len bs) 0) e ∙ ap (λ n. cond (not v) n 0) longer

    parts_are : (v : Bool) → (b == 10) ≡ v → parts (b ∷ bs) ≡ cond v ([] ∷ parts bs) (onto_first b (parts bs))
    parts_are v e = ap (λ z. cond z ([] ∷ parts bs) (onto_first b (parts bs))) e

    go : (v : Bool) → (b == 10) ≡ v → (first_len bs < length bs → parts bs ≡ take (first_len bs) bs ∷ parts (drop (first_len bs + 1) bs)) → parts (b ∷ bs) ≡ take (first_len (b ∷ bs)) (b ∷ bs) ∷ parts (drop (first_len (b ∷ bs) + 1) (b ∷ bs))
    go true e f = let n : first_len (b ∷ bs) ≡ 0 = len_is true e in parts_are true e ∙ sym (ap (λ k. take k (b ∷ bs) ∷ parts (drop (k + 1) (b ∷ bs))) n)
    go false e f =
        let n : first_len (b ∷ bs) ≡ suc (first_len bs) = len_is false e in
        let within : first_len bs < length bs = omega arith in
        let moved : suc (first_len bs) + 1 ≡ suc (first_len bs + 1) = omega arith in
        parts_are false e ∙ onto b (parts bs) _ _ (f within)
        ∙ sym (ap (λ k. take k (b ∷ bs) ∷ parts (drop (k + 1) (b ∷ bs))) n ∙ ap (λ k. (b ∷ take (first_len bs) bs) ∷ parts (drop k (b ∷ bs))) moved)

-- without a newline all is one line
pub last_line : (t : List ℕ) → first_len t ≡ length t → parts t ≡ t ∷ []
last_line [] h = refl
last_line (b ∷ bs) h = go (b == 10) refl (λ k. last_line bs k)
  where
    go : (v : Bool) → (b == 10) ≡ v → (first_len bs ≡ length bs → parts bs ≡ bs ∷ []) → parts (b ∷ bs) ≡ (b ∷ bs) ∷ []
    go true e f = let none : 0 ≡ suc (length bs) = sym (ap (λ z. cond (not z) (1 + first_len bs) 0) e) ∙ h in absurd (omega arith)
    go false e f =
        let n : 1 + first_len bs ≡ suc (length bs) = sym (ap (λ z. cond (not z) (1 + first_len bs) 0) e) ∙ h in
        let all : first_len bs ≡ length bs = omega arith in
        ap (λ z. cond z ([] ∷ parts bs) (onto_first b (parts bs))) e ∙ onto b (parts bs) bs [] (f all)

-- a text has at least one line
pub some_line : (t : List ℕ) → (first : List ℕ) × ((more : List (List ℕ)) × (parts t ≡ first ∷ more))
some_line [] = ([], ([], refl))
some_line (b ∷ bs) = go (b == 10) refl (some_line bs)
  where
    go : (v : Bool) → (b == 10) ≡ v → ((first : List ℕ) × ((more : List (List ℕ)) × (parts bs ≡ first ∷ more))) → (first : List ℕ) × ((more : List (List ℕ)) × (parts (b ∷ bs) ≡ first ∷ more))
    go true e s = ([], (parts bs, ap (λ z. cond z ([] ∷ parts bs) (onto_first b (parts bs))) e))
    go false e s = (b ∷ s.0, (s.1.0, ap (λ z. cond z ([] ∷ parts bs) (onto_first b (parts bs))) e ∙ onto b (parts bs) s.0 s.1.0 s.1.1))

-- ---- events

-- the events so far, and those of the rest
abbrev pub with_front : List Event → Result (List Event) LogFault → Result (List Event) LogFault
with_front front (Ok es) = Ok (front ++ es)
with_front front (Err e) = Err e

pub front_none : (r : Result (List Event) LogFault) → with_front [] r ≡ r
front_none (Ok es) = refl
front_none (Err e) = refl

front_more : (front : List Event) (event : Event) (r : Result (List Event) LogFault) → with_front front (r >>= λ es. Ok (event ∷ es)) ≡ with_front (front ++ event ∷ []) r
front_more front event (Ok es) = ap Ok (sym (append_assoc front (event ∷ []) es))
front_more front event (Err e) = refl

no_length : (t : List ℕ) → 0 < length t → (length t == 0) ≡ false
no_length [] h = absurd (omega arith)
no_length (b ∷ bs) h = ne_eqb (suc (length bs)) 0 (λ e. omega arith)

pub is_reading : (t : List ℕ) → events_from 1 (parts t) ≡ log_reading t
unfolding log_reading
is_reading t = refl

drop_suc : (n : ℕ) (t : List ℕ) → drop 1 (drop n t) ≡ drop (suc n) t
drop_suc zero t = refl
drop_suc (suc n) [] = refl
drop_suc (suc n) (b ∷ bs) = drop_suc n bs

length_left : (n : ℕ) (t : List ℕ) → length (drop n t) + n ≡ length t + (n - length t)
length_left n t = omega (arith, Rattle.std.proofs.Common.length-drop n t)

-- the lines of what is left, where its first line is this one
lines_are : (rest first : List ℕ) → first ≡ take (first_len rest) rest
    → ((first_len rest < length rest) × ((next : List ℕ) × ((more : List (List ℕ)) × ((parts (drop (first_len rest + 1) rest) ≡ next ∷ more) × (parts rest ≡ first ∷ next ∷ more))))) ⊎ ((length rest ≤ first_len rest) × (first ≡ rest) × (parts rest ≡ first ∷ []))
lines_are rest first e = go (cases_lt (first_len rest) (length rest))
  where
    go : (first_len rest < length rest) ⊎ (length rest ≤ first_len rest) → ((first_len rest < length rest) × ((next : List ℕ) × ((more : List (List ℕ)) × ((parts (drop (first_len rest + 1) rest) ≡ next ∷ more) × (parts rest ≡ first ∷ next ∷ more))))) ⊎ ((length rest ≤ first_len rest) × (first ≡ rest) × (parts rest ≡ first ∷ []))
    go (inl l) =
        let s = some_line (drop (first_len rest + 1) rest) in
        inl (l, (s.0, (s.1.0, (s.1.1, first_line rest l ∙ ap₂ (λ a b. a ∷ b) (sym e) s.1.1))))
    go (inr g) =
        let most : first_len rest ≤ length rest = prefix_len-le-length (λ b. not (b == 10)) rest in
        let all : first_len rest ≡ length rest = omega arith in
        let same : first ≡ rest = e ∙ take_all (first_len rest) rest g in
        inr (g, same, last_line rest all ∙ ap (λ a. a ∷ []) (sym same))

-- the events so far, that of a first line, and those of the lines behind it
abbrev pub with_later : List Event → ℕ → List ℕ → Event → Result (List Event) LogFault
with_later front line behind event = with_front (front ++ event ∷ []) (events_from (line + 1) (parts (drop 1 behind)))

-- a line and its newline
whole_line : (front : List Event) (line : ℕ) (next : List ℕ) (more : List (List ℕ)) (behind : List ℕ) (r : Result Event LogFault) → (length behind == 0) ≡ false → parts (drop 1 behind) ≡ next ∷ more
    → with_front front (r >>= λ event. events_from (line + 1) (next ∷ more) >>= λ es. Ok (event ∷ es)) ≡ (r >>= λ event. cond (length behind == 0) (Err NoNewline) (Ok event)) >>= with_later front line behind
whole_line front line next more behind (Ok event) e p =
    front_more front event (events_from (line + 1) (next ∷ more)) ∙ ap (λ ps. with_front (front ++ event ∷ []) (events_from (line + 1) ps)) (sym p)
    ∙ sym (ap (λ z. cond z (Err NoNewline) (Ok event) >>= with_later front line behind) e)
whole_line front line next more behind (Err fault) e p = refl

-- a last line without its newline
cut_line : (front : List Event) (line : ℕ) (last behind : List ℕ) (r : Result Event LogFault) → (length last == 0) ≡ false → (length behind == 0) ≡ true
    → with_front front (cond (length last == 0) (Ok []) (r >>= λ event. Err NoNewline)) ≡ (r >>= λ event. cond (length behind == 0) (Err NoNewline) (Ok event)) >>= with_later front line behind
cut_line front line last behind (Ok event) e n =
    ap (λ z. with_front front (cond z (Ok []) (Err NoNewline))) e ∙ sym (ap (λ z. cond z (Err NoNewline) (Ok event) >>= with_later front line behind) n)
cut_line front line last behind (Err fault) e n = ap (λ z. with_front front (cond z (Ok []) (Err fault))) e

-- what is left of a log is its first line and the lines behind that
pub rest_is : (front : List Event) (line : ℕ) (rest first behind : List ℕ) → 0 < length rest → first ≡ take (first_len rest) rest → behind ≡ drop (first_len rest) rest
    → with_front front (events_from line (parts rest)) ≡ first_told line first behind >>= with_later front line behind
rest_is front line rest first behind some e b = elim (lines_are rest first e) [
  | inl s ↦
      let l : first_len rest < length rest = s.0 in
      let long : 0 < length behind = omega (arith, ap length b, length_left (first_len rest) rest) in
      let later : parts (drop 1 behind) ≡ s.1.0 ∷ s.1.1.0 = ap (λ t. parts (drop 1 t)) b ∙ ap parts (drop_suc (first_len rest) rest) ∙ ap (λ k. parts (drop k rest)) (sym (add-one (first_len rest))) ∙ s.1.1.1.0 in
      ap (λ ps. with_front front (events_from line ps)) s.1.1.1.1 ∙ whole_line front line s.1.0 s.1.1.0 behind (at_line line (told first)) (no_length behind long) later
  | inr s ↦
      let g : length rest ≤ first_len rest = s.0 in
      let none : length behind ≡ 0 = omega (arith, ap length b, length_left (first_len rest) rest) in
      let long : 0 < length first = subst (λ t. 0 < length t) (sym s.1) some in
      ap (λ ps. with_front front (events_from line ps)) s.2 ∙ cut_line front line first behind (at_line line (told first)) (no_length first long) (eq-eqb _ _ none)
]

-- the fault of a first line is that of the log
pub log_fails : (fault : LogFault) (found : Result Event LogFault) (later : Event → Result (List Event) LogFault) (log : Result (List Event) LogFault) → log ≡ found >>= later → Fails lasting fault found → Fails lasting fault log
log_fails NoMemory found later log is h = tt
log_fails NoNewline found later log is h = is ∙ ap (λ r. r >>= later) h
log_fails (BadLine line fault) found later log is h = is ∙ ap (λ r. r >>= later) h

-- what hands on a fault
pub fault_gives : {X Y : Type 0} (seen : X → Y) (r : Result X LogFault) (fault : LogFault) (found : Result Y LogFault) → IsErrAnd r (λ e. e ≡ fault) → Fails lasting fault found → Gives lasting seen r found
fault_gives seen (Ok x) fault found is h = absurd is
fault_gives seen (Err e) fault found is h = subst (λ e. Fails lasting e found) (sym is) h

-- all of what stands behind the first byte
pub all_behind : (behind : List ℕ) → take (length behind - 1) (drop 1 behind) ≡ drop 1 behind
all_behind behind = take_all (length behind - 1) (drop 1 behind) (omega (arith, Rattle.std.proofs.Common.length-drop 1 behind))
