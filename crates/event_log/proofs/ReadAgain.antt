-- What is written of events is read again.
use Rattle.std.proofs.Common.{◌≡◌, ℕ, ◌+◌, ◌^◌, ◌<◌, ◌≤◌, Bool, true, false, ◌==◌, cond, List, [], ◌∷◌, ◌++◌, length, Option, Some, None, codes, decimal, refl, sym, ap, ◌∙◌, subst, arith, append_assoc, append-nil, ne_eqb}
use Rattle.std.specs.Prelude.{Ok, IfSome, All, not}
use Rattle.std.specs.List.{onto_first}
use Rattle.std.specs.Str.{IsUtf8}
use Rattle.std.proofs.lemmas.Bool.{and_parts}
use Rattle.std.proofs.lemmas.Fmt.{IsAscii-decimal}
use Rattle.std.proofs.lemmas.List.Elements.{All-nil, All-cons, All-head, All-tail}
use Rattle.std.proofs.lemmas.Str.{IsUtf8-append, IsUtf8-from_ascii}
use Rattle.json.specs.Print.{escape_byte, quoted}
use Rattle.json.proofs.Printed.Utf8.{IsUtf8-are_ascii, IsUtf8-quoted}
use Rattle.serde_json.specs.Data.{object, string, number, unsigned, Members, no_members, member, depth}
use Rattle.serde_json.specs.Read.{max_depth}
use Rattle.serde_json.specs.Written.{compact_text}
use Rattle.fl_json.specs.Valid.{HaveValid}
use Rattle.fl_json.proofs.Canonical.{canonical_reading}
use Rattle.event_log.specs.declared.event.Event.{Event}
use Rattle.event_log.specs.Events.{◌>>=◌, event_of, told, line_text, IsObjectText, IsEvent}
use Rattle.event_log.specs.Logs.{events_from, log_reading, log_text}
use Rattle.event_log.proofs.JsonTexts.{is_line, text_line, text_back}
use Rattle.event_log.proofs.Lines.{parts, some_line, is_reading}

-- ---- the object of an event

abbrev plain : List ℕ → ℕ → Members
plain name second = member (codes "name") (string name) (member (codes "timestamp") (number (unsigned second)) no_members)

abbrev with_context : Members → List ℕ → ℕ → Members
with_context ms name second = member (codes "context") (object ms) (plain name second)

abbrev name_part : List ℕ → ℕ → List ℕ
name_part name second = codes "\"name\":" ++ (quoted name ++ (codes ",\"timestamp\":" ++ (decimal second ++ codes "}")))

plain_text : (name : List ℕ) (second : ℕ) → compact_text (object (plain name second)) ≡ codes "{" ++ name_part name second
unfolding escape_byte
plain_text name second = refl

context_text_is : (ms : Members) (name : List ℕ) (second : ℕ) → compact_text (object (with_context ms name second)) ≡ codes "{\"context\":" ++ (compact_text (object ms) ++ (codes "," ++ name_part name second))
unfolding escape_byte
context_text_is ms name second = refl

plain_line : (name : List ℕ) (second : ℕ) → line_text (record { timestamp = second; name = name; context = None }) ≡ compact_text (object (plain name second)) ++ 10 ∷ []
plain_line name second =
    let written : line_text (record { timestamp = second; name = name; context = None }) ≡ codes "{" ++ (name_part name second ++ 10 ∷ []) = simp append_assoc in
    written ∙ sym (ap (λ t. t ++ 10 ∷ []) (plain_text name second))

regrouped : (o k text c n q t s e l : List ℕ) → (((((o ++ (k ++ text ++ c)) ++ n) ++ q) ++ t) ++ s) ++ (e ++ l) ≡ (o ++ (k ++ (text ++ (c ++ (n ++ (q ++ (t ++ (s ++ e)))))))) ++ l
regrouped o k text c n q t s e l = simp append_assoc

with_text : (text name : List ℕ) (second : ℕ) → line_text (record { timestamp = second; name = name; context = Some text }) ≡ (codes "{\"context\":" ++ (text ++ (codes "," ++ name_part name second))) ++ 10 ∷ []
with_text text name second =
    regrouped (codes "{") (codes "\"context\":") text (codes ",") (codes "\"name\":") (quoted name) (codes ",\"timestamp\":") (decimal second) (codes "}") (10 ∷ [])

context_line : (ms : Members) (name : List ℕ) (second : ℕ) → line_text (record { timestamp = second; name = name; context = Some (compact_text (object ms)) }) ≡ compact_text (object (with_context ms name second)) ++ 10 ∷ []
context_line ms name second = with_text (compact_text (object ms)) name second ∙ sym (ap (λ t. t ++ 10 ∷ []) (context_text_is ms name second))

-- ---- its text is UTF-8

name_part_utf8 : (name : List ℕ) (second : ℕ) → IsUtf8 name → second < 2 ^ 64 → IsUtf8 (name_part name second)
name_part_utf8 name second u timed =
    IsUtf8-append _ _ (IsUtf8-are_ascii (codes "\"name\":") refl) (IsUtf8-append _ _ (IsUtf8-quoted name u) (IsUtf8-append _ _ (IsUtf8-are_ascii (codes ",\"timestamp\":") refl)
    (IsUtf8-append _ _ (IsUtf8-from_ascii (decimal second) (IsAscii-decimal second timed)) (IsUtf8-are_ascii (codes "}") refl))))

plain_utf8 : (name : List ℕ) (second : ℕ) → IsUtf8 name → second < 2 ^ 64 → IsUtf8 (compact_text (object (plain name second)))
plain_utf8 name second u timed = subst IsUtf8 (sym (plain_text name second)) (IsUtf8-append _ _ (IsUtf8-are_ascii (codes "{") refl) (name_part_utf8 name second u timed))

context_utf8 : (ms : Members) (name : List ℕ) (second : ℕ) → IsUtf8 (compact_text (object ms)) → IsUtf8 name → second < 2 ^ 64 → IsUtf8 (compact_text (object (with_context ms name second)))
context_utf8 ms name second c u timed =
    subst IsUtf8 (sym (context_text_is ms name second)) (IsUtf8-append _ _ (IsUtf8-are_ascii (codes "{\"context\":") refl)
    (IsUtf8-append _ _ c (IsUtf8-append _ _ (IsUtf8-are_ascii (codes ",") refl) (name_part_utf8 name second u timed))))

-- ---- the event that it tells

has_length : (name : List ℕ) → 0 < length name → (length name == 0) ≡ false
has_length name some = ne_eqb (length name) 0 (λ e. omega arith)

event_of-plain : (name : List ℕ) (second : ℕ) → 0 < length name → event_of (object (plain name second)) ≡ Ok (record { timestamp = second; name = name; context = None })
unfolding event_of
event_of-plain name second some = rw (has_length name some) refl

event_of-context : (ms : Members) (name : List ℕ) (second : ℕ) → 0 < length name → event_of (object (with_context ms name second)) ≡ Ok (record { timestamp = second; name = name; context = Some (compact_text (object ms)) })
unfolding event_of
event_of-context ms name second some = rw (has_length name some) refl

-- a line and its newline tell an event
record Tells (event : Event) : Type 0 where
  line : List ℕ
  is : line_text event ≡ line ++ 10 ∷ []
  one : is_line line ≡ true
  tells : told line ≡ Ok event

tells_plain : (name : List ℕ) (second : ℕ) → second < 2 ^ 64 → 0 < length name → IsUtf8 name → Tells (record { timestamp = second; name = name; context = None })
tells_plain name second timed some u =
    let d = object (plain name second) in
    let valid : HaveValid (plain name second) = (refl, tt, (tt, timed, tt)) in
    let nests : depth d ≤ max_depth = omega arith in
    let read = canonical_reading d valid (plain_utf8 name second u timed) (text_back d valid nests) in
    record { line = compact_text d; is = plain_line name second; one = text_line d valid; tells = ap (λ r. r >>= event_of) read ∙ event_of-plain name second some }

tells_context : (ms : Members) (name : List ℕ) (second : ℕ) → second < 2 ^ 64 → 0 < length name → IsUtf8 name → HaveValid ms → IsUtf8 (compact_text (object ms)) → depth (object ms) < max_depth
    → Tells (record { timestamp = second; name = name; context = Some (compact_text (object ms)) })
tells_context ms name second timed some u v c deep =
    let d = object (with_context ms name second) in
    let valid : HaveValid (with_context ms name second) = (refl, v, (refl, tt, (tt, timed, tt))) in
    let nests : depth d ≤ max_depth = omega arith in
    let read = canonical_reading d valid (context_utf8 ms name second c u timed) (text_back d valid nests) in
    record { line = compact_text d; is = context_line ms name second; one = text_line d valid; tells = ap (λ r. r >>= event_of) read ∙ event_of-context ms name second some }

tells_some : (text name : List ℕ) (second : ℕ) → second < 2 ^ 64 → 0 < length name → IsUtf8 name → IsObjectText text → Tells (record { timestamp = second; name = name; context = Some text })
tells_some text name second timed some u o =
    subst (λ t. Tells (record { timestamp = second; name = name; context = Some t })) (sym o.is) (tells_context o.members name second timed some u o.valid (subst IsUtf8 o.is o.utf8) o.nests)

tells_any : (context : Option (List ℕ)) (name : List ℕ) (second : ℕ) → second < 2 ^ 64 → 0 < length name → IsUtf8 name → IfSome context IsObjectText → Tells (record { timestamp = second; name = name; context = context })
tells_any None name second timed some u c = tells_plain name second timed some u
tells_any (Some text) name second timed some u c = tells_some text name second timed some u c

event_told : (event : Event) → IsEvent event → Tells event
event_told event e = tells_any event.context event.name event.timestamp e.timed e.named e.utf8 e.context

-- ---- a log

abbrev is_newline : ℕ → Bool
is_newline b = b == 10

off : (b : Bool) → not b ≡ true → b ≡ false
off true h = cc
off false h = refl

-- the lines of a text that begins with a line and its newline
parts-line : (line rest : List ℕ) → is_line line ≡ true → parts (line ++ 10 ∷ rest) ≡ line ∷ parts rest
parts-line [] rest h = refl
parts-line (b ∷ line) rest h =
    let both = and_parts (not (b == 10)) (is_line line) h in
    ap (λ z. cond z ([] ∷ parts (line ++ 10 ∷ rest)) (onto_first b (parts (line ++ 10 ∷ rest)))) (off (b == 10) both.0) ∙ ap (onto_first b) (parts-line line rest both.1)

more_events : (line : ℕ) (first : List ℕ) (event : Event) (events : List Event) (ps : List (List ℕ)) → told first ≡ Ok event → ((next : List ℕ) × ((more : List (List ℕ)) × (ps ≡ next ∷ more))) → events_from (line + 1) ps ≡ Ok events
    → events_from line (first ∷ ps) ≡ Ok (event ∷ events)
more_events line first event events ps tells some rest =
    ap (λ l. events_from line (first ∷ l)) some.1.1
    ∙ ap (λ r. Rattle.event_log.specs.Logs.at_line line r >>= λ e. events_from (line + 1) (some.0 ∷ some.1.0) >>= λ es. Ok (e ∷ es)) tells
    ∙ ap (λ r. r >>= λ es. Ok (event ∷ es)) (sym (ap (events_from (line + 1)) some.1.1) ∙ rest)

events_back : (line : ℕ) (events : List Event) → All IsEvent events → events_from line (parts (log_text events)) ≡ Ok events
events_back line [] h = refl
events_back line (event ∷ events) h =
    let t = event_told event (All-head IsEvent event events h) in
    let text : log_text (event ∷ events) ≡ t.line ++ 10 ∷ log_text events = ap (λ l. l ++ log_text events) t.is ∙ append_assoc t.line (10 ∷ []) (log_text events) in
    ap (λ l. events_from line (parts l)) text ∙ ap (events_from line) (parts-line t.line (log_text events) t.one)
    ∙ more_events line t.line event events (parts (log_text events)) t.tells (some_line (log_text events)) (events_back (line + 1) events (All-tail IsEvent event events h))

-- the text of a log is read as its events
pub log_back : (events : List Event) → All IsEvent events → log_reading (log_text events) ≡ Ok events
log_back events h = sym (is_reading (log_text events)) ∙ events_back 1 events h

-- and the line of one event as that event
pub line_back : (event : Event) → IsEvent event → log_reading (line_text event) ≡ Ok (event ∷ [])
line_back event e = ap log_reading (sym (append-nil (line_text event))) ∙ log_back (event ∷ []) (All-cons IsEvent event [] e (All-nil IsEvent))
