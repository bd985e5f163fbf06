-- The landings of `primary` in a chronicle are those of the log that it contains.
use Rattle.std.proofs.Common.{◌≡◌, ◌∙◌, ◌==◌, ◌&&◌, ℕ, suc, ◌+◌, ◌<◌, Bool, true, false, cond, not, List, [], ◌∷◌, ◌++◌, length, filter_map, get_or, take, Option, Some, None, is_some, option_and_then, option_map, ap, refl, sym, arith, true≢false, bytes_eq}
use Rattle.std.specs.Cmp.{nat_eq_equiv}
use Rattle.std.specs.Cmp.Lexicographic.{nat_list_eq_equiv}
use Rattle.std.specs.List.{cons_option}
use Rattle.std.proofs.lemmas.Bool.{false_from_ne_true}
use Rattle.std.proofs.lemmas.List.{take_more}
use Rattle.std.proofs.lemmas.List.Elements.{filter_map-append}
use Rattle.kvs_txn.specs.declared.txn.By.{By}
use Rattle.kvs_txn.specs.declared.txn.Group.{Group}
use Rattle.kvs_rules.specs.declared.events.KvsAnswer.{KvsAnswer}
use Rattle.kvs_rules.specs.declared.events.KvsEvent.TheVariants as event
use Rattle.kvs_rules.specs.Log.{Happened, Moment}
use Rattle.kvs_rules.specs.Namespaces.{groups_landed, is_primary, landings, primary}
use Rattle.workload.specs.declared.work.Workload.{Workload}
use Rattle.answers.specs.declared.chronicle.Entry.{Entry}
use Rattle.answers.specs.declared.chronicle.Entry.TheVariants as entry
use Rattle.answers.specs.Chronicle.{answer_of, top}
use Rattle.answers.specs.Commands.{ask_at}
use Rattle.answers.specs.Services.{asked_at, log_of, moment_of, moments_after}
use Rattle.answers.proofs.Services.{eqb_is}
use Rattle.summaries.specs.Landings.{groups_landed_by}

not_zero : (n : ℕ) → (suc n == 0) ≡ false
not_zero n = false_from_ne_true (suc n == 0) (λ e. let is : suc n ≡ 0 = eqb_is (suc n) 0 e in absurd (omega (arith, is)))

-- the transactions of a moment, where there is one
abbrev of : Option Moment → Option (List Group)
of o = option_and_then (groups_landed primary) o

-- a moment of another kind, where it is one at all
unless : (b : Bool) (m : Moment) → groups_landed primary m ≡ None → of (cond b (Some m) None) ≡ None
unless true m e = e
unless false m e = refl

never : (a b : Bool) → (a && b && false) ≡ false
never true true = refl
never true false = refl
never false b = refl

landed_empty : (b : Bool) (space : List ℕ) (number : ℕ) (authors : List (Option By)) → of (cond b (Some (Happened (event.Landed space number authors []))) None) ≡ None
landed_empty b space number authors = unless b _ refl

landed_some : (a b p q : Bool) (space : List ℕ) (number : ℕ) (authors : List (Option By)) (g : Group) (gs : List Group) → a ≡ b → bytes_eq primary space ≡ p → p ≡ q → of (cond a (Some (Happened (event.Landed space number authors (g ∷ gs)))) None) ≡ cond (b && q && true) (Some (g ∷ gs)) None
landed_some true true p q space number authors g gs e is same = ap (λ x. cond x (Some (g ∷ gs)) None) (is ∙ same) ∙ whole q
  where
    whole : (q : Bool) → cond q (Some (g ∷ gs)) None ≡ cond (q && true) (Some (g ∷ gs)) None
    whole true = refl
    whole false = refl
landed_some false false p q space number authors g gs e is same = refl
landed_some true false p q space number authors g gs e is same = absurd (true≢false e)
landed_some false true p q space number authors g gs e is same = absurd (true≢false (sym e))

answered : (actor command : ℕ) (number : Option ℕ) (given : Option KvsAnswer) → of (option_map (λ a. Happened (event.Answered (record { actor = actor; command = command }) number a)) given) ≡ None
answered actor command number None = refl
answered actor command number (Some a) = refl

entered : (work : Workload) (c : List Entry) (e : Entry) → of (moment_of work top c e) ≡ groups_landed_by e
entered work c (entry.Issued actor command) =
    unless (is_some (ask_at work (record { actor = actor; command = command })) && (top == top)) (asked_at work c (record { actor = actor; command = command })) refl
entered work c (entry.Landed instance space number authors []) =
    landed_empty (top == instance) space number authors
    ∙ sym (ap (λ b. cond b (Some []) None) (never (instance == top) (is_primary space)))
entered work c (entry.Landed instance space number authors (g ∷ gs)) =
    landed_some (top == instance) (instance == top) (bytes_eq primary space) (is_primary space) space number authors g gs (nat_eq_equiv.symm top instance) refl (nat_list_eq_equiv.symm primary space)
    ∙ sym (ap (λ b. cond ((instance == top) && is_primary space && not b) (Some (g ∷ gs)) None) (not_zero (length gs)))
entered work c (entry.Denied instance space authors group refusal) = unless (top == instance) (Happened (event.Denied space authors group refusal)) refl
entered work c (entry.Heard instance broker space number) = unless (top == instance) (Happened (event.Heard broker space number)) refl
entered work c (entry.Got instance broker reference) = unless (top == instance) (Happened (event.Got broker reference)) refl
entered work c (entry.Dropped instance broker reference) = unless (top == instance) (Happened (event.Dropped broker reference)) refl
entered work c (entry.Replied actor command given number) = answered actor command number (answer_of given)
entered work c (entry.Told from to) = refl
entered work c (entry.Ticked second) = refl
entered work c (entry.Born child parent job label second grant) = refl
entered work c (entry.Gone child parent job shut) = refl
entered work c (entry.Watched actor command number first count) = refl
entered work c entry.Closed = refl

of_cons : (o : Option Moment) (log : List Moment) → filter_map (groups_landed primary) (cons_option o log) ≡ cons_option (of o) (filter_map (groups_landed primary) log)
of_cons None log = refl
of_cons (Some m) log = refl

landed_after : (work : Workload) (c more : List Entry) → filter_map (groups_landed primary) (moments_after work top c more) ≡ filter_map groups_landed_by more
landed_after work c [] = refl
landed_after work c (e ∷ more) =
    of_cons (moment_of work top c e) (moments_after work top (c ++ e ∷ []) more)
    ∙ ap (λ o. cons_option o (filter_map (groups_landed primary) (moments_after work top (c ++ e ∷ []) more))) (entered work c e)
    ∙ ap (cons_option (groups_landed_by e)) (landed_after work (c ++ e ∷ []) more)

pub landings_in : (work : Workload) (c : List Entry) → filter_map groups_landed_by c ≡ landings (log_of work top c) primary
landings_in work c = sym (landed_after work [] c)

-- one entry more
pub landed_more : (c : List Entry) (i : ℕ) (e : Entry) → i < length c → e ≡ get_or c i e → filter_map groups_landed_by (take (i + 1) c) ≡ filter_map groups_landed_by (take i c) ++ cons_option (groups_landed_by e) []
landed_more c i e h is =
    ap (filter_map groups_landed_by) (take_more c i e h)
    ∙ filter_map-append groups_landed_by (take i c) (get_or c i e ∷ [])
    ∙ ap (λ x. filter_map groups_landed_by (take i c) ++ cons_option (groups_landed_by x) []) (sym is)
