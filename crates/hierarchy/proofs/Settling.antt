-- How a run stays settled.
use Rattle.std.proofs.Common.{ℕ, List, [], ◌∷◌, ◌++◌, sym, subst, map}
use Rattle.std.specs.List.{AllByRecursion as Each}
use Rattle.kvs_rules.specs.Sequence.{EachAfter}
use Rattle.answers.specs.Chronicle.{Setup, top}
use Rattle.answers.specs.Commands.{broker_of}
use Rattle.answers.specs.Stretches.{IsContentAt, IsIssueStretch}
use Rattle.answers.specs.declared.chronicle.Entry.{Entry}
use Rattle.answers.specs.declared.chronicle.Entry.TheVariants as entry
use Rattle.hierarchy.specs.Growing.{StartsNothing}
use Rattle.hierarchy.specs.Legal.{HasRunRest, RunRestsFirst}
use Rattle.hierarchy.specs.Own.{setup_in}
use Rattle.hierarchy.specs.Stretches.{entered_in}

-- whatever neither issues a command nor lets time go on keeps a run settled
pub nothing_issued : (set : Setup) (more c : List Entry) → Each StartsNothing more → EachAfter (RunRestsFirst set) c more
nothing_issued set [] c h = tt
nothing_issued set (e ∷ more) c h = (of e h.0, nothing_issued set more (c ++ e ∷ []) h.1)
  where
    of : (e : Entry) → StartsNothing e → RunRestsFirst set c e
    of (entry.Issued actor command) h = absurd h
    of (entry.Ticked second) h = absurd h
    of _ h = tt

contents_start_nothing : (i instance broker : ℕ) (xs : List Entry) → Each (IsContentAt instance broker) xs → Each StartsNothing (map (entered_in i) xs)
contents_start_nothing i instance broker [] h = tt
contents_start_nothing i instance broker (entry.Got n b reference ∷ xs) h = (tt, contents_start_nothing i instance broker xs h.1)
contents_start_nothing i instance broker (entry.Dropped n b reference ∷ xs) h = (tt, contents_start_nothing i instance broker xs h.1)
contents_start_nothing i instance broker (_ ∷ xs) h = absurd h.0

-- an issue in a run that rests keeps it settled
pub stays_settled : (set : Setup) (c : List Entry) (i actor : ℕ) (own : List Entry) → HasRunRest set c → IsIssueStretch (setup_in set c i).work actor own → EachAfter (RunRestsFirst set) c (map (entered_in i) own)
stays_settled set c i actor own rest s =
    subst (λ l. EachAfter (RunRestsFirst set) c (map (entered_in i) l)) (sym s.split)
    (rest, nothing_issued set (map (entered_in i) s.behind) (c ++ entry.Issued actor s.command ∷ []) (contents_start_nothing i top (broker_of (setup_in set c i).work actor) s.behind s.others))
