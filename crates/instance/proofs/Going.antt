-- Before the end the run goes on, and no command has a closing reply.
use Rattle.std.proofs.Common.{◌≡◌, List, [], ◌∷◌, Bool, true, false, ◌&&◌, ◌||◌, refl, true≢false, Option}
use Rattle.std.specs.List.{AllByRecursion as Each}
use Rattle.services.specs.kvs_txn.declared.txn.By.{By}
use Rattle.services.specs.kvs_rules.Log.{same_command}
use Rattle.services.specs.kvs_rules.Landings.{commands_of}
use Rattle.services.specs.answers.declared.chronicle.Entry.{Entry}
use Rattle.services.specs.answers.declared.chronicle.Entry.TheVariants as entry
use Rattle.services.specs.answers.Legal.{AreUnclosed}
use Rattle.services.specs.answers.Whole.{closes_off, is_closed_off, is_closing, is_end, has_ended, IsEarlierEntry}

neither : (a b : Bool) → a ≡ false → b ≡ false → (a || b) ≡ false
neither true b e f = absurd (true≢false e)
neither false b e f = f

not_both : (a b : Bool) → b ≡ false → (a && b) ≡ false
not_both true b e = e
not_both false b e = refl

no_end : (e : Entry) → IsEarlierEntry e → is_end e ≡ false
no_end entry.Closed h = absurd h
no_end _ h = refl

closes_none : (by : By) (e : Entry) → IsEarlierEntry e → closes_off by e ≡ false
closes_none by (entry.Replied actor command given number) h =
    not_both (same_command by (record { actor = actor; command = command })) (is_closing given) h
closes_none by _ h = refl

pub unended : (c : List Entry) → Each IsEarlierEntry c → has_ended c ≡ false
unended [] h = refl
unended (e ∷ c) h = neither (is_end e) (has_ended c) (no_end e h.0) (unended c h.1)

unclosed : (by : By) (c : List Entry) → Each IsEarlierEntry c → is_closed_off by c ≡ false
unclosed by [] h = refl
unclosed by (e ∷ c) h = neither (closes_off by e) (is_closed_off by c) (closes_none by e h.0) (unclosed by c h.1)

pub all_unclosed : (c : List Entry) → Each IsEarlierEntry c → (authors : List (Option By)) → AreUnclosed c authors
all_unclosed c h authors = each_so (commands_of authors)
  where
    each_so : (bys : List By) → Each (λ by. is_closed_off by c ≡ false) bys
    each_so [] = tt
    each_so (by ∷ bys) = (unclosed by c h, each_so bys)
