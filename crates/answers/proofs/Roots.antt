-- Worked examples of replies that name several roots, and of what actors come to know.
use Rattle.std.proofs.Common.{◌≡◌, List, [], ◌∷◌, true, false, Some, refl, codes}
use Rattle.std.specs.Fmt.{digits}
use Rattle.kvs_txn.specs.declared.answers.Found.TheVariants as found
use Rattle.kvs_txn.specs.declared.answers.Numbered.{Numbered}
use Rattle.kvs_model.specs.Store.{Name}
use Rattle.answers.specs.declared.chronicle.Entry.TheVariants as entry
use Rattle.answers.specs.declared.chronicle.Reply.TheVariants as reply
use Rattle.answers.specs.Floors.{knows_after, number_in}
use Rattle.answers.specs.Text.{entry_line, reply_text, roots_text}

abbrev n : Name
n = codes "n"

abbrev used : List Numbered
used = record { namespace = n; number = 1 } ∷ []

roots : roots_text (Some 2) used ≡ codes "2+n:1"
unfolding digits
roots = refl

value : reply_text (reply.Read (found.Value (codes "v")) used) (Some 1) ≡ codes "value 1+n:1 v"
unfolding digits
value = refl

target : reply_text (reply.Read (found.Target (record { path = codes "k" ∷ []; namespace = Some n })) []) (Some 1) ≡ codes "target 1 k in n"
unfolding digits
target = refl

no_target : reply_text (reply.NoTarget (codes "zz") []) (Some 2) ≡ codes "NoTarget 2 zz"
unfolding digits
no_target = refl

line : entry_line (entry.Replied 0 8 (reply.Read (found.Value (codes "v")) used) (Some 1)) ≡ codes "replied 0 8 1+n:1 value 1+n:1 v\n"
unfolding digits
line = refl

-- who is told by one that was told knows, and not who was told before
told_on : knows_after 0 (entry.Told 0 1 ∷ entry.Told 1 2 ∷ []) 2 ≡ true
told_on = refl

told_too_early : knows_after 0 (entry.Told 1 2 ∷ entry.Told 0 1 ∷ []) 2 ≡ false
told_too_early = refl

greatest : number_in n (record { namespace = n; number = 3 } ∷ record { namespace = codes "p"; number = 5 } ∷ record { namespace = n; number = 4 } ∷ []) ≡ 4
greatest = refl
