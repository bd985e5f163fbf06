-- A worked run with one child: who lives in it, whose entries are whose, and which stretches it falls into.
use Rattle.std.proofs.Common.{◌≡◌, ℕ, zero, suc, ◌<◌, List, [], ◌∷◌, ◌++◌, true, false, Some, None, codes, refl, arith}
use Rattle.fl_digest.specs.declared.Hash.TheVariants as hash
use Rattle.resource_set.specs.declared.node.Resources.{Resources}
use Rattle.workload.specs.declared.work.Command.TheVariants as command
use Rattle.workload.specs.declared.work.Workload.{Workload}
use Rattle.answers.specs.Chronicle.{Setup, is_replied, top}
use Rattle.answers.specs.declared.chronicle.Entry.{Entry}
use Rattle.answers.specs.declared.chronicle.Entry.TheVariants as entry
use Rattle.answers.specs.declared.chronicle.Reply.TheVariants as reply
use Rattle.answers.specs.declared.steps.Step.TheVariants as step
use Rattle.answers.proofs.Plain.{plain_terms}
use Rattle.hierarchy.specs.Births.{has_home, has_living_home, has_lost_home, lives, numbers}
use Rattle.hierarchy.specs.Families.{left_in, living_in, second_in}
use Rattle.hierarchy.specs.Legal.{HasHomeFor, HasRunGrounds}
use Rattle.hierarchy.specs.Own.{own_of, setup_in}
use Rattle.hierarchy.specs.Stretches.{IsRunStretch}

-- `a` stands in the top, `b` in the child of the job `j`, and `c` in that of a job that nobody submits
abbrev work : Workload
work = record {
  actors = record { name = codes "a"; rank = 0; of = None } ∷ record { name = codes "b"; rank = 5; of = Some (codes "j") }
      ∷ record { name = codes "c"; rank = 0; of = Some (codes "k") } ∷ [];
  lines = record { actor = 0; command = command.Advance 9 } ∷ record { actor = 1; command = command.Advance 3 }
      ∷ record { actor = 1; command = command.Shutdown } ∷ record { actor = 1; command = command.Advance 5 }
      ∷ record { actor = 2; command = command.Commit } ∷ [];
  grant = None;
}

abbrev grant : Resources
grant = record {
  nodes = record { rank = 0; host = codes "x"; cores = 0 ∷ []; gpus = [] } ∷ record { rank = 1; host = codes "y"; cores = 0 ∷ []; gpus = [] } ∷ [];
  starttime = 0;
  expiration = 0;
}

abbrev setup : Setup
setup = record { settled = true; size = 8; fanout = 2; hash = hash.Sha1; grant = codes "grant"; resources = record { nodes = []; starttime = 0; expiration = 0 }; base = None; terms = plain_terms; birth = 0; work = work }

-- the child is born at the second 2, and shuts down at the second 5
abbrev born : List Entry
born = entry.Issued 0 0 ∷ entry.Ticked 2 ∷ entry.Born 1 top 7 (codes "j") 2 grant ∷ entry.Issued 1 0 ∷ entry.Heard 1 1 (codes "n") 1 ∷ entry.Ticked 5 ∷ entry.Replied 1 0 (reply.Advanced 5) None ∷ entry.Issued 1 1 ∷ []

abbrev gone : List Entry
gone = entry.Issued 0 0 ∷ entry.Ticked 2 ∷ entry.Born 1 top 7 (codes "j") 2 grant ∷ entry.Issued 1 0 ∷ entry.Heard 1 1 (codes "n") 1 ∷ entry.Ticked 5 ∷ entry.Replied 1 0 (reply.Advanced 5) None ∷ entry.Issued 1 1
    ∷ entry.Gone 1 top 7 true ∷ entry.Replied 1 1 reply.Gone None ∷ entry.Issued 1 2 ∷ entry.Ticked 9 ∷ []

abbrev ended : List Entry
ended = born ++ entry.Gone 1 top 7 true ∷ []

below_two : (P : ℕ → Type 0) → P 0 → P 1 → (k : ℕ) → k < 2 → P k
below_two P p q zero h = p
below_two P p q (suc zero) h = q
below_two P p q (suc (suc k)) h = absurd (omega arith)

-- ---- who lives

two_born : numbers born ≡ 0 ∷ 1 ∷ []
two_born = refl

child_lives : lives born 1 ≡ true
child_lives = refl

child_goes : lives gone 1 ≡ false
child_goes = refl

nobody : lives gone 2 ≡ false
nobody = refl

top_stays : lives gone 0 ≡ true
top_stays = refl

its_actor : has_living_home work.actors born 1 ≡ true
its_actor = refl

lost : has_lost_home work.actors gone 1 ≡ true
lost = refl

unborn : has_home work.actors gone 2 ≡ false
unborn = refl

-- ---- what the child is given

brokers : (setup_in setup born 1).size ≡ 2
brokers = refl

its_birth : (setup_in setup born 1).birth ≡ 2
its_birth = refl

its_lines : (setup_in setup born 1).work.lines ≡ record { actor = 1; command = command.Advance 3 } ∷ record { actor = 1; command = command.Shutdown } ∷ record { actor = 1; command = command.Advance 5 } ∷ []
its_lines = refl

-- ---- whose entries are whose

tops_own : own_of setup gone 0 ≡ entry.Issued 0 0 ∷ entry.Ticked 2 ∷ entry.Born 1 top 7 (codes "j") 2 grant ∷ entry.Ticked 5 ∷ entry.Gone 1 top 7 true ∷ entry.Ticked 9 ∷ []
tops_own = refl

childs_own : own_of setup gone 1 ≡ entry.Issued 1 0 ∷ entry.Heard 0 1 (codes "n") 1 ∷ entry.Ticked 5 ∷ entry.Replied 1 0 (reply.Advanced 5) None ∷ entry.Issued 1 1 ∷ []
childs_own = refl

-- ---- time

it_shuts : (living_in setup born 1).shuts ≡ true
it_shuts = refl

from_its_job : (living_in setup born 1).from ≡ Some (0, 7)
from_its_job = refl

now : second_in setup gone ≡ 9
now = refl

-- an advance that is issued behind the end waits for its second
left : left_in setup gone ≡ 10 ∷ []
left = refl

-- ---- stretches

birth_made : IsRunStretch setup [] (step.Birth 0 7) (entry.Born 1 0 7 (codes "j") 2 grant ∷ [])
birth_made = record { child = 1; label = codes "j"; second = 2; grant = grant; behind = []; split = refl; others = tt }

-- an instance goes with all within it, the inner first
ends_made : IsRunStretch setup born (step.End 1) (entry.Gone 3 2 8 false ∷ entry.Gone 2 1 9 false ∷ entry.Gone 1 0 7 true ∷ [])
ends_made = ((0, omega arith, refl), ((0, omega arith, refl), refl))

issue_made : IsRunStretch setup born (step.Issue 1) (entry.Issued 1 2 ∷ [])
issue_made = record {
  home = 1;
  is = refl;
  stretch = record { born = refl; own = entry.Issued 1 2 ∷ []; entered = refl; allowed = record { command = 2; behind = []; split = refl; others = tt } };
}

-- ---- what the end leaves

told_gone : HasRunGrounds setup ended (entry.Replied 1 1 reply.Gone None)
told_gone = (refl, (refl, refl), refl)

goes_on_issuing : HasRunGrounds setup (ended ++ entry.Replied 1 1 reply.Gone None ∷ []) (entry.Issued 1 2)
goes_on_issuing = (record { exists = refl; next = refl; replied = below_two (λ k. is_replied (record { actor = 1; command = k }) (ended ++ entry.Replied 1 1 reply.Gone None ∷ []) ≡ true) refl refl }, refl)

never_told : HasHomeFor setup ended (record { actor = 2; command = 0 }) None reply.UnfinishedUnborn
never_told = (refl, refl)
