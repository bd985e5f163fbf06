-- What a post that was due asks of the book, and what it leaves there.
use Rattle.std.proofs.Common.{◌≡◌, ℕ, List, Some, Result, Ok, Err, sym, ap, ◌∙◌, subst}
use Rattle.std.specs.Prelude.{OnOk}
use Rattle.std.specs.List.{AllByRecursion as Each}
use Rattle.job_rules.proofs.Among.{among_from, each_at}
use Rattle.job_states.specs.Changes.{change_of}
use Rattle.job_states.specs.declared.job.Change.TheVariants as change
use Rattle.job_book.specs.Contract.{Gains, WasDue}
use Rattle.job_book.specs.Value.{BookValue, scene_of}
use Rattle.manager_rules.specs.Due.{IsDue}
use Rattle.manager_rules.specs.Jobs.{AreNeeds}
use Rattle.manager_rules.specs.Posts.{Does, IsOpenSubmit, IsSubmission, Submission, Submit, Submits, begun_with}
use Rattle.manager_rules.specs.Scene.{IsScene, Scene}
use Rattle.manager_rules.specs.declared.due.Due.{Due}
use Rattle.job_manager.specs.Follows.{after_post}
use Rattle.job_manager.specs.Managed.{WasDuePost}

pub from-open : (s : Scene) (birth : ℕ) (submits : List Submit) (x : Submission) (due : IsSubmission s birth submits x) → Each IsOpenSubmit submits → IsOpenSubmit due.from
from-open s birth submits x due all = each_at IsOpenSubmit submits due.from all (among_from submits due.from due.waits)

pub gained : (book new : BookValue) (x : Submission) (userid urgency : ℕ) → change_of x.event ≡ Some (change.Submit userid urgency) → AreNeeds x.spec x.event x.needs → Gains book x.id x.spec x.event new → new ≡ after_post (Submits x) book
gained book new x userid urgency asks needs gains =
    gains x.needs userid urgency needs asks ∙ sym (ap (λ o. let b : BookValue = record { grant = book.grant; policy = book.policy; jobs = begun_with o x book.jobs } in b) asks)

pub on-ok : {E : Type 0} {P Q : Type 0} (r : Result (Unit {0}) E) → (P → Q) → OnOk r P → OnOk r Q
on-ok (Ok u) f h = f h
on-ok (Err e) f h = tt

-- an event that was due for the book's jobs
pub was-due : (book : BookValue) (due : Due) → WasDuePost book (Does due) → WasDue book due
was-due book due w =
    let s = w.desk.scene in
    let same : s ≡ scene_of book s.now s.asked s.answer s.limits =
    λ i. let t : Scene = record { now = s.now; grant = w.grant i; jobs = w.jobs i; asked = s.asked; answer = s.answer; policy = w.policy i; limits = s.limits; old = λ id. w.old id i } in t in
    record {
      now = s.now;
      asked = s.asked;
      answer = s.answer;
      limits = s.limits;
      scene = subst IsScene same w.valid.scene;
      is = subst (λ t. IsDue t due) same w.due;
    }
