-- What is owed by the log of an instance with which the commands and the book agree.
use Rattle.std.proofs.Common.{◌≡◌, ℕ, ◌-◌, ◌*◌, ◌^◌, ◌<◌, ◌≤◌, ◌∙◌, ◌&&◌, List, true, length, None, Some, refl, sym, ap, subst, arith}
use Rattle.std.specs.Prelude.{Contains, Option, false, is_some}
use Rattle.std.specs.List.{AllByRecursion as Each}
use Rattle.instance_rules.specs.Desks.{is_submission}
use Rattle.instance_rules.specs.Log.{Instance, Log, IsInstance, now_of}
use Rattle.job_book.specs.Value.{BookValue}
use Rattle.job_commands.proofs.Desks.{asked_range}
use Rattle.job_commands.specs.Agrees.{AgreesCommands, AreDrawn}
use Rattle.job_commands.specs.Asks.{told}
use Rattle.job_commands.specs.Desks.{asked_of, desk_of, submits_of}
use Rattle.job_commands.specs.Rows.{AreMarkedBy, CommandsValue, is_submit, is_waiting}
use Rattle.job_commands.specs.declared.row.Row.{Row}
use Rattle.job_submissions.specs.Made.{AreLabelled, IsMade, MakesNone}
use Rattle.job_deeds.specs.manager_rules.Due.{IsDue}
use Rattle.job_deeds.specs.manager_rules.Jobs.{StoredJob}
use Rattle.job_deeds.specs.manager_rules.Posts.{Desk, Does, IsDuePost, IsSubmission, Post, Submission, Submits}
use Rattle.job_deeds.specs.manager_rules.Scene.{Scene}
use Rattle.job_deeds.specs.manager_rules.declared.due.Due.{Due}
use Rattle.job_service.specs.Agrees.{IsBookOf, IsOnTerms}
use Rattle.job_service.specs.Due.{CanLook, IsFound, IsFoundBeside, Owes, scene_now}
use Rattle.job_service.specs.Posted.{IsAlone, IsNamed}
use Rattle.job_deeds.specs.manager_rules.declared.terms.Terms.{Terms}

-- what the law of submissions says of one that is made, and of those that aren't
abbrev pub MadeAreDue : Type 0
MadeAreDue = (c : CommandsValue) (i : Instance) (l : Log) (jobs : List StoredJob) (s : Submission) → AgreesCommands c i l → IsInstance i → length c.issued ≤ 2 ^ 14 → AreLabelled c.labels jobs → Each (λ j. j.id < 2 ^ 64) jobs → 1000 * (now_of i l - i.birth) < 2 ^ 40
    → IsMade i.limits c jobs (now_of i l) i.birth s → IsSubmission (desk_of c i l jobs).scene i.birth (submits_of c i l) s

abbrev pub UnmadeAreNot : Type 0
UnmadeAreNot = (c : CommandsValue) (i : Instance) (l : Log) (jobs : List StoredJob) (s : Submission) → ((row : Row) → Contains c.rows row → MakesNone i.limits c.labels jobs row) → IsSubmission (desk_of c i l jobs).scene i.birth (submits_of c i l) s → ⊥

module _ (terms : Terms) (v : CommandsValue) (book : BookValue) (now birth : ℕ) (inst : Instance) (log : Log)
    (a : AgreesCommands v inst log) (valid : IsInstance inst) (second : now_of inst log ≡ now) (on : IsOnTerms inst terms) (born : inst.birth ≡ birth) (of : IsBookOf inst book) where
  abbrev pub desk : Desk
  desk = desk_of v inst log book.jobs

  pub scene-is : scene_now terms v book now ≡ desk.scene
  scene-is =
      let now_is = sym second in
      let answer_is = sym on.answer in
      let limits_is = sym on.limits in
      λ i. (let s : Scene = record { now = now_is i; grant = of.grant i; jobs = book.jobs; asked = asked_of v; answer = answer_is i; policy = of.policy i; limits = limits_is i; old = λ id. false } in s)

  pub due-there : (due : Due) → IsDue (scene_now terms v book now) due → IsDuePost desk (Does due)
  due-there due h = subst (λ s. IsDue s due) scene-is h

  pub due-here : (due : Due) → IsDuePost desk (Does due) → IsDue (scene_now terms v book now) due
  due-here due h = subst (λ s. IsDue s due) (sym scene-is) h

  pub can-look : birth ≤ now → 1000 * (now - birth) < 2 ^ 40 → length v.issued ≤ 32 → AreMarkedBy v now → CanLook v now birth
  can-look order soon short marked = record { order = order; soon = soon; drawn = subst (AreDrawn v) born a.drawn; marked = marked; short = omega (arith, short); asked = asked_range v inst log a valid }

  made-now : (x : Submission) → IsMade terms.limits v book.jobs now birth x → IsMade inst.limits v book.jobs (now_of inst log) inst.birth x
  made-now x h =
      subst (λ limits. IsMade limits v book.jobs (now_of inst log) inst.birth x) (sym on.limits)
      (subst (λ n. IsMade terms.limits v book.jobs n inst.birth x) (sym second) (subst (λ b. IsMade terms.limits v book.jobs now b x) (sym born) h))

  soon-now : 1000 * (now - birth) < 2 ^ 40 → 1000 * (now_of inst log - inst.birth) < 2 ^ 40
  soon-now h = subst (λ n. 1000 * (n - inst.birth) < 2 ^ 40) (sym second) (subst (λ b. 1000 * (now - b) < 2 ^ 40) (sym born) h)

  module _ (labelled : AreLabelled v.labels book.jobs) (smalls : Each (λ j. j.id < 2 ^ 64) book.jobs) (soon : 1000 * (now - birth) < 2 ^ 40) (short : length v.issued ≤ 32) (made-due : MadeAreDue) (unmade-not : UnmadeAreNot) where
    found-owes : (found : Option Post) → IsFound terms v book now birth found → Owes None found desk
    found-owes (Some (Submits x)) h = made-due v inst log book.jobs x a valid (omega (arith, short)) labelled smalls (soon-now soon) (made-now x h)
    found-owes (Some (Does due)) h = due-there due h
    found-owes None h = none
      where
        none : (post : Post) → IsDuePost desk post → ⊥
        none (Submits x) d = unmade-not v inst log book.jobs x (subst (λ limits. (row : Row) → Contains v.rows row → MakesNone limits v.labels book.jobs row) (sym on.limits) h.0) d
        none (Does due) d = h.1 due (due-here due d)

    pub beside-owes : (posted found : Option Post) → ((post : Post) → posted ≡ Some post → IsDuePost desk post) → IsFoundBeside terms posted v book now birth found → Owes posted found desk
    beside-owes (Some post) found due h = due post refl
    beside-owes None found due h = found-owes found h

-- ---- what is found is named, and alone

waits-as : (row : Row) → is_waiting row.stage ≡ true → is_submission (Some (told row.ask)) ≡ true → is_submit row ≡ true
waits-as row w s = ap (λ b. b && is_submission (Some (told row.ask))) w ∙ s

named-found : (terms : Terms) (v : CommandsValue) (book : BookValue) (now birth : ℕ) (found : Option Post) → IsFound terms v book now birth found → IsNamed v birth found
named-found w v book now birth (Some (Submits x)) h =
    let m = h.made in
    record {
      row = h.row;
      known = h.stands;
      named = sym m.built.command;
      waits = waits-as h.row (ap is_waiting m.submits.waits) (ap (λ a. is_submission (Some (told a))) m.submits.asks);
      made = m.built.id;
    }
named-found w v book now birth (Some (Does due)) h = tt
named-found w v book now birth None h = tt

pub found-named : (terms : Terms) (v : CommandsValue) (book : BookValue) (now birth : ℕ) (posted found : Option Post) → IsFoundBeside terms posted v book now birth found → IsNamed v birth found
found-named w v book now birth (Some post) found none = subst (IsNamed v birth) (sym none) tt
found-named w v book now birth None found h = named-found w v book now birth found h

pub found-alone : (terms : Terms) (v : CommandsValue) (book : BookValue) (now birth : ℕ) (posted found : Option Post) → IsFoundBeside terms posted v book now birth found → IsAlone posted found
found-alone w v book now birth (Some post) found none = none
found-alone w v book now birth None found h = tt

-- what is found where nothing waits to land
pub beside-none : (terms : Terms) (v : CommandsValue) (book : BookValue) (now birth : ℕ) (posted found : Option Post) → is_some posted ≡ false → IsFound terms v book now birth found → IsFoundBeside terms posted v book now birth found
beside-none w v book now birth None found e h = h
beside-none w v book now birth (Some post) found e h = cc

-- ---- what is owed

pub posted-due : (posted found : Option Post) (desk : Desk) → Owes posted found desk → (post : Post) → posted ≡ Some post → IsDuePost desk post
posted-due posted found desk owes post e = (let o : Owes (Some post) found desk = subst (λ p. Owes p found desk) e owes in o)

pub found-due : (posted found : Option Post) (desk : Desk) → Owes posted found desk → posted ≡ None → (post : Post) → found ≡ Some post → IsDuePost desk post
found-due posted found desk owes none post e = (let o : Owes None (Some post) desk = subst (λ f. Owes None f desk) e (subst (λ p. Owes p found desk) none owes) in o)
