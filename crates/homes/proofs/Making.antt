-- The entries that an instance makes in a step of its own.
use Rattle.std.proofs.Common.{◌≡◌, ◌∙◌, ℕ, ◌+◌, ◌==◌, ◌&&◌, ◌||◌, ◌⊎◌, inl, inr, List, [], ◌∷◌, ◌++◌, Bool, true, false, Option, Some, None, cond, count_by, map, refl, sym, ap, ap₂, subst, arith}
use Rattle.std.specs.List.{AllByRecursion as Each, list_any}
use Rattle.std.proofs.lemmas.Bool.{eq-eqb, ne_eqb}
use Rattle.std.proofs.lemmas.List.{map-append}
use Rattle.std.proofs.lemmas.List.Sums.{sum_by-cons}
use Rattle.instance.specs.kvs_rules.declared.events.KvsEvent.{KvsEvent}
use Rattle.instance.specs.kvs_rules.declared.events.KvsEvent.TheVariants as event
use Rattle.instance.specs.kvs_rules.declared.events.KvsStep.{KvsStep}
use Rattle.instance.specs.kvs_rules.declared.events.KvsStep.TheVariants as kvs
use Rattle.instance.specs.kvs_rules.Log.{Log}
use Rattle.instance.specs.kvs_rules.Steps.{AreMadeBy, ComesTo, IsBrokersWork, IsRuling}
use Rattle.instance.specs.workload.declared.work.Actor.{Actor}
use Rattle.instance.specs.workload.declared.work.Workload.{Workload}
use Rattle.instance.specs.answers.Chronicle.{issues_of, replies_to, top}
use Rattle.instance.specs.answers.Commands.{broker_of}
use Rattle.instance.specs.answers.Services.{log_of}
use Rattle.instance.specs.answers.Entering.{entered}
use Rattle.instance.specs.answers.Stretches.{ComesBeforeReply, IsContentAt, IsFeedStretch, IsIssueStretch, IsKvsStretch, IsLookStretch, IsReplyOf, IsReplyStretch}
use Rattle.instance.specs.answers.declared.chronicle.Entry.{Entry}
use Rattle.instance.specs.answers.declared.chronicle.Entry.TheVariants as entry
use Rattle.instance.specs.answers.declared.chronicle.Reply.{Reply}
use Rattle.instance.specs.answers.declared.chronicle.Reply.TheVariants as reply
use Rattle.hierarchy.specs.Births.{is_at}
use Rattle.hierarchy.specs.Families.{shuts_down}
use Rattle.hierarchy.specs.Growing.{IsMadeIn, StartsNothing}
use Rattle.hierarchy.specs.Stretches.{entered_in}
use Rattle.homes.proofs.Placing.{AreSilent, IsSilent, all_silent, by_of, counts_joined}

pub each_append : {A : Type 0} (P : A → Type 0) (xs ys : List A) → Each P xs → Each P ys → Each P (xs ++ ys)
each_append P [] ys h g = g
each_append P (x ∷ xs) ys h g = (h.0, each_append P xs ys h.1 g)

pub each_apart : {A : Type 0} (P : A → Type 0) (xs ys : List A) → Each P (xs ++ ys) → Each P xs × Each P ys
each_apart P [] ys h = (tt, h)
each_apart P (x ∷ xs) ys h = let rest = each_apart P xs ys h.1 in ((h.0, rest.0), rest.1)

-- how many pass of the run's entries, where one stands between others of which none does
pub count_one : (p : Entry → Bool) (i : ℕ) (before behind : List Entry) (e : Entry)
    → count_by p (map (entered_in i) before) ≡ 0 → count_by p (map (entered_in i) behind) ≡ 0
    → count_by p (map (entered_in i) (before ++ e ∷ behind)) ≡ cond (p (entered_in i e)) 1 0
count_one p i before behind e one other =
    let split : map (entered_in i) (before ++ e ∷ behind) ≡ map (entered_in i) before ++ map (entered_in i) (e ∷ behind) = map-append (entered_in i) before (e ∷ behind) in
    let all = counts_joined p (map (entered_in i) before) (map (entered_in i) (e ∷ behind)) in
    let last : count_by p (map (entered_in i) (e ∷ behind)) ≡ cond (p (entered_in i e)) 1 0 + count_by p (map (entered_in i) behind) = sum_by-cons (λ x. cond (p x) 1 0) (entered_in i e) (map (entered_in i) behind) in
    ap (count_by p) split ∙ omega arith

-- ---- entries that are no act of any actor

-- the instance makes it, and in the run it is no act of any actor
pub record IsQuiet (actors : List Actor) (label : Option (List ℕ)) (e : Entry) : Type 0 where
  pub made : IsMadeIn actors label e
  pub silent : (i actor : ℕ) → IsSilent actor (entered_in i e)
  pub nothing : StartsNothing e

module _ (actors : List Actor) (label : Option (List ℕ)) where
  made_each : (es : List Entry) → Each (IsQuiet actors label) es → Each (IsMadeIn actors label) es
  made_each [] h = tt
  made_each (e ∷ es) h = (h.0.made, made_each es h.1)

  silent_each : (i actor : ℕ) (es : List Entry) → Each (IsQuiet actors label) es → Each (IsSilent actor) (map (entered_in i) es)
  silent_each i actor [] h = tt
  silent_each i actor (e ∷ es) h = (h.0.silent i actor, silent_each i actor es h.1)

  nothing_each : (es : List Entry) → Each (IsQuiet actors label) es → Each StartsNothing es
  nothing_each [] h = tt
  nothing_each (e ∷ es) h = (h.0.nothing, nothing_each es h.1)

  quiet_content : (broker : ℕ) (e : Entry) → IsContentAt top broker e → IsQuiet actors label e
  quiet_content broker (entry.Got i b reference) h = record { made = h.0; silent = λ i a. record { issues = refl; replies = λ k. refl }; nothing = tt }
  quiet_content broker (entry.Dropped i b reference) h = record { made = h.0; silent = λ i a. record { issues = refl; replies = λ k. refl }; nothing = tt }
  quiet_content broker (entry.Issued a k) h = absurd h
  quiet_content broker (entry.Landed i space number authors groups) h = absurd h
  quiet_content broker (entry.Denied i space authors group refusal) h = absurd h
  quiet_content broker (entry.Heard i b space number) h = absurd h
  quiet_content broker (entry.Replied a k given number) h = absurd h
  quiet_content broker (entry.Told from to) h = absurd h
  quiet_content broker (entry.Watched actor command number first count) h = absurd h
  quiet_content broker (entry.Ticked second) h = absurd h
  quiet_content broker (entry.Born child parent job name second grant) h = absurd h
  quiet_content broker (entry.Gone child parent job shut) h = absurd h
  quiet_content broker entry.Closed h = absurd h

  quiet_contents : (broker : ℕ) (es : List Entry) → Each (IsContentAt top broker) es → Each (IsQuiet actors label) es
  quiet_contents broker [] h = tt
  quiet_contents broker (e ∷ es) h = (quiet_content broker e h.0, quiet_contents broker es h.1)

  -- ---- steps of the service

  quiet_work : (broker : ℕ) (e : KvsEvent) → IsBrokersWork broker e → IsQuiet actors label (entered top e)
  quiet_work broker (event.Landed space number authors groups) h = record { made = refl; silent = λ i a. record { issues = refl; replies = λ k. refl }; nothing = tt }
  quiet_work broker (event.Denied space authors group refusal) h = record { made = refl; silent = λ i a. record { issues = refl; replies = λ k. refl }; nothing = tt }
  quiet_work broker (event.Heard b space number) h = record { made = refl; silent = λ i a. record { issues = refl; replies = λ k. refl }; nothing = tt }
  quiet_work broker (event.Got b reference) h = record { made = refl; silent = λ i a. record { issues = refl; replies = λ k. refl }; nothing = tt }
  quiet_work broker (event.Dropped b reference) h = record { made = refl; silent = λ i a. record { issues = refl; replies = λ k. refl }; nothing = tt }
  quiet_work broker (event.Answered by number given) (inl h) = absurd h
  quiet_work broker (event.Answered by number given) (inr h) = absurd h.1

  quiet_works : (broker : ℕ) (es : List KvsEvent) → Each (IsBrokersWork broker) es → Each (IsQuiet actors label) (map (entered top) es)
  quiet_works broker [] h = tt
  quiet_works broker (e ∷ es) h = (quiet_work broker e h.0, quiet_works broker es h.1)

  quiet_ruling : (space : List ℕ) (e : KvsEvent) → IsRuling space e ⊎ ComesTo 0 e → IsQuiet actors label (entered top e)
  quiet_ruling space (event.Landed named number authors groups) h = record { made = refl; silent = λ i a. record { issues = refl; replies = λ k. refl }; nothing = tt }
  quiet_ruling space (event.Denied named authors group refusal) h = record { made = refl; silent = λ i a. record { issues = refl; replies = λ k. refl }; nothing = tt }
  quiet_ruling space (event.Heard b named number) h = record { made = refl; silent = λ i a. record { issues = refl; replies = λ k. refl }; nothing = tt }
  quiet_ruling space (event.Got b reference) h = record { made = refl; silent = λ i a. record { issues = refl; replies = λ k. refl }; nothing = tt }
  quiet_ruling space (event.Dropped b reference) h = record { made = refl; silent = λ i a. record { issues = refl; replies = λ k. refl }; nothing = tt }
  quiet_ruling space (event.Answered by number given) (inl h) = absurd h
  quiet_ruling space (event.Answered by number given) (inr h) = absurd h

  quiet_rulings : (space : List ℕ) (es : List KvsEvent) → Each (λ e. IsRuling space e ⊎ ComesTo 0 e) es → Each (IsQuiet actors label) (map (entered top) es)
  quiet_rulings space [] h = tt
  quiet_rulings space (e ∷ es) h = (quiet_ruling space e h.0, quiet_rulings space es h.1)

  quiet_events : (log : Log) (s : KvsStep) (es : List KvsEvent) → AreMadeBy log s es → Each (IsQuiet actors label) (map (entered top) es)
  quiet_events log (kvs.Deliver from to) es h = quiet_works to es h
  quiet_events log (kvs.Serve broker) es h = quiet_works broker es h
  quiet_events log (kvs.Land number) es h = quiet_rulings h.0 es h.2
  quiet_events log (kvs.Lose from to) es h = subst (λ es. Each (IsQuiet actors label) (map (entered top) es)) (sym h) tt
  quiet_events log (kvs.Repeat from to) es h = subst (λ es. Each (IsQuiet actors label) (map (entered top) es)) (sym h) tt
  quiet_events log (kvs.Swap from to) es h = subst (λ es. Each (IsQuiet actors label) (map (entered top) es)) (sym h) tt
  quiet_events log (kvs.Resync broker) es h = subst (λ es. Each (IsQuiet actors label) (map (entered top) es)) (sym h) tt

  pub quiet_stretch : (work : Workload) (c : List Entry) (s : KvsStep) (made : List Entry) → IsKvsStretch work c top s made → Each (IsQuiet actors label) made
  quiet_stretch work c s made h = subst (Each (IsQuiet actors label)) (sym h.split) (quiet_events (log_of work top c) s h.events h.allowed)

-- ---- what is quiet

module _ (actors : List Actor) (label : Option (List ℕ)) (own : List Entry) (quiet : Each (IsQuiet actors label) own) where
  pub made_quietly : Each (IsMadeIn actors label) own
  made_quietly = made_each actors label own quiet

  pub all_quiet : (i actor : ℕ) → AreSilent actor (map (entered_in i) own)
  all_quiet i actor = all_silent actor (map (entered_in i) own) (silent_each actors label i actor own quiet)

  pub nothing_issued : Each StartsNothing own
  nothing_issued = nothing_each actors label own quiet

-- ---- what issues nothing

entered_nothing : (i : ℕ) (e : Entry) → StartsNothing e → StartsNothing (entered_in i e)
entered_nothing i (entry.Issued a k) h = absurd h
entered_nothing i (entry.Landed n space number authors groups) h = tt
entered_nothing i (entry.Denied n space authors group refusal) h = tt
entered_nothing i (entry.Heard n b space number) h = tt
entered_nothing i (entry.Got n b reference) h = tt
entered_nothing i (entry.Dropped n b reference) h = tt
entered_nothing i (entry.Replied a k given number) h = tt
entered_nothing i (entry.Told from to) h = tt
entered_nothing i (entry.Watched actor command number first count) h = tt
entered_nothing i (entry.Ticked second) h = absurd h
entered_nothing i (entry.Born child parent job name second grant) h = tt
entered_nothing i (entry.Gone child parent job shut) h = tt
entered_nothing i entry.Closed h = tt

unshut_by : (work : Workload) (e : Entry) → StartsNothing e → shuts_down work e ≡ false
unshut_by work (entry.Issued a k) h = absurd h
unshut_by work (entry.Landed i space number authors groups) h = refl
unshut_by work (entry.Denied i space authors group refusal) h = refl
unshut_by work (entry.Heard i b space number) h = refl
unshut_by work (entry.Got i b reference) h = refl
unshut_by work (entry.Dropped i b reference) h = refl
unshut_by work (entry.Replied a k given number) h = refl
unshut_by work (entry.Told from to) h = refl
unshut_by work (entry.Watched actor command number first count) h = refl
unshut_by work (entry.Ticked second) h = refl
unshut_by work (entry.Born child parent job name second grant) h = refl
unshut_by work (entry.Gone child parent job shut) h = refl
unshut_by work entry.Closed h = refl

-- in the run they issue nothing either
pub all_nothing : (i : ℕ) (es : List Entry) → Each StartsNothing es → Each StartsNothing (map (entered_in i) es)
all_nothing i [] h = tt
all_nothing i (e ∷ es) h = (entered_nothing i e h.0, all_nothing i es h.1)

-- and none shuts down
pub unshut : (work : Workload) (es : List Entry) → Each StartsNothing es → list_any (shuts_down work) es ≡ false
unshut work [] h = refl
unshut work (e ∷ es) h = ap₂ (λ a b. a || b) (unshut_by work e h.0) (unshut work es h.1)

-- contents issue nothing
content_unissued_by : (actor broker : ℕ) (e : Entry) → IsContentAt top broker e → issues_of actor e ≡ false
content_unissued_by actor broker (entry.Got i b reference) h = refl
content_unissued_by actor broker (entry.Dropped i b reference) h = refl
content_unissued_by actor broker _ h = absurd h

pub content_unissued : (actor broker : ℕ) (es : List Entry) → Each (IsContentAt top broker) es → count_by (issues_of actor) es ≡ 0
content_unissued actor broker [] h = refl
content_unissued actor broker (e ∷ es) h =
    sum_by-cons (λ x. cond (issues_of actor x) 1 0) e es ∙ ap₂ (λ b n. cond b 1 0 + n) (content_unissued_by actor broker e h.0) (content_unissued actor broker es h.1)

pub content_nothing : (broker : ℕ) (es : List Entry) → Each (IsContentAt top broker) es → Each StartsNothing es
content_nothing broker es h = nothing_each [] None es (quiet_contents [] None broker es h)

-- ---- a reply

-- the entries are one of the actor's, and before it what it needs
module _ (actors : List Actor) (label : Option (List ℕ)) (work : Workload) (actor : ℕ) (home : is_at actors label actor ≡ true) where
  quiet_before : (e : Entry) → ComesBeforeReply work actor e → IsQuiet actors label e
  quiet_before (entry.Told from to) h = record { made = subst (λ a. is_at actors label a ≡ true) (sym h) home; silent = λ i a. record { issues = refl; replies = λ k. refl }; nothing = tt }
  quiet_before (entry.Got i b reference) h = quiet_content actors label (broker_of work actor) (entry.Got i b reference) h
  quiet_before (entry.Dropped i b reference) h = quiet_content actors label (broker_of work actor) (entry.Dropped i b reference) h
  quiet_before (entry.Issued a k) h = absurd h
  quiet_before (entry.Landed i space number authors groups) h = absurd h
  quiet_before (entry.Denied i space authors group refusal) h = absurd h
  quiet_before (entry.Heard i b space number) h = absurd h
  quiet_before (entry.Replied a k given number) h = absurd h
  quiet_before (entry.Watched a k number first count) h = absurd h
  quiet_before (entry.Ticked second) h = absurd h
  quiet_before (entry.Born child parent job name second grant) h = absurd h
  quiet_before (entry.Gone child parent job shut) h = absurd h
  quiet_before entry.Closed h = absurd h

  -- and so is a feed of its watch
  pub quiet_feed : (made : List Entry) → IsFeedStretch actor made → Each (IsQuiet actors label) made
  quiet_feed made f = subst (Each (IsQuiet actors label)) (sym f.split) (record { made = home; silent = λ i a. record { issues = refl; replies = λ k. refl }; nothing = tt }, tt)

  quiet_all_before : (es : List Entry) → Each (ComesBeforeReply work actor) es → Each (IsQuiet actors label) es
  quiet_all_before [] h = tt
  quiet_all_before (e ∷ es) h = (quiet_before e h.0, quiet_all_before es h.1)

  each_reply : (e : Entry) → IsReplyOf actor e → (command : ℕ) × ((given : Reply) × ((number : Option ℕ) × (e ≡ entry.Replied actor command given number)))
  each_reply (entry.Replied a k given number) h = (k, (given, (number, ap (λ a. entry.Replied a k given number) h.0)))
  each_reply (entry.Issued a k) h = absurd h
  each_reply (entry.Landed i space number authors groups) h = absurd h
  each_reply (entry.Denied i space authors group refusal) h = absurd h
  each_reply (entry.Heard i b space number) h = absurd h
  each_reply (entry.Got i b reference) h = absurd h
  each_reply (entry.Dropped i b reference) h = absurd h
  each_reply (entry.Told from to) h = absurd h
  each_reply (entry.Watched a k number first count) h = absurd h
  each_reply (entry.Ticked second) h = absurd h
  each_reply (entry.Born child parent job name second grant) h = absurd h
  each_reply (entry.Gone child parent job shut) h = absurd h
  each_reply entry.Closed h = absurd h

-- in the run one command of the actor is replied, and nobody else does anything
pub record IsReplyIn (actors : List Actor) (label : Option (List ℕ)) (actor i : ℕ) (own : List Entry) : Type 0 where
  pub made : Each (IsMadeIn actors label) own
  pub unissued : count_by (issues_of actor) (map (entered_in i) own) ≡ 0
  pub command : ℕ
  pub replied : count_by (replies_to (by_of actor command)) (map (entered_in i) own) ≡ 1
  pub others : (other : ℕ) → (other ≡ actor → ⊥) → AreSilent other (map (entered_in i) own)
  pub nothing : Each StartsNothing own

same_number : (n : ℕ) → (n == n) ≡ true
same_number n = eq-eqb n n refl

one_reply : (actors : List Actor) (label : Option (List ℕ)) (work : Workload) (actor i : ℕ) → is_at actors label actor ≡ true → (own before : List Entry) → Each (ComesBeforeReply work actor) before
    → (command : ℕ) (given : Reply) (number : Option ℕ) → own ≡ before ++ entry.Replied actor command given number ∷ [] → IsReplyIn actors label actor i own
one_reply actors label work actor i home own before others command given number split =
    let e = entry.Replied actor command given number in
    let quiet = quiet_all_before actors label work actor home before others in
    subst (IsReplyIn actors label actor i) (sym split) (record {
      made = each_append (IsMadeIn actors label) before (e ∷ []) (made_quietly actors label before quiet) (home, tt);
      unissued = count_one (issues_of actor) i before [] e (all_quiet actors label before quiet i actor).issues refl;
      command = command;
      replied = count_one (replies_to (by_of actor command)) i before [] e ((all_quiet actors label before quiet i actor).replies command) refl
          ∙ ap₂ (λ a b. cond (a && b) 1 0) (same_number actor) (same_number command);
      others = λ other ne. record {
        issues = count_one (issues_of other) i before [] e (all_quiet actors label before quiet i other).issues refl;
        replies = λ k. count_one (replies_to (by_of other k)) i before [] e ((all_quiet actors label before quiet i other).replies k) refl
            ∙ ap (λ a. cond (a && (k == command)) 1 0) (ne_eqb other actor ne);
      };
      nothing = each_append StartsNothing before (e ∷ []) (nothing_issued actors label before quiet) (tt, tt);
    })

pub reply_stretch : (actors : List Actor) (label : Option (List ℕ)) (work : Workload) (actor i : ℕ) → is_at actors label actor ≡ true → (own : List Entry) → IsReplyStretch work actor own → IsReplyIn actors label actor i own
reply_stretch actors label work actor i home own h =
    let it = each_reply actors label work actor home h.reply h.replies in
    one_reply actors label work actor i home own h.before h.others it.0 it.1.0 it.1.1.0 (h.split ∙ ap (λ x. h.before ++ x ∷ []) it.1.1.1)

pub look_stretch : (actors : List Actor) (label : Option (List ℕ)) (work : Workload) (actor i : ℕ) → is_at actors label actor ≡ true → (own : List Entry) → IsLookStretch actor own → IsReplyIn actors label actor i own
look_stretch actors label work actor i home own h = one_reply actors label work actor i home own [] tt h.command reply.Seen (Some h.number) h.split

-- ---- an issue

-- in the run one command of the actor is issued, and nobody else does anything
pub record IsIssueIn (actors : List Actor) (label : Option (List ℕ)) (actor i : ℕ) (own : List Entry) : Type 0 where
  pub made : Each (IsMadeIn actors label) own
  pub issued : count_by (issues_of actor) (map (entered_in i) own) ≡ 1
  pub unreplied : (k : ℕ) → count_by (replies_to (by_of actor k)) (map (entered_in i) own) ≡ 0
  pub others : (other : ℕ) → (other ≡ actor → ⊥) → AreSilent other (map (entered_in i) own)

pub issue_stretch : (actors : List Actor) (label : Option (List ℕ)) (work : Workload) (actor i : ℕ) → is_at actors label actor ≡ true → (own : List Entry) → IsIssueStretch work actor own → IsIssueIn actors label actor i own
issue_stretch actors label work actor i home own h =
    let e = entry.Issued actor h.command in
    let quiet = quiet_contents actors label (broker_of work actor) h.behind h.others in
    subst (IsIssueIn actors label actor i) (sym h.split) (record {
      made = (home, made_quietly actors label h.behind quiet);
      issued = count_one (issues_of actor) i [] h.behind e refl (all_quiet actors label h.behind quiet i actor).issues
          ∙ ap (λ b. cond b 1 0) (same_number actor);
      unreplied = λ k. count_one (replies_to (by_of actor k)) i [] h.behind e refl ((all_quiet actors label h.behind quiet i actor).replies k);
      others = λ other ne. record {
        issues = count_one (issues_of other) i [] h.behind e refl (all_quiet actors label h.behind quiet i other).issues
            ∙ ap (λ b. cond b 1 0) (ne_eqb other actor ne);
        replies = λ k. count_one (replies_to (by_of other k)) i [] h.behind e refl ((all_quiet actors label h.behind quiet i other).replies k);
      };
    })
