-- What later moments leave of what a command may be told of contents.
use Rattle.std.proofs.Common.{◌≡◌, ◌⊎◌, inl, inr, ℕ, ◌<◌, ◌++◌, true, false, None, sym, ap, ◌∙◌, subst, append_assoc}
use Rattle.std.specs.Prelude.{IsTrue}
use Rattle.std.proofs.lemmas.List.Elements.{Contains-append_left}
use Rattle.std.proofs.lemmas.List.Folds.{list_any-append}
use Rattle.fl_digest.specs.declared.BlobRef.{BlobRef}
use Rattle.kvs_txn.specs.declared.txn.By.{By}
use Rattle.kvs_rules.specs.declared.events.KvsAnswer.{KvsAnswer}
use Rattle.kvs_rules.specs.declared.events.KvsAnswer.TheVariants as answer
use Rattle.kvs_rules.specs.Log.{Log, SinceAsked, answers_now, before_asked, is_answered, is_asked}
use Rattle.kvs_rules.specs.Namespaces.{Setting, Request}
use Rattle.kvs_rules.specs.Brokers.{has_got, holds}
use Rattle.kvs_rules.specs.Answers.{HasGrounds, IsClash, IsCrowded, IsDroppedSince, IsStoredAt}
use Rattle.kvs_content.specs.Agrees.{IsKept}
use Rattle.kvs_content.specs.Value.{ContentValue}
use Rattle.kvs_content.proofs.Later.{asked-later, before-same, clash-later, content-later, got-later}
use Rattle.content_service.specs.declared.rows.Row.{Row}
use Rattle.content_service.specs.declared.rows.Stage.{Stage}
use Rattle.content_service.specs.declared.rows.Stage.TheVariants as stage
use Rattle.content_service.specs.Agrees.{IsSafe, RowAgrees, StageAgrees}
use Rattle.content_service.specs.Asks.{IsContentAnswer}
use Rattle.content_service.proofs.Lists.{neither}

module _ (log more : Log) where
  split-later : (past later : Log) → log ≡ past ++ later → log ++ more ≡ past ++ (later ++ more)
  split-later past later e = ap (λ l. l ++ more) e ∙ append_assoc past later more

  pub dropped-later : (by : By) (broker : ℕ) (r : BlobRef) → IsDroppedSince log by broker r → IsDroppedSince (log ++ more) by broker r
  dropped-later by broker r d = record {
    past = d.past;
    later = d.later ++ more;
    split = split-later d.past d.later d.split;
    asked = d.asked;
    dropped = Contains-append_left d.later more _ d.dropped;
  }

  since-later : (by : By) (P : Log → Type 0) → SinceAsked by P log → SinceAsked by P (log ++ more)
  since-later by P s = record { past = s.past; later = s.later ++ more; split = split-later s.past s.later s.split; asked = s.asked; held = s.held }

  module _ (set : Setting) (by : By) (request : Request) (asked : is_asked by log ≡ true) where
    stored-before : (broker : ℕ) (r : BlobRef) → IsStoredAt set (before_asked by (log ++ more)) broker r → IsStoredAt set (before_asked by log) broker r
    stored-before broker r s = subst (λ past. IsStoredAt set past broker r) (before-same log more by asked) s

    flushed-later : (r : BlobRef) → IsTrue (has_got log request.broker r) ⊎ IsClash set log r → IsTrue (has_got (log ++ more) request.broker r) ⊎ IsClash set (log ++ more) r
    flushed-later r (inl g) = inl (got-later log more request.broker r g)
    flushed-later r (inr c) = inr (clash-later log more set r c)

    all-dropped-later : (((r : BlobRef) → IsTrue (holds (before_asked by log) request.broker r) → IsDroppedSince log by request.broker r) ⊎ SinceAsked by (IsCrowded by) log)
        → (((r : BlobRef) → IsTrue (holds (before_asked by (log ++ more)) request.broker r) → IsDroppedSince (log ++ more) by request.broker r) ⊎ SinceAsked by (IsCrowded by) (log ++ more))
    all-dropped-later (inl f) = inl (λ r h. dropped-later by request.broker r (f r (subst (λ past. holds past request.broker r ≡ true) (before-same log more by asked) h)))
    all-dropped-later (inr s) = inr (since-later by (IsCrowded by) s)

    pub grounds-later : (given : KvsAnswer) → IsContentAnswer given → HasGrounds set log by request given None → HasGrounds set (log ++ more) by request given None
    grounds-later (answer.Stored r) about h = h
    grounds-later (answer.Blob bytes) about h = (h.0, h.1, content-later log more set bytes h.2)
    grounds-later answer.NoBlob about h =
        (h.0, h.1, h.2, subst (λ past. has_got past 0 h.1 ≡ false) (sym (before-same log more by asked)) h.3, λ s. h.4 (stored-before request.broker h.1 s))
    grounds-later answer.Flushed about h = (h.0, h.1, λ r s. flushed-later r (h.2 r (stored-before request.broker r s)))
    grounds-later (answer.Clashed r) about h = (h.0, h.1, clash-later log more set r h.2)
    grounds-later answer.Dropped about h = (h.0, h.1, all-dropped-later h.2)
    grounds-later _ about h = absurd about

module _ (v w : ContentValue) (set : Setting) (log more : Log) (size : ℕ) (kept : (broker : ℕ) (r : BlobRef) → broker < size → IsKept v set log broker r → IsKept w set (log ++ more) broker r) where
  safe-later : (broker : ℕ) → broker < size → (given : KvsAnswer) → IsSafe v set log broker given → IsSafe w set (log ++ more) broker given
  safe-later broker within (answer.Stored r) h = kept broker r within h
  safe-later broker within _ h = tt

  stage-later : (by : By) (request : Request) → is_asked by log ≡ true → request.broker < size → (s : Stage) → StageAgrees v set log by request s → StageAgrees w set (log ++ more) by request s
  stage-later by request asked within (stage.Entered asks) h = h
  stage-later by request asked within stage.Loading h = h
  stage-later by request asked within stage.Flushing h = h
  stage-later by request asked within (stage.Held given) h = record {
    about = h.about;
    grounds = grounds-later log more set by request asked given h.about h.grounds;
    safe = safe-later request.broker within given h.safe;
  }

  -- what the log says of a request whose command isn't answered then
  pub row-later : (row : Row) → row.broker < size → is_answered row.by more ≡ false → RowAgrees v set log row → RowAgrees w set (log ++ more) row
  row-later row within silent r = record {
    asked = asked-later log more row.by r.asked;
    unanswered = list_any-append (answers_now row.by) log more ∙ neither (is_answered row.by log) (is_answered row.by more) r.unanswered silent;
    request = r.request;
    made = r.made;
    about = r.about;
    home = r.home;
    staged = stage-later row.by r.request r.asked (subst (λ b. b < size) (sym r.home) within) row.stage r.staged;
  }
