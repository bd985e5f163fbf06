-- Each watch of a run is told the names of what it was fed.
use Rattle.std.proofs.Common.{◌≡◌, ℕ, List, [], ◌∷◌, ◌++◌, subst}
use Rattle.std.specs.Prelude.{IsSomeAnd}
use Rattle.kvs_rules.proofs.Sequences.{each_at}
use Rattle.kvs_rules.specs.Sequence.{EachAfter}
use Rattle.kvs_txn.specs.declared.txn.By.{By}
use Rattle.workload.specs.Laws.{HasOwnLabels}
use Rattle.answers.specs.Chronicle.{Setup}
use Rattle.answers.specs.declared.chronicle.Entry.{Entry}
use Rattle.answers.specs.declared.chronicle.Entry.TheVariants as entry
use Rattle.answers.specs.declared.chronicle.Reply.TheVariants as reply
use Rattle.run_laws.specs.Feeds.{TellsLog}
use Rattle.run_laws.specs.Times.{HasTime}
use Rattle.run_laws.proofs.Feeds.{tells_log}
use Rattle.hierarchy.specs.Laws.{AreValid}
use Rattle.hierarchy.specs.Legal.{IsLegalRun, IsLegalRunEntry}
use Rattle.hierarchy.specs.Own.{own_of, setup_in}
use Rattle.hierarchy.specs.Promises.{WatchesTellTheirLogs}
use Rattle.hierarchy.proofs.Keeping.{at_home, replied_in}
use Rattle.hierarchy.proofs.Throughout.{labels_in, past_kept}

pub all_told : (set : Setup) (c : List Entry) → HasTime set → AreValid set c → IsLegalRun set c → HasOwnLabels set.work.lines → WatchesTellTheirLogs set c
all_told set c fits valid legal labels past more actor command shown number split =
    let by : By = record { actor = actor; command = command } in
    let e : Entry = entry.Replied actor command (reply.Watched shown) number in
    let l = each_at (IsLegalRunEntry set) past e more (subst (EachAfter (IsLegalRunEntry set) []) split legal) in
    let h = replied_in set past actor command (reply.Watched shown) number l l.grounds in
    let kept = past_kept set c fits valid legal past (e ∷ more) split h.home h.living in
    at_home set past actor e h (λ s own. IsSomeAnd number (TellsLog s own by shown))
    (tells_log (setup_in set past h.home) kept.valid (labels_in set c fits valid legal past h.home labels) (own_of set past h.home) h.own.before kept.timely by shown number h.own.now)
