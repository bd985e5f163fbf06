use Rattle.std.proofs.Common.{rules, arith, ◌≡◌, inl, inr, length, refl}
use Rattle.outside.proofs.sink.MemSinkSink.write.Goals as goal
use Rattle.outside.proofs.sink.MemSinkSink.write.Goals.{then-count-eq0-via-then-count-eq0, then-count-eq0-via-else-count-eq0+then-contains}

pub returns-then-count-eq0-clause-fails : goal.returns-then-count-eq0-clause-fails
returns-then-count-eq0-clause-fails c =
    let full : c.min-count.result ≡ 0 → length c.self.inside.bytes.items ≡ c.self.inside.room = λ none. omega arith in (
      λ e. elim c.then-count-eq0.branch [
        | then-count-eq0-via-then-count-eq0 w ↦ inr (rw (← c.self.view_is) (full w.if-count-eq0.true))
        | then-count-eq0-via-else-count-eq0+then-contains w ↦ inl (search rules)
      ],
      λ h. refl,
    )
