use Rattle.serde_json.specs.View.{view}
use Rattle.fl_json.proofs.Canonical.{written_back, canonical}
use Rattle.fl_json.proofs.reading.text.Goals as goal

pub returns-clause-reads_back : goal.returns-clause-reads_back
returns-clause-reads_back c = written_back (λ t. t.items) c.to_vec.result (view c.args.value.now) c.to_vec.ensures.text c.to_vec.ensures.utf8 c.to_vec.ensures.reads_back

pub returns-clause-canonical : goal.returns-clause-canonical
returns-clause-canonical c = canonical (λ t. t.items) c.to_vec.result (view c.args.value.now) c.to_vec.ensures.text
