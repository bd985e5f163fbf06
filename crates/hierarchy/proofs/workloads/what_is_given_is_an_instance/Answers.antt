use Rattle.hierarchy.proofs.Within.{child_instance, enough_brokers, top_instance}
use Rattle.hierarchy.proofs.workloads.what_is_given_is_an_instance.Goals as goal

pub returns : goal.returns
returns c = record {
  brokers = λ b h. enough_brokers b h;
  child = λ set b h bs some grant. child_instance set b h bs some grant;
  top = λ set h bs some grant text. top_instance set h bs some grant text;
}
