use Rattle.std.proofs.Common.{◌≡◌, ◌∙◌, ℕ, List, Bool, true, false, cond, Option, Some, None, is_some, option_and_then, option_map, ap, ap₂, sym, inl, inr, rules, codes}
use Rattle.clap.specs.Words.{first_value, found_of, one_text}
use Rattle.clap.specs.declared.parser.matches.Found.{Found}
use Rattle.fl_digest.specs.declared.Hash.{Hash}
use Rattle.run_options.specs.Given.{brokers_of, hash_of, losses_of, number_of, workers_of}
use Rattle.run_options.specs.declared.given.Given.{Given}
use Rattle.run_options.specs.Matches.{IsFlag, field, flag_of, given_in}
use Rattle.run_options.proofs.Sets.{Flags, Texts, fits, none_given, values}
use Rattle.run_options.proofs.Walks.{Name, by_size, by_fanout, by_hash, by_shuffle, by_losses, by_workers, both, every, flag_text, text}
use Rattle.run_options.proofs.command.given_in.Goals as goal

abbrev texts : Found → Texts
texts f n = first_value f (text n)

abbrev flags : Found → Flags
flags f g = flag_of (one_text f (flag_text g))

abbrev sizes : Found → Option (Option ℕ)
sizes f = field brokers_of (first_value f (codes "size"))

abbrev fanouts : Found → Option (Option ℕ)
fanouts f = field brokers_of (first_value f (codes "fanout"))

abbrev hashes : Found → Option (Option Hash)
hashes f = field hash_of (first_value f (codes "hash"))

abbrev seeds : Found → Option (Option ℕ)
seeds f = field number_of (first_value f (codes "shuffle"))

abbrev losses : Found → Option (Option ℕ)
losses f = field losses_of (first_value f (codes "losses"))

abbrev crew : Found → Option (Option ℕ)
crew f = field workers_of (first_value f (codes "workers"))

-- a flag, as `get_flag` reads it
flag_read : (o : Option (List ℕ)) (r : Bool) → IsFlag o → (o ≡ Some (codes "true") → r ≡ true) → (o ≡ Some (codes "false") → r ≡ false) → r ≡ flag_of o
flag_read o r (inl e) on off = on e ∙ sym (ap flag_of e)
flag_read o r (inr e) on off = off e ∙ sym (ap flag_of e)

-- an option's value, as its function reads it
value_read : {X : Type 0} (read : List ℕ → Option X) (o : Option (List ℕ)) (x : Option X) → field read o ≡ Some x → x ≡ option_and_then read o
value_read read None x e = cc
value_read {X} read (Some t) x e = go (read t) e
  where
    go : (o : Option X) → option_map (λ y. Some y) o ≡ Some x → x ≡ o
    go None e = cc
    go (Some y) e = cc

-- a value that is none of its option's
unfit : (f : Found) (n : Name) → fits n (first_value f (text n)) ≡ false → given_in f ≡ None
unfolding given_in
unfit f n e = none_given (texts f) (flags f) n e

pub returns-in_err-size-clause-value : goal.returns-in_err-size-clause-value
returns-in_err-size-clause-value c =
    let f = found_of c.args.matches.now in
    let gone : c.from_residual.result ≡ None = search rules in
    let is : sizes f ≡ None = search rules in
    gone ∙ sym (unfit f by_size (ap is_some is))

pub returns-in_err-fanout-clause-value : goal.returns-in_err-fanout-clause-value
returns-in_err-fanout-clause-value c =
    let f = found_of c.args.matches.now in
    let gone : c.from_residual-in_err-fanout.result ≡ None = search rules in
    let is : fanouts f ≡ None = search rules in
    gone ∙ sym (unfit f by_fanout (ap is_some is))

pub returns-in_err-hash-clause-value : goal.returns-in_err-hash-clause-value
returns-in_err-hash-clause-value c =
    let f = found_of c.args.matches.now in
    let gone : c.from_residual-in_err-hash.result ≡ None = search rules in
    let is : hashes f ≡ None = search rules in
    gone ∙ sym (unfit f by_hash (ap is_some is))

pub returns-in_err-shuffle-clause-value : goal.returns-in_err-shuffle-clause-value
returns-in_err-shuffle-clause-value c =
    let f = found_of c.args.matches.now in
    let gone : c.from_residual-in_err-shuffle.result ≡ None = search rules in
    let is : seeds f ≡ None = search rules in
    gone ∙ sym (unfit f by_shuffle (ap is_some is))

pub returns-in_err-losses-clause-value : goal.returns-in_err-losses-clause-value
returns-in_err-losses-clause-value c =
    let f = found_of c.args.matches.now in
    let gone : c.from_residual-in_err-losses.result ≡ None = search rules in
    let is : losses f ≡ None = search rules in
    gone ∙ sym (unfit f by_losses (ap is_some is))

pub returns-in_err-workers-clause-value : goal.returns-in_err-workers-clause-value
returns-in_err-workers-clause-value c =
    let f = found_of c.args.matches.now in
    let gone : c.from_residual-in_err-workers.result ≡ None = search rules in
    let is : crew f ≡ None = search rules in
    gone ∙ sym (unfit f by_workers (ap is_some is))

pub returns-clause-value : goal.returns-clause-value
unfolding given_in
returns-clause-value c =
    let f = found_of c.args.matches.now in
    let size : sizes f ≡ Some c.in_ok-size.size = search rules in
    let fanout : fanouts f ≡ Some c.in_ok-fanout.fanout = search rules in
    let hash : hashes f ≡ Some c.in_ok-hash.hash = search rules in
    let shuffle : seeds f ≡ Some c.in_ok-shuffle.shuffle = search rules in
    let lost : losses f ≡ Some c.in_ok-losses.losses = search rules in
    let many : crew f ≡ Some c.in_ok-workers.workers = search rules in
    let journal = flag_read (one_text f (codes "journal")) c.get_flag.result c.requires.journal c.get_flag.ensures.value c.get_flag.ensures.other in
    let backfill = flag_read (one_text f (codes "backfill")) c.get_flag-2.result c.requires.backfill c.get_flag-2.ensures.value c.get_flag-2.ensures.other in
    let fine : every (λ n. fits n (texts f n)) ≡ true =
    ap₂ both (ap is_some size) (ap₂ both (ap is_some fanout) (ap₂ both (ap is_some hash) (ap₂ both (ap is_some shuffle) (ap₂ both (ap is_some lost) (ap is_some many))))) in
    let given : Given = record {
      size = c.in_ok-size.size;
      fanout = c.in_ok-fanout.fanout;
      hash = c.in_ok-hash.hash;
      shuffle = c.in_ok-shuffle.shuffle;
      losses = c.in_ok-losses.losses;
      workers = c.in_ok-workers.workers;
      journal = c.get_flag.result;
      backfill = c.get_flag-2.result;
    } in
    let same : given ≡ values (texts f) (flags f) = λ i. record {
      size = value_read brokers_of (first_value f (codes "size")) c.in_ok-size.size size i;
      fanout = value_read brokers_of (first_value f (codes "fanout")) c.in_ok-fanout.fanout fanout i;
      hash = value_read hash_of (first_value f (codes "hash")) c.in_ok-hash.hash hash i;
      shuffle = value_read number_of (first_value f (codes "shuffle")) c.in_ok-shuffle.shuffle shuffle i;
      losses = value_read losses_of (first_value f (codes "losses")) c.in_ok-losses.losses lost i;
      workers = value_read workers_of (first_value f (codes "workers")) c.in_ok-workers.workers many i;
      journal = journal i;
      backfill = backfill i;
    } in
    ap (λ g. Some g) same ∙ sym (ap (λ b. cond b (Some (values (texts f) (flags f))) None) fine)
