-- What brokers have heard of `primary`.
use Rattle.std.specs.Prelude.{slice_index, unwrap_or}
use Rattle.std.proofs.Common.{◌≡◌, ℕ, zero, suc, ◌-◌, ◌<◌, ◌==◌, ◌&&◌, List, [], ◌∷◌, Bool, true, false, cond, Option, Some, None, refl, sym, ap, ◌∙◌, subst, get_or, length, arith}
use Rattle.std.specs.Str.{bytes_eq}
use Rattle.kvs_rules.specs.declared.events.KvsEvent.TheVariants as event
use Rattle.kvs_rules.specs.Log.{Log, Asked, Happened, Resumed}
use Rattle.kvs_rules.specs.Namespaces.{Setting, landed, primary}
use Rattle.kvs_rules.specs.Brokers.{heard, number_heard}
use Rattle.kvs_rules.specs.Sequence.{latest}
use Rattle.kvs_space.specs.Space.{SpaceValue, known_at, name_at, number_of}
use Rattle.kvs_space.specs.Sound.{IsSoundSpace}
use Rattle.kvs_keys.specs.Agrees.{Agrees, SpaceAgrees}
use Rattle.kvs_keys.specs.Seen.{primary_heard}
use Rattle.kvs_keys.specs.Sound.{IsSound}
use Rattle.kvs_keys.specs.Value.{KeysValue}
use Rattle.kvs_keys.proofs.Landing.{primary-there}

-- a broker has heard some number of `primary`, whatever happens
some-heard : (broker first : ℕ) (log : Log) → (n : ℕ) × (latest (number_heard broker primary) (Some first) log ≡ Some n)
some-heard broker first [] = (first, refl)
some-heard broker first (Asked by floors ∷ log) = some-heard broker first log
some-heard broker first (Resumed number ∷ log) = some-heard broker number log
some-heard broker first (Happened (event.Heard other named number) ∷ log) = at ((broker == other) && bytes_eq primary named) (some-heard broker number log) (some-heard broker first log)
  where
    at : (b : Bool) → (n : ℕ) × (latest (number_heard broker primary) (Some number) log ≡ Some n) → (n : ℕ) × (latest (number_heard broker primary) (Some first) log ≡ Some n) →
        (n : ℕ) × (latest (number_heard broker primary) (unwrap_or (cond b (Some (Some number)) None) (Some first)) log ≡ Some n)
    at true now before = now
    at false now before = before
some-heard broker first (Happened (event.Landed space number authors groups) ∷ log) = some-heard broker first log
some-heard broker first (Happened (event.Denied space authors group refusal) ∷ log) = some-heard broker first log
some-heard broker first (Happened (event.Got b reference) ∷ log) = some-heard broker first log
some-heard broker first (Happened (event.Dropped b reference) ∷ log) = some-heard broker first log
some-heard broker first (Happened (event.Answered by number answer) ∷ log) = some-heard broker first log

one-less : (known : ℕ) (o : Option ℕ) (n : ℕ) → o ≡ Some n → o ≡ number_of known → o ≡ Some (known - 1)
one-less zero o n some is = cc
one-less (suc k) o n some is = let same : k ≡ suc k - 1 = omega arith in is ∙ ap Some same

-- the first namespace of the table, with what the log says of it
module _ {v : KeysValue} {set₀ : Setting} {log : Log} (s : IsSound v) (a : Agrees v set₀ log) where
  pub primary-told : (broker : ℕ) → broker < v.size → heard log broker primary ≡ Some (primary_heard v broker)
  primary-told broker low = by v.spaces refl (primary-there v.spaces s.first)
    where
      by : (spaces : List SpaceValue) → v.spaces ≡ spaces → 0 < length spaces → heard log broker primary ≡ Some (primary_heard v broker)
      by [] e l = absurd (omega arith)
      by (x ∷ xs) e l =
          let here : SpaceAgrees set₀ log v.size x = subst (λ ss. SpaceAgrees set₀ log v.size (get_or ss 0 x)) e (a.spaces 0 x (subst (λ ss. 0 < length ss) (sym e) l)) in
          let named : x.name ≡ primary = named_so x xs (subst (λ ss. name_at ss 0 ≡ Some primary) e s.first) in
          let some = some-heard broker 0 log in
          let told : heard log broker primary ≡ number_of (slice_index x.known broker) = subst (λ n. heard log broker n ≡ number_of (slice_index x.known broker)) named (here.told broker low) in
          one-less (slice_index x.known broker) (heard log broker primary) some.0 some.1 told ∙ ap (λ ss. Some (known_at ss 0 broker - 1)) (sym e)
        where
          named_so : (x : SpaceValue) (xs : List SpaceValue) → name_at (x ∷ xs) 0 ≡ Some primary → x.name ≡ primary
          named_so x xs e = cc

  pub primary-last : landed log primary ≡ primary_heard v 0
  primary-last = by v.spaces refl (primary-there v.spaces s.first)
    where
      by : (spaces : List SpaceValue) → v.spaces ≡ spaces → 0 < length spaces → landed log primary ≡ primary_heard v 0
      by [] e l = absurd (omega arith)
      by (x ∷ xs) e l =
          let within = subst (λ ss. 0 < length ss) (sym e) l in
          let here : SpaceAgrees set₀ log v.size x = subst (λ ss. SpaceAgrees set₀ log v.size (get_or ss 0 x)) e (a.spaces 0 x within) in
          let sound : IsSoundSpace v.fanout v.grant x = subst (λ ss. IsSoundSpace v.fanout v.grant (get_or ss 0 x)) e (s.spaces 0 x within) in
          let named : x.name ≡ primary = named_so x xs (subst (λ ss. name_at ss 0 ≡ Some primary) e s.first) in
          let last : suc (landed log primary) ≡ slice_index x.known 0 = subst (λ n. suc (landed log n) ≡ slice_index x.known 0) named (here.last ∙ sym sound.newest) in
          let less : landed log primary ≡ slice_index x.known 0 - 1 = omega (arith, last) in
          less ∙ ap (λ ss. known_at ss 0 0 - 1) (sym e)
        where
          named_so : (x : SpaceValue) (xs : List SpaceValue) → name_at (x ∷ xs) 0 ≡ Some primary → x.name ≡ primary
          named_so x xs e = cc
