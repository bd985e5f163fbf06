-- What brokers have heard of a name, by the table.
use Rattle.std.specs.Prelude.{slice_index}
use Rattle.std.proofs.Common.{◌≡◌, ℕ, ◌<◌, List, [], ◌∷◌, map, Bool, false, ◌||◌, Some, None, refl, sym, ap, ◌∙◌, subst, get_or, bytes_eq}
use Rattle.std.specs.List.{list_any, position}
use Rattle.kvs_model.specs.Store.{Name}
use Rattle.kvs_rules.specs.Log.{Log}
use Rattle.kvs_rules.specs.Namespaces.{Setting, is_opened}
use Rattle.kvs_rules.specs.Brokers.{heard}
use Rattle.kvs_space.specs.Space.{SpaceValue, number_of, is_named}
use Rattle.kvs_keys.specs.Value.{KeysValue}
use Rattle.kvs_keys.specs.Sound.{IsSound}
use Rattle.kvs_keys.specs.Agrees.{Agrees, SpaceAgrees}
use Rattle.kvs_space.proofs.Finding.{none-passes}
use Rattle.kvs_keys.proofs.Moving.{found-there, found-name}

-- no namespace, as a default
pub no-space : SpaceValue
no-space = record { name = []; removed = false; history = []; known = []; stores = []; links = []; merger = record { fences = []; ready = [] } }

any-map : {X Y : Type 0} (p : Y → Bool) (f : X → Y) (xs : List X) → list_any p (map f xs) ≡ list_any (λ x. p (f x)) xs
any-map p f [] = refl
any-map p f (x ∷ xs) = ap (λ b. p (f x) || b) (any-map p f xs)

-- a name is opened exactly where the table has it
pub opened-is : {v : KeysValue} {set₀ : Setting} {log : Log} → Agrees v set₀ log → (name : Name) → is_opened log name ≡ list_any (is_named name) v.spaces
opened-is a name = ap (list_any (bytes_eq name)) (sym a.names) ∙ any-map (bytes_eq name) (λ x. x.name) _

-- what a broker has heard, as the service of keys answers it
pub heard-found : {v : KeysValue} {set₀ : Setting} {log : Log} → IsSound v → Agrees v set₀ log → (broker : ℕ) (name : Name) (k : ℕ) (space : SpaceValue) → broker < v.size → Some k ≡ position (is_named name) v.spaces → space ≡ get_or v.spaces k space → number_of (slice_index space.known broker) ≡ heard log broker name
heard-found {v} {set₀} {log} s a broker name k space l found read =
    let within = found-there s name k found in
    let there : SpaceAgrees set₀ log v.size space = subst (SpaceAgrees set₀ log v.size) (sym read) (a.spaces k space within) in
    sym (there.told broker l) ∙ ap (heard log broker) (ap (λ x. x.name) read ∙ found-name s name k found space)

pub heard-lost : {v : KeysValue} {set₀ : Setting} {log : Log} → Agrees v set₀ log → (broker : ℕ) (name : Name) → None ≡ position (is_named name) v.spaces → None ≡ heard log broker name
heard-lost {v} a broker name lost = sym ((a.untold name (opened-is a name ∙ none-passes (is_named name) v.spaces (sym lost))).unheard broker)
