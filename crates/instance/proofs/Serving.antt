-- What a step of the services leaves of an instance.
use Rattle.std.proofs.Common.{◌≡◌, List, [], ◌++◌, map, false, sym, refl, subst}
use Rattle.std.specs.Prelude.{slice_get}
use Rattle.services.specs.instance_rules.Log.{Instance, Log as InstanceLog}
use Rattle.services.specs.kvs_rules.declared.events.KvsEvent.{KvsEvent}
use Rattle.services.specs.kvs_rules.declared.events.KvsStep.{KvsStep}
use Rattle.services.specs.kvs_rules.Log.{Log}
use Rattle.services.specs.kvs_rules.Steps.{AreMadeBy}
use Rattle.services.proofs.kvs_rules_proofs.Sequences.{each_joined}
use Rattle.services.specs.Agrees.{AgreesServices}
use Rattle.services.specs.Makes.{Makes}
use Rattle.services.specs.Value.{ServicesValue}
use Rattle.services.specs.answers.declared.chronicle.Entry.{Entry}
use Rattle.services.specs.answers.declared.steps.Step.TheVariants as step
use Rattle.services.specs.answers.Chronicle.{top}
use Rattle.services.specs.answers.Entering.{entered}
use Rattle.services.specs.answers.Jobs.{instance_of, log_in}
use Rattle.services.specs.answers.Legal.{IsLegalEntry}
use Rattle.services.specs.answers.Services.{log_of}
use Rattle.services.specs.answers.Whole.{IsEarlierEntry}
use Rattle.instance.specs.declared.seats.Seat.{Seat}
use Rattle.instance.specs.Agrees.{ActorStands}
use Rattle.instance.specs.Makes.{Follows}
use Rattle.instance.specs.Value.{InstanceValue}
use Rattle.instance.proofs.Listing.{each_append}
use Rattle.instance.proofs.Logs.{log_of_news, served_log}
use Rattle.instance.proofs.Lining.{same_lines, tallied_on}
use Rattle.instance.proofs.News.{made_news, legal_news, log_news, early_news, actor_news, settled_news}
use Rattle.instance.proofs.Owning.{Own, DoesAgree}

-- the instance behind a step of its services
abbrev pub stepped : List Seat → ServicesValue → InstanceValue
stepped seats services = record { spent = false; seats = seats; services = services }

pub serve_follows : (v : Own) → DoesAgree v → (s : KvsStep) (services : ServicesValue) (events : List KvsEvent) → Makes s v.instance.services services events →
    (es : List Entry) → es ≡ map (entered 0) events → Follows v.set v.chronicle (step.Kvs 0 s) (stepped v.instance.seats services) es
serve_follows v h s services events m es same =
    let log : Log = log_of v.set.work top v.chronicle in
    let inst : Instance = instance_of v.set in
    let now : InstanceLog = log_in v.set.work v.chronicle in
    let allowed = subst (λ l. AreMadeBy l s events) (served_log v.set.work v.chronicle) (m.made inst now h.agrees) in
    let n = made_news log s events allowed in
    let c = v.chronicle ++ map (entered 0) events in
    let grown = log_news v.set.work v.chronicle events n in
    let legal = legal_news v.set v.chronicle events n h.early (m.legal inst now h.agrees) in
    subst (Follows v.set v.chronicle (step.Kvs 0 s) (stepped v.instance.seats services)) (sym same) (record {
      made = record { events = events; split = refl; allowed = allowed };
      legal = legal;
      settled = λ told. settled_news v.set v.chronicle events n;
      agrees = record {
        within = h.within;
        known = h.known;
        few = h.few;
        tallied = tallied_on v.instance (stepped v.instance.seats services) v.set.work.lines m.keeps.counts (same_lines v.instance.seats) h.tallied;
        seated = h.seated;
        legal = each_joined (IsLegalEntry v.set) [] v.chronicle (map (entered 0) events) h.legal legal;
        early = each_append IsEarlierEntry v.chronicle (map (entered 0) events) h.early (early_news events n);
        agrees = subst (AgreesServices services inst) (sym (log_of_news v.set.work v.chronicle events n)) (m.agrees inst now h.agrees);
        actors = λ a. subst (λ l. ActorStands v.set l c a (slice_get v.instance.seats a)) (sym grown) (actor_news v.set log v.chronicle events n a (slice_get v.instance.seats a) (h.actors a));
      };
    })
