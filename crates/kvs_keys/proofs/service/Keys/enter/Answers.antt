use Rattle.std.proofs.Common.{◌≡◌, ◌∙◌, ◌<◌, Some, None, true, false, length, arith, get_or, ap, sym, subst}
use Rattle.std.specs.List.{position}
use Rattle.std.proofs.lemmas.List.{get_or_default}
use Rattle.kvs_rules.specs.declared.events.KvsAnswer.TheVariants as answer
use Rattle.kvs_requests.specs.declared.rows.Kind.TheVariants as kind
use Rattle.kvs_requests.specs.declared.rows.Row.{Row}
use Rattle.kvs_requests.specs.Stages.{is_arrived, kept_count, kind_of}
use Rattle.kvs_space.specs.Space.{SpaceValue, is_named}
use Rattle.kvs_space.proofs.Finding.{found-within}
use Rattle.kvs_keys.proofs.Looking.{gone-fits}
use Rattle.kvs_keys.proofs.Taking.{arrived-ask, differs-fits, kept-fence}
use Rattle.kvs_requests.proofs.Tables.{any}
use Rattle.kvs_keys.proofs.Seen.{told-seen}
use Rattle.kvs_keys.proofs.service.Keys.enter.Goals as goal

pub index-requires : goal.index-requires
index-requires c =
    let found = subst (λ v. (d : Row) → Some c.args.k ≡ position (is_named (get_or v.rows c.args.i d).namespace) v.spaces) (sym c.self.view_is) c.requires.found any in
    let f = found-within (is_named (get_or c.self.inside.rows.items c.args.i any).namespace) c.self.inside.spaces.items c.args.k found in
    omega (arith, c.self.inside.spaces.ok.0, f)

pub index-requires-3 : goal.index-requires-3
index-requires-3 c =
    let found = subst (λ v. (d : Row) → Some c.args.k ≡ position (is_named (get_or v.rows c.args.i d).namespace) v.spaces) (sym c.self.view_is) c.requires.found any in
    let f = found-within (is_named (get_or c.self.inside.rows.items c.args.i any).namespace) c.self.inside.spaces.items c.args.k found in
    omega (arith, c.self.inside.spaces.ok.0, f)

pub turn_away-requires-clause-fits : goal.turn_away-requires-clause-fits
turn_away-requires-clause-fits c = λ set log a d.
    let s = c.self.invariant.0 (ap (λ v. v.spent) c.self.view_is ∙ c.requires.ready) in
    let e = sym c.self.view_is in
    let within = subst (λ v. c.args.i < length v.rows) e c.requires.within in
    let row = get_or c.self.inside.rows.items c.args.i d in
    let found = subst (λ v. (d : Row) → Some c.args.k ≡ position (is_named (get_or v.rows c.args.i d).namespace) v.spaces) e c.requires.found d in
    let lands = subst (λ v. (d : Row) → kind_of (get_or v.rows c.args.i d).stage ≡ kind.Land) e c.requires.asked d in
    let ar = arrived-ask row (subst (λ v. (d : Row) → is_arrived (get_or v.rows c.args.i d) ≡ true) e c.requires.arrived d) in
    told-seen c.self.view_is c.args.i answer.NoNamespace d (λ b. gone-fits s c.args.i within row (get_or_default c.self.inside.rows.items c.args.i d row within) c.args.k found ar.asked ar.is c.index.result.now c.index.ensures b
    (sym c.is_removed.ensures ∙ c.if-is_removed.true) (λ q. let no : kind.Land ≡ kind.Look = sym lands ∙ q in cc) (λ q. let no : kind.Land ≡ kind.Create = sym lands ∙ q in cc)) a

pub turn_away-requires-in-Some-clause-fits : goal.turn_away-requires-in-Some-clause-fits
turn_away-requires-in-Some-clause-fits c = λ set log a d.
    let s = c.self.invariant.0 (ap (λ v. v.spent) c.self.view_is ∙ c.requires.ready) in
    let e = sym c.self.view_is in
    let within = subst (λ v. c.args.i < length v.rows) e c.requires.within in
    let row = get_or c.self.inside.rows.items c.args.i d in
    let found = subst (λ v. (d : Row) → Some c.args.k ≡ position (is_named (get_or v.rows c.args.i d).namespace) v.spaces) e c.requires.found d in
    let same = c.index-2.ensures ∙ get_or_default c.self.inside.rows.items c.args.i c.index-2.result.now d within in
    let kept = c.in-Some.ensures ∙ ap (λ r. kept_count c.index-3.result.now r.stage) same in
    let f = kept-fence c.index-3.result.now row c.in-Some.kept kept in
    told-seen c.self.view_is c.args.i (answer.CountDiffers c.in-Some.kept) d (λ b. differs-fits s c.args.i within row (get_or_default c.self.inside.rows.items c.args.i d row within) c.args.k found c.index-3.result.now c.index-3.ensures f.name f.count f.txn f.is c.in-Some.kept
    (kept ∙ ap (kept_count c.index-3.result.now) f.is) b) a

pub admit-requires-clause-living : goal.admit-requires-clause-living
admit-requires-clause-living c =
    let e = sym c.self.view_is in
    let found = subst (λ v. (d : Row) → Some c.args.k ≡ position (is_named (get_or v.rows c.args.i d).namespace) v.spaces) e c.requires.found any in
    let inside = found-within (is_named (get_or c.self.inside.rows.items c.args.i any).namespace) c.self.inside.spaces.items c.args.k found in
    subst (λ v. (d : SpaceValue) → (get_or v.spaces c.args.k d).removed ≡ false) c.self.view_is
    (λ d. ap (λ x. x.removed) (sym (c.index.ensures ∙ get_or_default c.self.inside.spaces.items c.args.k c.index.result.now d inside)) ∙ sym c.is_removed.ensures ∙ c.if-is_removed.false)

pub admit-requires-clause-same : goal.admit-requires-clause-same
admit-requires-clause-same c =
    let e = sym c.self.view_is in
    let within = subst (λ v. c.args.i < length v.rows) e c.requires.within in
    let found = subst (λ v. (d : Row) → Some c.args.k ≡ position (is_named (get_or v.rows c.args.i d).namespace) v.spaces) e c.requires.found any in
    let inside = found-within (is_named (get_or c.self.inside.rows.items c.args.i any).namespace) c.self.inside.spaces.items c.args.k found in
    subst (λ v. (d : Row) (x : SpaceValue) → kept_count (get_or v.spaces c.args.k x) (get_or v.rows c.args.i d).stage ≡ None) c.self.view_is
    (λ d x. sym (c.in-None.ensures
    ∙ ap (λ y. kept_count y c.index-2.result.now.stage) (c.index-3.ensures ∙ get_or_default c.self.inside.spaces.items c.args.k c.index-3.result.now x inside)
    ∙ ap (λ r. kept_count (get_or c.self.inside.spaces.items c.args.k x) r.stage) (c.index-2.ensures ∙ get_or_default c.self.inside.rows.items c.args.i c.index-2.result.now d within)))
