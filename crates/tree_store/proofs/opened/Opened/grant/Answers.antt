use Rattle.std.proofs.Common.{◌≡◌, ◌<◌, [], ◌∷◌, ℕ, List, sym, ap, ap₂, ◌∙◌, subst, codes}
use Rattle.kvs_model.specs.History.{first_store}
use Rattle.kvs_model.specs.Store.{Path as Place}
use Rattle.tree_rules.specs.Objects.{no_entries, val}
use Rattle.std.specs.List.{All}
use Rattle.tree_store.specs.Shown.{Shows, with_object, with_open, Directories}
use Rattle.std.proofs.lemmas.Result.{on_ok_weaker}
use Rattle.std.proofs.lemmas.List.Elements.{All-same}
use Rattle.tree_store.proofs.Granted.{granted_shows, grant_path, named_job, named_resource, grant_good}
use Rattle.tree_store.proofs.opened.Opened.grant.Goals as goal

pub returns : goal.returns
returns c = λ h held shows.
    let ds : Directories = c.args.self.now in
    let grant : List ℕ = c.args.grant.now in
    let one : c.make.new.self ≡ with_open ds (codes "job" ∷ []) no_entries = c.in_ok-make.ensures ∙ ap (λ (n : List ℕ). with_open ds (n ∷ []) no_entries) c.in_ok-of.ensures in
    let two : c.make-2.new.self ≡ with_open (with_open ds (codes "job" ∷ []) no_entries) (codes "resource" ∷ []) no_entries =
    c.in_ok-make-2.ensures ∙ ap (λ (n : List ℕ). with_open c.make.new.self (n ∷ []) no_entries) c.in_ok-of-2.ensures ∙ ap (λ (d : Directories). with_open d (codes "resource" ∷ []) no_entries) one in
    let path : c.in_ok-of-2.field-0 ∷ c.in_ok-of-3.field-0 ∷ [] ≡ grant_path = ap₂ (λ (m n : List ℕ). m ∷ n ∷ []) c.in_ok-of-2.ensures c.in_ok-of-3.ensures in
    let small : All (λ b. b < 256) grant = All-same (λ b. b < 256) grant c.as_slice.result.now (sym c.as_slice.ensures) c.are_bytes.ensures in
    on_ok_weaker c.put.result (λ put.
    subst (λ (d : Directories). Shows h held d (first_store grant))
    (sym (put ∙ ap (λ (p : Place). with_object c.make-2.new.self p (val c.in_ok-copy.field-0)) path ∙ ap (λ (b : List ℕ). with_object c.make-2.new.self grant_path (val b)) c.in_ok-copy.ensures ∙ ap (λ (d : Directories). with_object d grant_path (val grant)) two))
    (granted_shows h held ds grant named_job named_resource (grant_good grant small) shows)) c.put.ensures
