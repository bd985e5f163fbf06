-- The event at which the one transaction of the job manager's lands, and those before it and behind it.
use Rattle.std.proofs.Common.{◌≡◌, List, [], ◌∷◌, ◌++◌, Bool, true, false, cond, ◌||◌, Some, refl, sym, ap, ◌∙◌}
use Rattle.std.specs.Prelude.{find, flat_map, option_and_then}
use Rattle.std.specs.List.{list_any}
use Rattle.kvs_keys.specs.Posted.{groups_in, posts_landed}
use Rattle.kvs_rules.specs.declared.events.KvsEvent.{KvsEvent}
use Rattle.kvs_space.proofs.Posting.{none-left, none-right, posts-append, with-post, with-user}
use Rattle.kvs_txn.specs.declared.txn.Group.{Group}
use Rattle.store_laws.specs.Posts.{is_manager, posts_in}
use Rattle.job_landings.specs.Landings.{lands_post, number_in, number_of_post}

-- the event at which the transaction lands
pub record Split (events : List KvsEvent) (group : Group) : Type 0 where
  pub before : List KvsEvent
  pub here : KvsEvent
  pub behind : List KvsEvent
  pub split : events ≡ before ++ here ∷ behind
  pub earlier : posts_landed before ≡ []
  pub lands : posts_in (groups_in here) ≡ group ∷ []
  pub later : posts_landed behind ≡ []

landed_cons : (e : KvsEvent) (es : List KvsEvent) → posts_landed (e ∷ es) ≡ posts_in (groups_in e) ++ posts_landed es
landed_cons e es = posts-append (groups_in e) (flat_map groups_in es)

pub split_at_post : (events : List KvsEvent) (group : Group) → posts_landed events ≡ group ∷ [] → Split events group
split_at_post [] group one = cc
split_at_post (e ∷ es) group one = by (posts_in (groups_in e)) refl (sym (landed_cons e es) ∙ one) (λ rest. split_at_post es group rest)
  where
    by : (gs : List Group) → posts_in (groups_in e) ≡ gs → gs ++ posts_landed es ≡ group ∷ [] → (posts_landed es ≡ group ∷ [] → Split es group) → Split (e ∷ es) group
    by [] is both more =
        let s = more both in
        record {
          before = e ∷ s.before;
          here = s.here;
          behind = s.behind;
          split = ap (λ l. e ∷ l) s.split;
          earlier = landed_cons e s.before ∙ ap (λ gs. gs ++ posts_landed s.before) is ∙ s.earlier;
          lands = s.lands;
          later = s.later;
        }
    by (x ∷ xs) is both more =
        let first : x ≡ group = cc in
        let rest : xs ++ posts_landed es ≡ [] = cc in
        record {
          before = [];
          here = e;
          behind = es;
          split = refl;
          earlier = refl;
          lands = is ∙ ap (λ y. y ∷ xs) first ∙ ap (λ ys. group ∷ ys) (none-left xs (posts_landed es) rest);
          later = none-right xs (posts_landed es) rest;
        }

-- ---- the number

abbrev has : Group → Bool
has group = is_manager group.txn.author

lands_none : (gs : List Group) → posts_in gs ≡ [] → list_any has gs ≡ false
lands_none [] e = refl
lands_none (g ∷ gs) e = by (is_manager g.txn.author) refl (lands_none gs)
  where
    by : (b : Bool) → is_manager g.txn.author ≡ b → (posts_in gs ≡ [] → list_any has gs ≡ false) → (b || list_any has gs) ≡ false
    by true m more = (let wrong : g ∷ posts_in gs ≡ [] = sym (with-post g gs m) ∙ e in cc)
    by false m more = more (sym (with-user g gs m) ∙ e)

lands_some : (gs : List Group) (x : Group) (xs : List Group) → posts_in gs ≡ x ∷ xs → list_any has gs ≡ true
lands_some [] x xs e = cc
lands_some (g ∷ gs) x xs e = by (is_manager g.txn.author) refl (lands_some gs x xs)
  where
    by : (b : Bool) → is_manager g.txn.author ≡ b → (posts_in gs ≡ x ∷ xs → list_any has gs ≡ true) → (b || list_any has gs) ≡ true
    by true m more = refl
    by false m more = more (sym (with-user g gs m) ∙ e)

found_behind : (before : List KvsEvent) (e : KvsEvent) (behind : List KvsEvent) → posts_landed before ≡ [] → lands_post e ≡ true → find lands_post (before ++ e ∷ behind) ≡ Some e
found_behind [] e behind none some = ap (λ b. cond b (Some e) (find lands_post behind)) some
found_behind (x ∷ xs) e behind none some =
    let both : posts_in (groups_in x) ++ posts_landed xs ≡ [] = sym (landed_cons x xs) ∙ none in
    ap (λ b. cond b (Some x) (find lands_post (xs ++ e ∷ behind))) (lands_none (groups_in x) (none-left (posts_in (groups_in x)) (posts_landed xs) both))
    ∙ found_behind xs e behind (none-right (posts_in (groups_in x)) (posts_landed xs) both) some

pub number_is : (events : List KvsEvent) (group : Group) (s : Split events group) → number_of_post events ≡ number_in s.here
number_is events group s =
    ap number_of_post s.split
    ∙ ap (option_and_then number_in) (found_behind s.before s.here s.behind s.earlier (lands_some (groups_in s.here) group [] s.lands))
