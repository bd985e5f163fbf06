-- Moments that are not about contents.
use Rattle.std.proofs.Common.{◌≡◌, ℕ, zero, suc, ◌⊎◌, inl, inr, List, [], ◌∷◌, ◌++◌, map, true, false, ◌||◌, Contains, Some, None, Option, refl, sym, ap, ◌∙◌, subst, arith, true≢false, append_assoc, append-nil, get_or}
use Rattle.std.specs.List.{AllByRecursion as Each, list_any}
use Rattle.std.specs.Option.{option_map_or}
use Rattle.std.proofs.lemmas.List.Elements.{Contains-append_cases}
use Rattle.std.proofs.lemmas.List.Folds.{list_any-append}
use Rattle.fl_digest.specs.declared.BlobRef.{BlobRef}
use Rattle.kvs_txn.specs.declared.txn.By.{By}
use Rattle.kvs_txn.specs.declared.txn.Group.{Group}
use Rattle.kvs_model.specs.Store.{Name}
use Rattle.kvs_rules.specs.declared.events.KvsAsk.{KvsAsk}
use Rattle.kvs_rules.specs.declared.events.KvsAsk.TheVariants as ask
use Rattle.kvs_rules.specs.declared.events.KvsAnswer.TheVariants as answer
use Rattle.kvs_rules.specs.declared.events.KvsEvent.TheVariants as event
use Rattle.kvs_rules.specs.Landings.{AreMembers, IsAdvance, IsManagers, IsOpening, IsRemoval, IsUsers, names_of, names_of_group}
use Rattle.kvs_rules.specs.Log.{Asked, Happened, Resumed, Log, Moment, answers_now, asks_now, denies_now, is_author, lands_now, same_command}
use Rattle.kvs_rules.specs.Namespaces.{Asks, Request, Setting}
use Rattle.kvs_rules.specs.Answers.{IsLegalAfter, IsLegalMoment, IsStoredAt}
use Rattle.kvs_content.specs.Agrees.{IsKept}
use Rattle.kvs_content.proofs.Staying.{IsOtherwise, content-stays, kept-stays}
use Rattle.content_service.specs.Agrees.{AgreesService}
use Rattle.content_service.specs.Asks.{IsOthers, asks_content, is_content}
use Rattle.content_service.specs.Value.{ContentServiceValue}
use Rattle.content_service.proofs.Asking.{before, differs, push}
use Rattle.content_service.proofs.Later.{row-later}
use Rattle.content_service.proofs.Lists.{neither}

-- what a setting says of a command
asks-is : (set : Setting) (by : By) (o : Option Request) → set.asks by ≡ o → asks_content set by ≡ option_map_or (λ request. is_content request.ask) o false
asks-is set by o e = ap (λ (q : Option Request). option_map_or (λ request. is_content request.ask) q false) e

-- ---- whom a landing and a denial name

module _ (set : Setting) (by : By) (content : asks_content set by ≡ true) where
  -- a command that asks something else is another
  other-asks : (space : Name) (other : By) (asked : KvsAsk) → Asks set space other asked → is_content asked ≡ false → same_command by other ≡ false
  other-asks space other asked h e = differs by other (λ same.
      true≢false (sym content ∙ ap (asks_content set) same ∙ asks-is set other (Some h.request) h.made ∙ ap is_content h.asked ∙ e))

  silent-command : (other : By) → set.asks other ≡ None → same_command by other ≡ false
  silent-command other e = differs by other (λ same. true≢false (sym content ∙ ap (asks_content set) same ∙ asks-is set other None e))

  among : (bys : List By) → list_any (is_author by) (map Some bys) ≡ list_any (same_command by) bys
  among [] = refl
  among (b ∷ bys) = ap (λ t. same_command by b || t) (among bys)

  named-group : (bys : List By) → list_any (same_command by) bys ≡ false → list_any (is_author by) (names_of_group bys) ≡ false
  named-group [] e = refl
  named-group (b ∷ bys) e = ap (λ t. same_command by b || t) (among bys) ∙ e

  members-silent : (space : Name) (name : List ℕ) (count : ℕ) (bys : List By) (ops : _) → AreMembers set space name count bys ops → list_any (same_command by) bys ≡ false
  members-silent space name count [] ops h = refl
  members-silent space name count (b ∷ bys) ops h = neither (same_command by b) _ (other-asks space b _ h.2 refl) (members-silent space name count bys _ h.4)

  users-silent : (space : Name) (group : Group) → IsUsers set space group → list_any (same_command by) group.authors ≡ false
  users-silent space group h = elim h.1 [
    | inl c ↦ ap (list_any (same_command by)) c.alone ∙ neither (same_command by c.by) false (other-asks space c.by _ c.asked refl) refl
    | inr f ↦ members-silent space f.name f.count group.authors group.txn.ops f.members
  ]

  managers-silent : (bys : List By) → Each (λ b. set.asks b ≡ None) bys → list_any (same_command by) bys ≡ false
  managers-silent [] h = refl
  managers-silent (b ∷ bys) h = neither (same_command by b) _ (silent-command b h.0) (managers-silent bys h.1)

  groups-silent : (space : Name) (groups : List Group) → Each (λ group. IsUsers set space group ⊎ IsManagers set space group) groups → list_any (is_author by) (names_of groups) ≡ false
  groups-silent space [] h = refl
  groups-silent space (g ∷ gs) h =
      list_any-append (is_author by) (names_of_group g.authors) (names_of gs)
      ∙ neither (list_any (is_author by) (names_of_group g.authors)) (list_any (is_author by) (names_of gs))
      (named-group g.authors (elim h.0 [
        | inl u ↦ users-silent space g u
        | inr m ↦ managers-silent g.authors m.others
      ])) (groups-silent space gs h.1)

  -- no legal landing and no legal denial names it
  unnamed : (log : Log) (m : Moment) → IsLegalMoment set log m → (lands_now by m ≡ false) × (denies_now by m ≡ false)
  unnamed log (Asked other floors) h = (refl, refl)
  unnamed log (Resumed number) h = (refl, refl)
  unnamed log (Happened (event.Landed space number authors groups)) h = (named h.form, refl)
    where
      one : (other : By) (asked : KvsAsk) → Asks set space other asked → is_content asked ≡ false → authors ≡ Some other ∷ [] → list_any (is_author by) authors ≡ false
      one other asked asks e alone = ap (list_any (is_author by)) alone ∙ neither (same_command by other) false (other-asks space other asked asks e) refl

      named : IsOpening set log space number authors groups ⊎ IsRemoval set log space number authors groups ⊎ IsAdvance set log space number authors groups → list_any (is_author by) authors ≡ false
      named (inl o) = one o.by ask.Create o.asked refl o.alone
      named (inr (inl r)) = one r.by ask.Remove r.asked refl r.alone
      named (inr (inr a)) = ap (list_any (is_author by)) a.named ∙ groups-silent space groups a.kinds
  unnamed log (Happened (event.Denied space authors group refusal)) h = (refl, ap (list_any (is_author by)) h.named ∙ named-group group.authors (users-silent space group h.users))
  unnamed log (Happened (event.Heard broker space number)) h = (refl, refl)
  unnamed log (Happened (event.Got broker r)) h = (refl, refl)
  unnamed log (Happened (event.Dropped broker r)) h = (refl, refl)
  unnamed log (Happened (event.Answered other number given)) h = (refl, refl)

-- ---- what such a moment leaves

otherwise : (set : Setting) (m : Moment) → IsOthers set m → IsOtherwise m
otherwise set (Asked by floors) h = record { gets = λ b r. refl; holds = λ b r. refl }
otherwise set (Resumed number) h = record { gets = λ b r. refl; holds = λ b r. refl }
otherwise set (Happened (event.Landed space number authors groups)) h = record { gets = λ b r. refl; holds = λ b r. refl }
otherwise set (Happened (event.Denied space authors group refusal)) h = record { gets = λ b r. refl; holds = λ b r. refl }
otherwise set (Happened (event.Heard broker space number)) h = record { gets = λ b r. refl; holds = λ b r. refl }
otherwise set (Happened (event.Answered by number given)) h = record { gets = λ b r. refl; holds = λ b r. refl }
otherwise set (Happened (event.Got broker r)) h = absurd h
otherwise set (Happened (event.Dropped broker r)) h = absurd h

-- a command that asks something of contents neither asks then nor is told
aside : (set : Setting) (m : Moment) → IsOthers set m → (by : By) → asks_content set by ≡ true → (asks_now by m ≡ false) × (answers_now by m ≡ false)
aside set m h by content = at m h
  where
    apart : (other : By) → asks_content set other ≡ false → same_command by other ≡ false
    apart other e = differs by other (λ same. true≢false (sym content ∙ ap (asks_content set) same ∙ e))

    at : (m : Moment) → IsOthers set m → (asks_now by m ≡ false) × (answers_now by m ≡ false)
    at (Asked other floors) e = (apart other e, refl)
    at (Resumed number) e = (refl, refl)
    at (Happened (event.Landed space number authors groups)) e = (refl, refl)
    at (Happened (event.Denied space authors group refusal)) e = (refl, refl)
    at (Happened (event.Heard broker space number)) e = (refl, refl)
    at (Happened (event.Answered other number given)) e = (refl, apart other e)
    at (Happened (event.Got broker r)) e = absurd e
    at (Happened (event.Dropped broker r)) e = absurd e

-- and none is told then that something was stored
untold : (set : Setting) (log : Log) (m : Moment) → IsLegalMoment set log m → IsOthers set m → (by : By) (r : BlobRef) → m ≡ Happened (event.Answered by None (answer.Stored r)) → ⊥
untold set log m legal h by r e =
    let l : IsLegalMoment set log (Happened (event.Answered by None (answer.Stored r))) = subst (IsLegalMoment set log) e legal in
    let o : asks_content set by ≡ false = subst (IsOthers set) e h in
    true≢false (sym (asks-is set by (Some l.request) l.made ∙ ap is_content l.grounds.2) ∙ o)

module _ (v : ContentServiceValue) (set : Setting) (log : Log) (m : Moment) (a : AgreesService v set log) (legal : IsLegalMoment set log m) (h : IsOthers set m) where
  abbrev log-now : Log
  log-now = log ++ m ∷ []

  kept-now : (broker : ℕ) (r : BlobRef) → IsKept v.content set log broker r → IsKept v.content set log-now broker r
  kept-now broker r k = kept-stays log m (otherwise set m h) set v.content broker r k

  stored-old : (broker : ℕ) (r : BlobRef) → IsStoredAt set log-now broker r → IsStoredAt set log broker r
  stored-old broker r s = record {
    storer = s.storer;
    request = s.request;
    made = s.made;
    there = s.there;
    told = elim (Contains-append_cases log (m ∷ []) _ s.told) [
      | inl c ↦ c
      | inr c ↦ absurd (only c)
    ];
  } where
    only : Contains (m ∷ []) (Happened (event.Answered s.storer None (answer.Stored r))) → ⊥
    only (zero, l, e) = untold set log m legal h s.storer r e
    only (suc k, l, e) = omega arith

  -- a row is of a command that asks something of contents
  of-content : (by : By) (request : Request) → set.asks by ≡ Some request → is_content request.ask ≡ true → asks_content set by ≡ true
  of-content by request made about = asks-is set by (Some request) made ∙ about

  pub others-agree : AgreesService v set log-now
  others-agree = record {
    content = content-stays log m (otherwise set m h) set v.content a.content;
    rows = λ k d l.
        let r = a.rows k d l in
        row-later v.content v.content set log (m ∷ []) (suc (get_or v.rows k d).broker) (λ b x l₁ kept. kept-now b x kept) (get_or v.rows k d) (omega arith) (ap (λ t. t || false) (aside set m h _ (of-content _ r.request r.made r.about)).1) r;
    apart = a.apart;
    open_rows = λ by content o.
        let q = aside set m h by content in
        a.open_rows by content (record { asked = before (asks_now by) log m true o.asked q.0; unanswered = before (answers_now by) log m false o.unanswered q.1 });
    kept = λ broker r l s. kept-now broker r (a.kept broker r l (stored-old broker r s));
    strange = λ by content e.
        let q = aside set m h by content in
        push (answers_now by) log m false (a.strange by content (before (asks_now by) log m false e q.0)) q.1;
    unlanded = λ by content. push (lands_now by) log m false (a.unlanded by content) (unnamed set by content log m legal).0;
    undenied = λ by content. push (denies_now by) log m false (a.undenied by content) (unnamed set by content log m legal).1;
  }

pub all-others-agree : (v : ContentServiceValue) (set : Setting) (log more : Log) → AgreesService v set log → IsLegalAfter set log more → Each (IsOthers set) more → AgreesService v set (log ++ more)
all-others-agree v set log [] a legal h = subst (AgreesService v set) (sym (append-nil log)) a
all-others-agree v set log (m ∷ ms) a legal h =
    subst (AgreesService v set) (append_assoc log (m ∷ []) ms) (all-others-agree v set (log ++ m ∷ []) ms (others-agree v set log m a legal.0 h.0) legal.1 h.1)
