-- What entries make of a fold to which they are lent, as they are or as documents.
use Rattle.std.proofs.Common.{◌≡◌, ℕ, suc, ◌<◌, ◌≤◌, ◌^◌, List, [], ◌∷◌, ◌++◌, length, map, refl, sym, ◌∙◌, ap, subst, arith, inl, inr}
use Rattle.std.specs.Prelude.{true, false, Option, Some, None, is_some, All, Result, Ok, Err, IfErr, OnOk, MatchOption}
use Rattle.std.specs.Option.{option_map}
use Rattle.std.specs.Result.{result_err}
use Rattle.std.proofs.lemmas.List.{map-append}
use Rattle.std.proofs.lemmas.List.Elements.{All-cons, All-filter, All-head, All-nil, All-tail}
use Rattle.bson.specs.Spelling.{Spells, frame_of, pairs_bytes}
use Rattle.bson.specs.Tree.{Pairs}
use Rattle.bson_bytes.proofs.RawLaws.{document_spelled-is}
use Rattle.page.specs.History.{History}
use Rattle.value_order.specs.KeyText.{tree_text}
use Rattle.tree_model.specs.Calls.{IsAnswer, Yields}
use Rattle.btree.specs.Fold.{between}
use Rattle.tree_model.specs.Keys.{Entry, window}
use Rattle.tree_model.specs.Reach.{HasMap}
use Rattle.tree_model.specs.Reading.{IsNotFull}
use Rattle.tree_model.specs.Store.{Grows, IsSame, KeepsWord as KeepsStore}
use Rattle.tree_model.specs.Tree.{Body, IsTree, entries_of}
use Rattle.btree.specs.declared.folding.Bounds.{Bounds}
use Rattle.tree_model.specs.declared.pages.TreeFault.{TreeFault}
use Rattle.entry_model.specs.LawfulState.{IsKept, IsStorable}
use Rattle.entry_model.specs.State.{Collection, key_of}
use Rattle.entry_model.specs.StateEntries.{document_entry, key_under}
use Rattle.entries.proofs.BatchLaws.{lists_documents_from}
use Rattle.entry_model.proofs.FoundLawLemmas.{found_collection}
use Rattle.entries.proofs.HomeLemmas.{number_fits}
use Rattle.pager.specs.Capacity.{TreesFit}
use Rattle.pager.specs.State.{State as PagerState}
use Rattle.pager.specs.View.{store_of}
use Rattle.pager.specs.declared.version.Version.{Version}
use Rattle.path.specs.declared.refusal.Refusal.{Refusal}
use Rattle.path.specs.declared.refusal.Refusal.TheVariants as refusals
use Rattle.collections.specs.Below.{IsNothing, ReadsBelow}
use Rattle.collections.specs.Folding.{IsFolded, IsOfStored, IsRefusedAmong, Lends, document_in, documents_within, end_under, lies_within}
use Rattle.collections.specs.Lookups.{IsInTree, IsNumbered, LooksUp, OrMemory, ReadsOf}
use Rattle.collections.specs.State.{State}
use Rattle.collections.specs.Versions.{ReadsVersion}
use Rattle.collections.specs.declared.folding.Lending.{Lending}
use Rattle.collections.proofs.BelowLemmas.{asks_turn, asks_version, below_on}
use Rattle.collections.proofs.WalkLemmas.{few_documents, no_more_documents}
use Rattle.collections.proofs.WithinLemmas.{not_before, window_within, within_shorter}

-- ---- a document that may be stored

pub spells_storable : (value : List ℕ) (d : Pairs) → IsStorable d → value ≡ frame_of (pairs_bytes d) → Spells value d
spells_storable value d h e = record { lawful = h.lawful; spelled = e; size = omega (arith, h.size, ap length e) }

pub ok_same : {X E : Type 0} (r : Result X E) (x y : X) → r ≡ Ok x → r ≡ Ok y → x ≡ y
ok_same r x y e f = let both = sym e ∙ f in cc

-- ---- one entry more

All-front : {X : Type 0} (P : X → Type 0) (xs ys : List X) → All P (xs ++ ys) → All P xs
All-front P [] ys h = All-nil P
All-front P (x ∷ xs) ys h = All-cons P x xs (h 0 x (omega arith)) (All-front P xs ys (λ k d below. h (suc k) d (omega (arith, below))))

All-last : {X : Type 0} (P : X → Type 0) (xs : List X) (x : X) → All P (xs ++ x ∷ []) → P x
All-last P [] x h = h 0 x (omega arith)
All-last P (y ∷ ys) x h = All-last P ys x (λ k d below. h (suc k) d (omega (arith, below)))

pub refused_more : (all more : List Entry) (e : Refusal) → IsRefusedAmong all e → IsRefusedAmong (all ++ more) e
refused_more all more e why h = why (All-front IsOfStored all more h)

module _ {F : Type 0} (makes : F → List Pairs → F → Type 0) (start now : Lending F) (all : List Entry) (x : Entry) where
  pub refused_on : is_some now.refused ≡ true → Lends makes start all now → Lends makes start (all ++ x ∷ []) now
  refused_on is h = by_refused now.refused is h
    where
      by_refused : (o : Option Refusal) → is_some o ≡ true → MatchOption o (makes start.fold (map document_in all) now.fold) (IsRefusedAmong all)
          → MatchOption o (makes start.fold (map document_in (all ++ x ∷ [])) now.fold) (IsRefusedAmong (all ++ x ∷ []))
      by_refused None is made = absurd cc
      by_refused (Some e) is why = refused_more all (x ∷ []) e why

  pub lends_next : (next : F) (r : Result (Unit {0}) Refusal) (o : Option Refusal) → is_some now.refused ≡ false → o ≡ result_err r
      → (makes start.fold (map document_in all) now.fold → OnOk r (makes start.fold (map document_in all ++ document_in x ∷ []) next))
      → ((d : Pairs) → IsStorable d → x.value ≡ frame_of (pairs_bytes d) → IfErr r (λ e. e ≡ refusals.OutOfMemory))
      → Lends makes start all now → Lends makes start (all ++ x ∷ []) (record { fold = next; refused = o })
  lends_next next r o none is takes refuses h = rw is (by_answer r (takes (lent now.refused none h)) refuses)
    where
      lent : (o : Option Refusal) → is_some o ≡ false → MatchOption o (makes start.fold (map document_in all) now.fold) (IsRefusedAmong all)
          → makes start.fold (map document_in all) now.fold
      lent None none made = made
      lent (Some e) none why = absurd cc

      by_answer : (r : Result (Unit {0}) Refusal) → OnOk r (makes start.fold (map document_in all ++ document_in x ∷ []) next)
          → ((d : Pairs) → IsStorable d → x.value ≡ frame_of (pairs_bytes d) → IfErr r (λ e. e ≡ refusals.OutOfMemory))
          → MatchOption (result_err r) (makes start.fold (map document_in (all ++ x ∷ [])) next) (IsRefusedAmong (all ++ x ∷ []))
      by_answer (Ok u) made refuses = subst (λ ds. makes start.fold ds next) (sym (map-append document_in all (x ∷ []))) made
      by_answer (Err e) made refuses = λ h. let stored = All-last IsOfStored all x h in refuses stored.document stored.storable stored.spelled

-- ---- the entries of a tree

pub looks_folded : {D F : Type 0} (history : D → History) (makes : F → List Entry → F → Type 0) (start now : F) (bounds : Bounds) (root : ℕ)
    (result : Result (Unit {0}) TreeFault) (old new : PagerState D) → Grows (store_of history old) (store_of history new)
    → (KeepsStore (store_of history new) → IsSame (store_of history old) (store_of history new))
    → (store_of history new).failed_allocations ≡ (store_of history old).failed_allocations → IfErr result IsNotFull
    → (root ≡ 0 → (result ≡ Ok tt) × (now ≡ start))
    → ((d : ℕ) (body : Body d) → IsTree (store_of history old) root d body
    → Yields (store_of history old) (store_of history new) (λ done. makes start (between bounds (entries_of d body)) now) result)
    → makes start [] start → LooksUp history root (λ entries (u : Unit {0}). makes start (between bounds entries) now) result old new
looks_folded {D} {F} history makes start now bounds root result old new grows same takes full empty folds none =
    record { grows = grows; same = same; takes = takes; full = full; yields = λ pages entries has k. by_map entries k pages has }
  where
    by_map : (entries : List Entry) → KeepsStore (store_of history new) → (pages : List ℕ) → HasMap (store_of history old) root pages entries
        → IsAnswer (store_of history old) (store_of history new) (λ (u : Unit {0}). makes start (between bounds entries) now) result
    by_map entries k pages (inl (zero, none_there)) =
        let e = empty zero in
        rw e.0 (subst (λ es. makes start (between bounds es) now) (sym none_there.1) (subst (makes start []) (sym e.1) none))
    by_map entries k pages (inr tree) =
        subst (λ es. IsAnswer (store_of history old) (store_of history new) (λ (u : Unit {0}). makes start (between bounds es) now) result)
        (sym tree.entries_are) (folds tree.d tree.body tree.tree k)

-- ---- the documents of a collection

-- the documents that entries spell are theirs
spelled_again : (number : ℕ) (ds : List Pairs) → All IsStorable ds → map document_in (map (document_entry number) ds) ≡ ds
spelled_again number [] all = refl
spelled_again number (d ∷ ds) all =
    let h = All-head IsStorable d ds all in
    let value = frame_of (pairs_bytes d) in
    (λ i. document_spelled-is value d (spells_storable value d h refl) i ∷ spelled_again number ds (All-tail IsStorable d ds all) i)

all_stored : (number : ℕ) (ds : List Pairs) → All IsStorable ds → All IsOfStored (map (document_entry number) ds)
all_stored number [] all = All-nil IsOfStored
all_stored number (d ∷ ds) all =
    All-cons IsOfStored (document_entry number d) (map (document_entry number) ds)
    (record { document = d; storable = All-head IsStorable d ds all; spelled = refl }) (all_stored number ds (All-tail IsStorable d ds all))

-- what a fold answers with: itself, or why a document was refused
abbrev pub AnswersWith : {F : Type 0} → Lending F → Result F Refusal → Type 0
AnswersWith now (Ok done) = (now.refused ≡ None) × (done ≡ now.fold)
AnswersWith now (Err e) = now.refused ≡ Some e

module _ {F : Type 0} (makes : F → List Pairs → F → Type 0) (start now : Lending F) where
  -- what the entries of documents that may be stored make of it
  pub lent_documents : (number : ℕ) (ds : List Pairs) → All IsStorable ds → Lends makes start (map (document_entry number) ds) now
      → MatchOption now.refused (makes start.fold ds now.fold) (λ e. e ≡ refusals.OutOfMemory)
  lent_documents number ds storable h = by_refused now.refused h
    where
      by_refused : (o : Option Refusal)
          → MatchOption o (makes start.fold (map document_in (map (document_entry number) ds)) now.fold) (IsRefusedAmong (map (document_entry number) ds))
          → MatchOption o (makes start.fold ds now.fold) (λ e. e ≡ refusals.OutOfMemory)
      by_refused None made = subst (λ es. makes start.fold es now.fold) (spelled_again number ds storable) made
      by_refused (Some e) why = why (all_stored number ds storable)

  pub answered : (ds : List Pairs) (r : Result F Refusal) → AnswersWith now r
      → MatchOption now.refused (makes start.fold ds now.fold) (λ e. e ≡ refusals.OutOfMemory) → OrMemory (λ done. makes start.fold ds done) r
  answered ds (Ok done) is told =
      subst (makes start.fold ds) (sym is.1) (subst (λ o. MatchOption o (makes start.fold ds now.fold) (λ e. e ≡ refusals.OutOfMemory)) is.0 told)
  answered ds (Err e) is told = subst (λ o. MatchOption o (makes start.fold ds now.fold) (λ e. e ≡ refusals.OutOfMemory)) is told

module _ {D F : Type 0} (history : D → History) (makes : F → List Pairs → F → Type 0) (start now : Lending F) (bounds texts : Bounds) (number root : ℕ)
    (old new : State D) (from : bounds.from.now ≡ key_under number 0 texts.from.now)
    (to : option_map (λ b. b.now) bounds.to ≡ Some (end_under number (option_map (λ b. b.now) texts.to)))
    (reads : ReadsBelow history root IsNothing
    (λ cs asked. IsInTree (λ entries (u : Unit {0}). Lends makes start (between bounds entries) now) cs) (Ok tt) old new) where
  module _ (cs : List Collection) (c : Collection) (numbered : IsNumbered cs c number)
      (p : IsInTree (λ entries (u : Unit {0}). Lends makes start (between bounds entries) now) cs tt) where
    kept : IsKept c
    kept = (found_collection cs c.name c p.state numbered.found).0

    small : c.number < 2 ^ 32
    small = number_fits c kept

    abbrev asked : List Pairs
    asked = documents_within texts c.documents

    listed : between bounds p.entries ≡ map (document_entry c.number) asked
    listed =
        (λ i. window (from i) (to i) p.entries)
        ∙ (λ i. window (key_under (sym numbered.same i) 0 texts.from.now)
        (Some (end_under (sym numbered.same i) (option_map (λ b. b.now) texts.to))) p.entries)
        ∙ window_within c.number small texts c.documents p.entries
        (lists_documents_from p.entries cs c (key_under c.number 0 texts.from.now) (record { lawful = p.state; spells = p.spells }) numbered.found
        (not_before c.number small texts.from.now))

    storable : All IsStorable asked
    storable = All-filter (λ d. lies_within texts (tree_text (key_of d))) IsStorable c.documents kept.storable

    lent : MatchOption now.refused (makes start.fold (documents_within texts c.documents) now.fold) (λ e. e ≡ refusals.OutOfMemory)
    lent = lent_documents makes start now c.number asked storable (subst (λ es. Lends makes start es now) listed p.right)

  pub folded : (r : Result F Refusal) → AnswersWith now r
      → ReadsBelow history root (λ cs c. IsNumbered cs c number) (λ cs c done. makes start.fold (documents_within texts c.documents) done) r old new
  folded r is =
      below_on history root IsNothing (λ cs c. IsNumbered cs c number)
      (λ cs asked. IsInTree (λ entries (u : Unit {0}). Lends makes start (between bounds entries) now) cs)
      (λ cs c done. makes start.fold (documents_within texts c.documents) done) old new tt r reads
      (λ cs c numbered. (tt, tt, λ p. answered makes start now (documents_within texts c.documents) r is (lent cs c numbered p)))

-- ---- they are few

module _ {D F : Type 0} (history : D → History) (makes : F → List Pairs → F → Type 0) (start : F) (Asked : List Collection → Collection → Type 0)
    (asked : Collection → List Pairs) (number : ℕ) (numbered : (cs : List Collection) (c : Collection) → Asked cs c → IsNumbered cs c number)
    (shorter : (c : Collection) → length (asked c) ≤ length c.documents) (old new : State D) (r : Result F Refusal) where
  abbrev Folded : List Collection → Collection → F → Type 0
  Folded cs c done = makes start (asked c) done

  pub folds_turn : (root : ℕ) → ReadsBelow history root Asked Folded r old new → root ≡ old.root → TreesFit history old.pager
      → ReadsOf history Asked (λ cs c done. IsFolded makes start (asked c) done) r old new
  folds_turn root reads is fits =
      asks_turn history Asked Folded old new r root reads (λ cs c done. IsFolded makes start (asked c) done) is
      (λ running k first cs has c so done made. record {
        made = made;
        few = omega (arith, shorter c, few_documents history old number fits running k first cs c has (numbered cs c so));
      })

  pub folds_version : (version : Version) → ReadsBelow history version.root Asked Folded r old new
      → ReadsVersion history version Asked (λ cs c done. IsFolded makes start (asked c) done) r old new
  folds_version version reads =
      asks_version history Asked Folded old new r version.root reads (λ cs c done. IsFolded makes start (asked c) done)
      version refl
      (λ cs h c so done made. record {
        made = made;
        few = omega (
          arith,
          shorter c,
          no_more_documents h.entries cs c number (record { lawful = h.state; spells = h.spells }) (numbered cs c so),
          h.few,
        );
      })
