-- Documents that are looked up one after the other, whatever is made of them.
use Rattle.std.proofs.Common.{◌≡◌, inl, ℕ, ◌+◌, ◌<◌, ◌≤◌, Bool, true, false, List, [], ◌∷◌, ◌++◌, length, drop, take, Option, Some, None, Ok, Err, refl, sym}
use Rattle.std.proofs.Common.{ap, subst, ◌∙◌, arith, append_assoc, length-append}
use Rattle.std.specs.Prelude.{slice_index_or}
use Rattle.std.specs.Global.{Vec}
use Rattle.std.specs.List.{filter}
use Rattle.bson.specs.Tree.{Tree, Pairs}
use Rattle.page.specs.History.{History, KeepsWord}
use Rattle.path.specs.declared.refusal.Refusal.{Refusal}
use Rattle.path.specs.declared.refusal.Refusal.TheVariants as refusals
use Rattle.value_order.specs.KeyText.{tree_text}
use Rattle.value_order.specs.Laws.{IsKey}
use Rattle.value_order.specs.Order.{value}
use Rattle.entry_model.specs.State.{Collection}
use Rattle.entry_model.specs.StateReads.{find_document}
use Rattle.index.specs.View.{texts_of}
use Rattle.entry_model.proofs.FoundLawLemmas.{found_collection}
use Rattle.planner.specs.IdLaws.{AreIdTexts, found_by, with_found}
use Rattle.planner.proofs.IdLemmas.{finds_by_ids}
use Rattle.collections.specs.Calls.{ExtendsTurn, IsUnchanged}
use Rattle.entry_model.specs.LawfulState.{IsLawfulState}
use Rattle.collections.specs.Lookups.{IsNumbered, IsPlaceOf, Place, ReadsOf, stored_at}
use Rattle.collections.specs.Standing.{HasState, IsTurnOf}
use Rattle.collections.specs.State.{State}
use Rattle.collections.specs.View.{disk_history, is_stopped}
use Rattle.replies.proofs.Steps.{drop_step}
use Rattle.asked_documents.specs.ById.{AreIdsOf}
use Rattle.asked_documents.proofs.ReadingLemmas.{goes_itself, goes_on, widen_before, word_before}
use Rattle.walks.proofs.SelectLemmas.{AreSelected}

-- the next text, and those behind it
pub next_text : (ids : List (Vec ℕ)) (i : ℕ) (id : Vec ℕ) (text : List ℕ) → i < length ids → id ≡ slice_index_or ids i id → text ≡ id.items
    → texts_of (drop i ids) ≡ text ∷ texts_of (drop (i + 1) ids)
next_text ids i id text within is same = ap texts_of (drop_step ids i id within is) ∙ ap (λ (t : List ℕ). t ∷ texts_of (drop (i + 1) ids)) (sym same)

-- what is known of a collection of that number, of which documents are looked up: these texts tell `_id`s
pub record IsTold (number : ℕ) (texts : List (List ℕ)) (now : List Collection) (c : Collection) : Type 0 where
  pub numbered : IsNumbered now c number
  pub ids : List Tree
  pub told : AreIdTexts texts ids

module _ {D : Type 0} (history : D → History) (number : ℕ) (Asks : List Collection → Collection → Type 0) (texts : List (List ℕ))
    (told_by : (now : List Collection) (c : Collection) → Asks now c → IsTold number texts now c) where
  -- the documents that are still to be looked up, by the texts that are left, and what is so of them
  pub record IsLeft (R : List Pairs → Type 0) (ds : List Pairs) (left : List (List ℕ)) : Type 0 where
    pub ids : List Tree
    pub told : AreIdTexts left ids
    pub so : R (found_by ds ids)

  -- What is so of all documents of the collection of that number and of those that are still to be looked up.
  pub record HasLookedUp (R : List Pairs → List Pairs → Type 0) (old new : State D) (left : List (List ℕ)) : Type 0 where
    pub extends : ExtendsTurn history old new
    pub unchanged : IsUnchanged history old new
    pub same : (start now : List Collection) → HasState history old start now → HasState history new start now
    pub there : KeepsWord (disk_history history new) → (start now : List Collection) → HasState history old start now → (c : Collection) → Asks now c
        → IsLeft (R c.documents) c.documents left

  -- before one is looked up
  pub begins_so : (R : List Pairs → List Pairs → Type 0) (old : State D) (left : List (List ℕ)) → is_stopped old ≡ false → left ≡ texts
      → ((now : List Collection) → IsLawfulState now → (c : Collection) (asked : Asks now c) → R c.documents (found_by c.documents (told_by now c asked).ids))
      → HasLookedUp R old old left
  begins_so R old left running whole all = record {
    extends = goes_itself history old;
    unchanged = refl;
    same = λ start now has. has;
    there = λ k start now has c asked.
        let t : IsTurnOf history old start now = has running k in
        let told = told_by now c asked in
        record { ids = told.ids; told = subst (λ (ts : List (List ℕ)). AreIdTexts ts told.ids) (sym whole) told.told; so = all now t.now_state c asked };
  }

  module _ (R : List Pairs → List Pairs → Type 0) (old mid : State D) (left : List (List ℕ)) (come : HasLookedUp R old mid left) where
    -- the place of the next one
    next_place : (text : List ℕ) (rest : List (List ℕ)) (now : List Collection) (c : Collection) → Asks now c → (ids : List Tree)
        → AreIdTexts (text ∷ rest) ids → (place : Place) × IsPlaceOf number text now place
    next_place text rest now c asked [] told = absurd told
    next_place text rest now c asked (id ∷ ids) told =
        (record { collection = c; id = id }, record { numbered = (told_by now c asked).numbered; key = told.1; spelled = told.0 })

    pub looks_one : {X : Type 0} (P : Option Pairs → X → Type 0) (S : List Pairs → List Pairs → Type 0) (new : State D) (text : List ℕ) (rest : List (List ℕ))
        (x : X) → left ≡ text ∷ rest
        → ReadsOf history (IsPlaceOf number text) (λ now place (y : X). P (stored_at place) y) (Ok x) mid new
        → ((ds more : List Pairs) (o : Option Pairs) → P o x → R ds (with_found o more) → S ds more) → HasLookedUp S old new rest
    looks_one P S new text rest x is reads extends = record {
      extends = goes_on history old mid new come.extends reads.extends;
      unchanged = reads.unchanged ∙ come.unchanged;
      same = λ start now has. reads.same start now (come.same start now has);
      there = λ k start now has c asked.
          let at : IsLeft (R c.documents) c.documents (text ∷ rest) =
          subst (IsLeft (R c.documents) c.documents) is (come.there (word_before history mid new reads.extends k) start now has c asked) in
          step c.documents at.ids at.told at.so
          (λ id key spelled. reads.answers k start now (come.same start now has) (record { collection = c; id = id })
          (record { numbered = (told_by now c asked).numbered; key = key; spelled = spelled }));
    }
      where
        step : (ds : List Pairs) (ids : List Tree) → AreIdTexts (text ∷ rest) ids → R ds (found_by ds ids)
            → ((id : Tree) → IsKey (value id) → text ≡ tree_text id → P (find_document ds id) x) → IsLeft (S ds) ds rest
        step ds [] told so answer = absurd told
        step ds (id ∷ ids) told so answer = record {
          ids = ids;
          told = told.2;
          so = extends ds (found_by ds ids) (find_document ds id)
              (answer id told.1 told.0) so;
        }

    pub fails : {X Y : Type 0} (P : List Collection → Place → Y → Type 0) (Q : List Collection → Collection → X → Type 0) (new : State D) (e : Refusal)
        (text : List ℕ) (rest : List (List ℕ)) → left ≡ text ∷ rest
        → ReadsOf history (IsPlaceOf number text) P (Err e) mid new → ReadsOf history Asks Q (Err e) old new
    fails P Q new e text rest is reads = record {
      extends = goes_on history old mid new come.extends reads.extends;
      unchanged = reads.unchanged ∙ come.unchanged;
      same = λ start now has. reads.same start now (come.same start now has);
      answers = λ k start now has c asked.
          let at : IsLeft (R c.documents) c.documents (text ∷ rest) =
          subst (IsLeft (R c.documents) c.documents) is (come.there (word_before history mid new reads.extends k) start now has c asked) in
          let place = next_place text rest now c asked at.ids at.told in
          widen_before history old mid new come.extends reads.extends k e (reads.answers k start now (come.same start now has) place.0 place.1);
    }

    -- enough has come
    pub answered : {X : Type 0} (Q : List Pairs → X → Type 0) (x : X) → ((ds found : List Pairs) → R ds found → Q ds x)
        → ReadsOf history Asks (λ now c (y : X). Q c.documents y) (Ok x) old mid
    answered Q x extends = record {
      extends = come.extends;
      unchanged = come.unchanged;
      same = come.same;
      answers = λ k start now has c asked.
          let at = come.there k start now has c asked in
          extends c.documents (found_by c.documents at.ids) at.so;
    }

    -- none is left
    pub ends : {X : Type 0} (Q : List Pairs → X → Type 0) (x : X) → left ≡ [] → ((ds : List Pairs) → R ds [] → Q ds x)
        → ReadsOf history Asks (λ now c (y : X). Q c.documents y) (Ok x) old mid
    ends Q x none extends = record {
      extends = come.extends;
      unchanged = come.unchanged;
      same = come.same;
      answers = λ k start now has c asked.
          let at : IsLeft (R c.documents) c.documents [] = subst (IsLeft (R c.documents) c.documents) none (come.there k start now has c asked) in
          last c.documents at.ids at.told at.so;
    }
      where
        last : (ds : List Pairs) (ids : List Tree) → AreIdTexts [] ids → R ds (found_by ds ids) → Q ds x
        last ds [] told so = extends ds so
        last ds (id ∷ ids) told so = absurd told

    -- memory ran out behind what was looked up
    pub forgets : {Y : Type 0} (Q : List Collection → Collection → Y → Type 0) (e : Refusal) → e ≡ refusals.OutOfMemory → ReadsOf history Asks Q (Err e) old mid
    forgets Q e is = record { extends = come.extends; unchanged = come.unchanged; same = come.same; answers = λ k start now has c asked. inl is }

-- ---- those that are told have among them all that are looked for

abbrev pub told_by_ids : (number : ℕ) (p : Pairs → Bool) (texts : List (List ℕ)) (now : List Collection) (c : Collection) → AreIdsOf number p texts now c
    → IsTold number texts now c
told_by_ids number p texts now c asked = record { numbered = asked.numbered; ids = asked.ids; told = asked.told }

pub begins : {D : Type 0} (history : D → History) (number : ℕ) (p : Pairs → Bool) (texts : List (List ℕ)) (R : List Pairs → List Pairs → Type 0)
    (old : State D) (left : List (List ℕ)) → is_stopped old ≡ false → left ≡ texts
    → ((ds found : List Pairs) → filter p found ≡ filter p ds → R ds found)
    → HasLookedUp history number (AreIdsOf number p texts) texts (told_by_ids number p texts) R old old left
begins history number p texts R old left running whole all =
    begins_so history number (AreIdsOf number p texts) texts (told_by_ids number p texts) R old left running whole
    (λ now state c asked.
    let kept = (found_collection now c.name c state asked.numbered.found).0 in
    all c.documents (found_by c.documents asked.ids)
    (finds_by_ids p c.documents asked.ids texts kept.storable kept.rising asked.ascending asked.told asked.all))

-- ---- what is looked for among those that were found

module _ (p : Pairs → Bool) where
  pub one_at_most : (o : Option Pairs) → length (filter p (with_found o [])) ≤ 1
  one_at_most None = omega arith
  one_at_most (Some d) = at (p d) refl
    where
      at : (b : Bool) → p d ≡ b → length (filter p (d ∷ [])) ≤ 1
      at true e = rw e (omega arith)
      at false e = rw e (omega arith)

  pub found_first : (o : Option Pairs) (es : List Pairs) → filter p (with_found o es) ≡ filter p (with_found o []) ++ filter p es
  found_first None es = refl
  found_first (Some d) es = at (p d) refl
    where
      at : (b : Bool) → p d ≡ b → filter p (d ∷ es) ≡ filter p (d ∷ []) ++ filter p es
      at true e = rw e refl
      at false e = rw e refl

-- ---- up to so many

module _ (p : Pairs → Bool) (most : ℕ) where
  pub none_found : (ds found : List Pairs) → filter p found ≡ filter p ds → AreSelected p most [] ds found
  none_found ds found all = record { few = omega arith; same = ap (take most) all }

  pub one_found : (now next : List Pairs) → length now < most → (ds more : List Pairs) (o : Option Pairs) → next ≡ now ++ filter p (with_found o [])
      → AreSelected p most now ds (with_found o more) → AreSelected p most next ds more
  one_found now next room ds more o made so =
      let one = filter p (with_found o []) in
      record {
        few = omega (arith, ap length made, length-append now one, one_at_most p o, room);
        same =
            ap (λ (ys : List Pairs). take most (ys ++ filter p more)) made
            ∙ ap (take most) (append_assoc now one (filter p more) ∙ ap (λ (ys : List Pairs). now ++ ys) (sym (found_first p o more))) ∙ so.same;
      }
