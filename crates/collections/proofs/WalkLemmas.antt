-- What a walk makes of the documents from its key on.
use Rattle.std.proofs.Common.{◌≡◌, ◌⊎◌, ℕ, suc, ◌+◌, ◌*◌, ◌<◌, ◌≤◌, Bool, true, false, not, List, [], ◌∷◌, ◌++◌, length, map, take, drop, refl, sym, ◌∙◌, ap}
use Rattle.std.proofs.Common.{subst, arith, inl, inr, length-append, append_assoc}
use Rattle.std.specs.Prelude.{◌&&◌, Option, Some, None, All, IfOk, Result, Ok, Err}
use Rattle.std.specs.Option.{option_map}
use Rattle.std.specs.Global.{Vec}
use Rattle.std.specs.Ordering.{is_lt}
use Rattle.std.specs.declared.cmp.Ordering.{Ordering}
use Rattle.std.specs.declared.cmp.Ordering.TheVariants as orders
use Rattle.std.proofs.lemmas.List.{length-drop, length-map, length-take, take-append-drop}
use Rattle.std.proofs.lemmas.List.Elements.{All-drop, All-take}
use Rattle.std.proofs.Math.Seq.{drop-append_seam, take-length}
use Rattle.bson.specs.Tree.{Pairs}
use Rattle.page.specs.History.{History, KeepsWord}
use Rattle.tree_model.specs.Calls.{IsBatch}
use Rattle.tree_model.specs.Keys.{Each, Entry, IsNotUnder, IsUnder, is_within, keep_if, key_cmp, window}
use Rattle.btree.specs.Scan.{entry_in, within}
use Rattle.btree.specs.declared.scanning.Batch.{Batch}
use Rattle.btree.specs.declared.scanning.Entry.{Entry as OwnEntry}
use Rattle.btree.specs.declared.scanning.Range.{Range}
use Rattle.tree_model.proofs.KeyLemmas.{not_under_itself}
use Rattle.entries.specs.Batches.{documents_at}
use Rattle.entry_model.specs.LawfulState.{IsKept, IsStorable}
use Rattle.entry_model.specs.State.{Collection}
use Rattle.entry_model.specs.StateEntries.{document_entry, key_under}
use Rattle.entry_model.specs.StateReads.{SpellsLawful}
use Rattle.entries.proofs.BatchLaws.{all_documents, goes_on_behind, lists_documents_from}
use Rattle.entry_model.proofs.FoundLawLemmas.{found_collection}
use Rattle.pager.specs.Capacity.{TreesFit}
use Rattle.path.specs.declared.refusal.Refusal.{Refusal}
use Rattle.collections.specs.Calls.{Reads}
use Rattle.collections.specs.Lookups.{AreEach, IsBatchOf, IsInTree, IsNumbered, IsOfDocument, OrMemory, ReadsOf}
use Rattle.collections.specs.Standing.{HasState, IsTurnOf}
use Rattle.collections.specs.State.{State}
use Rattle.collections.specs.View.{disk_history, is_stopped}
use Rattle.collections.specs.Walk.{AreAhead, AreBehind, AreNext, BeginsWalk, GoesOnWalking, HasNext, IsWalk, StepsOn, next_key}
use Rattle.collections.specs.declared.walk.Walk.{Walk}
use Rattle.collections.proofs.FoundLemmas.{each_document}
use Rattle.collections.proofs.ReadingLemmas.{asked_on, asks_on}

-- ---- documents from a key on

less_or_not : (o : Ordering) → (o ≡ orders.Less) ⊎ ((is_lt o ≡ false) × (o ≡ orders.Less → ⊥))
less_or_not orders.Less = inl refl
less_or_not orders.Equal = inr (refl, λ e. cc)
less_or_not orders.Greater = inr (refl, λ e. cc)

module _ (number : ℕ) (key : List ℕ) where
  abbrev IsBelow : Pairs → Type 0
  IsBelow d = IsUnder (document_entry number d).key key

  abbrev IsAbove : Pairs → Type 0
  IsAbove d = IsNotUnder (document_entry number d).key key

  abbrev at : List Pairs → List Pairs
  at ds = documents_at number key ds

  abbrev test : Pairs → Bool
  test d = not (is_lt (key_cmp (document_entry number d).key key))

  -- a document is left out or kept
  record IsEither (d : Pairs) : Type 0 where
    either : (IsBelow d × ((ds : List Pairs) → at (d ∷ ds) ≡ at ds)) ⊎ (IsAbove d × ((ds : List Pairs) → at (d ∷ ds) ≡ d ∷ at ds))

  each_either : (d : Pairs) → IsEither d
  each_either d = elim (less_or_not (key_cmp (document_entry number d).key key)) [
    | inl less ↦ record { either = inl (less, λ ds. ap (λ (o : Ordering). keep_if (not (is_lt o)) d (at ds)) less) }
    | inr rest ↦ record { either = inr (rest.1, λ ds. ap (λ (b : Bool). keep_if (not b) d (at ds)) rest.0) }
  ]

  at_append : (xs ys : List Pairs) → at (xs ++ ys) ≡ at xs ++ at ys
  at_append [] ys = refl
  at_append (x ∷ xs) ys = elim (each_either x).either [
    | inl (below, out) ↦ out (xs ++ ys) ∙ at_append xs ys ∙ ap (λ (zs : List Pairs). zs ++ at ys) (sym (out xs))
    | inr (above, kept) ↦ kept (xs ++ ys) ∙ ap (λ (zs : List Pairs). x ∷ zs) (at_append xs ys) ∙ ap (λ (zs : List Pairs). zs ++ at ys) (sym (kept xs))
  ]

  at_behind : (xs : List Pairs) → Each IsBelow xs → at xs ≡ []
  at_behind [] each = refl
  at_behind (x ∷ xs) each = elim (each_either x).either [
    | inl (below, out) ↦ out xs ∙ at_behind xs each.1
    | inr (above, kept) ↦ absurd (above each.0)
  ]

  at_ahead : (xs : List Pairs) → Each IsAbove xs → at xs ≡ xs
  at_ahead [] each = refl
  at_ahead (x ∷ xs) each = elim (each_either x).either [
    | inl (below, out) ↦ absurd (each.0 below)
    | inr (above, kept) ↦ kept xs ∙ ap (λ (zs : List Pairs). x ∷ zs) (at_ahead xs each.1)
  ]

  each_above : (xs : List Pairs) → Each IsAbove (at xs)
  each_above [] = tt
  each_above (x ∷ xs) = elim (each_either x).either [
    | inl (below, out) ↦ subst (Each IsAbove) (sym (out xs)) (each_above xs)
    | inr (above, kept) ↦ subst (Each IsAbove) (sym (kept xs)) (above, each_above xs)
  ]

  each_below : (xs : List Pairs) → at xs ≡ [] → Each IsBelow xs
  each_below [] none = tt
  each_below (x ∷ xs) none = elim (each_either x).either [
    | inl (below, out) ↦ (below, each_below xs (sym (out xs) ∙ none))
    | inr (above, kept) ↦ let both : x ∷ at xs ≡ [] = sym (kept xs) ∙ none in absurd cc
  ]

  at_rest : (done rest : List Pairs) → Each IsBelow done → Each IsAbove rest → at (done ++ rest) ≡ rest
  at_rest done rest below above = at_append done rest ∙ (λ i. at_behind done below i ++ at_ahead rest above i)

  no_length : (xs : List Pairs) → length xs ≡ 0 → xs ≡ []
  no_length [] e = refl
  no_length (x ∷ xs) e = absurd (omega (arith, e))

  -- what comes before the rest is behind the key, and the rest isn't
  split_at : (done rest : List Pairs) → at (done ++ rest) ≡ rest → Each IsBelow done × Each IsAbove rest
  split_at done rest is =
      let above : Each IsAbove rest = subst (Each IsAbove) is (each_above (done ++ rest)) in
      let parts : at done ++ rest ≡ rest = ap (λ (zs : List Pairs). at done ++ zs) (sym (at_ahead rest above)) ∙ sym (at_append done rest) ∙ is in
      (each_below done (no_length (at done) (omega (arith, ap length parts, length-append (at done) rest))), above)

-- ---- the law

pub goes_on_walking : GoesOnWalking
goes_on_walking before after walk rest done c w numbered all behind =
    record { collection = c; numbered = numbered; done = done; all = all; behind = behind; ahead = w.ahead; room = w.room }

-- ---- the beginning

shorter_window : (from : List ℕ) (to : Option (List ℕ)) (xs : List Entry) → length (window from to xs) ≤ length xs
shorter_window from to [] = omega arith
shorter_window from to (x ∷ xs) = by_test (not (is_lt (key_cmp x.key from)) && is_within to x.key) (shorter_window from to xs)
  where
    by_test : (b : Bool) → length (window from to xs) ≤ length xs → length (keep_if b x (window from to xs)) ≤ suc (length xs)
    by_test true less = omega (arith, less)
    by_test false less = omega (arith, less)

-- A collection has no more documents than its tree has entries,
pub no_more_documents : (entries : List Entry) (now : List Collection) (of : Collection) (number : ℕ) → SpellsLawful entries now → IsNumbered now of number
    → length of.documents ≤ length entries
no_more_documents entries now of number stands numbered =
    let key : List ℕ = key_under of.number 0 [] in
    let listed : window key (Some (key_under of.number 1 [])) entries ≡ map (document_entry of.number) of.documents =
    lists_documents_from entries now of key stands numbered.found (not_under_itself key)
    ∙ ap (map (document_entry of.number)) (all_documents of.number of.documents) in
    omega (
      arith,
      ap length listed,
      length-map of.documents (document_entry of.number),
      shorter_window key (Some (key_under of.number 1 [])) entries,
    )

-- which are few, since it finds room in a file.
pub few_documents : {D : Type 0} (history : D → History) (c : State D) (number : ℕ) → TreesFit history c.pager → is_stopped c ≡ false
    → KeepsWord (disk_history history c) → (start now : List Collection) (of : Collection) → HasState history c start now → IsNumbered now of number
    → length of.documents ≤ 680 * 1048576
few_documents history c number fit running k start now of has numbered =
    let t : IsTurnOf history c start now = has running k in
    omega (
      arith,
      no_more_documents t.after now of number (record { lawful = t.now_state; spells = t.spells_now }) numbered,
      (fit t.began t.live t.before t.begun c.root t.pages t.after t.turn k).few,
    )

pub begins_walk : {D : Type 0} (history : D → History) (c : State D) (number : ℕ) (walk : Walk) (first : Vec ℕ) → TreesFit history c.pager
    → walk.number ≡ number → walk.next ≡ Some first → first.items ≡ key_under number 0 []
    → walk.left ≡ 4294967295 → BeginsWalk history c number walk
begins_walk history c number walk first fit same_number same_next same_key left running k start now of has numbered =
    let numbers : of.number ≡ walk.number = numbered.same ∙ sym same_number in
    let next : next_key walk ≡ Some (key_under walk.number 0 []) =
    ap (option_map (λ v. v.items)) same_next ∙ ap Some same_key ∙ ap (λ (n : ℕ). Some (key_under n 0 [])) (sym same_number) in
    let few : length of.documents ≤ 680 * 1048576 = few_documents history c number fit running k start now of has numbered in
    record {
      collection = of;
      numbered = record { found = numbered.found; same = numbers };
      done = [];
      all = refl;
      behind = subst (λ (o : Option (List ℕ)). AreBehind walk.number o []) (sym next) tt;
      ahead = subst (λ (o : Option (List ℕ)). AreAhead walk.number o of.documents) (sym next) (
        not_under_itself (key_under walk.number 0 []),
        (split_at walk.number (key_under walk.number 0 []) [] of.documents (all_documents walk.number of.documents)).1,
      );
      room = omega (arith, few, left);
    }

-- ---- the next documents

-- What a batch of the tree is to a walk: the first documents to come, and the key that parts them from the others.
pub record IsStep (walk : Walk) (done rest : List Pairs) (limit count : ℕ) (next : Option (List ℕ)) : Type 0 where
  pub few : count ≤ length rest
  pub most : count ≤ limit
  pub none : count ≡ 0 → rest ≡ []
  pub behind : AreBehind walk.number next (done ++ take count rest)
  pub ahead : AreAhead walk.number next (drop count rest)

all_of_none : (rest : List Pairs) (count : ℕ) → count ≡ length rest → (take count rest ≡ rest) × (drop count rest ≡ [])
all_of_none rest count is = (ap (λ (n : ℕ). take n rest) is ∙ take-length rest, none (drop count rest) (omega (arith, length-drop count rest, is)))
  where
    none : (xs : List Pairs) → length xs ≡ 0 → xs ≡ []
    none [] e = refl
    none (x ∷ xs) e = absurd (omega (arith, e))

module _ (now : List Collection) (walk : Walk) (rest : List Pairs) (w : IsWalk now walk rest) (from : Vec ℕ) (next_is : walk.next ≡ Some from) (range : Range)
    (range_from : range.from.now ≡ from.items)
    (range_to : option_map (λ b. b.now) range.to ≡ Some (key_under walk.number 1 [])) (some : 0 < range.limit) (batch : Batch)
    (p : IsInTree (IsBatchOf range) now batch) where
  abbrev c : Collection
  c = w.collection

  abbrev key : List ℕ
  key = from.items

  abbrev entries : List Entry
  entries = map entry_in batch.entries.items

  abbrev count : ℕ
  count = length batch.entries.items

  key_is : next_key walk ≡ Some key
  key_is = ap (option_map (λ v. v.items)) next_is

  ahead_here : AreAhead walk.number (Some key) rest
  ahead_here = subst (λ (o : Option (List ℕ)). AreAhead walk.number o rest) key_is w.ahead

  behind_here : AreBehind walk.number (Some key) w.done
  behind_here = subst (λ (o : Option (List ℕ)). AreBehind walk.number o w.done) key_is w.behind

  kept_here : IsKept c
  kept_here = (found_collection now c.name c p.state w.numbered.found).0

  rest_is : documents_at walk.number key c.documents ≡ rest
  rest_is = ap (documents_at walk.number key) w.all ∙ at_rest walk.number key w.done rest behind_here ahead_here.1

  listed_at : (n : ℕ) → c.number ≡ n → IsNotUnder key (key_under n 0 [])
      → window key (Some (key_under n 1 [])) p.entries ≡ map (document_entry n) (documents_at n key c.documents)
  listed_at n is =
      subst (λ (n : ℕ). IsNotUnder key (key_under n 0 [])
      → window key (Some (key_under n 1 [])) p.entries ≡ map (document_entry n) (documents_at n key c.documents)) is
      (λ above. lists_documents_from p.entries now c key (record { lawful = p.state; spells = p.spells }) w.numbered.found above)

  listed : within range p.entries ≡ map (document_entry walk.number) (documents_at walk.number key c.documents)
  listed = (λ i. window (range_from i) (range_to i) p.entries) ∙ listed_at walk.number w.numbered.same ahead_here.0

  count_is : length entries ≡ count
  count_is = length-map batch.entries.items entry_in

  rest_all : All IsStorable rest
  rest_all = subst (All IsStorable) (ap (drop (length w.done)) w.all ∙ drop-append_seam w.done rest)
      (All-drop IsStorable (length w.done) c.documents kept_here.storable)

  some_all : All IsStorable (take count rest)
  some_all = All-take IsStorable count rest rest_all

  parted : c.documents ≡ (w.done ++ take count rest) ++ drop count rest
  parted = w.all ∙ ap (λ (zs : List Pairs). w.done ++ zs) (sym (take-append-drop count rest)) ∙ sym (append_assoc w.done (take count rest) (drop count rest))

  pub record IsNext (o : Option (List ℕ)) : Type 0 where
    pub each : AreEach IsOfDocument batch.entries.items (take count rest)
    pub step : IsStep walk w.done rest range.limit count o

  at_end : IsBatch range.limit (within range p.entries) entries None → IsNext None
  at_end h =
      let same : entries ≡ map (document_entry walk.number) rest = h.0 ∙ listed ∙ ap (map (document_entry walk.number)) rest_is in
      let whole : count ≡ length rest = omega (arith, count_is, ap length same, length-map rest (document_entry walk.number)) in
      let all = all_of_none rest count whole in
      record {
        each = each_document walk.number batch.entries.items (take count rest) (same ∙ ap (map (document_entry walk.number)) (sym all.0)) some_all;
        step = record {
          few = omega (arith, whole);
          most = omega (arith, h.1, count_is);
          none = λ e. empty rest (omega (arith, e, whole));
          behind = tt;
          ahead = all.1;
        };
      }
    where
      empty : (xs : List Pairs) → length xs ≡ 0 → xs ≡ []
      empty [] e = refl
      empty (x ∷ xs) e = absurd (omega (arith, e))

  at_cut : (next : List ℕ) → IsBatch range.limit (within range p.entries) entries (Some next) → IsNext (Some next)
  at_cut next h =
      let extends = goes_on_behind walk.number key c.documents entries h.others h.next kept_here.rising kept_here.storable (sym listed ∙ h.is) in
      let same : entries ≡ map (document_entry walk.number) (take count rest) =
      extends.0 ∙ (λ i. map (document_entry walk.number) (take (count_is i) (rest_is i))) in
      let left : documents_at walk.number next ((w.done ++ take count rest) ++ drop count rest) ≡ drop count rest =
      (λ i. documents_at walk.number (sym h.key_is i) (sym parted i)) ∙ extends.1 ∙ (λ i. drop (count_is i) (rest_is i)) in
      let parts = split_at walk.number next (w.done ++ take count rest) (drop count rest) left in
      let above : IsNotUnder next (key_under walk.number 0 []) = subst (λ (k : List ℕ). IsNotUnder k (key_under walk.number 0 [])) h.key_is extends.2 in
      record {
        each = each_document walk.number batch.entries.items (take count rest) same some_all;
        step = record {
          few = omega (arith, count_is, ap length same, length-map (take count rest) (document_entry walk.number), length-take count rest);
          most = omega (arith, h.full, count_is);
          none = λ e. absurd (omega (arith, e, h.full, count_is, some));
          behind = parts.0;
          ahead = (above, parts.1);
        };
      }

  pub next_there : IsNext (option_map (λ v. v.items) batch.next)
  next_there = by_next (option_map (λ v. v.items) batch.next) p.right
    where
      by_next : (o : Option (List ℕ)) → IsBatch range.limit (within range p.entries) entries o → IsNext o
      by_next None h = at_end h
      by_next (Some next) h = at_cut next h

-- What is made of a batch of the tree, whatever walk it is one of.
pub steps_on : {D X : Type 0} (history : D → History) (Q : List Collection → List Pairs → X → Type 0) (old new : State D) (walk : Walk) (from : Vec ℕ)
    → walk.next ≡ Some from → (range : Range) → range.from.now ≡ from.items
    → option_map (λ b. b.now) range.to ≡ Some (key_under walk.number 1 []) → 0 < range.limit → (batch : Batch) (r : Result X Refusal)
    → Reads history (IsInTree (IsBatchOf range)) (Ok batch) old new
    → ((now : List Collection) (rest : List Pairs) (w : IsWalk now walk rest)
    → let count = length batch.entries.items in AreEach IsOfDocument batch.entries.items (take count rest)
    → IsStep walk w.done rest range.limit count (option_map (λ v. v.items) batch.next) → OrMemory (Q now rest) r)
    → ReadsOf history (λ now rest. IsWalk now walk rest) Q r old new
steps_on history Q old new walk from next_is range range_from range_to some batch r reads extends =
    asks_on history (λ now rest. IsWalk now walk rest) Q old new (IsInTree (IsBatchOf range)) batch r reads (λ now rest w p.
    let there = next_there now walk rest w from next_is range range_from range_to some batch p in
    extends now rest w there.each there.step)

-- the walk behind a step
module _ (now : List Collection) (walk : Walk) (rest : List Pairs) (w : IsWalk now walk rest) (limit count : ℕ) (next : Option (Vec ℕ))
    (step : IsStep walk w.done rest limit count (option_map (λ v. v.items) next))
    (documents : List Pairs) (is : documents ≡ take count rest) where
  taken : length documents ≡ count
  taken = omega (arith, ap length is, length-take count rest, step.few)

  pub has_room : walk.left < length documents → ⊥
  has_room less = omega (arith, less, taken, step.few, w.room)

  pub next_walk : (left : ℕ) → left + length documents ≡ walk.left
      → AreNext limit rest documents × IsWalk now (record { number = walk.number; next = next; left = left }) (drop (length documents) rest)
  next_walk left sum = (
    record {
      first = is ∙ ap (λ (n : ℕ). take n rest) (sym taken);
      most = omega (arith, taken, step.most);
      none = λ e. step.none (omega (arith, taken, ap length e));
    },
    record {
      collection = w.collection;
      numbered = w.numbered;
      done = w.done ++ take count rest;
      all = w.all ∙ ap (λ (zs : List Pairs). w.done ++ zs) (sym (take-append-drop count rest)) ∙ sym (append_assoc w.done (take count rest) (drop count rest))
          ∙ ap (λ (n : ℕ). (w.done ++ take count rest) ++ drop n rest) (sym taken);
      behind = step.behind;
      ahead = subst (λ (n : ℕ). AreAhead walk.number (option_map (λ v. v.items) next) (drop n rest)) (sym taken) step.ahead;
      room = omega (arith, w.room, sum, length-drop (length documents) rest);
    },
  )

-- ---- what is made of a batch

module _ {D : Type 0} (history : D → History) (old new : State D) (walk after : Walk) (limit : ℕ) (batch : Vec OwnEntry) (r : Result (Vec Pairs) Refusal) where
  stepped : (now : List Collection) (rest ds : List Pairs) (r : Result (Vec Pairs) Refusal) → StepsOn limit after now rest ds
      → OrMemory (λ (v : Vec Pairs). v.items ≡ ds) r → OrMemory (λ (v : Vec Pairs). StepsOn limit after now rest v.items) r
  stepped now rest ds (Ok v) step same = subst (StepsOn limit after now rest) (sym same) step
  stepped now rest ds (Err e) step is = is

  -- the documents that its entries are
  pub made_of : ReadsOf history (λ now rest. IsWalk now walk rest) (λ now rest (x : Vec OwnEntry). HasNext limit after now rest x.items) (Ok batch) old new
      → ((ds : List Pairs) → AreEach IsOfDocument batch.items ds → OrMemory (λ (v : Vec Pairs). v.items ≡ ds) r)
      → ReadsOf history (λ now rest. IsWalk now walk rest) (λ now rest (x : Vec Pairs). StepsOn limit after now rest x.items) r old new
  made_of reads made =
      asked_on history (λ now rest. IsWalk now walk rest) (λ now rest (x : Vec Pairs). StepsOn limit after now rest x.items) old new
      (λ now rest (x : Vec OwnEntry). HasNext limit after now rest x.items) batch r reads
      (λ now rest w p. stepped now rest (take (length batch.items) rest) r p.1 (made (take (length batch.items) rest) p.0))

-- there are as many as entries
pub ends_made : {B : Type 0} (entries : List OwnEntry) (r : Result (Vec Pairs) Refusal) → IfOk r (λ (v : Vec Pairs). length v.items ≡ length entries)
    → (entries ≡ []) ⊎ B → IfOk r (λ (v : Vec Pairs). (v.items ≡ []) ⊎ B)
ends_made entries (Ok v) same (inl none) = inl (nothing v.items (same ∙ ap length none))
  where
    nothing : (ds : List Pairs) → length ds ≡ 0 → ds ≡ []
    nothing [] e = refl
    nothing (d ∷ ds) e = absurd (omega (arith, e))
ends_made entries (Ok v) same (inr less) = inr less
ends_made entries (Err e) same ends = tt
