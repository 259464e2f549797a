-- Documents that are noted as removed with their entries in indexes, one after the other, and what that leaves.
use Rattle.std.proofs.Common.{◌≡◌, ◌≢◌, inl, inr, ℕ, zero, suc, ◌+◌, ◌<◌, ◌≤◌, Bool, true, false, List, [], ◌∷◌, ◌++◌, length, take, drop, map, get_or, Option}
use Rattle.std.proofs.Common.{Some, Ok, Err, refl, sym, ap, subst, ◌∙◌, arith}
use Rattle.std.specs.Prelude.{if◌then◌else◌, unwrap_or, All}
use Rattle.std.specs.Ordering.{is_eq}
use Rattle.std.specs.declared.cmp.Ordering.{Ordering}
use Rattle.std.proofs.lemmas.Cmp.{tied_itself}
use Rattle.std.proofs.lemmas.List.{drop-map, drop_all}
use Rattle.std.proofs.lemmas.List.Elements.{All-cons, All-drop, All-head}
use Rattle.bson.specs.Tree.{Pairs, Tree}
use Rattle.value_order.specs.Order.{compare}
use Rattle.value_order.specs.TotalLaws.{compare_total}
use Rattle.tree_model.specs.Keys.{Edit}
use Rattle.path.specs.declared.refusal.Refusal.{Refusal}
use Rattle.path.specs.declared.refusal.Refusal.TheVariants as refusals
use Rattle.index.specs.Definition.{Definition}
use Rattle.entry_model.specs.Documents.{with_documents, without_document}
use Rattle.entries.specs.Indexed.{DeletesFrom}
use Rattle.index.specs.KeyTexts.{encoded_keys, keys_in, keys_in_all}
use Rattle.entry_model.specs.LawfulState.{IsKept, IsLawfulState}
use Rattle.entry_model.specs.State.{Collection, put_collection}
use Rattle.entry_model.specs.StateEntries.{Leads}
use Rattle.entry_model.specs.StateLaws.{MayBecome}
use Rattle.entry_model.specs.StateReads.{find_document}
use Rattle.entry_model.proofs.FoundLawLemmas.{finds_put, put_twice}
use Rattle.entry_model.proofs.LawfulParts.{kept_of, listed_of, storable_of}
use Rattle.entry_model.proofs.KeptSteps.{kept_without_document}
use Rattle.entry_model.proofs.LawfulLaws.{all_of, stays_lawful}
use Rattle.entry_model.proofs.MemberLemmas.{of_all}
use Rattle.entry_model.proofs.PlaceLemmas.{found_in}
use Rattle.entries.proofs.StateEditLaws.{put_same}
use Rattle.database_model.specs.Documents.{key_of}
use Rattle.statements.specs.Redoing.{without_each}
use Rattle.engine.specs.TakingOut.{AreThere, IsIndexable, TakesOut}
use Rattle.statements.proofs.EditPlaceLemmas.{goes_first}
use Rattle.engine.proofs.EnteringLemmas.{all_keyed}
use Rattle.engine.proofs.EnteringSteps.{memory_or}
use Rattle.replies.proofs.Steps.{drop_step}

-- ---- one document among others

-- the documents around the one of an `_id`
record IsAround (d : Pairs) (ds without : List Pairs) : Type 0 where
  front : List Pairs
  back : List Pairs
  whole : ds ≡ front ++ d ∷ back
  others : without ≡ front ++ back

around : (ds : List Pairs) (id : Tree) (d : Pairs) → find_document ds id ≡ Some d → IsAround d ds (without_document id ds)
around [] id d is = absurd cc
around (x ∷ ds) id d is = by (is_eq (compare id (key_of x))) is (around ds id d)
  where
    by : (b : Bool) → (if b then Some x else find_document ds id) ≡ Some d → (find_document ds id ≡ Some d → IsAround d ds (without_document id ds))
        → IsAround d (x ∷ ds) (if b then ds else x ∷ without_document id ds)
    by true f later =
        let same : x ≡ d = ap (λ (o : Option Pairs). unwrap_or o x) f in
        record { front = []; back = ds; whole = ap (λ (y : Pairs). y ∷ ds) same; others = refl }
    by false f later =
        let r = later f in
        record { front = x ∷ r.front; back = r.back; whole = ap (λ (xs : List Pairs). x ∷ xs) r.whole; others = ap (λ (xs : List Pairs). x ∷ xs) r.others }

-- ---- what edits take out

pub takes_one : (old new : List Edit) (number : ℕ) (indexes : List Definition) (d : Pairs) → DeletesFrom old new number indexes d
    → TakesOut old new number indexes (d ∷ [])
takes_one old new number indexes d deletes a b c leads lawful found numbered indexed there =
    let s = around c.documents (key_of d) d there.0 in
    let now : Collection = record c { documents = s.front ++ s.back } in
    let kept : IsKept now = kept_without_document c s.front s.back d (kept_of b c lawful (found_in b c.name c found)) s.whole in
    let may : MayBecome c now b = record { lawful = lawful; found = found; named = refl; numbered = refl; kept = kept } in
    let led = deletes a b c s.front s.back leads numbered indexed s.whole may in
    let state = stays_lawful b c now may in
    subst (λ (ds : List Pairs). Leads new a (with_documents c ds b) × IsLawfulState (with_documents c ds b)) (sym s.others) (led, state)

takes_none : (edits : List Edit) (number : ℕ) (indexes : List Definition) → TakesOut edits edits number indexes []
takes_none edits number indexes a b c leads lawful found numbered indexed there =
    subst (λ (s : List Collection). Leads edits a s × IsLawfulState s) (sym (put_same c b lawful.apart found)) (leads, lawful)

takes_more : (old mid new : List Edit) (number : ℕ) (indexes : List Definition) (d : Pairs) (rest : List Pairs) → TakesOut old mid number indexes (d ∷ [])
    → TakesOut mid new number indexes rest
    → TakesOut old new number indexes (d ∷ rest)
takes_more old mid new number indexes d rest first later a b c leads lawful found numbered indexed there =
    let one = first a b c leads lawful found numbered indexed (there.0, tt) in
    let less = without_document (key_of d) c.documents in
    let next : Collection = record c { documents = less } in
    let last : Collection = record c { documents = without_each rest less } in
    let two = later a (put_collection next b) next one.0 one.1 (finds_put next b) numbered indexed there.1 in
    subst (λ (s : List Collection). Leads new a s × IsLawfulState s) (put_twice last next b refl) two

-- ---- document after document

-- documents that are left to be taken out
abbrev pub TakesLeft : List Edit → List Edit → ℕ → List Definition → List Pairs → List Pairs → Type 0
TakesLeft old mid number indexes all left =
    (new : List Edit) → TakesOut mid new number indexes left → TakesOut old new number indexes all

module _ {X : Type 0} (lent : X → Pairs) (old mid : List Edit) (number : ℕ) (indexes : List Definition) (all : List X) (i : ℕ) where
  pub takes_on : (next : List Edit) (x : X) (d : Pairs) → i < length all → x ≡ get_or all i x → d ≡ lent x → TakesOut mid next number indexes (d ∷ [])
      → TakesLeft old mid number indexes (map lent all) (map lent (drop i all)) → TakesLeft old next number indexes (map lent all) (map lent (drop (i + 1) all))
  takes_on next x d within is same one left new rest =
      let step : map lent (drop i all) ≡ d ∷ map lent (drop (i + 1) all) =
      ap (map lent) (drop_step all i x within is) ∙ ap (λ (e : Pairs). e ∷ map lent (drop (i + 1) all)) (sym same) in
      left new (subst (TakesOut mid new number indexes) (sym step) (takes_more mid next new number indexes d (map lent (drop (i + 1) all)) one rest))

  pub takes_all : length all ≤ i → TakesLeft old mid number indexes (map lent all) (map lent (drop i all)) → TakesOut old mid number indexes (map lent all)
  takes_all whole left = left mid (subst (TakesOut mid mid number indexes) (sym (ap (map lent) (drop_all i all whole))) (takes_none mid number indexes))

  -- what holds of all of them holds of the one at hand
  pub item_all : (P : Pairs → Type 0) (x : X) (d : Pairs) → i < length all → x ≡ get_or all i x → d ≡ lent x → All P (map lent all) → All P (d ∷ [])
  item_all P x d within is same each =
      let step : map lent (drop i all) ≡ d ∷ map lent (drop (i + 1) all) =
      ap (map lent) (drop_step all i x within is) ∙ ap (λ (e : Pairs). e ∷ map lent (drop (i + 1) all)) (sym same) in
      let left : All P (d ∷ map lent (drop (i + 1) all)) = subst (All P) (drop-map lent i all ∙ step) (All-drop P i (map lent all) each) in
      All-cons P d [] (All-head P d (map lent (drop (i + 1) all)) left) (λ k e below. absurd (omega (arith, below)))

-- where the indexes refuse a document nothing, its keys were refused for want of memory
pub keyed_memory : (indexes : List Definition) (d : Pairs) (e : Refusal) → All (IsIndexable indexes) (d ∷ [])
    → (e ≢ refusals.OutOfMemory → keys_in_all indexes d ≡ Err e) → e ≡ refusals.OutOfMemory
keyed_memory indexes d e all refused = elim (memory_or e refused) [
  | inl memory ↦ memory
  | inr is ↦ (let both : Ok (map (λ i. encoded_keys i.fields d) indexes) ≡ Err e = sym (All-head (IsIndexable indexes) d [] all).keyed ∙ is in absurd cc)
]

-- ---- the documents of a collection

-- they may be stored, and its indexes refuse none of them
pub all_indexable : (c : Collection) → IsKept c → All (IsIndexable c.indexes) c.documents
all_indexable c kept = all_of (IsIndexable c.indexes) c.documents (λ d stands. record {
  storable = storable_of c d kept stands;
  keyed = all_keyed c.indexes d
      (λ i listed. of_all (λ e. keys_in i.fields e ≡ Ok (encoded_keys i.fields e)) c.documents d (listed_of c i kept listed).keys stands);
})

pub first_there : (d : Pairs) (ds : List Pairs) → find_document (d ∷ ds) (key_of d) ≡ Some d
first_there d ds = ap (λ (o : Ordering). if is_eq o then Some d else find_document ds (key_of d)) (tied_itself compare_total (key_of d))

-- the first ones
pub front_there : (n : ℕ) (ds : List Pairs) → AreThere (take n ds) ds
front_there zero ds = tt
front_there (suc n) [] = tt
front_there (suc n) (d ∷ ds) = (first_there d ds, subst (AreThere (take n ds)) (sym (goes_first d ds)) (front_there n ds))

pub front_out : (n : ℕ) (ds : List Pairs) → without_each (take n ds) ds ≡ drop n ds
front_out zero ds = refl
front_out (suc n) [] = refl
front_out (suc n) (d ∷ ds) = ap (without_each (take n ds)) (goes_first d ds) ∙ front_out n ds
