-- What is judged of one entry of a file.
use Rattle.std.proofs.Common.{◌≡◌, ◌≢◌, ℕ, suc, ◌≤◌, Bool, true, false, not, ◌&&◌, List, [], ◌∷◌, ◌++◌, length, Ok, Err, inl, inr, refl, sym, ap, subst, ◌∙◌}
use Rattle.std.proofs.Common.{arith, eqb-true, eq-eqb}
use Rattle.std.specs.Prelude.{IsUtf8, ◌==◌}
use Rattle.std.specs.List.{AllByRecursion, AllPairs, list_any}
use Rattle.bson.specs.Spelling.{frame_of, pairs_bytes}
use Rattle.bson_bytes.proofs.TreeLaws.{one_spelling}
use Rattle.bson.specs.Tree.{Pairs}
use Rattle.tree_model.specs.Keys.{Entry}
use Rattle.path.specs.declared.refusal.Refusal.{Refusal}
use Rattle.index.specs.Definition.{Definition, IsDefinition}
use Rattle.entry_model.specs.Entering.{becomes_multikey}
use Rattle.index.specs.KeyTexts.{keys_in_all}
use Rattle.entry_model.specs.LawfulState.{IsIndexOf, IsKept as IsIndexKept, IsStorable}
use Rattle.entry_model.specs.State.{Collection}
use Rattle.entry_model.specs.StateEntries.{document_entry}
use Rattle.entries.proofs.IndexedLaws.{known}
use Rattle.entry_model.proofs.LawfulLaws.{all_of, pairs_of}
use Rattle.entry_model.proofs.MemberLemmas.{Among, first_of}
use Rattle.entries.proofs.OtherEditLaws.{any_there}
use Rattle.opening.specs.Judging.{IsDocumentAt, IsIndexable, IsStoredAt, are_apart, has_number, keys_among}
use Rattle.opening.proofs.RefusingCatalogues.{any_none}
use Rattle.opening.proofs.RefusingLemmas.{document_spells}
use Rattle.opening.proofs.TakingLemmas.{both_true, is_storable}

-- ---- the numbers of indexes

abbrev HaveNumbers : List Definition → Type 0
HaveNumbers is = AllPairs (λ i j. i.number ≢ j.number) is

pub apart_told : (is : List Definition) → are_apart is ≡ true → HaveNumbers is
apart_told [] h = λ i j d lt below. absurd (omega (arith, below))
apart_told (i ∷ is) h =
    let parts = both_true (not (has_number i.number is)) (are_apart is) h in
    pairs_of (λ a b. a.number ≢ b.number) i is
    (λ j there same. never (has_number i.number is) parts.0 (any_there (λ k. k.number == i.number) is j there (eq-eqb j.number i.number (sym same))))
    (apart_told is parts.1)
  where
    never : (b : Bool) → not b ≡ true → b ≡ true → ⊥
    never true f g = cc
    never false f g = cc

pub apart_there : (is : List Definition) → HaveNumbers is → are_apart is ≡ true
apart_there [] h = refl
apart_there (i ∷ is) h =
    let none : has_number i.number is ≡ false = any_none (λ j. j.number == i.number) is other in
    let later = apart_there is (λ a b d lt below. h (suc a) (suc b) d (omega (arith, lt)) (omega (arith, below))) in
    (λ k. not (none k) && later k)
  where
    other : (j : Definition) → Among j is → (j.number == i.number) ≡ false
    other j there = by (j.number == i.number) refl
      where
        by : (b : Bool) → (j.number == i.number) ≡ b → b ≡ false
        by true same = absurd (first_of (λ a b. a.number ≢ b.number) i is j h there (sym (eqb-true j.number i.number same)))
        by false differ = refl

-- ---- a collection without documents

all_rec : {X : Type 0} (P : X → Type 0) (xs : List X) (x : X) → AllByRecursion P xs → Among x xs → P x
all_rec P [] x h there = absurd there
all_rec P (y ∷ ys) x h (inl e) = subst P (sym e) h.0
all_rec P (y ∷ ys) x h (inr there) = all_rec P ys x h.1 there

pub bare_lawful : (name : List ℕ) (number : ℕ) (is : List Definition) → IsUtf8 name → length name ≤ 255 → 1 ≤ number → number ≤ 1000 → length is ≤ 16
    → AllByRecursion IsDefinition is → are_apart is ≡ true
    → IsIndexKept (record { name = name; number = number; documents = []; indexes = is })
bare_lawful name number is text short least most few lawful apart = record {
  name = text;
  short = short;
  least = least;
  most = most;
  rising = λ i j d lt below. absurd (omega (arith, below));
  storable = λ k d below. absurd (omega (arith, below));
  indexes = all_of (IsIndexOf []) is (λ i there. record {
    lawful = all_rec IsDefinition is i lawful there;
    keys = λ k d below. absurd (omega (arith, below));
    unique = λ u j k d lt below. absurd (omega (arith, below));
    multi = λ k d below. absurd (omega (arith, below));
  });
  distinct = apart_told is apart;
  few = few;
}

-- ---- documents

-- an entry is that of one document
pub one_document_of : (n : ℕ) (d e : Pairs) → IsStorable d → IsStorable e → document_entry n d ≡ document_entry n e → d ≡ e
one_document_of n d e hd he same =
    (one_spelling (frame_of (pairs_bytes d)) (frame_of (pairs_bytes e)) [] [] d e (document_spells d hd) (document_spells e he)
    (ap (λ (y : Entry). y.value ++ []) same)).0

pub same_stored : (c : Collection) (pair : Entry) (d e : Pairs) → IsDocumentAt c.number pair d → IsStoredAt c pair e → e ≡ d
same_stored c pair d e here there =
    one_document_of c.number e d (is_storable e there.stored there.readable) (is_storable d here.stored here.readable) (sym there.pair_is ∙ here.pair_is)

pub stored_at : (c : Collection) (pair : Entry) (d : Pairs) → IsDocumentAt c.number pair d → IsIndexable c.indexes d → IsStoredAt c pair d
stored_at c pair d at may = record { pair_is = at.pair_is; stored = at.stored; readable = at.readable; indexable = may }

pub document_of : (c : Collection) (pair : Entry) (d : Pairs) → IsStoredAt c pair d → IsDocumentAt c.number pair d
document_of c pair d is = record { pair_is = is.pair_is; stored = is.stored; readable = is.readable }

-- the keys in each index, where none refuses the document
pub keyed_so : (is : List Definition) (d : Pairs) (all : List (List (List ℕ))) → keys_in_all is d ≡ Ok all → list_any (becomes_multikey d) is ≡ false
    → IsIndexable is d × (all ≡ keys_among is d)
keyed_so is d all e noted =
    let same = (known is d all e).1 in (record { keys = e ∙ ap (λ (ks : List (List (List ℕ))). Ok ks) (sym same); noted = noted }, sym same)

pub not_keyed : (is : List Definition) (d : Pairs) (r : Refusal) → keys_in_all is d ≡ Err r → IsIndexable is d → ⊥
not_keyed is d r e may = let never : Ok (keys_among is d) ≡ Err r = sym may.keys ∙ e in cc
