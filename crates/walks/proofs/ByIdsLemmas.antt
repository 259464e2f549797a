-- Walks that come by the documents of some `_id`s.
use Rattle.std.proofs.Common.{◌≡◌, ℕ, zero, suc, ◌<◌, Bool, true, false, ◌||◌, List, [], ◌∷◌, length, Result, Ok, Err, refl, sym, ap, ◌∙◌, arith}
use Rattle.std.specs.Prelude.{Contains, MatchResult, slice_index_or}
use Rattle.std.specs.Cmp.Lexicographic.{nat_list_cmp_total}
use Rattle.std.specs.Ordering.{is_eq}
use Rattle.std.proofs.lemmas.Cmp.{tied_itself}
use Rattle.bson.specs.Tree.{Pairs}
use Rattle.value_order.specs.KeyText.{tree_text}
use Rattle.value_order.specs.Order.{bytes_cmp}
use Rattle.page.specs.History.{History}
use Rattle.path.specs.declared.refusal.Refusal.{Refusal}
use Rattle.entry_model.specs.State.{Collection, key_of}
use Rattle.index.specs.Changes.{is_among}
use Rattle.collections.specs.Calls.{HasReadCause}
use Rattle.collections.specs.Folding.{IsFolded}
use Rattle.collections.specs.Picking.{IsAskedFor, documents_among}
use Rattle.collections.specs.Lookups.{ReadsOf}
use Rattle.collections.specs.State.{State}
use Rattle.asked_documents.specs.ById.{AreIdsOf}
use Rattle.walks.specs.IdRange.{IsWalked}
use Rattle.walks.proofs.FilterLemmas.{filter_within}

among_at : (ts : List (List ℕ)) (t : List ℕ) (k : ℕ) → k < length ts → slice_index_or ts k t ≡ t → is_among ts t ≡ true
among_at [] t k within is = absurd (omega (arith, within))
among_at (u ∷ ts) t zero within is =
    ap (λ (x : List ℕ). is_eq (bytes_cmp t x) || is_among ts t) is ∙ ap (λ o. is_eq o || is_among ts t) (tied_itself nat_list_cmp_total t)
among_at (u ∷ ts) t (suc k) within is =
    elim (is_eq (bytes_cmp t u)) as (λ b. (b || is_among ts t) ≡ true) [ true ↦ refl | false ↦ among_at ts t k (omega (arith, within)) is ]

-- All that pass were lent, if they have one of the `_id`s.
pub walked_by_ids : {D F : Type 0} (history : D → History) (makes : F → List Pairs → F → Type 0) (start : F) (number : ℕ) (ids : List (List ℕ))
    (old new : State D) (r : Result F Refusal) (passes : Pairs → Bool)
    → ReadsOf history (IsAskedFor number ids) (λ now c done. IsFolded makes start (documents_among ids c.documents) done) r old new
    → ReadsOf history (AreIdsOf number passes ids) (λ now c done. IsWalked passes makes start c.documents done) r old new
walked_by_ids {D} {F} history makes start number ids old new r passes reads = record {
  extends = reads.extends;
  unchanged = reads.unchanged;
  same = reads.same;
  answers = λ k first now has c asked.
      walked now c asked r (reads.answers k first now has c (record { numbered = asked.numbered; ascending = asked.ascending }));
}
  where
    walked : (now : List Collection) (c : Collection) → AreIdsOf number passes ids now c → (r : Result F Refusal)
        → MatchResult r (IsFolded makes start (documents_among ids c.documents)) (HasReadCause history old new)
        → MatchResult r (IsWalked passes makes start c.documents) (HasReadCause history old new)
    walked now c asked (Ok done) folded = record {
      chosen = λ d. is_among ids (tree_text (key_of d));
      same = filter_within passes (λ d. is_among ids (tree_text (key_of d))) c.documents
          (λ d there passed. let at = asked.all d there passed in among_at ids (tree_text (key_of d)) at.0 at.1 at.2);
      folded = folded;
    }
    walked now c asked (Err e) cause = cause
