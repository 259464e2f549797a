-- Documents within the limits of those that are stored.
use Rattle.std.proofs.Common.{◌≡◌, inl, inr, ℕ, suc, Bool, true, false, List, [], ◌∷◌, length, Option, Some, Ok, Err, refl, sym, ◌∙◌, arith}
use Rattle.std.specs.Prelude.{All, nat_lt, not, is_some}
use Rattle.std.specs.List.{list_all}
use Rattle.std.proofs.lemmas.List.Elements.{All-cons, All-head, All-tail}
use Rattle.std.proofs.lemmas.Bool.Decides.{nat_tests}
use Rattle.bson.specs.Lawful.{pairs_levels}
use Rattle.bson.specs.Spelling.{frame_of, pairs_bytes}
use Rattle.bson.specs.Tree.{Pairs}
use Rattle.page.specs.History.{History, KeepsWord}
use Rattle.path.specs.declared.refusal.Refusal.TheVariants as refusals
use Rattle.update_model.specs.Stored.{fault_if, or_else}
use Rattle.entry_model.specs.LawfulState.{IsLawfulState, IsStorable}
use Rattle.entry_model.specs.State.{Collection}
use Rattle.entry_model.proofs.FoundLawLemmas.{found_collection, found_document}
use Rattle.collections.specs.Calls.{HasReadCause}
use Rattle.collections.specs.Lookups.{IsPlaceOf, Place, ReadsOf, stored_at}
use Rattle.collections.specs.Standing.{HasState, IsTurnOf}
use Rattle.collections.specs.State.{State}
use Rattle.collections.specs.View.{disk_history, is_stopped}
use Rattle.database_model.specs.Lawful.{IsWithin}
use Rattle.walks.specs.Within.{is_within}
use Rattle.asked_documents.proofs.ReadingLemmas.{word_before}

pub within_by : (d : Pairs) → is_within d ≡ true → IsWithin d
within_by d is = at (nat_lt 65535 (length (frame_of (pairs_bytes d)))) (nat_lt 90 (suc (pairs_levels d))) refl refl is
  where
    at : (large deep : Bool) → nat_lt 65535 (length (frame_of (pairs_bytes d))) ≡ large → nat_lt 90 (suc (pairs_levels d)) ≡ deep
        → not (is_some (or_else (fault_if large refusals.BSONObjectTooLarge) (fault_if deep refusals.BadValue))) ≡ true → IsWithin d
    at true deep l f e = absurd cc
    at false true l f e = absurd cc
    at false false l f e = record { size = grind (arith, nat_tests, l); depth = grind (arith, nat_tests, f) }

pub by_within : (d : Pairs) → IsWithin d → is_within d ≡ true
by_within d h =
    let size : nat_lt 65535 (length (frame_of (pairs_bytes d))) ≡ false = grind (arith, nat_tests, h.size) in
    let depth : nat_lt 90 (suc (pairs_levels d)) ≡ false = grind (arith, nat_tests, h.depth) in
    (λ i. not (is_some (or_else (fault_if (size i) refusals.BSONObjectTooLarge) (fault_if (depth i) refusals.BadValue))))

pub all_within : (ds : List Pairs) → list_all is_within ds ≡ true → All IsWithin ds
all_within [] is = λ k d below. absurd (omega (arith, below))
all_within (d ∷ ds) is = at (is_within d) refl is (λ later. all_within ds later)
  where
    at : (b : Bool) → is_within d ≡ b → list_all is_within (d ∷ ds) ≡ true → (list_all is_within ds ≡ true → All IsWithin ds) → All IsWithin (d ∷ ds)
    at true e h later = All-cons IsWithin d ds (within_by d e) (later (grind (arith, e, h)))
    at false e h later = absurd (grind (arith, e, h))

pub within_all : (ds : List Pairs) → All IsWithin ds → list_all is_within ds ≡ true
within_all [] h = refl
within_all (d ∷ ds) h = rw (by_within d (All-head IsWithin d ds h)) (within_all ds (All-tail IsWithin d ds h))

pub storable_within : (d : Pairs) → IsStorable d → is_within d ≡ true
storable_within d h = by_within d (record { size = h.size; depth = h.depth })

-- ---- in the file

-- a document that was found in a collection within the limits is within them
module _ {D : Type 0} (history : D → History) (old new : State D) (number : ℕ) (text : List ℕ) (d : Pairs)
    (reads : ReadsOf history (IsPlaceOf number text) (λ now place (found : Option Pairs). found ≡ stored_at place) (Ok (Some d)) old new) where
  found_within : (now : List Collection) (place : Place) → IsLawfulState now → IsPlaceOf number text now place → Some d ≡ stored_at place → IsWithin d
  found_within now place state there found =
      let c = place.collection in
      let kept = (found_collection now c.name c state there.numbered.found).0 in
      let stored = (found_document c.documents place.id d kept.storable (sym found)).0 in
      record { size = stored.size; depth = stored.depth }

  pub over_refused : is_within d ≡ false → {X : Type 0} (Q : List Collection → Place → X → Type 0)
      → ReadsOf history (IsPlaceOf number text) Q (Err refusals.StorageFailed) old new
  over_refused over Q = record {
    extends = reads.extends;
    unchanged = reads.unchanged;
    same = reads.same;
    answers = λ k start now has place there. at (is_stopped old) refl k start now has place there;
  }
    where
      at : (b : Bool) → is_stopped old ≡ b → KeepsWord (disk_history history new) → (start now : List Collection) → HasState history old start now
          → (place : Place) → IsPlaceOf number text now place → HasReadCause history old new refusals.StorageFailed
      at true stopped k start now has place there = inr (refl, inl stopped)
      at false running k start now has place there =
          let t : IsTurnOf history old start now = has running (word_before history old new reads.extends k) in
          let within = found_within now place t.now_state there (reads.answers k start now has place there) in
          let both : is_within d ≡ true = by_within d within in
          let no : true ≡ false = sym both ∙ over in
          absurd cc
