-- Documents of which some are told by their `_id`s, found by a walk.
use Rattle.std.proofs.Common.{◌≡◌, ℕ, Bool, true, false, List, refl, ap}
use Rattle.std.specs.Prelude.{◌&&◌, ◌||◌, not}
use Rattle.std.specs.List.{filter}
use Rattle.bson.specs.Tree.{Pairs}
use Rattle.value_order.specs.KeyText.{tree_text}
use Rattle.filter.specs.Condition.{Conditions}
use Rattle.index.specs.Changes.{is_among}
use Rattle.entry_model.specs.State.{Collection, key_of}
use Rattle.entry_model.proofs.KeyOfDocument.{among_test}
use Rattle.entry_model.proofs.MemberLemmas.{among_of, contains_of}
use Rattle.asked_documents.specs.ById.{AreIdsOf, but_not, one_matches}
use Rattle.walks.proofs.FilterLemmas.{filter_where}

-- one of the filters matches it, or its `_id` is told
abbrev pub is_beside : List Conditions → List (List ℕ) → Pairs → Bool
is_beside ws ids d = one_matches ws d || is_among ids (tree_text (key_of d))

-- those that are looked for are all among these
pub same_beside : (number : ℕ) (p : Pairs → Bool) (ws : List Conditions) (ids : List (List ℕ)) (now : List Collection) (c : Collection)
    → AreIdsOf number (but_not p ws) ids now c → filter (λ d. is_beside ws ids d && p d) c.documents ≡ filter p c.documents
same_beside number p ws ids now c told =
    filter_where (λ d. is_beside ws ids d && p d) p c.documents (λ d there.
    both (one_matches ws d) (is_among ids (tree_text (key_of d))) (p d)
    (λ passes. among_test ids (tree_text (key_of d)) (among_of ids (tree_text (key_of d)) (told.all d (contains_of c.documents d there) passes))))
  where
    both : (w m q : Bool) → ((q && not w) ≡ true → m ≡ true) → ((w || m) && q) ≡ q
    both true m q tells = refl
    both false m true tells = ap (λ (b : Bool). b && true) (tells refl)
    both false true false tells = refl
    both false false false tells = refl
