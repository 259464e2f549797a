-- Rows worked by hand: what paths reach in small documents, and what a write makes.
use Rattle.std.specs.Prelude.{◌≡◌, ℕ, pos, List, [], ◌∷◌, codes, Ok, Err, Some, None}
use Rattle.bson.specs.Tree.{Tree, scalar, null, int32, document, array, Pairs, no_pairs, pair}
use Rattle.bson.specs.Tree.{no_items, item}
use Rattle.path.specs.declared.fault.PathFault.TheVariants as faults
use Rattle.path.specs.declared.refusal.Refusal.TheVariants as refusals
use Rattle.path.specs.Parts.{parts_of, path_of}
use Rattle.path.specs.Reach.{Reached, reach}
use Rattle.path.specs.Edits.{set_at, cut_at}

abbrev pub number_value : ℕ → Tree
number_value n = scalar (int32 (pos n))

-- the document with this one field
abbrev pub one : List ℕ → Tree → Pairs
one name t = pair name t no_pairs

abbrev pub list : Tree → Tree → Tree
list t u = array (item t (item u no_items))

abbrev pub single : Tree → Tree
single t = array (item t no_items)

abbrev pub reaches : List ℕ → Pairs → List Reached → Type 0
reaches text ps found = reach (parts_of text) (document ps) ≡ found

abbrev pub writes : List ℕ → Pairs → Tree → Type 0
writes text ps t = set_at (parts_of text) (number_value 7) ps ≡ Ok (one (codes "a") t)

abbrev pub refuses : List ℕ → Type 0
refuses text =
    set_at (parts_of text) (number_value 7) (one (codes "a") (number_value 5))
    ≡ Err refusals.PathNotViable

abbrev pub ReachRows : Type 0
ReachRows =
    -- a missing field, a value that holds no other, an empty array, elements that are no documents
    reaches (codes "b") (one (codes "a") (number_value 5)) (None ∷ [])
    × reaches (codes "a.b") (one (codes "a") (number_value 5)) (None ∷ [])
    × reaches (codes "a.b") (one (codes "a") (array no_items)) []
    × reaches (codes "a.b") (one (codes "a") (single (scalar null))) []
    -- an element that lacks the field is Missing, but for one named by digits
    × reaches (codes "a.b")
    (one (codes "a")
    (list (document (one (codes "b") (number_value 1)))
    (document (one (codes "c") (number_value 2))))) (Some (number_value 1) ∷ None ∷ [])
    × reaches (codes "a.0")
    (one (codes "a") (list (document (one (codes "b") (number_value 1))) (number_value 3)))
    (Some (document (one (codes "b") (number_value 1))) ∷ [])
    -- the elements come before the element that the part numbers; an array in an array is left by
    -- its number alone
    × reaches (codes "a.0")
    (one (codes "a") (single (document (one (codes "0") (number_value 7)))))
    (Some (number_value 7) ∷ Some (document (one (codes "0") (number_value 7))) ∷ [])
    × reaches (codes "a.b")
    (one (codes "a") (single (single (document (one (codes "b") (number_value 1)))))) []
    × reaches (codes "a.0.b")
    (one (codes "a") (single (single (document (one (codes "b") (number_value 1))))))
    (Some (number_value 1) ∷ [])
    × reaches (codes "a.00") (one (codes "a") (single (number_value 1))) []

abbrev pub EditRows : Type 0
EditRows =
    writes (codes "a.3") (one (codes "a") (single (number_value 1)))
    (array (item (number_value 1)
    (item (scalar null) (item (scalar null) (item (number_value 7) no_items)))))
    × writes (codes "a.b") no_pairs (document (one (codes "b") (number_value 7)))
    × refuses (codes "a.b")
    × (cut_at (parts_of (codes "a.0")) (one (codes "a") (list (number_value 1) (number_value 2)))
    ≡ one (codes "a") (list (scalar null) (number_value 2)))
    × (cut_at (parts_of (codes "a.b"))
    (one (codes "a") (document (one (codes "b") (number_value 1))))
    ≡ one (codes "a") (document no_pairs))
    × (path_of (codes "a..b") ≡ Err faults.EmptyPart)
    × (path_of (codes "a.$b") ≡ Err faults.Dollar)
    × (path_of [] ≡ Err faults.Empty)
