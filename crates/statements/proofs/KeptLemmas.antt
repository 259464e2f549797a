-- Documents of a collection that are in ascending order and may be stored.
use Rattle.std.proofs.Common.{◌≡◌, ◌⊎◌, inl, inr, ℕ, suc, Bool, true, false, List, [], ◌∷◌, insert, Some, subst, arith}
use Rattle.std.specs.Prelude.{if◌then◌else◌, All}
use Rattle.std.specs.Str.{bytes_eq}
use Rattle.bson.specs.Tree.{Pairs}
use Rattle.value_order.specs.Order.{compare}
use Rattle.value_order.specs.TotalLaws.{compare_total}
use Rattle.entry_model.specs.LawfulState.{IsRising}
use Rattle.entry_model.specs.State.{Collection, find_collection}
use Rattle.database_model.specs.Documents.{key_of, place}
use Rattle.database_model.specs.Lawful.{IsKept, IsStored}
use Rattle.database_model.specs.World.{documents_of, documents_or_none}
use Rattle.database_model.proofs.Located.{Gap, There, located}
use Rattle.database_model.proofs.Ordered.{rises_insert, All-inserted, place_gap, place_there}

abbrev pub Kept : List Pairs → Type 0
Kept ds = IsRising ds × All IsStored ds

pub kept_place : (ds : List Pairs) (new : Pairs) (next : List Pairs) → Kept ds → IsStored new → place (key_of new) new ds ≡ Some next → Kept next
kept_place ds new next h stored e = at (located compare_total key_of ds (key_of new) h.0)
  where
    at : Gap compare key_of ds (key_of new) ⊎ There compare key_of ds (key_of new) → Kept next
    at (inl g) =
        let same : insert ds g.0 new ≡ next = let put = place_gap ds g.0 (key_of new) new g.1 in cc in
        subst Kept same (rises_insert compare_total key_of ds g.0 new h.0 g.1, All-inserted IsStored ds g.0 new g.1.within h.1 stored)
    at (inr t) = let none = place_there ds t.place (key_of new) new h.0 t.within t.same in absurd cc

pub stored_at : (cs : List Collection) (name : List ℕ) → All IsKept cs → Kept (documents_of cs name)
stored_at [] name h = (λ i j d lt below. absurd (omega arith), λ k d below. absurd (omega arith))
stored_at (c ∷ cs) name h = at (bytes_eq name c.name) (stored_at cs name (λ k d below. h (suc k) d (omega arith)))
  where
    at : (b : Bool) → Kept (documents_of cs name) → Kept (documents_or_none (if b then Some c else find_collection cs name))
    at true later = let kept = (h 0 c (omega arith)).lawful in (kept.rising, kept.stored)
    at false later = later
