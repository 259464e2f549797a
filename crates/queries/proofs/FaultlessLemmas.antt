-- Documents within the limits of those that are stored, as a pipeline judges them.
use Rattle.std.proofs.Common.{◌≡◌, suc, Bool, true, false, List, [], ◌∷◌, length, Option, Some, None, refl, arith}
use Rattle.std.specs.Prelude.{All, nat_lt, if◌then◌else◌}
use Rattle.std.proofs.lemmas.List.Elements.{All-cons, All-head, All-tail}
use Rattle.std.proofs.lemmas.Bool.Decides.{nat_tests}
use Rattle.bson.specs.Lawful.{pairs_levels}
use Rattle.bson.specs.Spelling.{frame_of, pairs_bytes}
use Rattle.bson.specs.Tree.{Pairs}
use Rattle.path.specs.declared.refusal.Refusal.{Refusal}
use Rattle.path.specs.declared.refusal.Refusal.TheVariants as refusals
use Rattle.aggregate_model.specs.Limits.{limit_fault, else_fault, first_fault}
use Rattle.database_model.specs.Lawful.{IsWithin}

-- a document within the limits has no fault
faultless : (d : Pairs) → IsWithin d → limit_fault 65535 d ≡ None
faultless d h =
    let size : nat_lt 65535 (length (frame_of (pairs_bytes d))) ≡ false = grind (arith, nat_tests, h.size) in
    let depth : nat_lt 90 (suc (pairs_levels d)) ≡ false = grind (arith, nat_tests, h.depth) in
    rw size (rw depth refl)

pub none_at_fault : (ds : List Pairs) → All IsWithin ds → first_fault 65535 ds ≡ None
none_at_fault [] h = refl
none_at_fault (d ∷ ds) h = rw (faultless d (All-head IsWithin d ds h)) (none_at_fault ds (All-tail IsWithin d ds h))

-- a document without a fault is within the limits
faultless_is_within : (d : Pairs) → limit_fault 65535 d ≡ None → IsWithin d
faultless_is_within d e = at (nat_lt 65535 (length (frame_of (pairs_bytes d)))) (nat_lt 90 (suc (pairs_levels d))) refl refl e
  where
    at : (large deep : Bool) → nat_lt 65535 (length (frame_of (pairs_bytes d))) ≡ large → nat_lt 90 (suc (pairs_levels d)) ≡ deep
        → (if large then Some refusals.BSONObjectTooLarge else if deep then Some refusals.BadValue else None) ≡ None → IsWithin d
    at true deep l f e = absurd cc
    at false true l f e = absurd cc
    at false false l f e = record { size = grind (arith, nat_tests, l); depth = grind (arith, nat_tests, f) }

pub faultless_within : (ds : List Pairs) → first_fault 65535 ds ≡ None → All IsWithin ds
faultless_within [] e = λ k x below. absurd (omega (arith, below))
faultless_within (d ∷ ds) e = at (limit_fault 65535 d) refl (λ f. faultless_within ds f) e
  where
    at : (o : Option Refusal) → limit_fault 65535 d ≡ o → (first_fault 65535 ds ≡ None → All IsWithin ds) → else_fault o (first_fault 65535 ds) ≡ None
        → All IsWithin (d ∷ ds)
    at None is later f = All-cons IsWithin d ds (faultless_is_within d is) (later f)
    at (Some r) is later f = absurd cc
