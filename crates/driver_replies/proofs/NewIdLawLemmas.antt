-- The object ids of an insert, one after the other, are no two the same.
use Rattle.std.proofs.Common.{◌≡◌, ◌≢◌, ℕ, zero, suc, ◌+◌, ◌<◌, ◌^◌, List, drop, refl, ap, sym, ◌∙◌, w64, arith}
use Rattle.std.specs.Int.{to_be_bytes, from_be_bytes}
use Rattle.std.specs.Option.{option_map}
use Rattle.std.proofs.lemmas.Nat.{from_be_bytes-to_be_bytes_8}
use Rattle.bson.specs.Edits.{item_at}
use Rattle.bson.specs.Tree.{Items, no_items, item}
use Rattle.driver_replies.specs.NewIds.{value_with_id, with_ids}
use Rattle.driver_replies.specs.NewIdLaws.{ids_behind, GivesEachItsOwn}
use Rattle.driver_replies.specs.Writes.{fresh_id, next_ids}
use Rattle.driver_replies.specs.declared.fresh_ids.FreshIds.{FreshIds}

given : (ids : FreshIds) (ts : Items) (n : ℕ)
    → item_at (with_ids ids ts) n ≡ option_map (value_with_id (fresh_id (ids_behind n ids))) (item_at ts n)
given ids no_items n = refl
given ids (item t ts) zero = refl
given ids (item t ts) (suc n) = given (next_ids ids) ts n

number : (n : ℕ) (ids : FreshIds) → ids.number + n < 2 ^ 64 → (ids_behind n ids).number ≡ ids.number + n
number zero ids h = omega arith
number (suc n) ids h =
    let one : (next_ids ids).number ≡ ids.number + 1 = omega (arith, h) in
    omega (arith, one, number n (next_ids ids) (omega (arith, one, h)))

same_number : (ids others : FreshIds) → ids.number < 2 ^ 64 → others.number < 2 ^ 64 → fresh_id ids ≡ fresh_id others → ids.number ≡ others.number
same_number ids others h k e =
    let same : to_be_bytes w64 ids.number ≡ to_be_bytes w64 others.number = ap (λ (bytes : List ℕ). drop 4 bytes) e in
    sym (from_be_bytes-to_be_bytes_8 ids.number h) ∙ ap (from_be_bytes w64) same ∙ from_be_bytes-to_be_bytes_8 others.number k

apart : (ids others : FreshIds) (m n : ℕ) → ids.number + m < 2 ^ 64 → others.number + n < 2 ^ 64 → ids.number + m ≢ others.number + n
    → fresh_id (ids_behind m ids) ≢ fresh_id (ids_behind n others)
apart ids others m n h k differ e =
    let first = number m ids h in
    let second = number n others k in
    differ (sym first ∙ same_number (ids_behind m ids) (ids_behind n others) (omega (arith, first, h)) (omega (arith, second, k)) e ∙ second)

pub gives_each_its_own : GivesEachItsOwn
gives_each_its_own = record { in_order = given; apart = apart }
