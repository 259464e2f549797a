-- How deep the statements of a findAndModify nest.
use Rattle.std.proofs.Common.{◌≡◌, ◌≤◌, Bool, true, false, Option, Some, None, ap, codes, arith, refl}
use Rattle.std.specs.Prelude.{if◌then◌else◌}
use Rattle.bson.specs.Tree.{Tree, Pairs, no_pairs, pair}
use Rattle.bson.specs.EditPlaces.{pairs_levels-append}
use Rattle.bson.specs.Lawful.{levels, pairs_levels}
use Rattle.bson.specs.Lookup.{lookup}
use Rattle.driver_replies.specs.LevelLaws.{found-levels}
use Rattle.driver_replies.specs.Modifying.{removal, replacement, upsert_of, asked_upsert, done_with, with_upserted}
use Rattle.driver_replies.specs.Writes.{is_upsert, fresh_id, with_id}
use Rattle.driver_replies.specs.declared.modifying.Modification.{Modification}
use Rattle.driver_replies.proofs.BatchLemmas.{id-in-filter}

pub removal_is_flat : (subject ps : Pairs) → pairs_levels subject ≤ 90 → ps ≡ removal subject → pairs_levels ps ≤ 97
removal_is_flat subject ps short is =
    let same : pairs_levels ps ≡ pairs_levels (removal subject) = ap pairs_levels is in
    omega (arith, same, short)

pub replacement_is_flat : (filter update ps : Pairs) → pairs_levels filter ≤ 90 → pairs_levels update ≤ 90 → ps ≡ replacement filter update
    → pairs_levels ps ≤ 97
replacement_is_flat filter update ps short low is =
    let same : pairs_levels ps ≡ pairs_levels (replacement filter update) = ap pairs_levels is in
    omega (arith, same, short, low)

pub upsert_is_flat : (m : Modification) (ps : Pairs) → pairs_levels (replacement m.filter m.update) ≤ 97 → ps ≡ asked_upsert m
    → pairs_levels ps ≤ 97
upsert_is_flat m ps short is =
    let same : pairs_levels ps ≡ pairs_levels (asked_upsert m) = ap pairs_levels is in
    omega (arith, same, at (is_upsert (upsert_of m)))
  where
    whole : pairs_levels (upsert_of m) ≤ 97
    whole = omega (arith, short)

    at : (b : Bool) → pairs_levels (if b then with_id (fresh_id m.ids) (upsert_of m) else upsert_of m) ≤ 97
    at true = id-in-filter (fresh_id m.ids) (upsert_of m) whole
    at false = whole

with-upserted : (is_new : Bool) (subject done : Pairs) → pairs_levels subject ≤ 90 → pairs_levels done ≤ 90
    → pairs_levels (with_upserted is_new (lookup subject (codes "_id")) done) ≤ 98
with-upserted is_new subject done short low = at is_new (lookup subject (codes "_id")) (λ t e. found-levels subject (codes "_id") t e)
  where
    at : (b : Bool) (o : Option Tree) → ((t : Tree) → o ≡ Some t → levels t ≤ pairs_levels subject) → pairs_levels (with_upserted b o done) ≤ 98
    at true (Some t) h = omega (arith, pairs_levels-append done (pair (codes "upserted") t no_pairs), h t refl, short, low)
    at true None h = omega (arith, low)
    at false o h = omega (arith, low)

pub done_is_flat : (is_removal is_new : Bool) (subject ps : Pairs) → pairs_levels subject ≤ 90 → ps ≡ done_with is_removal is_new subject
    → pairs_levels ps ≤ 98
done_is_flat is_removal is_new subject ps short is =
    let same : pairs_levels ps ≡ pairs_levels (done_with is_removal is_new subject) = ap pairs_levels is in
    omega (arith, same, at is_removal)
  where
    at : (b : Bool) → pairs_levels (done_with b is_new subject) ≤ 98
    at true = omega arith
    at false = with-upserted is_new subject _ short (omega arith)
