-- How deep statements nest that are asked in another form, and the `_id`s that upserts make.
use Rattle.std.proofs.Common.{◌≡◌, ℕ, suc, ◌≤◌, Bool, true, false, List, codes, Option, Some, None, refl, ap, sym, arith}
use Rattle.std.specs.Prelude.{if◌then◌else◌, IfSome, ◌==◌}
use Rattle.std.specs.Option.{option_map}
use Rattle.std.specs.Borrow.{Bor}
use Rattle.std.proofs.lemmas.Bool.Decides.{nat_tests}
use Rattle.bson.specs.Tree.{Tree, scalar, document, array, object_id, Pairs, Items, no_items, item}
use Rattle.bson.specs.Lookup.{lookup}
use Rattle.bson.specs.Edits.{put, cut, items_len, without_item}
use Rattle.bson.specs.EditsLaws.{pairs_levels-put, pairs_levels-cut}
use Rattle.bson.specs.Lawful.{levels, pairs_levels, IsDocument}
use Rattle.bson.specs.View.{tree}
use Rattle.bson.specs.declared.value.Value.{Value}
use Rattle.driver_replies.specs.LevelLaws.{found-levels}
use Rattle.driver_replies.specs.Tallies.{first_id_in, upserted_id}
use Rattle.driver_replies.specs.Writes.{fresh_id, with_filter, with_id, asked_upsert}
use Rattle.driver_replies.specs.declared.batch.Batch.{Batch}

-- ---- the `_id` in a reply

id-levels : (reply : Pairs) (t : Tree) → IsDocument reply → upserted_id reply ≡ Some t → levels t ≤ 97
id-levels reply t lawful e = at (lookup reply (codes "upserted")) refl e
  where
    at : (x : Option Tree) → lookup reply (codes "upserted") ≡ x → first_id_in x ≡ Some t → levels t ≤ 97
    at None is e = absurd cc
    at (Some (scalar s)) is e = absurd cc
    at (Some (document ps)) is e = absurd cc
    at (Some (array no_items)) is e = absurd cc
    at (Some (array (item (scalar s) ts))) is e = absurd cc
    at (Some (array (item (array us) ts))) is e = absurd cc
    at (Some (array (item (document ps) ts))) is e =
        omega (arith, lawful.depth, found-levels reply (codes "upserted") (array (item (document ps) ts)) is, found-levels ps (codes "_id") t e)

pub id_is_flat : (reply : Pairs) (found : Option (Bor Value)) → IsDocument reply → option_map (λ v. tree v.now) found ≡ upserted_id reply
    → IfSome found (λ v. levels (tree v.now) ≤ 97)
id_is_flat reply None lawful e = tt
id_is_flat reply (Some v) lawful e = id-levels reply (tree v.now) lawful (sym e)

-- ---- statements in the form in which they are asked

pub id-in-filter : (id : List ℕ) (ps : Pairs) → pairs_levels ps ≤ 97 → pairs_levels (with_id id ps) ≤ 97
id-in-filter id ps short = at (lookup ps (codes "q")) refl
  where
    left : Pairs
    left = cut ps (codes "q")

    at : (x : Option Tree) → lookup ps (codes "q") ≡ x → pairs_levels (with_filter id x left) ≤ 97
    at None is = omega (arith, short, pairs_levels-cut ps (codes "q"))
    at (Some (scalar s)) is = omega (arith, short, pairs_levels-cut ps (codes "q"))
    at (Some (array ts)) is = omega (arith, short, pairs_levels-cut ps (codes "q"))
    at (Some (document qs)) is =
        let filter = put qs (codes "_id") (scalar (object_id id)) in
        omega (
          arith,
          short,
          pairs_levels-cut ps (codes "q"),
          pairs_levels-put left (codes "q") (document filter),
          pairs_levels-put qs (codes "_id") (scalar (object_id id)),
          found-levels ps (codes "q") (document qs) is,
        )

asked-upsert : (batch : Batch) (ps : Pairs) → pairs_levels ps ≤ 97 → pairs_levels (asked_upsert batch ps) ≤ 97
asked-upsert batch ps short = at batch.is_new
  where
    at : (b : Bool) → pairs_levels (if b then with_id (fresh_id batch.ids) ps else cut ps (codes "upsert")) ≤ 97
    at true = id-in-filter (fresh_id batch.ids) ps short
    at false = omega (arith, short, pairs_levels-cut ps (codes "upsert"))

pub upsert_is_flat : (batch : Batch) (ps made : Pairs) → levels (document ps) ≤ 98 → made ≡ asked_upsert batch ps → suc (pairs_levels made) ≤ 98
upsert_is_flat batch ps made short is =
    let as_deep : pairs_levels made ≡ pairs_levels (asked_upsert batch ps) = ap pairs_levels is in
    omega (arith, as_deep, asked-upsert batch ps (omega (arith, short)))

-- ---- of no statements the first is none

pub none_first : (ts : Items) → (items_len ts == 0) ≡ true → ts ≡ without_item ts 0
none_first no_items e = refl
none_first (item t ts) e = absurd (grind (arith, nat_tests))
