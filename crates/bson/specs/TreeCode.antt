-- A code for documents, by which a proof tells two of them apart.
use Rattle.std.specs.Prelude.{◌≡◌, ℕ, ℤ, pos, true, false, ◌==◌, if◌then◌else◌, List, [], refl}
use Rattle.std.proofs.Common.{ap}
use Rattle.std.specs.Coded.{Coded, code_by, coded×, coded_ℕ, coded_ℤ, coded_list}
use base.Stored.{Gv, gnil, gnum, gcons}
use Rattle.bson.specs.Tree.{Scalar, text, binary, object_id, boolean, date, null, int32, timestamp}
use Rattle.bson.specs.Tree.{int64, min_key, max_key, Tree, scalar, document, array, Pairs, no_pairs}
use Rattle.bson.specs.Tree.{pair, Items, no_items, item}

abbrev head : Gv → Gv
head gnil = gnil
head (gnum n) = gnil
head (gcons a b) = a

abbrev tail : Gv → Gv
tail gnil = gnil
tail (gnum n) = gnil
tail (gcons a b) = b

abbrev coded_bytes : Coded (List ℕ)
coded_bytes = coded_list coded_ℕ

-- A scalar as which it is, two numbers and bytes.
abbrev Parts : Type 0
Parts = ℕ × (ℕ × (ℤ × List ℕ))

abbrev scalar_parts : Scalar → Parts
scalar_parts (text s) = (0, (0, (pos 0, s)))
scalar_parts (binary subtype bytes) = (1, (subtype, (pos 0, bytes)))
scalar_parts (object_id bytes) = (2, (0, (pos 0, bytes)))
scalar_parts (boolean b) = (3, (if b then 1 else 0, (pos 0, [])))
scalar_parts (date z) = (4, (0, (z, [])))
scalar_parts null = (5, (0, (pos 0, [])))
scalar_parts (int32 z) = (6, (0, (z, [])))
scalar_parts (timestamp n) = (7, (n, (pos 0, [])))
scalar_parts (int64 z) = (8, (0, (z, [])))
scalar_parts min_key = (9, (0, (pos 0, [])))
scalar_parts max_key = (10, (0, (pos 0, [])))

abbrev parts_scalar : Parts → Scalar
parts_scalar p =
    if p.0 == 0 then text p.1.1.1 else
    if p.0 == 1 then binary p.1.0 p.1.1.1 else
    if p.0 == 2 then object_id p.1.1.1 else
    if p.0 == 3 then boolean (p.1.0 == 1) else
    if p.0 == 4 then date p.1.1.0 else
    if p.0 == 5 then null else
    if p.0 == 6 then int32 p.1.1.0 else
    if p.0 == 7 then timestamp p.1.0 else
    if p.0 == 8 then int64 p.1.1.0 else
    if p.0 == 9 then min_key else
    max_key

pub parts_scalar-scalar_parts : (s : Scalar) → parts_scalar (scalar_parts s) ≡ s
parts_scalar-scalar_parts (text s) = refl
parts_scalar-scalar_parts (binary subtype bytes) = refl
parts_scalar-scalar_parts (object_id bytes) = refl
parts_scalar-scalar_parts (boolean false) = refl
parts_scalar-scalar_parts (boolean true) = refl
parts_scalar-scalar_parts (date z) = refl
parts_scalar-scalar_parts null = refl
parts_scalar-scalar_parts (int32 z) = refl
parts_scalar-scalar_parts (timestamp n) = refl
parts_scalar-scalar_parts (int64 z) = refl
parts_scalar-scalar_parts min_key = refl
parts_scalar-scalar_parts max_key = refl

abbrev coded_scalar : Coded Scalar
coded_scalar = code_by Parts
    (coded× coded_ℕ (coded× coded_ℕ (coded× coded_ℤ coded_bytes)))
    scalar_parts parts_scalar parts_scalar-scalar_parts

abbrev mutual
  pub tree_number : Tree → Gv
  tree_number (scalar s) = gcons (gnum 0) (coded_scalar.code s)
  tree_number (document ps) = gcons (gnum 1) (pairs_number ps)
  tree_number (array ts) = gcons (gnum 2) (items_number ts)

  pub pairs_number : Pairs → Gv
  pairs_number no_pairs = gnil
  pairs_number (pair name t ps) =
      gcons (coded_bytes.code name) (gcons (tree_number t) (pairs_number ps))

  pub items_number : Items → Gv
  items_number no_items = gnil
  items_number (item t ts) = gcons (tree_number t) (items_number ts)

mutual
  pub tree_one : (x y : Tree) → tree_number x ≡ tree_number y → x ≡ y
  tree_one (scalar x) (scalar y) e = ap scalar (coded_scalar.inj x y (ap tail e))
  tree_one (scalar x) (document y) e = absurd cc
  tree_one (scalar x) (array y) e = absurd cc
  tree_one (document x) (scalar y) e = absurd cc
  tree_one (document x) (document y) e = ap document (pairs_one x y (ap tail e))
  tree_one (document x) (array y) e = absurd cc
  tree_one (array x) (scalar y) e = absurd cc
  tree_one (array x) (document y) e = absurd cc
  tree_one (array x) (array y) e = ap array (items_one x y (ap tail e))

  pub pairs_one : (x y : Pairs) → pairs_number x ≡ pairs_number y → x ≡ y
  pairs_one no_pairs no_pairs e = refl
  pairs_one no_pairs (pair n t ps) e = absurd cc
  pairs_one (pair n t ps) no_pairs e = absurd cc
  pairs_one (pair n t ps) (pair m u qs) e =
      λ i. pair (coded_bytes.inj n m (ap head e) i) (tree_one t u (ap (λ g. head (tail g)) e) i)
      (pairs_one ps qs (ap (λ g. tail (tail g)) e) i)

  pub items_one : (x y : Items) → items_number x ≡ items_number y → x ≡ y
  items_one no_items no_items e = refl
  items_one no_items (item t ts) e = absurd cc
  items_one (item t ts) no_items e = absurd cc
  items_one (item t ts) (item u us) e =
      λ i. item (tree_one t u (ap head e) i) (items_one ts us (ap tail e) i)

abbrev pub coded_tree : Coded Tree
coded_tree = record { code = tree_number; inj = tree_one }

abbrev pub coded_pairs : Coded Pairs
coded_pairs = record { code = pairs_number; inj = pairs_one }

abbrev pub coded_items : Coded Items
coded_items = record { code = items_number; inj = items_one }
