-- How deep what is found in a document nests.
use Rattle.std.proofs.Common.{◌≡◌, ℕ, max, ◌≤◌, Bool, true, false, List, Some, None, ap, ◌∙◌, arith}
use Rattle.std.specs.Prelude.{if◌then◌else◌}
use Rattle.std.specs.Str.{bytes_eq}
use Rattle.bson.specs.Tree.{Scalar, Tree, scalar, document, Pairs, no_pairs, pair}
use Rattle.bson.specs.Lookup.{lookup}
use Rattle.bson.specs.Edits.{put, cut}
use Rattle.bson.specs.EditsLaws.{pairs_levels-put, lookup-cut}
use Rattle.bson.specs.Lawful.{levels, pairs_levels, IsDocument}

pub found-levels : (ps : Pairs) (name : List ℕ) (t : Tree) → lookup ps name ≡ Some t
    → levels t ≤ pairs_levels ps
found-levels no_pairs name t e = absurd cc
found-levels (pair other u ps) name t e = at (bytes_eq name other) e (λ f. found-levels ps name t f)
  where
    at : (b : Bool) → (if b then Some u else lookup ps name) ≡ Some t
        → (lookup ps name ≡ Some t → levels t ≤ pairs_levels ps)
        → levels t ≤ max (levels u) (pairs_levels ps)
    at true e later =
        let same : u ≡ t = cc in
        let as_deep : levels u ≡ levels t = ap levels same in
        omega (arith, as_deep)
    at false e later = omega (arith, later e)

-- a document in a document leaves room for one level
pub inner-levels : (ps qs : Pairs) (name : List ℕ) → IsDocument ps
    → lookup ps name ≡ Some (document qs) → pairs_levels qs ≤ 98
inner-levels ps qs name lawful e = omega (arith, found-levels ps name (document qs) e, lawful.depth)

-- a field that holds no other makes a document no deeper
pub flat-levels : (ps qs : Pairs) (name : List ℕ) (s : Scalar) → pairs_levels ps ≤ 98
    → qs ≡ put ps name (scalar s) → levels (document qs) ≤ 99
flat-levels ps qs name s short is =
    let as_deep : pairs_levels qs ≡ pairs_levels (put ps name (scalar s)) = ap pairs_levels is in
    omega (arith, pairs_levels-put ps name (scalar s), as_deep, short)

-- what was cut is gone
pub cut_is : (ps qs : Pairs) (name : List ℕ) → IsDocument ps → qs ≡ cut ps name
    → lookup qs name ≡ None
cut_is ps qs name lawful is =
    ap (λ (rs : Pairs). lookup rs name) is ∙ lookup-cut ps name lawful.lawful

-- what a part of a command holds has room below a name
pub part_levels : (ps : Pairs) (name : List ℕ) (t : Tree) → pairs_levels ps ≤ 90
    → lookup ps name ≡ Some t → levels t ≤ 99
part_levels ps name t short e = omega (arith, found-levels ps name t e, short)
