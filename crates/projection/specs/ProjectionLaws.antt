-- What a projection leaves is no longer and nests no deeper.
use Rattle.std.specs.Prelude.{◌≡◌, ℕ, zero, suc, ◌+◌, ◌/◌, ◌%◌, ◌≤◌, ◌==◌, ◌||◌, not, if◌then◌else◌}
use Rattle.std.specs.Prelude.{Bool, true, false, Option, Some, None, List, [], ◌∷◌, length}
use Rattle.std.specs.List.{list_any}
use Rattle.std.specs.Str.{bytes_eq}
use Rattle.std.specs.Fmt.{decimal, digits, digits_onto, digit_glyph}
use Rattle.std.proofs.Common.{refl, ap, ◌∙◌, arith}
use Rattle.std.proofs.lemmas.Bool.{eqb-true, eqb-false}
use Rattle.bson.specs.Tree.{Tree, scalar, document, array, Pairs, no_pairs, pair, Items, no_items}
use Rattle.bson.specs.Tree.{item}
use Rattle.bson.specs.Lawful.{levels, pairs_levels, items_levels}
use Rattle.bson.specs.Spelling.{tree_bytes, pairs_bytes, items_bytes}
use Rattle.bson.specs.SizingLaws.{frame_of-length, pairs_size-pair, items_size-item}
use Rattle.bson.specs.SizingLaws.{items_bytes-none}
use Rattle.projection.specs.Projection.{Path, Projection, below, is_end, is_none, only, pick}
use Rattle.projection.specs.Projection.{add_pair}
use Rattle.projection.specs.Projection.{add_item, of_tree, of_pairs, of_items, keeps_all, project}

abbrev pub NoLarger : Type 0
NoLarger = (p : Projection) (ps : Pairs)
    → (length (pairs_bytes (project p ps)) ≤ length (pairs_bytes ps))
    × (pairs_levels (project p ps) ≤ pairs_levels ps)

-- the pairs of these names, in order
abbrev pub named_pairs : List (List ℕ) → Pairs → Pairs
named_pairs names no_pairs = no_pairs
named_pairs names (pair name t ps) = if list_any (bytes_eq name) names
    then pair name t (named_pairs names ps) else named_pairs names ps

abbrev pub paths_to : List (List ℕ) → List Path
paths_to [] = []
paths_to (name ∷ names) = (name ∷ []) ∷ paths_to names

-- an inclusion of fields keeps exactly the fields of these names, whole and in order
abbrev pub IncludesNamedFields : Type 0
IncludesNamedFields = (names : List (List ℕ)) (ps : Pairs)
    → project (true, paths_to names) ps ≡ named_pairs names ps

-- ---- a lesser number has no more digits

written-grows : (k n : ℕ) (more : List ℕ) → length more ≤ length (digits_onto k 10 false n more)
written-grows zero n more = omega arith
written-grows (suc k) n more =
    by (n / 10 == 0) (written-grows k (n / 10) (digit_glyph false (n % 10) ∷ more))
  where
    by : (b : Bool)
        → suc (length more)
        ≤ length (digits_onto k 10 false (n / 10) (digit_glyph false (n % 10) ∷ more))
        → length more
        ≤ length (if b then digit_glyph false (n % 10) ∷ more
        else digits_onto k 10 false (n / 10) (digit_glyph false (n % 10) ∷ more))
    by true later = omega arith
    by false later = omega (arith, later)

written-rises : (k m n : ℕ) (xs ys : List ℕ) → m ≤ n → length xs ≤ length ys
    → length (digits_onto k 10 false m xs) ≤ length (digits_onto k 10 false n ys)
written-rises zero m n xs ys le same = same
written-rises (suc k) m n xs ys le same =
    by (m / 10 == 0) (n / 10 == 0) (eqb-true (n / 10) 0) (eqb-false (m / 10) 0)
    (written-rises k (m / 10) (n / 10) (digit_glyph false (m % 10) ∷ xs)
    (digit_glyph false (n % 10) ∷ ys) (omega arith) (omega arith))
    (written-grows k (n / 10) (digit_glyph false (n % 10) ∷ ys))
  where
    by : (a b : Bool) → (b ≡ true → n / 10 ≡ 0) → (a ≡ false → m / 10 ≡ 0 → ⊥)
        → length (digits_onto k 10 false (m / 10) (digit_glyph false (m % 10) ∷ xs))
        ≤ length (digits_onto k 10 false (n / 10) (digit_glyph false (n % 10) ∷ ys))
        → suc (length ys)
        ≤ length (digits_onto k 10 false (n / 10) (digit_glyph false (n % 10) ∷ ys))
        → length (if a then digit_glyph false (m % 10) ∷ xs
        else digits_onto k 10 false (m / 10) (digit_glyph false (m % 10) ∷ xs))
        ≤ length (if b then digit_glyph false (n % 10) ∷ ys
        else digits_onto k 10 false (n / 10) (digit_glyph false (n % 10) ∷ ys))
    by true true small large later more = omega (arith, same)
    by true false small large later more = omega (arith, same, more)
    by false true small large later more = let none : m / 10 ≡ 0 = omega (arith, le, small refl) in
        absurd (large refl none)
    by false false small large later more = later

decimal-rises : (m n : ℕ) → m ≤ n → length (decimal m) ≤ length (decimal n)
unfolding digits
decimal-rises m n le = written-rises 64 m n [] [] le (omega arith)

-- ---- lengths

size-document : (ps : Pairs) → length (tree_bytes (document ps)) ≡ length (pairs_bytes ps) + 5
unfolding tree_bytes
size-document ps = frame_of-length (pairs_bytes ps)

size-array : (ts : Items) → length (tree_bytes (array ts)) ≡ length (items_bytes 0 ts) + 5
unfolding tree_bytes
size-array ts = frame_of-length (items_bytes 0 ts)

-- the tree is no longer and nests no deeper than the other
record IsWithin (u t : Tree) : Type 0 where
  size : length (tree_bytes u) ≤ length (tree_bytes t)
  depth : levels u ≤ levels t

within-same : (t u : Tree) → t ≡ u → IsWithin u t
within-same t u e = record {
  size = omega (arith, ap (λ (v : Tree). length (tree_bytes v)) e);
  depth = omega (arith, ap levels e);
}

only-within : (b : Bool) (t u : Tree) → only b t ≡ Some u → IsWithin u t
only-within true t u e = within-same t u cc
only-within false t u e = absurd cc

pick-within : (includes : Bool) (paths : List Path) (whole : Tree) (part : Option Tree) (u : Tree)
    → (part ≡ Some u → IsWithin u whole) → pick includes paths whole part ≡ Some u
    → IsWithin u whole
pick-within includes paths whole part u inner e = by (is_none paths) (list_any is_end paths) e
  where
    by : (a b : Bool)
        → (if a then only (not includes) whole else if b then only includes whole else part)
        ≡ Some u → IsWithin u whole
    by true b e = only-within (not includes) whole u e
    by false true e = only-within includes whole u e
    by false false e = inner e

pair-within : (name : List ℕ) (t : Tree) (ps qs : Pairs) (o : Option Tree)
    → ((u : Tree) → o ≡ Some u → IsWithin u t)
    → (length (pairs_bytes qs) ≤ length (pairs_bytes ps)) × (pairs_levels qs ≤ pairs_levels ps)
    → (length (pairs_bytes (add_pair name o qs)) ≤ length (pairs_bytes (pair name t ps)))
    × (pairs_levels (add_pair name o qs) ≤ pairs_levels (pair name t ps))
pair-within name t ps qs None kept rest =
    (omega (arith, pairs_size-pair name t ps, rest.0), omega (arith, rest.1))
pair-within name t ps qs (Some u) kept rest =
    let k = kept u refl in (
      omega (arith, pairs_size-pair name t ps, pairs_size-pair name u qs, rest.0, k.size),
      omega (arith, rest.1, k.depth),
    )

-- the items stand at places that are no later
record AreWithin (us ts : Items) : Type 0 where
  size : (i j : ℕ) → i ≤ j → length (items_bytes i us) ≤ length (items_bytes j ts)
  depth : items_levels us ≤ items_levels ts

items-within : (t : Tree) (ts us : Items) (o : Option Tree)
    → ((u : Tree) → o ≡ Some u → IsWithin u t) → AreWithin us ts
    → AreWithin (add_item o us) (item t ts)
items-within t ts us None kept rest = record {
  size = λ i j le. omega (arith, items_size-item j t ts, rest.size i (j + 1) (omega arith));
  depth = omega (arith, rest.depth);
}
items-within t ts us (Some u) kept rest =
    let k = kept u refl in
    record {
      size = λ i j le. omega (
        arith,
        items_size-item i u us,
        items_size-item j t ts,
        decimal-rises i j le,
        k.size,
        rest.size (i + 1) (j + 1) (omega arith),
      );
      depth = omega (arith, rest.depth, k.depth);
    }

module _ (includes : Bool) where
  mutual
    tree-within : (paths : List Path) (t u : Tree) → of_tree includes paths t ≡ Some u
        → IsWithin u t
    tree-within paths (scalar s) u e =
        pick-within includes paths (scalar s) (only (not includes) (scalar s)) u
        (only-within (not includes) (scalar s) u) e
    tree-within paths (document ps) u e =
        let inner = pairs-within paths ps in
        pick-within includes paths (document ps) (Some (document (of_pairs includes paths ps))) u
        (λ f.
        let same : document (of_pairs includes paths ps) ≡ u = cc in
        record {
          size = omega (
            arith,
            ap (λ (v : Tree). length (tree_bytes v)) same,
            size-document ps,
            size-document (of_pairs includes paths ps),
            inner.0,
          );
          depth = omega (arith, ap levels same, inner.1);
        }) e
    tree-within paths (array ts) u e =
        let inner = all-within paths ts in
        pick-within includes paths (array ts) (Some (array (of_items includes paths ts))) u (λ f.
        let same : array (of_items includes paths ts) ≡ u = cc in
        record {
          size = omega (
            arith,
            ap (λ (v : Tree). length (tree_bytes v)) same,
            size-array ts,
            size-array (of_items includes paths ts),
            inner.size 0 0 (omega arith),
          );
          depth = omega (arith, ap levels same, inner.depth);
        }) e

    pub pairs-within : (paths : List Path) (ps : Pairs)
        → (length (pairs_bytes (of_pairs includes paths ps)) ≤ length (pairs_bytes ps))
        × (pairs_levels (of_pairs includes paths ps) ≤ pairs_levels ps)
    pairs-within paths no_pairs = (omega arith, omega arith)
    pairs-within paths (pair name t ps) =
        pair-within name t ps (of_pairs includes paths ps) (of_tree includes (below name paths) t)
        (tree-within (below name paths) t) (pairs-within paths ps)

    all-within : (paths : List Path) (ts : Items) → AreWithin (of_items includes paths ts) ts
    all-within paths no_items = record {
      size = λ i j le. omega
          (arith, ap length (items_bytes-none i), ap length (items_bytes-none j));
      depth = omega arith;
    }
    all-within paths (item t ts) =
        items-within t ts (of_items includes paths ts) (of_tree includes paths t)
        (tree-within paths t) (all-within paths ts)

pub project_no_larger : NoLarger
project_no_larger p ps = pairs-within p.0 p.1 ps

-- ---- an inclusion of fields

module _ (name : List ℕ) where
  nothing_below : (names : List (List ℕ)) → list_any (bytes_eq name) names ≡ false
      → is_none (below name (paths_to names)) ≡ true
  nothing_below [] e = refl
  nothing_below (other ∷ names) e = by (bytes_eq name other) e (nothing_below names)
    where
      by : (b : Bool) → (b || list_any (bytes_eq name) names) ≡ false
          → (list_any (bytes_eq name) names ≡ false → is_none (below name (paths_to names)) ≡ true)
          → is_none (if b then [] ∷ below name (paths_to names) else below name (paths_to names))
          ≡ true
      by true e later = absurd cc
      by false e later = later e

  ends_below : (names : List (List ℕ)) → list_any (bytes_eq name) names ≡ true
      → (is_none (below name (paths_to names)) ≡ false)
      × (list_any is_end (below name (paths_to names)) ≡ true)
  ends_below [] e = absurd cc
  ends_below (other ∷ names) e = by (bytes_eq name other) e (ends_below names)
    where
      by : (b : Bool) → (b || list_any (bytes_eq name) names) ≡ true
          → (list_any (bytes_eq name) names ≡ true
          → (is_none (below name (paths_to names)) ≡ false)
          × (list_any is_end (below name (paths_to names)) ≡ true))
          → (is_none (if b then [] ∷ below name (paths_to names) else below name (paths_to names))
          ≡ false)
          × (list_any is_end
          (if b then [] ∷ below name (paths_to names) else below name (paths_to names)) ≡ true)
      by true e later = (refl, refl)
      by false e later = later e

picked : (paths : List Path) (whole : Tree) (part : Option Tree) (a b : Bool) → is_none paths ≡ a
    → list_any is_end paths ≡ b
    → pick true paths whole part ≡ (if a then None else if b then Some whole else part)
picked paths whole part a b p q = λ i. if p i then None else if q i then Some whole else part

of_tree-pick : (paths : List Path) (t : Tree)
    → (part : Option Tree) × (of_tree true paths t ≡ pick true paths t part)
of_tree-pick paths (scalar s) = (only false (scalar s), refl)
of_tree-pick paths (document ps) = (Some (document (of_pairs true paths ps)), refl)
of_tree-pick paths (array ts) = (Some (array (of_items true paths ts)), refl)

pub includes_named_fields : IncludesNamedFields
includes_named_fields names no_pairs = refl
includes_named_fields names (pair name t ps) =
    by (list_any (bytes_eq name) names) refl (includes_named_fields names ps)
  where
    chosen : (part : Option Tree)
        × (of_tree true (below name (paths_to names)) t
        ≡ pick true (below name (paths_to names)) t part)
    chosen = of_tree-pick (below name (paths_to names)) t

    by : (b : Bool) → list_any (bytes_eq name) names ≡ b
        → of_pairs true (paths_to names) ps ≡ named_pairs names ps
        → add_pair name (of_tree true (below name (paths_to names)) t)
        (of_pairs true (paths_to names) ps)
        ≡ (if b then pair name t (named_pairs names ps) else named_pairs names ps)
    by true e rest =
        let found = ends_below name names e in
        ap (λ (o : Option Tree). add_pair name o (of_pairs true (paths_to names) ps))
        (chosen.1 ∙ picked (below name (paths_to names)) t chosen.0 false true found.0 found.1)
        ∙ ap (pair name t) rest
    by false e rest =
        ap (λ (o : Option Tree). add_pair name o (of_pairs true (paths_to names) ps))
        (chosen.1 ∙ picked (below name (paths_to names)) t chosen.0 true
        (list_any is_end (below name (paths_to names))) (nothing_below name names e) refl)
        ∙ rest

-- ---- the projection that says nothing of any field

pub all_stays : (ps : Pairs) → project (false, []) ps ≡ ps
all_stays no_pairs = refl
all_stays (pair name (scalar s) ps) = ap (pair name (scalar s)) (all_stays ps)
all_stays (pair name (document inner) ps) = ap (pair name (document inner)) (all_stays ps)
all_stays (pair name (array ts) ps) = ap (pair name (array ts)) (all_stays ps)

pub whole_stays : (p : Projection) (ps : Pairs) → keeps_all p ≡ true → project p ps ≡ ps
whole_stays (false, []) ps e = all_stays ps
whole_stays (false, path ∷ paths) ps e = absurd cc
whole_stays (true, paths) ps e = absurd cc
