-- How many values nest how deep, after an edit and beside the deepest.
use Rattle.std.proofs.Common.{◌≡◌, ◌≢◌, ℕ, zero, suc, max, ◌+◌, ◌<◌, ◌≤◌, Bool, true, false, List, length, set, replicate, Some, refl, sym, ap, subst}
use Rattle.std.proofs.Common.{◌∙◌, arith}
use Rattle.std.specs.Prelude.{◌==◌, ◌-◌, ◌^◌, min, nat_lt, slice_index, if◌then◌else◌}
use Rattle.std.proofs.lemmas.Bool.{ltb-false, ltb-true}
use Rattle.std.proofs.lemmas.List.{length-replicate, get_or-replicate, length-set, get_or-set_same, get_or-set_other}
use Rattle.bson.specs.Tree.{Tree, Pairs, no_pairs, pair, append, Items, no_items, item, append_items}
use Rattle.bson.specs.Lawful.{levels, pairs_levels, items_levels}
use Rattle.bson.specs.Edits.{pairs_len, pair_at, with_value, items_len, item_at, with_item}
use Rattle.bson.specs.Depths.{one_at, pairs_at, items_at, Counts, IsDeepest}

-- ---- one value

pub one_at-same : (depth l : ℕ) → depth ≡ l → one_at depth l ≡ 1
one_at-same depth l e = grind arith

one_at-other : (depth l : ℕ) → depth ≢ l → one_at depth l ≡ 0
one_at-other depth l ne = grind arith

one_at-most : (depth l : ℕ) → one_at depth l ≤ 1
one_at-most depth l = by (depth == l)
  where
    by : (b : Bool) → (if b then 1 else 0) ≤ 1
    by true = omega arith
    by false = omega arith

-- ---- the values of a document

pub pairs_at-append : (ps : Pairs) (name : List ℕ) (t : Tree) (l : ℕ) → pairs_at (append ps (pair name t no_pairs)) l ≡ pairs_at ps l + one_at (levels t) l
pairs_at-append no_pairs name t l = omega arith
pairs_at-append (pair other u ps) name t l = omega (arith, pairs_at-append ps name t l)

-- another value at a place takes one away and adds one
pub pairs_at-with_value : (ps : Pairs) (i : ℕ) (name : List ℕ) (u t : Tree) (l : ℕ) → pair_at ps i ≡ Some (name, u)
    → pairs_at (with_value ps i t) l + one_at (levels u) l ≡ pairs_at ps l + one_at (levels t) l
pairs_at-with_value no_pairs i name u t l e = absurd cc
pairs_at-with_value (pair other v ps) zero name u t l e =
    let both : ◌≡◌ {A = List ℕ × Tree} (other, v) (name, u) = cc in
    omega (arith, ap (λ (p : List ℕ × Tree). one_at (levels p.1) l) both)
pairs_at-with_value (pair other v ps) (suc i) name u t l e = omega (arith, pairs_at-with_value ps i name u t l e)

-- one that stands there is counted
pub pairs_at-there : (ps : Pairs) (i : ℕ) (name : List ℕ) (u : Tree) → pair_at ps i ≡ Some (name, u) → 1 ≤ pairs_at ps (levels u)
pairs_at-there no_pairs i name u e = absurd cc
pairs_at-there (pair other v ps) zero name u e =
    let both : ◌≡◌ {A = List ℕ × Tree} (other, v) (name, u) = cc in
    omega (arith, one_at-same (levels v) (levels u) (ap (λ (p : List ℕ × Tree). levels p.1) both))
pairs_at-there (pair other v ps) (suc i) name u e = omega (arith, pairs_at-there ps i name u e)

-- they are no more than the pairs
pub pairs_at-most : (ps : Pairs) (l : ℕ) → pairs_at ps l ≤ pairs_len ps
pairs_at-most no_pairs l = omega arith
pairs_at-most (pair name t ps) l = omega (arith, one_at-most (levels t) l, pairs_at-most ps l)

pairs_below : (ps : Pairs) (l : ℕ) → pairs_at ps l ≡ 0 → 0 < l → pairs_levels ps ≤ l → pairs_levels ps < l
pairs_below no_pairs l none positive most = positive
pairs_below (pair name t ps) l none positive most =
    let apart : levels t ≢ l = λ same. omega (arith, one_at-same (levels t) l same, none) in
    omega (arith, apart, pairs_below ps l (omega (arith, none)) positive (omega (arith, most)))

pairs_above : (ps : Pairs) (l : ℕ) → pairs_levels ps < l → pairs_at ps l ≡ 0
pairs_above no_pairs l above = refl
pairs_above (pair name t ps) l above =
    omega (arith, one_at-other (levels t) l (λ same. omega (arith, same, above)), pairs_above ps l (omega (arith, above)))

-- a number that is not nothing
positive_from : (n : ℕ) → (n ≡ 0 → ⊥) → 1 ≤ n
positive_from zero some = absurd (some refl)
positive_from (suc n) some = omega arith

pub pairs_deepest : (ps : Pairs) → IsDeepest (pairs_at ps) (pairs_levels ps)
pairs_deepest ps = record {
  above = pairs_above ps;
  there = λ some.
      positive_from (pairs_at ps (pairs_levels ps)) (λ none. omega (arith, pairs_below ps (pairs_levels ps) none some (omega arith)));
}

-- ---- the items of an array

pub items_at-append : (ts : Items) (t : Tree) (l : ℕ) → items_at (append_items ts (item t no_items)) l ≡ items_at ts l + one_at (levels t) l
items_at-append no_items t l = omega arith
items_at-append (item u ts) t l = omega (arith, items_at-append ts t l)

pub items_at-with_item : (ts : Items) (i : ℕ) (u t : Tree) (l : ℕ) → item_at ts i ≡ Some u
    → items_at (with_item ts i t) l + one_at (levels u) l ≡ items_at ts l + one_at (levels t) l
items_at-with_item no_items i u t l e = absurd cc
items_at-with_item (item v ts) zero u t l e =
    let same : v ≡ u = cc in
    omega (arith, ap (λ (w : Tree). one_at (levels w) l) same)
items_at-with_item (item v ts) (suc i) u t l e = omega (arith, items_at-with_item ts i u t l e)

pub items_at-there : (ts : Items) (i : ℕ) (u : Tree) → item_at ts i ≡ Some u → 1 ≤ items_at ts (levels u)
items_at-there no_items i u e = absurd cc
items_at-there (item v ts) zero u e =
    let same : v ≡ u = cc in
    omega (arith, one_at-same (levels v) (levels u) (ap levels same))
items_at-there (item v ts) (suc i) u e = omega (arith, items_at-there ts i u e)

pub items_at-most : (ts : Items) (l : ℕ) → items_at ts l ≤ items_len ts
items_at-most no_items l = omega arith
items_at-most (item t ts) l = omega (arith, one_at-most (levels t) l, items_at-most ts l)

items_below : (ts : Items) (l : ℕ) → items_at ts l ≡ 0 → 0 < l → items_levels ts ≤ l → items_levels ts < l
items_below no_items l none positive most = positive
items_below (item t ts) l none positive most =
    let apart : levels t ≢ l = λ same. omega (arith, one_at-same (levels t) l same, none) in
    omega (arith, apart, items_below ts l (omega (arith, none)) positive (omega (arith, most)))

items_above : (ts : Items) (l : ℕ) → items_levels ts < l → items_at ts l ≡ 0
items_above no_items l above = refl
items_above (item t ts) l above =
    omega (arith, one_at-other (levels t) l (λ same. omega (arith, same, above)), items_above ts l (omega (arith, above)))

pub items_deepest : (ts : Items) → IsDeepest (items_at ts) (items_levels ts)
items_deepest ts = record {
  above = items_above ts;
  there = λ some.
      positive_from (items_at ts (items_levels ts)) (λ none. omega (arith, items_below ts (items_levels ts) none some (omega arith)));
}

-- ---- the counts

-- a list of numbers with another number at a place
counts-set : (counts : List ℕ) (i n l : ℕ) → i < length counts → slice_index (set counts i n) l ≡ (if i == l then n else slice_index counts l)
counts-set counts i n l lt = by (i == l) refl
  where
    by : (b : Bool) → (i == l) ≡ b → slice_index (set counts i n) l ≡ (if b then n else slice_index counts l)
    by true e = let same : i ≡ l = grind (arith, e) in subst (λ (k : ℕ). slice_index (set counts i n) k ≡ n) same (get_or-set_same counts i n 0 lt)
    by false e = get_or-set_other counts i l n 0 (λ same. grind (arith, e, same))

counts-more : (counts : List ℕ) (i n l : ℕ) → i < length counts → n ≡ slice_index counts i + 1
    → slice_index (set counts i n) l ≡ slice_index counts l + one_at i l
counts-more counts i n l lt is = counts-set counts i n l lt ∙ by (i == l) refl
  where
    by : (b : Bool) → (i == l) ≡ b → (if b then n else slice_index counts l) ≡ slice_index counts l + (if b then 1 else 0)
    by true e = let same : i ≡ l = grind (arith, e) in is ∙ ap (λ (k : ℕ). slice_index counts k + 1) same
    by false e = omega arith

counts-less : (counts : List ℕ) (i n l : ℕ) → i < length counts → n + 1 ≡ slice_index counts i
    → slice_index (set counts i n) l + one_at i l ≡ slice_index counts l
counts-less counts i n l lt is = ap (λ (k : ℕ). k + one_at i l) (counts-set counts i n l lt) ∙ by (i == l) refl
  where
    by : (b : Bool) → (i == l) ≡ b → (if b then n else slice_index counts l) + (if b then 1 else 0) ≡ slice_index counts l
    by true e = let same : i ≡ l = grind (arith, e) in is ∙ ap (λ (k : ℕ). slice_index counts k) same
    by false e = omega arith

pub counts-none : (counts : List ℕ) → counts ≡ replicate 101 0 → Counts counts (λ _. 0)
counts-none counts flat = record {
  sized = ap length flat ∙ length-replicate {A = ℕ} 101 0;
  counted = λ l lt. ap (λ (ns : List ℕ). slice_index ns l) flat ∙ get_or-replicate 101 l 0 0 lt;
}

pub counts-added : (old : List ℕ) (d n : ℕ) → d ≤ 100 → n ≡ min (slice_index old d + 1) (2 ^ 64 - 1) → (f g : ℕ → ℕ) → Counts old f
    → ((l : ℕ) → g l ≡ f l + one_at d l) → g d < 2 ^ 64 → Counts (set old d n) g
counts-added old d n within n_is f g counts grown fits =
    let lt : d < length old = omega (arith, counts.sized, within) in
    let more : n ≡ slice_index old d + 1 = omega (arith, n_is, counts.counted d (omega (arith, within)), grown d, one_at-same d d refl, fits) in
    record {
      sized = length-set old d n ∙ counts.sized;
      counted = λ l l_lt. omega (arith, counts-more old d n l lt more, counts.counted l l_lt, grown l);
    }

pub counts-replaced : (old : List ℕ) (a b m n : ℕ) → a ≤ 100 → b ≤ 100 → m ≡ slice_index old a - 1
    → n ≡ min (slice_index (set old a m) b + 1) (2 ^ 64 - 1) → (f g : ℕ → ℕ) → Counts old f → ((l : ℕ) → g l + one_at a l ≡ f l + one_at b l) → 1 ≤ f a
    → g b < 2 ^ 64
    → Counts (set (set old a m) b n) g
counts-replaced old a b m n a_within b_within m_is n_is f g counts changed some fits =
    let a_lt : a < length old = omega (arith, counts.sized, a_within) in
    let less : m + 1 ≡ slice_index old a = omega (arith, m_is, some, counts.counted a (omega (arith, a_within))) in
    let middle_len : length (set old a m) ≡ 101 = length-set old a m ∙ counts.sized in
    let b_lt : b < length (set old a m) = omega (arith, middle_len, b_within) in
    let total : (l : ℕ) → l < 101 → slice_index (set old a m) l + one_at b l ≡ g l =
    λ l lt. omega (arith, counts-less old a m l a_lt less, counts.counted l lt, changed l) in
    let more : n ≡ slice_index (set old a m) b + 1 = omega (arith, n_is, total b (omega (arith, b_within)), one_at-same b b refl, fits) in
    record {
      sized = length-set (set old a m) b n ∙ middle_len;
      counted = λ l lt. counts-more (set old a m) b n l b_lt more ∙ total l lt;
    }

-- no value nests as deep as where none is counted, and the deepest is one that is counted
pub not_so_deep : (counts : List ℕ) (f : ℕ → ℕ) (depth l : ℕ) → Counts counts f → IsDeepest f depth → l ≤ 100 → 0 < l → slice_index counts l ≡ 0
    → depth ≤ l → depth < l
not_so_deep counts f depth l c deepest within positive none most = by (nat_lt depth l) refl
  where
    by : (b : Bool) → nat_lt depth l ≡ b → depth < l
    by true e = ltb-true _ _ e
    by false e =
        let same : depth ≡ l = omega (arith, ltb-false _ _ e, most) in
        let some : 1 ≤ f l = subst (λ (k : ℕ). 1 ≤ f k) same (deepest.there (omega (arith, same, positive))) in
        absurd (omega (arith, some, c.counted l (omega (arith, within)), none))

pub is_deepest : (counts : List ℕ) (f : ℕ → ℕ) (depth l : ℕ) → Counts counts f → IsDeepest f depth → l ≤ 100 → slice_index counts l ≢ 0 → depth ≤ l
    → l ≡ depth
is_deepest counts f depth l c deepest within some most = by (nat_lt depth l) refl
  where
    by : (b : Bool) → nat_lt depth l ≡ b → l ≡ depth
    by true e = absurd (some (c.counted l (omega (arith, within)) ∙ deepest.above l (ltb-true _ _ e)))
    by false e = omega (arith, ltb-false _ _ e, most)
