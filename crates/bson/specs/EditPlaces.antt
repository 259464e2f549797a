-- What an edit at a place keeps of a document or an array: its laws, its levels, and the rest.
use Rattle.std.specs.Prelude.{◌≡◌, ◌≢◌, ℕ, zero, suc, max, ◌+◌, ◌<◌, ◌≤◌}
use Rattle.std.specs.Prelude.{Some, List}
use Rattle.std.specs.Prelude.{refl}
use Rattle.std.proofs.Common.{ap, sym, arith}
use Rattle.bson.specs.Tree.{Tree, Pairs, no_pairs, pair, append, Items, no_items, item}
use Rattle.bson.specs.Tree.{append_items}
use Rattle.bson.specs.Lawful.{levels, pairs_levels, items_levels, IsName, Lacks, IsTree, IsPairs}
use Rattle.bson.specs.Lawful.{IsItems}
use Rattle.bson.specs.Edits.{pairs_len, items_len, place, pair_at, item_at, with_value, with_item}
use Rattle.bson.specs.Edits.{without_pair, without_item, put}

pub append-none : (ps : Pairs) → append ps no_pairs ≡ ps
append-none no_pairs = refl
append-none (pair name t ps) = ap (pair name t) (append-none ps)

pub append-one : (ps : Pairs) (name : List ℕ) (t : Tree) (qs : Pairs)
    → append (append ps (pair name t no_pairs)) qs ≡ append ps (pair name t qs)
append-one no_pairs name t qs = refl
append-one (pair other u ps) name t qs = ap (pair other u) (append-one ps name t qs)

pub append_items-none : (ts : Items) → append_items ts no_items ≡ ts
append_items-none no_items = refl
append_items-none (item t ts) = ap (item t) (append_items-none ts)

pub append_items-one : (ts : Items) (t : Tree) (us : Items)
    → append_items (append_items ts (item t no_items)) us ≡ append_items ts (item t us)
append_items-one no_items t us = refl
append_items-one (item u ts) t us = ap (item u) (append_items-one ts t us)

pub pairs_len-append : (ps qs : Pairs) → pairs_len (append ps qs) ≡ pairs_len ps + pairs_len qs
pairs_len-append no_pairs qs = omega arith
pairs_len-append (pair name t ps) qs = omega (arith, pairs_len-append ps qs)

pub items_len-append : (ts us : Items)
    → items_len (append_items ts us) ≡ items_len ts + items_len us
items_len-append no_items us = omega arith
items_len-append (item t ts) us = omega (arith, items_len-append ts us)

pub Lacks-append : (ps : Pairs) (name other : List ℕ) (t : Tree) → Lacks ps name → name ≢ other
    → Lacks (append ps (pair other t no_pairs)) name
Lacks-append no_pairs name other t h ne = (ne, tt)
Lacks-append (pair first u ps) name other t h ne = (h.0, Lacks-append ps name other t h.1 ne)

pub IsPairs-append : (ps : Pairs) (name : List ℕ) (t : Tree) → IsPairs ps → IsName name → IsTree t
    → Lacks ps name → IsPairs (append ps (pair name t no_pairs))
IsPairs-append no_pairs name t h n l lacks = (n, l, tt, tt)
IsPairs-append (pair first u ps) name t h n l lacks = (
  h.0,
  h.1,
  Lacks-append ps first name t h.2 (λ e. lacks.0 (sym e)),
  IsPairs-append ps name t h.3 n l lacks.1,
)

pub IsItems-append : (ts : Items) (t : Tree) → IsItems ts → IsTree t
    → IsItems (append_items ts (item t no_items))
IsItems-append no_items t h l = (l, tt)
IsItems-append (item u ts) t h l = (h.0, IsItems-append ts t h.1 l)

pub pairs_levels-append : (ps qs : Pairs)
    → pairs_levels (append ps qs) ≡ max (pairs_levels ps) (pairs_levels qs)
pairs_levels-append no_pairs qs = omega arith
pairs_levels-append (pair name t ps) qs = omega (arith, pairs_levels-append ps qs)

pub items_levels-append : (ts us : Items)
    → items_levels (append_items ts us) ≡ max (items_levels ts) (items_levels us)
items_levels-append no_items us = omega arith
items_levels-append (item t ts) us = omega (arith, items_levels-append ts us)

-- ---- another value at a place

pub pairs_len-with_value : (ps : Pairs) (i : ℕ) (t : Tree)
    → pairs_len (with_value ps i t) ≡ pairs_len ps
pairs_len-with_value no_pairs i t = refl
pairs_len-with_value (pair name u ps) zero t = refl
pairs_len-with_value (pair name u ps) (suc i) t = ap suc (pairs_len-with_value ps i t)

Lacks-with_value : (ps : Pairs) (i : ℕ) (t : Tree) (name : List ℕ) → Lacks ps name
    → Lacks (with_value ps i t) name
Lacks-with_value no_pairs i t name h = tt
Lacks-with_value (pair other u ps) zero t name h = h
Lacks-with_value (pair other u ps) (suc i) t name h = (h.0, Lacks-with_value ps i t name h.1)

pub IsPairs-with_value : (ps : Pairs) (i : ℕ) (t : Tree) → IsPairs ps → IsTree t
    → IsPairs (with_value ps i t)
IsPairs-with_value no_pairs i t h l = tt
IsPairs-with_value (pair name u ps) zero t h l = (h.0, l, h.2, h.3)
IsPairs-with_value (pair name u ps) (suc i) t h l =
    (h.0, h.1, Lacks-with_value ps i t name h.2, IsPairs-with_value ps i t h.3 l)

pub IsItems-with_item : (ts : Items) (i : ℕ) (t : Tree) → IsItems ts → IsTree t
    → IsItems (with_item ts i t)
IsItems-with_item no_items i t h l = tt
IsItems-with_item (item u ts) zero t h l = (l, h.1)
IsItems-with_item (item u ts) (suc i) t h l = (h.0, IsItems-with_item ts i t h.1 l)

pub pairs_levels-with_value : (ps : Pairs) (i : ℕ) (t : Tree)
    → pairs_levels (with_value ps i t) ≤ max (pairs_levels ps) (levels t)
pairs_levels-with_value no_pairs i t = omega arith
pairs_levels-with_value (pair name u ps) zero t = omega arith
pairs_levels-with_value (pair name u ps) (suc i) t = omega (arith, pairs_levels-with_value ps i t)

pub items_levels-with_item : (ts : Items) (i : ℕ) (t : Tree)
    → items_levels (with_item ts i t) ≤ max (items_levels ts) (levels t)
items_levels-with_item no_items i t = omega arith
items_levels-with_item (item u ts) zero t = omega arith
items_levels-with_item (item u ts) (suc i) t = omega (arith, items_levels-with_item ts i t)

-- another value that nests no less than the one it stands for
pub pairs_levels-with_deeper : (ps : Pairs) (i : ℕ) (name : List ℕ) (old t : Tree)
    → pair_at ps i ≡ Some (name, old) → levels old ≤ levels t
    → pairs_levels (with_value ps i t) ≡ max (pairs_levels ps) (levels t)
pairs_levels-with_deeper no_pairs i name old t e le = absurd cc
pairs_levels-with_deeper (pair other u ps) zero name old t e le =
    let both : ◌≡◌ {A = List ℕ × Tree} (other, u) (name, old) = cc in
    omega (arith, ap (λ (p : List ℕ × Tree). levels p.1) both)
pairs_levels-with_deeper (pair other u ps) (suc i) name old t e le =
    omega (arith, pairs_levels-with_deeper ps i name old t e le)

pub items_levels-with_deeper : (ts : Items) (i : ℕ) (old t : Tree) → item_at ts i ≡ Some old
    → levels old ≤ levels t → items_levels (with_item ts i t) ≡ max (items_levels ts) (levels t)
items_levels-with_deeper no_items i old t e le = absurd cc
items_levels-with_deeper (item u ts) zero old t e le =
    let same : u ≡ old = cc in
    omega (arith, ap levels same)
items_levels-with_deeper (item u ts) (suc i) old t e le =
    omega (arith, items_levels-with_deeper ts i old t e le)

-- a second value at the same place takes the place of the first
pub with_value-twice : (ps : Pairs) (i : ℕ) (t u : Tree)
    → with_value (with_value ps i t) i u ≡ with_value ps i u
with_value-twice no_pairs i t u = refl
with_value-twice (pair name v ps) zero t u = refl
with_value-twice (pair name v ps) (suc i) t u = ap (pair name v) (with_value-twice ps i t u)

pub with_item-twice : (ts : Items) (i : ℕ) (t u : Tree)
    → with_item (with_item ts i t) i u ≡ with_item ts i u
with_item-twice no_items i t u = refl
with_item-twice (item v ts) zero t u = refl
with_item-twice (item v ts) (suc i) t u = ap (item v) (with_item-twice ts i t u)

-- what was put at a place stands there, and every other place is as it was
pub pair_at-with_value : (ps : Pairs) (i : ℕ) (name : List ℕ) (old t : Tree)
    → pair_at ps i ≡ Some (name, old) → pair_at (with_value ps i t) i ≡ Some (name, t)
pair_at-with_value no_pairs i name old t e = absurd cc
pair_at-with_value (pair other u ps) zero name old t e =
    let both : ◌≡◌ {A = List ℕ × Tree} (other, u) (name, old) = cc in
    ap (λ (p : List ℕ × Tree). Some (p.0, t)) both
pair_at-with_value (pair other u ps) (suc i) name old t e = pair_at-with_value ps i name old t e

pub pair_at-with_value_other : (ps : Pairs) (i j : ℕ) (t : Tree) → j ≢ i
    → pair_at (with_value ps i t) j ≡ pair_at ps j
pair_at-with_value_other no_pairs i j t ne = refl
pair_at-with_value_other (pair name u ps) zero zero t ne = absurd (ne refl)
pair_at-with_value_other (pair name u ps) zero (suc j) t ne = refl
pair_at-with_value_other (pair name u ps) (suc i) zero t ne = refl
pair_at-with_value_other (pair name u ps) (suc i) (suc j) t ne =
    pair_at-with_value_other ps i j t (λ e. ne (ap suc e))

pub item_at-with_item : (ts : Items) (i : ℕ) (t : Tree) → i < items_len ts
    → item_at (with_item ts i t) i ≡ Some t
item_at-with_item no_items i t lt = absurd (omega arith)
item_at-with_item (item u ts) zero t lt = refl
item_at-with_item (item u ts) (suc i) t lt = item_at-with_item ts i t (omega arith)

pub item_at-with_item_other : (ts : Items) (i j : ℕ) (t : Tree) → j ≢ i
    → item_at (with_item ts i t) j ≡ item_at ts j
item_at-with_item_other no_items i j t ne = refl
item_at-with_item_other (item u ts) zero zero t ne = absurd (ne refl)
item_at-with_item_other (item u ts) zero (suc j) t ne = refl
item_at-with_item_other (item u ts) (suc i) zero t ne = refl
item_at-with_item_other (item u ts) (suc i) (suc j) t ne =
    item_at-with_item_other ts i j t (λ e. ne (ap suc e))

-- ---- one less

Lacks-without_pair : (ps : Pairs) (i : ℕ) (name : List ℕ) → Lacks ps name
    → Lacks (without_pair ps i) name
Lacks-without_pair no_pairs i name h = tt
Lacks-without_pair (pair other t ps) zero name h = h.1
Lacks-without_pair (pair other t ps) (suc i) name h = (h.0, Lacks-without_pair ps i name h.1)

pub IsPairs-without_pair : (ps : Pairs) (i : ℕ) → IsPairs ps → IsPairs (without_pair ps i)
IsPairs-without_pair no_pairs i h = tt
IsPairs-without_pair (pair name t ps) zero h = h.3
IsPairs-without_pair (pair name t ps) (suc i) h =
    (h.0, h.1, Lacks-without_pair ps i name h.2, IsPairs-without_pair ps i h.3)

pub IsItems-without_item : (ts : Items) (i : ℕ) → IsItems ts → IsItems (without_item ts i)
IsItems-without_item no_items i h = tt
IsItems-without_item (item t ts) zero h = h.1
IsItems-without_item (item t ts) (suc i) h = (h.0, IsItems-without_item ts i h.1)

pub pairs_levels-without_pair : (ps : Pairs) (i : ℕ)
    → pairs_levels (without_pair ps i) ≤ pairs_levels ps
pairs_levels-without_pair no_pairs i = omega arith
pairs_levels-without_pair (pair name t ps) zero = omega arith
pairs_levels-without_pair (pair name t ps) (suc i) = omega (arith, pairs_levels-without_pair ps i)

pub items_levels-without_item : (ts : Items) (i : ℕ)
    → items_levels (without_item ts i) ≤ items_levels ts
items_levels-without_item no_items i = omega arith
items_levels-without_item (item t ts) zero = omega arith
items_levels-without_item (item t ts) (suc i) = omega (arith, items_levels-without_item ts i)

-- a value less that is no document and no array
pub pairs_levels-without_flat : (ps : Pairs) (i : ℕ) (name : List ℕ) (old : Tree)
    → pair_at ps i ≡ Some (name, old) → levels old ≤ 0
    → pairs_levels (without_pair ps i) ≡ pairs_levels ps
pairs_levels-without_flat no_pairs i name old e flat = absurd cc
pairs_levels-without_flat (pair other u ps) zero name old e flat =
    let both : ◌≡◌ {A = List ℕ × Tree} (other, u) (name, old) = cc in
    omega (arith, ap (λ (p : List ℕ × Tree). levels p.1) both)
pairs_levels-without_flat (pair other u ps) (suc i) name old e flat =
    omega (arith, pairs_levels-without_flat ps i name old e flat)

pub items_levels-without_flat : (ts : Items) (i : ℕ) (old : Tree) → item_at ts i ≡ Some old
    → levels old ≤ 0 → items_levels (without_item ts i) ≡ items_levels ts
items_levels-without_flat no_items i old e flat = absurd cc
items_levels-without_flat (item u ts) zero old e flat =
    let same : u ≡ old = cc in
    omega (arith, ap levels same)
items_levels-without_flat (item u ts) (suc i) old e flat =
    omega (arith, items_levels-without_flat ts i old e flat)
