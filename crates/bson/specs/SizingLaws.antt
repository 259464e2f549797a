-- How long spellings are, and what edits make of that.
use Rattle.std.specs.Prelude.{◌≡◌, ℕ, zero, suc, ◌+◌, ◌/◌, ◌%◌, ◌^◌, ◌<◌, ◌≤◌, Some, List, [], ◌∷◌}
use Rattle.std.specs.Prelude.{◌++◌, length, refl}
use Rattle.std.specs.Fmt.{decimal}
use Rattle.std.proofs.Common.{inl, inr, ap, sym, ◌∙◌, append_assoc, add-zero, arith}
use Rattle.std.proofs.lemmas.Bool.{cases_lt}
use Rattle.std.proofs.lemmas.Fmt.{decimal_digit, decimal_step, decimal_by_steps}
use Rattle.std.proofs.lemmas.List.{length-append, append-nil}
use Rattle.bson.specs.Tree.{Tree, Pairs, no_pairs, pair, append, Items, no_items, item}
use Rattle.bson.specs.Tree.{append_items}
use Rattle.bson.specs.Spelling.{frame_of, element, type_byte, tree_bytes, pairs_bytes, items_bytes}
use Rattle.bson.specs.Edits.{items_len, pair_at, item_at, with_value, with_item, without_pair}
use Rattle.bson.specs.Edits.{without_item}

pub frame_of-length : (content : List ℕ) → length (frame_of content) ≡ length content + 5
frame_of-length content = omega (arith, length-append content (0 ∷ []))

pub element-length : (type : ℕ) (name value : List ℕ)
    → length (element type name value) ≡ length name + length value + 2
element-length type name value = omega (arith, length-append name (0 ∷ value))

-- ---- spellings of what was put together

pub pairs_bytes-none : pairs_bytes no_pairs ≡ []
unfolding pairs_bytes
pairs_bytes-none = refl

pub pairs_bytes-pair : (name : List ℕ) (t : Tree) (ps : Pairs)
    → pairs_bytes (pair name t ps) ≡ element (type_byte t) name (tree_bytes t) ++ pairs_bytes ps
unfolding pairs_bytes
pairs_bytes-pair name t ps = refl

pub pairs_bytes-append : (ps qs : Pairs)
    → pairs_bytes (append ps qs) ≡ pairs_bytes ps ++ pairs_bytes qs
unfolding pairs_bytes
pairs_bytes-append no_pairs qs = refl
pairs_bytes-append (pair name t ps) qs =
    ap (λ (x : List ℕ). element (type_byte t) name (tree_bytes t) ++ x) (pairs_bytes-append ps qs)
    ∙ sym (append_assoc (element (type_byte t) name (tree_bytes t)) (pairs_bytes ps)
    (pairs_bytes qs))

pub pairs_bytes-one : (name : List ℕ) (t : Tree)
    → pairs_bytes (pair name t no_pairs) ≡ element (type_byte t) name (tree_bytes t)
unfolding pairs_bytes
pairs_bytes-one name t = append-nil (element (type_byte t) name (tree_bytes t))

pub items_bytes-none : (i : ℕ) → items_bytes i no_items ≡ []
unfolding items_bytes
items_bytes-none i = refl

pub items_bytes-item : (i : ℕ) (t : Tree) (ts : Items)
    → items_bytes i (item t ts) ≡ element (type_byte t) (decimal i) (tree_bytes t)
    ++ items_bytes (i + 1) ts
unfolding items_bytes
items_bytes-item i t ts = refl

pub items_bytes-append : (i : ℕ) (ts : Items) (t : Tree)
    → items_bytes i (append_items ts (item t no_items)) ≡ items_bytes i ts
    ++ element (type_byte t) (decimal (i + items_len ts)) (tree_bytes t)
unfolding items_bytes
items_bytes-append i no_items t = append-nil (element (type_byte t) (decimal i) (tree_bytes t))
    ∙ ap (λ (k : ℕ). element (type_byte t) (decimal k) (tree_bytes t)) (sym (add-zero i))
items_bytes-append i (item u ts) t =
    let at : i + 1 + items_len ts ≡ i + suc (items_len ts) = omega arith in
    ap (λ (x : List ℕ). element (type_byte u) (decimal i) (tree_bytes u) ++ x)
    (items_bytes-append (i + 1) ts t
    ∙ ap (λ (k : ℕ). items_bytes (i + 1) ts ++ element (type_byte t) (decimal k) (tree_bytes t)) at)
    ∙ sym (append_assoc (element (type_byte u) (decimal i) (tree_bytes u)) (items_bytes (i + 1) ts)
    (element (type_byte t) (decimal (i + suc (items_len ts))) (tree_bytes t)))

-- ---- their lengths

pub pairs_size-pair : (name : List ℕ) (t : Tree) (ps : Pairs)
    → length (pairs_bytes (pair name t ps)) ≡ length name + length (tree_bytes t) + 2
    + length (pairs_bytes ps)
unfolding pairs_bytes
pairs_size-pair name t ps =
    omega (
      arith,
      length-append (element (type_byte t) name (tree_bytes t)) (pairs_bytes ps),
      element-length (type_byte t) name (tree_bytes t),
    )

pub pairs_size-append : (ps qs : Pairs)
    → length (pairs_bytes (append ps qs)) ≡ length (pairs_bytes ps) + length (pairs_bytes qs)
pairs_size-append ps qs =
    ap length (pairs_bytes-append ps qs) ∙ length-append (pairs_bytes ps) (pairs_bytes qs)

-- a pair at the end
pub pairs_size-push : (ps : Pairs) (name : List ℕ) (t : Tree)
    → length (pairs_bytes (append ps (pair name t no_pairs))) ≡ length (pairs_bytes ps)
    + length name + length (tree_bytes t) + 2
pairs_size-push ps name t =
    omega (
      arith,
      pairs_size-append ps (pair name t no_pairs),
      pairs_size-pair name t no_pairs,
      ap length pairs_bytes-none,
    )

some_is : {A : Type 0} (x y : A) → Some x ≡ Some y → x ≡ y
some_is x y e = cc

-- another value at a place
pub pairs_size-with_value : (ps : Pairs) (i : ℕ) (name : List ℕ) (old t : Tree)
    → pair_at ps i ≡ Some (name, old)
    → length (pairs_bytes (with_value ps i t)) + length (tree_bytes old) ≡ length (pairs_bytes ps)
    + length (tree_bytes t)
pairs_size-with_value no_pairs i name old t e = absurd cc
pairs_size-with_value (pair other u ps) zero name old t e =
    let same : u ≡ old = ap (λ (p : List ℕ × Tree). p.1) (some_is (other, u) (name, old) e) in
    omega (
      arith,
      pairs_size-pair other u ps,
      pairs_size-pair other t ps,
      ap (λ (v : Tree). length (tree_bytes v)) same,
    )
pairs_size-with_value (pair other u ps) (suc i) name old t e =
    omega (
      arith,
      pairs_size-pair other u ps,
      pairs_size-pair other u (with_value ps i t),
      pairs_size-with_value ps i name old t e,
    )

-- a pair less
pub pairs_size-without_pair : (ps : Pairs) (i : ℕ) (name : List ℕ) (t : Tree)
    → pair_at ps i ≡ Some (name, t)
    → length (pairs_bytes (without_pair ps i)) + length name + length (tree_bytes t)
    + 2 ≡ length (pairs_bytes ps)
pairs_size-without_pair no_pairs i name t e = absurd cc
pairs_size-without_pair (pair other u ps) zero name t e =
    let same : u ≡ t = ap (λ (p : List ℕ × Tree). p.1) (some_is (other, u) (name, t) e) in
    let named : other ≡ name = ap (λ (p : List ℕ × Tree). p.0) (some_is (other, u) (name, t) e) in
    omega (
      arith,
      pairs_size-pair other u ps,
      ap (λ (v : Tree). length (tree_bytes v)) same,
      ap length named,
    )
pairs_size-without_pair (pair other u ps) (suc i) name t e =
    omega (
      arith,
      pairs_size-pair other u ps,
      pairs_size-pair other u (without_pair ps i),
      pairs_size-without_pair ps i name t e,
    )

pub items_size-item : (i : ℕ) (t : Tree) (ts : Items)
    → length (items_bytes i (item t ts)) ≡ length (decimal i) + length (tree_bytes t) + 2
    + length (items_bytes (i + 1) ts)
unfolding items_bytes
items_size-item i t ts =
    omega (
      arith,
      length-append (element (type_byte t) (decimal i) (tree_bytes t))
          (items_bytes (i + 1) ts),
      element-length (type_byte t) (decimal i) (tree_bytes t),
    )

-- an item at the end
pub items_size-push : (i : ℕ) (ts : Items) (t : Tree)
    → length (items_bytes i (append_items ts (item t no_items))) ≡ length (items_bytes i ts)
    + length (decimal (i + items_len ts)) + length (tree_bytes t) + 2
items_size-push i ts t =
    omega (
      arith,
      ap length (items_bytes-append i ts t),
      length-append (items_bytes i ts)
          (element (type_byte t) (decimal (i + items_len ts)) (tree_bytes t)),
      element-length (type_byte t) (decimal (i + items_len ts)) (tree_bytes t),
    )

-- another item at a place
pub items_size-with_item : (n : ℕ) (ts : Items) (i : ℕ) (old t : Tree) → item_at ts i ≡ Some old
    → length (items_bytes n (with_item ts i t))
    + length (tree_bytes old) ≡ length (items_bytes n ts) + length (tree_bytes t)
items_size-with_item n no_items i old t e = absurd cc
items_size-with_item n (item u ts) zero old t e =
    let same : u ≡ old = cc in
    omega (
      arith,
      items_size-item n u ts,
      items_size-item n t ts,
      ap (λ (v : Tree). length (tree_bytes v)) same,
    )
items_size-with_item n (item u ts) (suc i) old t e =
    omega (
      arith,
      items_size-item n u ts,
      items_size-item n u (with_item ts i t),
      items_size-with_item (n + 1) ts i old t e,
    )

-- ---- an item less: those behind it move up, to names that are no longer

-- a number's digits are as many as those of any below it
abbrev Longest : ℕ → List ℕ → Type 0
Longest n digits = n < 2 ^ 64 → (k : ℕ) → k ≤ n → length (decimal k) ≤ length digits

longest_one : (n : ℕ) → n < 10 → Longest n ((48 + n) ∷ [])
longest_one n lt fits k le = omega (arith, ap length (decimal_digit k (omega arith)))

longest_more : (n : ℕ) (digits : List ℕ) → 10 ≤ n → Longest (n / 10) digits
    → Longest n (digits ++ ((48 + n % 10) ∷ []))
longest_more n digits ten so_far fits k le =
    elim (cases_lt k 10) [
      | inl small ↦ omega
          (arith, ap length (decimal_digit k small), length-append digits ((48 + n % 10) ∷ []))
      | inr large ↦
          let above : k / 10 ≤ n / 10 = omega arith in
          let fewer = so_far (omega arith) (k / 10) above in
          omega (
            arith,
            ap length (decimal_step k large (omega arith)),
            length-append (decimal (k / 10)) ((48 + k % 10) ∷ []),
            length-append digits ((48 + n % 10) ∷ []),
            fewer,
          )
    ]

pub decimal-longest : (n k : ℕ) → k ≤ n → n < 2 ^ 64 → length (decimal k) ≤ length (decimal n)
decimal-longest n k le fits = decimal_by_steps Longest longest_one longest_more n fits fits k le

items_size-later : (n : ℕ) (ts : Items) → n + items_len ts < 2 ^ 64
    → length (items_bytes n ts) ≤ length (items_bytes (n + 1) ts)
items_size-later n no_items fits =
    omega (arith, ap length (items_bytes-none n), ap length (items_bytes-none (n + 1)))
items_size-later n (item t ts) fits =
    omega (
      arith,
      items_size-item n t ts,
      items_size-item (n + 1) t ts,
      decimal-longest (n + 1) n (omega arith) (omega arith),
      items_size-later (n + 1) ts (omega arith),
    )

pub items_size-without_item : (n : ℕ) (ts : Items) (i : ℕ) → n + items_len ts < 2 ^ 64
    → length (items_bytes n (without_item ts i)) ≤ length (items_bytes n ts)
items_size-without_item n no_items i fits = omega arith
items_size-without_item n (item t ts) zero fits =
    omega (arith, items_size-item n t ts, items_size-later n ts (omega arith))
items_size-without_item n (item t ts) (suc i) fits =
    omega (
      arith,
      items_size-item n t ts,
      items_size-item n t (without_item ts i),
      items_size-without_item (n + 1) ts i (omega arith),
    )
