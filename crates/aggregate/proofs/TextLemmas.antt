-- Values that the order calls equal have the same text, however long it is.
use Rattle.std.proofs.Common.{◌≡◌, ℕ, true, List, [], ◌∷◌, ◌++◌, refl, sym, ◌∙◌, arith}
use Rattle.std.specs.Prelude.{◌==◌, if◌then◌else◌}
use Rattle.std.specs.FinMap.{nat_cmp-IsAntisymmetric, int_cmp-IsAntisymmetric, slice_cmp-IsAntisymmetric}
use Rattle.std.specs.Int.{w32, w64, to_be_bytes}
use Rattle.std.specs.declared.cmp.Ordering.{Ordering}
use Rattle.std.specs.declared.cmp.Ordering.TheVariants.{Less, Equal, Greater}
use Rattle.std.specs.Ordering.{ordering_then, nat_cmp, int_cmp}
use Rattle.bson.specs.Tree.{Scalar, text, binary, object_id, boolean, date, null, int32, timestamp, int64, min_key, max_key, Tree, scalar, document, array}
use Rattle.bson.specs.Tree.{Pairs, no_pairs, pair, Items, no_items, item}
use Rattle.filter.specs.Matches.{is_equal}
use Rattle.value_order.specs.Order.{scalar_class, class, bytes_cmp, Leaf, scalar_leaf, leaf_cmp, content_cmp, pairs_cmp, items_cmp, compare}
use Rattle.value_order.specs.KeyText.{escaped_text, sortable_bits, scalar_text, content_text, pairs_text, items_text, tree_text}

both_equal : (c d : Ordering) → ordering_then c d ≡ Equal → (c ≡ Equal) × (d ≡ Equal)
both_equal Less d e = absurd cc
both_equal Equal d e = (refl, e)
both_equal Greater d e = absurd cc

leaves_equal : (a b : Leaf) → leaf_cmp a b ≡ Equal → a ≡ b
leaves_equal a b e =
    let p = both_equal (int_cmp a.signed b.signed) _ e in
    let q = both_equal (nat_cmp a.unsigned b.unsigned) _ p.1 in
    let r = both_equal (nat_cmp a.subtype b.subtype) (bytes_cmp a.bytes b.bytes) q.1 in
    (λ i. record {
      signed = int_cmp-IsAntisymmetric a.signed b.signed p.0 i;
      unsigned = nat_cmp-IsAntisymmetric a.unsigned b.unsigned q.0 i;
      subtype = nat_cmp-IsAntisymmetric a.subtype b.subtype r.0 i;
      bytes = slice_cmp-IsAntisymmetric nat_cmp-IsAntisymmetric a.bytes b.bytes r.1 i;
    })

-- the text of a scalar, by its class and what it is compared by
abbrev leaf_text : ℕ → Leaf → List ℕ
leaf_text c a =
    if c == 0x30 then to_be_bytes w64 (sortable_bits a.signed) else
    if c == 0x40 then escaped_text a.bytes else
    if c == 0x70 then to_be_bytes w32 a.unsigned ++ a.subtype ∷ a.bytes else
    if c == 0x80 then a.bytes else
    if c == 0x90 then a.unsigned ∷ [] else
    if c == 0xa0 then to_be_bytes w64 (sortable_bits a.signed) else
    if c == 0xb0 then to_be_bytes w64 a.unsigned else
    []

by_leaf : (s : Scalar) → scalar_text s ≡ leaf_text (scalar_class s) (scalar_leaf s)
by_leaf (text s) = refl
by_leaf (binary k b) = refl
by_leaf (object_id b) = refl
by_leaf (boolean b) = refl
by_leaf (date z) = refl
by_leaf null = refl
by_leaf (int32 z) = refl
by_leaf (timestamp n) = refl
by_leaf (int64 z) = refl
by_leaf min_key = refl
by_leaf max_key = refl

not_nested : (s : Scalar) → (scalar_class s ≡ 0x50 → ⊥) × (scalar_class s ≡ 0x60 → ⊥)
not_nested (text s) = (λ e. absurd (omega (arith, e)), λ e. absurd (omega (arith, e)))
not_nested (binary k b) = (λ e. absurd (omega (arith, e)), λ e. absurd (omega (arith, e)))
not_nested (object_id b) = (λ e. absurd (omega (arith, e)), λ e. absurd (omega (arith, e)))
not_nested (boolean b) = (λ e. absurd (omega (arith, e)), λ e. absurd (omega (arith, e)))
not_nested (date z) = (λ e. absurd (omega (arith, e)), λ e. absurd (omega (arith, e)))
not_nested null = (λ e. absurd (omega (arith, e)), λ e. absurd (omega (arith, e)))
not_nested (int32 z) = (λ e. absurd (omega (arith, e)), λ e. absurd (omega (arith, e)))
not_nested (timestamp n) = (λ e. absurd (omega (arith, e)), λ e. absurd (omega (arith, e)))
not_nested (int64 z) = (λ e. absurd (omega (arith, e)), λ e. absurd (omega (arith, e)))
not_nested min_key = (λ e. absurd (omega (arith, e)), λ e. absurd (omega (arith, e)))
not_nested max_key = (λ e. absurd (omega (arith, e)), λ e. absurd (omega (arith, e)))

mutual
  contents_equal : (t u : Tree) → class t ≡ class u → content_cmp t u ≡ Equal → content_text t ≡ content_text u
  contents_equal (scalar s) (scalar r) c e =
      by_leaf s ∙ (λ i. leaf_text (c i) (leaves_equal (scalar_leaf s) (scalar_leaf r) e i)) ∙ sym (by_leaf r)
  contents_equal (scalar s) (document qs) c e = absurd ((not_nested s).0 c)
  contents_equal (scalar s) (array us) c e = absurd ((not_nested s).1 c)
  contents_equal (document ps) (scalar r) c e = absurd ((not_nested r).0 (sym c))
  contents_equal (document ps) (document qs) c e = pairs_equal ps qs e
  contents_equal (document ps) (array us) c e = absurd (omega (arith, c))
  contents_equal (array ts) (scalar r) c e = absurd ((not_nested r).1 (sym c))
  contents_equal (array ts) (document qs) c e = absurd (omega (arith, c))
  contents_equal (array ts) (array us) c e = items_equal ts us e

  pairs_equal : (ps qs : Pairs) → pairs_cmp ps qs ≡ Equal → pairs_text ps ≡ pairs_text qs
  pairs_equal no_pairs no_pairs e = refl
  pairs_equal no_pairs (pair m u qs) e = absurd cc
  pairs_equal (pair n t ps) no_pairs e = absurd cc
  pairs_equal (pair n t ps) (pair m u qs) e =
      let p = both_equal (nat_cmp (class t) (class u)) _ e in
      let q = both_equal (bytes_cmp n m) _ p.1 in
      let r = both_equal (content_cmp t u) (pairs_cmp ps qs) q.1 in
      let c = nat_cmp-IsAntisymmetric (class t) (class u) p.0 in
      let names = slice_cmp-IsAntisymmetric nat_cmp-IsAntisymmetric n m q.0 in
      (λ i. c i ∷ (names i ++ 0 ∷ (c i ∷ (contents_equal t u c r.0 i ++ pairs_equal ps qs r.1 i))))

  items_equal : (ts us : Items) → items_cmp ts us ≡ Equal → items_text ts ≡ items_text us
  items_equal no_items no_items e = refl
  items_equal no_items (item u us) e = absurd cc
  items_equal (item t ts) no_items e = absurd cc
  items_equal (item t ts) (item u us) e =
      let p = both_equal (nat_cmp (class t) (class u)) _ e in
      let r = both_equal (content_cmp t u) (items_cmp ts us) p.1 in
      let c = nat_cmp-IsAntisymmetric (class t) (class u) p.0 in
      (λ i. c i ∷ (contents_equal t u c r.0 i ++ items_equal ts us r.1 i))

is_equal-Equal : (o : Ordering) → is_equal o ≡ true → o ≡ Equal
is_equal-Equal Less e = absurd cc
is_equal-Equal Equal e = refl
is_equal-Equal Greater e = absurd cc

pub texts_equal : (t u : Tree) → is_equal (compare t u) ≡ true → tree_text t ≡ tree_text u
texts_equal t u e =
    let p = both_equal (nat_cmp (class t) (class u)) (content_cmp t u) (is_equal-Equal (compare t u) e) in
    let c = nat_cmp-IsAntisymmetric (class t) (class u) p.0 in
    (λ i. c i ∷ contents_equal t u c p.1 i)
