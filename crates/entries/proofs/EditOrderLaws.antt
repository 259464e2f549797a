-- Edits one list after the other, and in the order of their keys.
use Rattle.std.proofs.Common.{◌≡◌, ◌≢◌, ℕ, Bool, true, false, List, [], ◌∷◌, ◌++◌, Option, refl, sym, ap, subst, ◌∙◌}
use Rattle.std.specs.Prelude.{if◌then◌else◌}
use Rattle.std.specs.declared.cmp.Ordering.{Ordering}
use Rattle.std.specs.declared.cmp.Ordering.TheVariants.{Less, Equal, Greater}
use Rattle.std.specs.Ordering.{is_eq, ordering_reverse}
use Rattle.std.specs.Cmp.Lexicographic.{nat_list_cmp_total}
use Rattle.std.proofs.lemmas.Map.Lookups.{exact_bytes}
use Rattle.tree_model.specs.Keys.{Entry, Edit, Each, IsUnder, Rises, key_cmp, edit_map, change, value_at}
use Rattle.entry_model.specs.StateEntries.{Spells, entry_keys}
use Rattle.tree_model.specs.Keys.{edit_keys}
use Rattle.entry_model.specs.EditOrder.{earlier_at, with_earlier, in_key_order}
use Rattle.entry_model.specs.StateLaws.{LeadsOn, OrderIsFree, EditsSwap}
use Rattle.entries.proofs.EditLemmas.{same_key, turned, value_after, change_value, rises_change, one_map}

-- edits one list after the other
pub change_append : (es fs : List Edit) (xs : List Entry) → change (es ++ fs) xs ≡ change fs (change es xs)
change_append [] fs xs = refl
change_append (e ∷ es) fs xs = change_append es fs (edit_map e xs)

pub leads_on : LeadsOn
leads_on es fs a b c first second entries h =
    subst (λ (xs : List Entry). Spells xs c) (sym (change_append es fs entries)) (second (change es entries) (first entries h))

-- ---- in order

below_all : (j k : List ℕ) (fs : List Edit) → IsUnder j k → Each (λ l. IsUnder k l) (edit_keys fs) → Each (λ l. IsUnder j l) (edit_keys fs)
below_all j k [] e h = tt
below_all j k (f ∷ fs) e h = (nat_list_cmp_total.trans j k f.key e h.0, below_all j k fs e h.1)

earlier_below : (j : List ℕ) (e : Edit) (fs : List Edit) → IsUnder j e.key → Each (λ l. IsUnder j l) (edit_keys fs)
    → Each (λ l. IsUnder j l) (edit_keys (with_earlier e fs))
earlier_below j e [] under h = (under, tt)
earlier_below j e (f ∷ fs) under h = by (key_cmp e.key f.key) (earlier_below j e fs under h.1)
  where
    by : (o : Ordering) → Each (λ l. IsUnder j l) (edit_keys (with_earlier e fs))
        → Each (λ l. IsUnder j l) (edit_keys (earlier_at o e f fs (with_earlier e fs)))
    by Less later = (under, h)
    by Equal later = h
    by Greater later = (h.0, later)

earlier_rises : (e : Edit) (fs : List Edit) → Rises (edit_keys fs) → Rises (edit_keys (with_earlier e fs))
earlier_rises e [] h = (tt, tt)
earlier_rises e (f ∷ fs) h = by (key_cmp e.key f.key) refl (earlier_rises e fs h.1)
  where
    by : (o : Ordering) → key_cmp e.key f.key ≡ o → Rises (edit_keys (with_earlier e fs)) → Rises (edit_keys (earlier_at o e f fs (with_earlier e fs)))
    by Less under later = ((under, below_all e.key f.key fs under h.0), h)
    by Equal same later = h
    by Greater over later = (earlier_below f.key e fs (turned f.key e.key ∙ ap ordering_reverse over) h.0, later)

in_order_rises : (es : List Edit) → Rises (edit_keys (in_key_order es))
in_order_rises [] = tt
in_order_rises (e ∷ es) = earlier_rises e (in_key_order es) (in_order_rises es)

-- ---- the same in any order

-- edits at two keys may change places
swapped : (k : List ℕ) (e f : Edit) (o : Ordering) → key_cmp e.key f.key ≡ o → is_eq o ≡ false → (v : Option (List ℕ))
    → (if is_eq (key_cmp e.key k) then e.value else (if is_eq (key_cmp f.key k) then f.value else v))
    ≡ (if is_eq (key_cmp f.key k) then f.value else (if is_eq (key_cmp e.key k) then e.value else v))
swapped k e f o is differ v = by (is_eq (key_cmp e.key k)) refl (is_eq (key_cmp f.key k)) refl
  where
    by : (s : Bool) → is_eq (key_cmp e.key k) ≡ s → (t : Bool) → is_eq (key_cmp f.key k) ≡ t
        → (if s then e.value else (if t then f.value else v)) ≡ (if t then f.value else (if s then e.value else v))
    by true at_e true at_f =
        let same : e.key ≡ k = same_key e.key k at_e in
        let tied : is_eq (key_cmp f.key e.key) ≡ true = ap (λ (m : List ℕ). is_eq (key_cmp f.key m)) same ∙ at_f in
        let back : is_eq (key_cmp e.key f.key) ≡ true = ap is_eq (turned e.key f.key) ∙ reversed (key_cmp f.key e.key) ∙ tied in
        absurd (let g : true ≡ false = sym back ∙ ap is_eq is ∙ differ in cc)
      where
        reversed : (p : Ordering) → is_eq (ordering_reverse p) ≡ is_eq p
        reversed Less = refl
        reversed Equal = refl
        reversed Greater = refl
    by true at_e false at_f = refl
    by false at_e true at_f = refl
    by false at_e false at_f = refl

-- an edit is hidden by a later one at its key
hidden : (k : List ℕ) (e f : Edit) → e.key ≡ f.key → (v : Option (List ℕ))
    → (if is_eq (key_cmp f.key k) then f.value else v) ≡ (if is_eq (key_cmp f.key k) then f.value else (if is_eq (key_cmp e.key k) then e.value else v))
hidden k e f same v = by (is_eq (key_cmp f.key k)) refl
  where
    by : (t : Bool) → is_eq (key_cmp f.key k) ≡ t → (if t then f.value else v) ≡ (if t then f.value else (if is_eq (key_cmp e.key k) then e.value else v))
    by true at_f = refl
    by false at_f = sym (ap (λ (b : Bool). if b then e.value else v) (ap (λ (m : List ℕ). is_eq (key_cmp m k)) same ∙ at_f))

earlier_value : (k : List ℕ) (e : Edit) (fs : List Edit) (v : Option (List ℕ)) → value_after k (with_earlier e fs) v ≡ value_after k (e ∷ fs) v
earlier_value k e [] v = refl
earlier_value k e (f ∷ fs) v = by (key_cmp e.key f.key) refl (earlier_value k e fs (if is_eq (key_cmp f.key k) then f.value else v))
  where
    by : (o : Ordering) → key_cmp e.key f.key ≡ o
        → value_after k (with_earlier e fs) (if is_eq (key_cmp f.key k) then f.value else v)
        ≡ value_after k (e ∷ fs) (if is_eq (key_cmp f.key k) then f.value else v)
        → value_after k (earlier_at o e f fs (with_earlier e fs)) v ≡ value_after k (e ∷ f ∷ fs) v
    by Less is later = refl
    by Equal is later = ap (value_after k fs) (hidden k e f (exact_bytes e.key f.key is) v)
    by Greater is later = later ∙ ap (value_after k fs) (swapped k e f Greater is refl v)

in_order_value : (k : List ℕ) (es : List Edit) (v : Option (List ℕ)) → value_after k (in_key_order es) v ≡ value_after k es v
in_order_value k [] v = refl
in_order_value k (e ∷ es) v = earlier_value k e (in_key_order es) v ∙ in_order_value k es (if is_eq (key_cmp e.key k) then e.value else v)

pub in_order_change : (es : List Edit) (xs : List Entry) → Rises (entry_keys xs) → change (in_key_order es) xs ≡ change es xs
in_order_change es xs h =
    one_map (change (in_key_order es) xs) (change es xs) (rises_change (in_key_order es) xs h) (rises_change es xs h)
    (λ k. change_value k (in_key_order es) xs ∙ in_order_value k es (value_at k xs) ∙ sym (change_value k es xs))

pub order_is_free : OrderIsFree
order_is_free es = (
  in_order_rises es,
  in_order_change es,
  λ a b leads entries h. subst (λ (xs : List Entry). Spells xs b) (sym (in_order_change es entries h.rises)) (leads entries h),
)

-- ---- two edits

pub after_append : (k : List ℕ) (es fs : List Edit) (v : Option (List ℕ)) → value_after k (es ++ fs) v ≡ value_after k fs (value_after k es v)
after_append k [] fs v = refl
after_append k (e ∷ es) fs v = after_append k es fs (if is_eq (key_cmp e.key k) then e.value else v)

swap_value : (k : List ℕ) (es fs : List Edit) (e f : Edit) → e.key ≢ f.key → (v : Option (List ℕ))
    → value_after k (es ++ e ∷ f ∷ fs) v ≡ value_after k (es ++ f ∷ e ∷ fs) v
swap_value k es fs e f differ v =
    after_append k es (e ∷ f ∷ fs) v
    ∙ ap (value_after k fs) (sym (swapped k e f (key_cmp e.key f.key) refl (untied (is_eq (key_cmp e.key f.key)) refl) (value_after k es v)))
    ∙ sym (after_append k es (f ∷ e ∷ fs) v)
  where
    untied : (b : Bool) → is_eq (key_cmp e.key f.key) ≡ b → is_eq (key_cmp e.key f.key) ≡ false
    untied true tied = absurd (differ (same_key e.key f.key tied))
    untied false other = other

pub edits_swap : EditsSwap
edits_swap es fs e f differ xs h =
    one_map (change (es ++ e ∷ f ∷ fs) xs) (change (es ++ f ∷ e ∷ fs) xs) (rises_change (es ++ e ∷ f ∷ fs) xs h) (rises_change (es ++ f ∷ e ∷ fs) xs h)
    (λ k. change_value k (es ++ e ∷ f ∷ fs) xs ∙ swap_value k es fs e f differ (value_at k xs) ∙ sym (change_value k (es ++ f ∷ e ∷ fs) xs))
