-- Which documents share a key with another, key by key and document by document.
use Rattle.std.proofs.Common.{◌≡◌, inl, inr, ℕ, Bool, true, false, ◌||◌, ◌&&◌, List, [], ◌∷◌, refl, sym, ap, ◌∙◌}
use Rattle.std.specs.List.{list_any}
use Rattle.std.specs.Ordering.{is_eq}
use Rattle.value_order.specs.Order.{bytes_cmp}
use Rattle.index.specs.Changes.{is_among}
use Rattle.entry_model.proofs.MemberLemmas.{Among}
use Rattle.index.proofs.SetLemmas.{same_itself}

-- ---- tests of pairs

bools : (f g l a b : Bool) → (((f && g) || a) || ((g && l) || b)) ≡ ((g && (f || l)) || (a || b))
bools true true l a b = refl
bools true false l true b = refl
bools true false l false b = refl
bools false true true true b = refl
bools false true true false b = refl
bools false true false true b = refl
bools false true false false b = refl
bools false false l true b = refl
bools false false l false b = refl

module _ {E K : Type 0} (f : E → K → Bool) (g : E → Bool) where
  none_left : (es : List E) → list_any (λ e. g e && false) es ≡ false
  none_left [] = refl
  none_left (e ∷ es) = elim (g e) as (λ (b : Bool). ((b && false) || list_any (λ x. g x && false) es) ≡ false) [ true ↦ none_left es | false ↦ none_left es ]

  one_more : (k : K) (ks : List K) (es : List E)
      → (list_any (λ e. f e k && g e) es || list_any (λ e. g e && list_any (f e) ks) es) ≡ list_any (λ e. g e && (f e k || list_any (f e) ks)) es
  one_more k ks [] = refl
  one_more k ks (e ∷ es) =
      bools (f e k) (g e) (list_any (f e) ks) (list_any (λ x. f x k && g x) es) (list_any (λ x. g x && list_any (f x) ks) es)
      ∙ ap (λ (b : Bool). (g e && (f e k || list_any (f e) ks)) || b) (one_more k ks es)

  -- a key of these is in one of those, or one of those has a key of these
  pub swapped : (ks : List K) (es : List E) → list_any (λ k. list_any (λ e. f e k && g e) es) ks ≡ list_any (λ e. g e && list_any (f e) ks) es
  swapped [] es = sym (none_left es)
  swapped (k ∷ ks) es = ap (λ (b : Bool). list_any (λ e. f e k && g e) es || b) (swapped ks es) ∙ one_more k ks es

-- ---- keys

pub is_there : (keys : List (List ℕ)) (key : List ℕ) → Among key keys → is_among keys key ≡ true
is_there [] key h = absurd h
is_there (k ∷ ks) key (inl e) = ap (λ (b : Bool). b || is_among ks key) (ap (λ (x : List ℕ). is_eq (bytes_cmp key x)) (sym e) ∙ same_itself key)
is_there (k ∷ ks) key (inr h) = ap (λ (b : Bool). is_eq (bytes_cmp key k) || b) (is_there ks key h) ∙ or_true (is_eq (bytes_cmp key k))
  where
    or_true : (b : Bool) → (b || true) ≡ true
    or_true true = refl
    or_true false = refl
