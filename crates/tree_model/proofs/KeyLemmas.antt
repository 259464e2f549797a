-- The order of keys.
use Rattle.std.proofs.Common.{◌≡◌, ℕ, List, Option, Some, None, false, refl, sym, ap, ◌∙◌, ◌⊎◌, inl, inr}
use Rattle.std.specs.declared.cmp.Ordering.{Ordering}
use Rattle.std.specs.declared.cmp.Ordering.TheVariants.{Less, Equal, Greater}
use Rattle.std.specs.Ordering.{is_eq, ordering_reverse}
use Rattle.std.specs.Cmp.Lexicographic.{nat_list_cmp_total}
use Rattle.std.proofs.lemmas.Cmp.{tied_itself}
use Rattle.tree_model.specs.Keys.{key_cmp, IsUnder, IsNotUnder, IsWithin}

pub three : (r : Ordering) → (r ≡ Less) ⊎ ((r ≡ Equal) ⊎ (r ≡ Greater))
three Less = inl refl
three Equal = inr (inl refl)
three Greater = inr (inr refl)

pub under_trans : (a b c : List ℕ) → IsUnder a b → IsUnder b c → IsUnder a c
under_trans a b c h g = nat_list_cmp_total.trans a b c h g

pub not_under_itself : (a : List ℕ) → IsNotUnder a a
not_under_itself a h = let e : key_cmp a a ≡ Equal = tied_itself nat_list_cmp_total a in cc

pub not_both : (a b : List ℕ) → IsUnder a b → IsNotUnder b a
not_both a b h g = not_under_itself a (under_trans a b a h g)

pub greater_is : (a b : List ℕ) → key_cmp a b ≡ Greater → IsUnder b a
greater_is a b h = nat_list_cmp_total.antisymm b a ∙ ap ordering_reverse h

-- what isn't below is the same or above
pub not_under_cases : (a b : List ℕ) → IsNotUnder a b → (key_cmp a b ≡ Equal) ⊎ IsUnder b a
not_under_cases a b h = elim (three (key_cmp a b)) [
  | inl less ↦ absurd (h less)
  | inr more ↦ elim more [ inl same ↦ inl same | inr greater ↦ inr (greater_is a b greater) ]
]

pub up_to_then_under : (a b c : List ℕ) → IsNotUnder b a → IsUnder b c → IsUnder a c
up_to_then_under a b c h g = elim (three (key_cmp a b)) [
  | inl less ↦ under_trans a b c less g
  | inr more ↦ elim more [ inl same ↦ nat_list_cmp_total.congr a b c same ∙ g | inr greater ↦ absurd (h (greater_is a b greater)) ]
]

pub not_under_trans : (a b c : List ℕ) → IsNotUnder b a → IsNotUnder c b → IsNotUnder c a
not_under_trans a b c h g k = h (up_to_then_under b c a g k)

pub under_then_up_to : (a b c : List ℕ) → IsUnder a b → IsNotUnder c b → IsUnder a c
under_then_up_to a b c h g = elim (three (key_cmp a c)) [
  | inl less ↦ less
  | inr more ↦ elim more [
    | inl same ↦ absurd (g (sym (nat_list_cmp_total.congr a c b same) ∙ h))
    | inr greater ↦ absurd (g (under_trans c a b (greater_is a c greater) h))
  ]
]

-- wider bounds
pub within_wider : (high : Option (List ℕ)) (next key : List ℕ) → IsWithin high next → IsUnder key next → IsWithin high key
within_wider None next key w h = tt
within_wider (Some high) next key w h = under_trans key next high h w

pub differs_under : (a b : List ℕ) → IsUnder a b → is_eq (key_cmp a b) ≡ false
differs_under a b h = ap is_eq h

pub differs_over : (a b : List ℕ) → IsUnder b a → is_eq (key_cmp a b) ≡ false
differs_over a b h = ap is_eq (nat_list_cmp_total.antisymm a b ∙ ap ordering_reverse h)
