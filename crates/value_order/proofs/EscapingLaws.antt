-- Names and strings with what ends them order as the names and strings do.
use Rattle.std.proofs.Common.{◌≡◌, ◌≢◌, ℕ, zero, suc, List, [], ◌∷◌, ◌++◌, refl, sym, ap, arith}
use Rattle.std.specs.declared.cmp.Ordering.{Ordering}
use Rattle.std.specs.declared.cmp.Ordering.TheVariants.{Less, Equal, Greater}
use Rattle.std.specs.Ordering.{ordering_then, nat_cmp}
use Rattle.std.specs.Cmp.{nat_cmp_is}
use Rattle.bson.specs.Lawful.{NoZero}
use Rattle.value_order.specs.Order.{bytes_cmp}
use Rattle.value_order.specs.KeyText.{escaped_text}
use Rattle.key_order.specs.SortingLaws.{SortsAs, SortsAs-cell, SortsAs-is, SortsAs-append, SortsAs-less, SortsAs-greater}

above_zero : (b : ℕ) → b ≢ 0 → nat_cmp 0 b ≡ Less
above_zero b h = sym (nat_cmp_is 0 b Less (omega arith))

zero_below : (b : ℕ) → b ≢ 0 → nat_cmp b 0 ≡ Greater
zero_below b h = sym (nat_cmp_is b 0 Greater (omega arith))

-- names that a zero ends
pub name_sorts : (n m : List ℕ) → NoZero n → NoZero m → SortsAs nat_cmp (n ++ 0 ∷ []) (m ++ 0 ∷ []) (bytes_cmp n m)
name_sorts [] [] g h = SortsAs-cell nat_cmp 0 0
name_sorts [] (c ∷ m) g h = SortsAs-less nat_cmp 0 c [] (m ++ 0 ∷ []) (above_zero c h.0)
name_sorts (b ∷ n) [] g h = SortsAs-greater nat_cmp b 0 (n ++ 0 ∷ []) [] (zero_below b g.0)
name_sorts (b ∷ n) (c ∷ m) g h =
    SortsAs-append nat_cmp (b ∷ []) (c ∷ []) (n ++ 0 ∷ []) (m ++ 0 ∷ []) (nat_cmp b c) (bytes_cmp n m) (SortsAs-cell nat_cmp b c) (λ _. name_sorts n m g.1 h.1)

-- strings
pub escaped_sorts : (s r : List ℕ) → SortsAs nat_cmp (escaped_text s) (escaped_text r) (bytes_cmp s r)
escaped_sorts [] [] = SortsAs-append nat_cmp (0 ∷ []) (0 ∷ []) (0 ∷ []) (0 ∷ []) Equal Equal (SortsAs-cell nat_cmp 0 0) (λ _. SortsAs-cell nat_cmp 0 0)
escaped_sorts [] (zero ∷ r) =
    SortsAs-append nat_cmp (0 ∷ []) (0 ∷ []) (0 ∷ []) (255 ∷ escaped_text r) Equal Less (SortsAs-cell nat_cmp 0 0)
    (λ _. SortsAs-less nat_cmp 0 255 [] (escaped_text r) refl)
escaped_sorts [] (suc c ∷ r) = SortsAs-less nat_cmp 0 (suc c) (0 ∷ []) (escaped_text r) (above_zero (suc c) (omega arith))
escaped_sorts (zero ∷ s) [] =
    SortsAs-append nat_cmp (0 ∷ []) (0 ∷ []) (255 ∷ escaped_text s) (0 ∷ []) Equal Greater (SortsAs-cell nat_cmp 0 0)
    (λ _. SortsAs-greater nat_cmp 255 0 (escaped_text s) [] refl)
escaped_sorts (suc b ∷ s) [] = SortsAs-greater nat_cmp (suc b) 0 (escaped_text s) (0 ∷ []) (zero_below (suc b) (omega arith))
escaped_sorts (zero ∷ s) (zero ∷ r) =
    SortsAs-append nat_cmp (0 ∷ []) (0 ∷ []) (255 ∷ escaped_text s) (255 ∷ escaped_text r) Equal (bytes_cmp s r) (SortsAs-cell nat_cmp 0 0)
    (λ _. SortsAs-append nat_cmp (255 ∷ []) (255 ∷ []) (escaped_text s) (escaped_text r) Equal (bytes_cmp s r) (SortsAs-cell nat_cmp 255 255)
    (λ _. escaped_sorts s r))
escaped_sorts (zero ∷ s) (suc c ∷ r) =
    SortsAs-is nat_cmp _ _ _ _ (ap (λ (o : Ordering). ordering_then o (bytes_cmp s r)) (sym (above_zero (suc c) (omega arith))))
    (SortsAs-less nat_cmp 0 (suc c) (255 ∷ escaped_text s) (escaped_text r) (above_zero (suc c) (omega arith)))
escaped_sorts (suc b ∷ s) (zero ∷ r) =
    SortsAs-is nat_cmp _ _ _ _ (ap (λ (o : Ordering). ordering_then o (bytes_cmp s r)) (sym (zero_below (suc b) (omega arith))))
    (SortsAs-greater nat_cmp (suc b) 0 (escaped_text s) (255 ∷ escaped_text r) (zero_below (suc b) (omega arith)))
escaped_sorts (suc b ∷ s) (suc c ∷ r) =
    SortsAs-append nat_cmp (suc b ∷ []) (suc c ∷ []) (escaped_text s) (escaped_text r) (nat_cmp (suc b) (suc c)) (bytes_cmp s r)
    (SortsAs-cell nat_cmp (suc b) (suc c)) (λ _. escaped_sorts s r)
