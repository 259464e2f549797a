-- With every byte complemented, texts order the other way round.
use Rattle.std.proofs.Common.{◌≡◌, ℕ, ◌-◌, ◌<◌, List, [], ◌∷◌, ◌++◌, refl, sym, ◌∙◌, ap, subst, arith}
use Rattle.std.specs.declared.cmp.Ordering.{Ordering}
use Rattle.std.specs.declared.cmp.Ordering.TheVariants.{Less, Equal, Greater}
use Rattle.std.specs.Ordering.{ordering_then, ordering_reverse, nat_cmp, MatchOrdering}
use Rattle.std.specs.Cmp.{nat_cmp_is, ranks}
use Rattle.std.specs.Cmp.Lexicographic.{slice_cmp}
use Rattle.std.proofs.lemmas.Cmp.{nat_list_cmp_total}
use Rattle.std.proofs.lemmas.Map.Lookups.{exact_bytes}
use Rattle.value_order.specs.KeyText.{complement}
use Rattle.key_order.specs.SortingLaws.{SortsAs, SortsAs-none, SortsAs-cell, SortsAs-is, SortsAs-append, SortsAs-greater, order_of}

abbrev pub AreBytes : List ℕ → Type 0
AreBytes [] = Unit {0}
AreBytes (b ∷ bs) = (b < 256) × AreBytes bs

same_cell : (n : ℕ) → nat_cmp n n ≡ Equal
same_cell n = sym (nat_cmp_is n n Equal refl)

SortsAs-same : (a : List ℕ) → SortsAs nat_cmp a a Equal
SortsAs-same [] = SortsAs-none nat_cmp
SortsAs-same (n ∷ a) =
    SortsAs-is nat_cmp _ _ _ _ (ap (λ (o : Ordering). ordering_then o Equal) (same_cell n))
    (SortsAs-append nat_cmp (n ∷ []) (n ∷ []) a a (nat_cmp n n) Equal (SortsAs-cell nat_cmp n n) (λ _. SortsAs-same a))

reverse-then : (c d : Ordering) → ordering_reverse (ordering_then c d) ≡ ordering_then (ordering_reverse c) (ordering_reverse d)
reverse-then Less d = refl
reverse-then Equal d = refl
reverse-then Greater d = refl

-- the two lists the other way round
pub SortsAs-turned : (a b : List ℕ) (c : Ordering) → SortsAs nat_cmp a b c → SortsAs nat_cmp b a (ordering_reverse c)
SortsAs-turned a b c s = record {
  decides = λ x y.
      nat_list_cmp_total.antisymm (b ++ x) (a ++ y) ∙ ap ordering_reverse (s.decides y x) ∙ reverse-then c (slice_cmp nat_cmp y x)
      ∙ ap (ordering_then (ordering_reverse c)) (sym (nat_list_cmp_total.antisymm x y));
}

longer : (b : List ℕ) → slice_cmp nat_cmp (b ++ 0 ∷ []) (b ++ []) ≡ Greater
longer b = (SortsAs-same b).decides (0 ∷ []) []

lower : (m n : ℕ) → n < 256 → nat_cmp m n ≡ Less → nat_cmp (255 - m) (255 - n) ≡ Greater
lower m n fits e =
    let less : m < n = subst (λ (o : Ordering). MatchOrdering o (m < n) (m ≡ n) (n < m)) e (ranks m n) in
    sym (nat_cmp_is (255 - m) (255 - n) Greater (omega arith))

tail_sorts : (m n : ℕ) (a b : List ℕ) (c : Ordering) → nat_cmp m n ≡ Equal → SortsAs nat_cmp (m ∷ a) (n ∷ b) c → SortsAs nat_cmp a b c
tail_sorts m n a b c e s = record { decides = λ x y. ap (λ (o : Ordering). ordering_then o (slice_cmp nat_cmp (a ++ x) (b ++ y))) (sym e) ∙ s.decides x y }

less_inverted : (a b : List ℕ) → AreBytes a → AreBytes b → SortsAs nat_cmp a b Less → SortsAs nat_cmp (complement a) (complement b) Greater
less_inverted [] b g h s = absurd (let e : Greater ≡ Less = sym (longer b) ∙ s.decides (b ++ 0 ∷ []) [] in cc)
less_inverted (m ∷ a) [] g h s = absurd (let e : Greater ≡ Less = s.decides [] [] in cc)
less_inverted (m ∷ a) (n ∷ b) g h s = by (less_inverted a b g.1 h.1) (nat_cmp m n) refl
  where
    first : (o : Ordering) → nat_cmp m n ≡ o → ordering_then o (slice_cmp nat_cmp (a ++ []) (b ++ [])) ≡ Less
    first o e = ap (λ (q : Ordering). ordering_then q (slice_cmp nat_cmp (a ++ []) (b ++ []))) (sym e) ∙ s.decides [] []

    by : (SortsAs nat_cmp a b Less → SortsAs nat_cmp (complement a) (complement b) Greater) → (o : Ordering) → nat_cmp m n ≡ o
        → SortsAs nat_cmp (complement (m ∷ a)) (complement (n ∷ b)) Greater
    by more Less e = SortsAs-greater nat_cmp (255 - m) (255 - n) (complement a) (complement b) (lower m n h.0 e)
    by more Equal e =
        SortsAs-append nat_cmp ((255 - m) ∷ []) ((255 - n) ∷ []) (complement a) (complement b) Equal Greater
        (SortsAs-is nat_cmp _ _ _ _
        (sym (nat_cmp_is (255 - m) (255 - n) Equal
        (ap (λ (k : ℕ). 255 - k) (subst (λ (o : Ordering). MatchOrdering o (m < n) (m ≡ n) (n < m)) e (ranks m n)))))
        (SortsAs-cell nat_cmp (255 - m) (255 - n)))
        (λ _. more (tail_sorts m n a b Less e s))
    by more Greater e = absurd (let f : Greater ≡ Less = first Greater e in cc)

pub inverted_sorts : (a b : List ℕ) (c : Ordering) → AreBytes a → AreBytes b → SortsAs nat_cmp a b c
    → SortsAs nat_cmp (complement a) (complement b) (ordering_reverse c)
inverted_sorts a b Less g h s = less_inverted a b g h s
inverted_sorts a b Equal g h s =
    subst (λ (l : List ℕ). SortsAs nat_cmp (complement a) (complement l) Equal) (exact_bytes a b (order_of nat_cmp a b Equal s)) (SortsAs-same (complement a))
inverted_sorts a b Greater g h s = SortsAs-turned _ _ _ (less_inverted b a h g (SortsAs-turned _ _ _ s))
