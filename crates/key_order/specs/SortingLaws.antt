-- Lists that order as something does, and go on doing so whatever follows them.
use Rattle.std.proofs.Common.{◌≡◌, List, [], ◌∷◌, ◌++◌, length, refl, sym, ◌∙◌, ap, append_assoc}
use Rattle.std.proofs.Common.{append-nil, arith}
use Rattle.std.specs.declared.cmp.Ordering.{Ordering}
use Rattle.std.specs.declared.cmp.Ordering.TheVariants.{Less, Equal, Greater}
use Rattle.std.specs.Ordering.{ordering_then}
use Rattle.std.specs.Cmp.Lexicographic.{slice_cmp}

pub then_assoc : (c d e : Ordering)
    → ordering_then (ordering_then c d) e ≡ ordering_then c (ordering_then d e)
then_assoc Less d e = refl
then_assoc Equal d e = refl
then_assoc Greater d e = refl

pub then-Equal : (c : Ordering) → ordering_then c Equal ≡ c
then-Equal Less = refl
then-Equal Equal = refl
then-Equal Greater = refl

module _ {A : Type 0} (R : A → A → Ordering) where
  -- The order of the two lists is c, whatever follows them; where c is Equal what follows decides.
  pub record SortsAs (a b : List A) (c : Ordering) : Type 0 where
    pub decides : (x y : List A) → slice_cmp R (a ++ x) (b ++ y) ≡ ordering_then c (slice_cmp R x y)

  pub SortsAs-none : SortsAs [] [] Equal
  SortsAs-none = record { decides = λ x y. refl }

  pub SortsAs-cell : (m n : A) → SortsAs (m ∷ []) (n ∷ []) (R m n)
  SortsAs-cell m n = record { decides = λ x y. refl }

  pub SortsAs-is : (a b : List A) (c d : Ordering) → c ≡ d → SortsAs a b c → SortsAs a b d
  SortsAs-is a b c d e s = record {
    decides = λ x y. s.decides x y ∙ ap (λ (o : Ordering). ordering_then o (slice_cmp R x y)) e;
  }

  pub SortsAs-append : (a b a' b' : List A) (c c' : Ordering) → SortsAs a b c
      → (c ≡ Equal → SortsAs a' b' c') → SortsAs (a ++ a') (b ++ b') (ordering_then c c')
  SortsAs-append a b a' b' c c' first second = record {
    decides = λ x y.
        (λ i. slice_cmp R (append_assoc a a' x i) (append_assoc b b' y i))
        ∙ first.decides (a' ++ x) (b' ++ y) ∙ rest c second x y;
  }
    where
      rest : (d : Ordering) → (d ≡ Equal → SortsAs a' b' c') → (x y : List A)
          → ordering_then d (slice_cmp R (a' ++ x) (b' ++ y))
          ≡ ordering_then (ordering_then d c') (slice_cmp R x y)
      rest Less h x y = refl
      rest Equal h x y = (h refl).decides x y
      rest Greater h x y = refl

  -- the first cells differ
  pub SortsAs-less : (m n : A) (a b : List A) → R m n ≡ Less → SortsAs (m ∷ a) (n ∷ b) Less
  SortsAs-less m n a b e = record
      { decides = λ x y. ap (λ (o : Ordering). ordering_then o (slice_cmp R (a ++ x) (b ++ y))) e }

  pub SortsAs-greater : (m n : A) (a b : List A) → R m n ≡ Greater → SortsAs (m ∷ a) (n ∷ b) Greater
  SortsAs-greater m n a b e = record
      { decides = λ x y. ap (λ (o : Ordering). ordering_then o (slice_cmp R (a ++ x) (b ++ y))) e }

  -- lists of one length
  pub SortsAs-even : (a b : List A) → length a ≡ length b → SortsAs a b (slice_cmp R a b)
  SortsAs-even [] [] e = SortsAs-none
  SortsAs-even [] (n ∷ b) e = absurd (omega (arith, e))
  SortsAs-even (m ∷ a) [] e = absurd (omega (arith, e))
  SortsAs-even (m ∷ a) (n ∷ b) e = record {
    decides = λ x y.
        ap (ordering_then (R m n)) ((SortsAs-even a b (omega (arith, e))).decides x y)
        ∙ sym (then_assoc (R m n) (slice_cmp R a b) (slice_cmp R x y));
  }

  -- ---- what follows

  pub order_of : (a b : List A) (c : Ordering) → SortsAs a b c → slice_cmp R a b ≡ c
  order_of a b c s =
      (λ i. slice_cmp R (sym (append-nil a) i) (sym (append-nil b) i)) ∙ s.decides [] []
      ∙ then-Equal c
