-- What a test decides, from what its parts do.
use Rattle.std.proofs.Common.{◌≡◌, ◌≢◌, ℕ, suc, ◌≤◌, Bool, true, false, not, ◌&&◌, List, [], ◌∷◌, All, AllPairs, Decides, refl, arith}
use Rattle.std.specs.Prelude.{◌==◌, nat_le, IsUtf8}
use Rattle.std.specs.List.{list_all}
use Rattle.std.specs.Ordering.{is_lt}
use Rattle.std.specs.Str.{is_utf8}
use Rattle.std.specs.declared.cmp.Ordering.{Ordering}
use Rattle.std.specs.declared.cmp.Ordering.TheVariants as orders
use Rattle.std.proofs.lemmas.Bool.{le-leb, leb-true}
use Rattle.std.proofs.lemmas.Bool.Decides.{Decides-and, Decides-by_and, Decides-eqb, Decides-like, Decides-not}
use Rattle.std.proofs.lemmas.List.Kept.{AllPairs-cons}
use Rattle.std.proofs.lemmas.Str.{IsUtf8-from_is_utf8, is_utf8-from_IsUtf8}
use Rattle.entry_model.proofs.LawfulLaws.{all_of}
use Rattle.entry_model.proofs.MemberLemmas.{Among, of_all}
use Rattle.file_state.specs.StateTests.{all_pairs, implies}

infixl 35 ◌also◌
pub ◌also◌ : {P Q : Type 0} {x y : Bool} → Decides x P → Decides y Q → Decides (x && y) (P × Q)
◌also◌ {P} {Q} {x} {y} d k = Decides-and x y d k

-- where the second is tested if the first holds
pub given_tested : {P Q : Type 0} (x y : Bool) → Decides x P → (P → Decides y Q) → Decides (x && y) (P × Q)
given_tested true y d k = (λ e. (d.0 refl, (k (d.0 refl)).0 e), λ h. (k h.0).1 h.1)
given_tested false y d k = (λ e. absurd cc, λ h. d.1 h.0)

pub le_tested : (a b : ℕ) → Decides (nat_le a b) (a ≤ b)
le_tested a b = (leb-true a b, le-leb a b)

pub utf8_tested : (text : List ℕ) → Decides (is_utf8 text) (IsUtf8 text)
utf8_tested text = (IsUtf8-from_is_utf8 text, is_utf8-from_IsUtf8 text)

pub less_tested : (o : Ordering) → Decides (is_lt o) (o ≡ orders.Less)
less_tested orders.Less = (λ e. refl, λ e. refl)
less_tested orders.Equal = (λ e. absurd cc, λ e. absurd cc)
less_tested orders.Greater = (λ e. absurd cc, λ e. absurd cc)

pub unequal_tested : (a b : ℕ) → Decides (not (a == b)) (a ≢ b)
unequal_tested a b = Decides-not (a == b) (Decides-eqb a b)

pub false_tested : (b : Bool) → Decides (not b) (b ≡ false)
false_tested true = (λ e. absurd cc, λ e. absurd cc)
false_tested false = (λ e. refl, λ e. refl)

pub true_tested : (b : Bool) → Decides b (b ≡ true)
true_tested b = (λ e. e, λ e. e)

pub implied_tested : {P : Type 0} (a b : Bool) → Decides b P → Decides (implies a b) (a ≡ true → P)
implied_tested true b d = (λ e same. d.0 e, λ h. d.1 (h refl))
implied_tested false b d = (λ e same. absurd cc, λ h. refl)

-- ---- lists

pub all_tested : {X : Type 0} (p : X → Bool) (P : X → Type 0) → ((x : X) → Decides (p x) (P x)) → (xs : List X) → Decides (list_all p xs) (All P xs)
all_tested p P each xs = Decides-by_and p P (list_all p) each refl (λ _ _. refl) xs

-- where each that stands there is tested
pub among_tested : {X : Type 0} (p : X → Bool) (P : X → Type 0) (xs : List X) → ((x : X) → Among x xs → Decides (p x) (P x))
    → Decides (list_all p xs) (All P xs)
among_tested p P xs each =
    Decides-like (list_all p xs) (λ h. all_of P xs (λ x there. (each x there).0 (of_all (λ y. p y ≡ true) xs x h there)))
    (λ h. all_of (λ y. p y ≡ true) xs (λ x there. (each x there).1 (of_all P xs x h there)))
    (all_tested p (λ y. p y ≡ true) (λ y. true_tested (p y)) xs)

pub all_pairs_tested : {X : Type 0} (p : X → X → Bool) (R : X → X → Type 0) → ((x y : X) → Decides (p x y) (R x y))
    → (xs : List X) → Decides (all_pairs p xs) (AllPairs R xs)
all_pairs_tested p R each [] = (λ e i j d lt below. absurd (omega (arith, below)), λ h. refl)
all_pairs_tested p R each (x ∷ xs) =
    Decides-like (list_all (p x) xs && all_pairs p xs) (λ h. AllPairs-cons R x xs h.0 h.1)
    (λ h. (λ k d below. h 0 (suc k) d (omega arith) (omega (arith, below)), λ i j d lt below. h (suc i) (suc j) d (omega (arith, lt)) (omega (arith, below))))
    (all_tested (p x) (R x) (each x) xs also all_pairs_tested p R each xs)
