-- Steps of reading.
use Rattle.std.proofs.Common.{◌≡◌, ℕ, suc, ◌+◌, ◌<◌, ◌≤◌, Bool, true, false, List, [], ◌∷◌, length, drop, get_or, Option, Some, None, Result, Ok, Err}
use Rattle.std.proofs.Common.{Bor, refl, sym, ap, ◌∙◌, arith, drop-cons}
use Rattle.std.proofs.lemmas.Bool.{eqb-true}
use Rattle.bson.specs.View.{pairs_of}
use Rattle.bson.specs.declared.value.Pair.{Pair}
use Rattle.std.specs.Prelude.{◌≢◌, ◌==◌, if◌then◌else◌, option_map, MatchOption}
use Rattle.std.specs.Result.{IsErrAnd}
use Rattle.outcome.specs.Outcome.{Gives, ◌>>=◌}
use Rattle.path.specs.declared.refusal.Refusal.{Refusal}
use Rattle.path.specs.declared.refusal.Refusal.TheVariants as refusals
use Rattle.aggregate_model.specs.Operands.{only_pair, dollar_path}

-- what is left begins with the element at hand
pub drop_step : {X : Type 0} (xs : List X) (i : ℕ) (x : X) → i < length xs → x ≡ get_or xs i x → drop i xs ≡ x ∷ drop (i + 1) xs
drop_step xs i x within is =
    let next : suc i ≡ i + 1 = omega arith in
    drop-cons xs i x within ∙ (λ j. sym is j ∷ drop (next j) xs)

pub not_only : (ps : List Pair) → 2 ≤ length ps → only_pair (pairs_of ps) ≡ Err refusals.FailedToParse
not_only [] le = absurd (omega (arith, le))
not_only (p ∷ []) le = absurd (omega (arith, le))
not_only (p ∷ q ∷ ps) le = refl

-- a text that begins with a `$`
pub dollar : (bs : List ℕ) (r : Option (Bor (List ℕ))) → MatchOption r ((rest : List ℕ) → bs ≢ 36 ∷ rest) (λ x. bs ≡ 36 ∷ x.now)
    → option_map (λ t. t.now) r ≡ dollar_path bs
dollar [] None h = refl
dollar (b ∷ bs) None h = by (b == 36) refl
  where
    by : (t : Bool) → (b == 36) ≡ t → ◌≡◌ {A = Option (List ℕ)} None (if t then Some bs else None)
    by false e = refl
    by true e = absurd (h bs (ap (λ (x : ℕ). x ∷ bs) (eqb-true b 36 e)))
dollar bs (Some x) h = sym (ap dollar_path h)

-- an answer that passes a refusal on
pub refused : {A B : Type 0} (view : A → B) (planned : Result B Refusal) (r : Result A Refusal) (f : Refusal) → IsErrAnd r (λ e. e ≡ f)
    → (f ≢ refusals.OutOfMemory → planned ≡ Err f) → Gives refusals.OutOfMemory view r planned
refused view planned (Ok a) f is told = absurd is
refused view planned (Err e) f is told = λ known. told (λ same. known (is ∙ same)) ∙ ap Err (sym is)

-- What one element more makes of a state, in a loop that ends at the first that is refused.
module _ {X S Y : Type 0} (step : X → S → Result S Refusal) (run : List X → S → Result Y Refusal)
    (one : (x : X) (xs : List X) (s : S) → run (x ∷ xs) s ≡ (step x s >>= λ n. run xs n)) (xs : List X) (i : ℕ) (x : X) (s : S)
    (whole : Result Y Refusal) (lt : i < length xs) (is : x ≡ get_or xs i x) (so_far : run (drop i xs) s ≡ whole) where
  with_one : (step x s >>= λ n. run (drop (i + 1) xs) n) ≡ whole
  with_one = sym (ap (λ (ys : List X). run ys s) (drop_step xs i x lt is) ∙ one x (drop (i + 1) xs) s) ∙ so_far

  pub one_refused : (e : Refusal) → step x s ≡ Err e → whole ≡ Err e
  one_refused e gave = sym with_one ∙ ap (λ (p : Result S Refusal). p >>= λ n. run (drop (i + 1) xs) n) gave

  pub one_more : (n : S) → step x s ≡ Ok n → run (drop (i + 1) xs) n ≡ whole
  one_more n gave = sym (ap (λ (p : Result S Refusal). p >>= λ n. run (drop (i + 1) xs) n) gave) ∙ with_one
