-- Lists of sockets, and the frames that are handed out for one of them.
use Rattle.std.proofs.Common.{◌≡◌, ◌≢◌, ℕ, zero, suc, ◌+◌, ◌<◌, true, false, List, [], ◌∷◌, ◌++◌, get_or, map, replicate, Option, Some, None}
use Rattle.std.proofs.Common.{refl, ap, ◌∙◌, arith, append_assoc}
use Rattle.std.specs.Prelude.{Bool, Vec, ◌==◌, if◌then◌else◌, option_to_list}
use Rattle.std.proofs.lemmas.Bool.Decides.{nat_tests}
use Rattle.driver_sockets.specs.Serving.{answered, HaveGrown, fresh}
use Rattle.front.specs.Fronting.{answers_from, frame_to}
use Rattle.front.specs.Running.{frames_to}
use Rattle.driver_sockets.specs.declared.socket.Socket.{Socket}
use Rattle.front.proofs.ServedLemmas.{ready}

-- ---- lists of sockets and frames

pub answered_at : (ss : List Socket) (n : ℕ) → get_or (map answered ss) n fresh ≡ answered (get_or ss n fresh)
answered_at [] n = refl
answered_at (s ∷ ss) zero = refl
answered_at (s ∷ ss) (suc n) = answered_at ss n

fresh_at : (count n : ℕ) → get_or (replicate count fresh) n fresh ≡ fresh
fresh_at zero n = refl
fresh_at (suc count) zero = refl
fresh_at (suc count) (suc n) = fresh_at count n

more_fresh : (ss : List Socket) (count n : ℕ) → get_or (ss ++ replicate count fresh) n fresh ≡ get_or ss n fresh
more_fresh [] count n = fresh_at count n
more_fresh (s ∷ ss) count zero = refl
more_fresh (s ∷ ss) count (suc n) = more_fresh ss count n

pub grown_at : (old there : List Socket) (n : ℕ) → HaveGrown old there → get_or there n fresh ≡ get_or old n fresh
grown_at old there n h = ap (λ (ss : List Socket). get_or ss n fresh) h.grown ∙ more_fresh old h.count n

pub with_chunk : (its : Bool) (bytes chunk later : List ℕ)
    → (if its then bytes ++ chunk else bytes) ++ later ≡ bytes ++ (if its then chunk ++ later else later)
with_chunk true bytes chunk later = append_assoc bytes chunk later
with_chunk false bytes chunk later = refl

pub frames_both : (n : ℕ) (a b : List (ℕ × List ℕ)) → frames_to n (a ++ b) ≡ frames_to n a ++ frames_to n b
frames_both n [] b = refl
frames_both n (f ∷ fs) b = at (f.0 == n) (frames_both n fs b)
  where
    at : (its : Bool) → frames_to n (fs ++ b) ≡ frames_to n fs ++ frames_to n b → (if its then f.1 ∷ frames_to n (fs ++ b) else frames_to n (fs ++ b))
        ≡ (if its then f.1 ∷ frames_to n fs else frames_to n fs) ++ frames_to n b
    at true later = ap (λ (gs : List (List ℕ)). f.1 ∷ gs) later
    at false later = later

another : {Z : Type 0} (n i : ℕ) (answer : Option (Vec ℕ Z)) (rest : List (ℕ × List ℕ)) → i ≢ n
    → frames_to n (frame_to i answer ++ rest) ≡ frames_to n rest
another n i None rest apart = refl
another n i (Some frame) rest apart =
    let other : (i == n) ≡ false = grind (arith, nat_tests) in
    ap (λ (b : Bool). if b then frame.items ∷ frames_to n rest else frames_to n rest) other

none_before : (n i : ℕ) (ss : List Socket) → n < i → frames_to n (answers_from i ss) ≡ []
none_before n i [] less = refl
none_before n i (s ∷ ss) less =
    another n i s.answer (answers_from (i + 1) ss) (λ e. absurd (omega (arith, e, less))) ∙ none_before n (i + 1) ss (omega (arith, less))

frames_from : (i : ℕ) (ss : List Socket) (k : ℕ) → frames_to (i + k) (answers_from i ss) ≡ option_to_list (ready (get_or ss k fresh).answer)
frames_from i [] k = refl
frames_from i (s ∷ ss) zero =
    ap (λ (n : ℕ). frames_to n (frame_to i s.answer ++ answers_from (i + 1) ss)) (omega arith) ∙ at s.answer
  where
    at : {Z : Type 0} (answer : Option (Vec ℕ Z)) → frames_to i (frame_to i answer ++ answers_from (i + 1) ss) ≡ option_to_list (ready answer)
    at None = none_before i (i + 1) ss (omega arith)
    at (Some frame) =
        let same : (i == i) ≡ true = grind (arith, nat_tests) in
        ap (λ (b : Bool). if b then frame.items ∷ frames_to i (answers_from (i + 1) ss) else frames_to i (answers_from (i + 1) ss)) same
        ∙ ap (λ (fs : List (List ℕ)). frame.items ∷ fs) (none_before i (i + 1) ss (omega arith))
frames_from i (s ∷ ss) (suc k) =
    another (i + suc k) i s.answer (answers_from (i + 1) ss) (λ e. absurd (omega (arith, e)))
    ∙ ap (λ (n : ℕ). frames_to n (answers_from (i + 1) ss)) (omega arith) ∙ frames_from (i + 1) ss k

pub frames_of_one : (ss : List Socket) (n : ℕ) → frames_to n (answers_from 0 ss) ≡ option_to_list (ready (get_or ss n fresh).answer)
frames_of_one ss n =
    let from : n ≡ 0 + n = omega arith in
    ap (λ (m : ℕ). frames_to m (answers_from 0 ss)) from ∙ frames_from 0 ss n
