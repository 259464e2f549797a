-- A frame whose body is written over.
use Rattle.std.proofs.Common.{◌≡◌, ℕ, ◌+◌, ◌-◌, ◌≤◌, List, [], ◌++◌, length, take, drop, ap, refl, ◌∙◌, arith, append-nil, length-drop}
use Rattle.std.proofs.lemmas.List.{drop_all, take_all, drop-take, take-append-le, length-take}
use Rattle.std.proofs.Math.Seq.{take-add}
use Rattle.op_msg.specs.Request.{le_32, frame_bytes, respelled}

module _ (frame body : List ℕ) (room : length body + 21 ≡ length frame) where
  abbrev ahead : List ℕ
  ahead = le_32 (length body + 21) ++ drop 4 frame

  pub written : take 21 ahead ++ (body ++ drop (length ahead - 21) (drop 21 ahead)) ≡ respelled frame body
  written =
      let none : drop (length ahead - 21) (drop 21 ahead) ≡ [] = drop_all (length ahead - 21) (drop 21 ahead) (omega (arith, length-drop 21 ahead)) in
      ap (λ (rest : List ℕ). take 21 ahead ++ (body ++ rest)) none
      ∙ ap (λ (b : List ℕ). take 21 ahead ++ b) (append-nil body)

-- what stands between the length and the body, of a front of the frame
between : (xs : List ℕ) (m : ℕ) → 21 + m ≤ length xs → take 17 (drop 4 (take (21 + m) xs)) ≡ take 17 (drop 4 xs)
between xs m within =
    let split : 21 + m ≡ 4 + (17 + m) = omega arith in
    let some : length (take 17 (drop 4 xs)) ≡ 17 = omega (arith, length-take 17 (drop 4 xs), length-drop 4 xs) in
    ap (λ (n : ℕ). take 17 (drop 4 (take n xs))) split ∙ ap (take 17) (drop-take 4 (17 + m) xs ∙ take-add 17 m (drop 4 xs))
    ∙ take-append-le 17 (take 17 (drop 4 xs)) (take m (drop 17 (drop 4 xs))) (omega (arith, some)) ∙ take_all 17 (take 17 (drop 4 xs)) (omega (arith, some))

pub respelled_front : (frame body new rest : List ℕ) (n : ℕ) → length body + 21 ≤ length frame → n ≡ length body + 21 → length new ≡ n
    → new ≡ respelled (take n frame) body
    → take n (new ++ rest) ≡ respelled frame body
respelled_front frame body new rest n within is same e =
    let more : n ≡ 21 + length body = omega arith in
    take-append-le n new rest (omega arith) ∙ take_all n new (omega arith) ∙ e ∙ ap (λ (m : ℕ). respelled (take m frame) body) more
    ∙ ap (λ (b : List ℕ). le_32 (length body + 21) ++ (b ++ body)) (between frame (length body) (omega arith))

-- the frame of one body becomes that of another
pub respelled_frame : (number request : ℕ) (old new : List ℕ) → respelled (frame_bytes number request old) new ≡ frame_bytes number request new
respelled_frame number request old new = refl
