-- What is done to each of a list, one after the other.
use Rattle.std.proofs.Common.{◌≡◌, ℕ, zero, suc, ◌<◌, List, [], ◌∷◌, length, take, drop, get_or, set, map, ◌∙◌, ap, arith}

head_is : {X : Type 0} → (x y : X) (xs ys : List X) → x ∷ xs ≡ y ∷ ys → x ≡ y
head_is x y xs ys e = cc

tail_is : {X : Type 0} → (x y : X) (xs ys : List X) → x ∷ xs ≡ y ∷ ys → xs ≡ ys
tail_is x y xs ys e = cc

-- one more
pub record IsOneMore {X : Type 0} (f : X → X) (now first : List X) (i : ℕ) : Type 0 where
  pub done : take (suc i) now ≡ map f (take (suc i) first)
  pub left : drop (suc i) now ≡ drop (suc i) first

pub one_more : {X : Type 0} (f : X → X) (now first : List X) (i : ℕ) (any new : X) → i < length now → take i now ≡ map f (take i first)
    → drop i now ≡ drop i first → new ≡ f (get_or now i any) → IsOneMore f (set now i new) first i
one_more f [] first i any new within t d n = absurd (omega arith)
one_more f (m ∷ ms) [] zero any new within t d n = absurd cc
one_more f (m ∷ ms) [] (suc i) any new within t d n = absurd cc
one_more f (m ∷ ms) (g ∷ gs) zero any new within t d n = record {
  done = λ k. (n ∙ ap f (head_is m g ms gs d)) k ∷ [];
  left = tail_is m g ms gs d;
}
one_more f (m ∷ ms) (g ∷ gs) (suc i) any new within t d n =
    let s = one_more f ms gs i any new (omega arith) (tail_is m (f g) (take i ms) (map f (take i gs)) t) d n in
    record { done = λ k. head_is m (f g) (take i ms) (map f (take i gs)) t k ∷ s.done k; left = s.left }
