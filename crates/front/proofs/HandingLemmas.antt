-- Answers that are handed out one after the other.
use Rattle.std.proofs.Common.{◌≡◌, ℕ, ◌+◌, ◌<◌, List, [], ◌∷◌, ◌++◌, length, drop, slice_index_or, refl, sym, ap, subst, ◌∙◌, add-one, drop-cons}
use Rattle.sockets.specs.Handing.{Hands}
use Rattle.front.specs.Fronting.{frame_to, answers_from}
use Rattle.driver_sockets.specs.declared.socket.Socket.{Socket}

pub hands_on : {O : Type 0} (is_given : O → ℕ → List ℕ → O → Type 0) (rs ss : List (ℕ × List ℕ)) (before between after : O) → Hands is_given rs before between
    → Hands is_given ss between after → Hands is_given (rs ++ ss) before after
hands_on is_given [] ss before between after h k = subst (λ o. Hands is_given ss o after) h k
hands_on is_given (r ∷ rs) ss before between after h k = (h.0, h.1, hands_on is_given rs ss h.0 between after h.2 k)

next : (ss : List Socket) (i : ℕ) (any : Socket) → i < length ss → drop i ss ≡ slice_index_or ss i any ∷ drop (i + 1) ss
next ss i any h = rw (add-one, drop-cons ss i any) refl

tail_is : (x y : Socket) (xs ys : List Socket) → x ∷ xs ≡ y ∷ ys → xs ≡ ys
tail_is x y xs ys e = cc

-- the answer of one socket, and those behind it
pub answers_at : (now first : List Socket) (i : ℕ) (any : Socket) → i < length now → i < length first → drop i now ≡ drop i first
    → answers_from i (drop i first) ≡ frame_to i (slice_index_or now i any).answer ++ answers_from (i + 1) (drop (i + 1) first)
answers_at now first i any h k left =
    let x = slice_index_or now i any in
    let rest : drop (i + 1) now ≡ drop (i + 1) first = tail_is x (slice_index_or first i any) _ _ (sym (next now i any h) ∙ left ∙ next first i any k) in
    ap (answers_from i) (sym left ∙ next now i any h)
    ∙ ap (λ (ss : List Socket). frame_to i x.answer ++ answers_from (i + 1) ss) rest
