-- A turn of a front, put together of its parts.
use Rattle.std.proofs.Common.{◌≡◌, ℕ, suc, ◌+◌, ◌<◌, List, ◌∷◌, ◌++◌, length, take, drop, set, slice_index_or, map, Option, None, refl}
use Rattle.std.proofs.Common.{sym, ap, subst, ◌∙◌, inl, inr, ◌⊎◌, arith, add-one, drop-cons}
use Rattle.std.specs.Prelude.{Result, Ok, Err, OnOk, OnErr, Vec}
use Rattle.server.specs.ServerState.{ServerState, ended}
use Rattle.server.specs.View.{frames_in}
use Rattle.driver_sockets.specs.Serving.{answered, OthersStay}
use Rattle.front.specs.Fronting.{answers_from, closed_from, HandsOut}
use Rattle.driver_sockets.specs.Lending.{loan_at, borrower}
use Rattle.driver_sockets.specs.Replying.{Becomes, IsClosed, TakesFrame}
use Rattle.front.specs.Rounds.{EndsEach, EndsFirst, Floor, TakesEach, TakesOne}
use Rattle.front.specs.Turning.{Desk}
use Rattle.front.specs.Unread.{HaveReplies}
use Rattle.driver_sockets.specs.declared.lending.Lending.{Lending}
use Rattle.driver_sockets.specs.declared.lending.Loan.{Loan}
use Rattle.driver_sockets.specs.declared.socket.Socket.{Socket}
use Rattle.std.proofs.lemmas.List.{length-map}
use Rattle.driver_sockets.proofs.TyingLemmas.{written}
use Rattle.front.proofs.UnreadLemmas.{replies_left}

-- ---- cursors are ended

pub ends_more : (times : ℕ) (first now new : Desk) → EndsEach times first now → EndsFirst now new → EndsEach (times + 1) first new
ends_more times first now new h one =
    let next : suc times ≡ times + 1 = omega arith in
    subst (λ (n : ℕ). EndsEach n first new) next (now, h, one)

pub ends_still : (times : ℕ) (first now : Desk) (lending after : Lending) (server : ServerState) → EndsEach times first now
    → after ≡ lending → now.loans ≡ lending.loans → server ≡ now.server
    → EndsEach times first (record now { loans = after.loans; server = server })
ends_still times first now lending after server h same is still =
    subst (EndsEach times first) (λ i. record now { loans = (is ∙ ap (λ (l : Lending). l.loans) (sym same)) i; server = sym still i }) h

-- ---- the replies are taken, one after the other

pub next_of : {X : Type 0} (xs : List X) (i : ℕ) (any : X) → i < length xs → drop i xs ≡ slice_index_or xs i any ∷ drop (i + 1) xs
next_of xs i any h = rw (add-one, drop-cons xs i any) refl

takes_by : {A E P Q S T : Type 0} (r : Result A E) → OnOk r P → OnErr r Q → OnOk r S → OnErr r T → (P × S) ⊎ (Q × T)
takes_by (Ok x) p q s t = inl (p, s)
takes_by (Err e) p q s t = inr (q, t)

-- what one of them does with the sockets, which are lent as a slice
pub takes_one : {A E : Type 0} (r : Result A E) (id : ℕ) (frame : List ℕ) (loans after : List (Option Loan)) (len : ℕ) (ss given new : List Socket)
    (before now : ServerState) → given ≡ ss → length given ≡ len → after ≡ set loans id None → OthersStay given (borrower (loan_at loans id)) new
    → OnOk r (TakesFrame frame given (borrower (loan_at loans id)) new) → OnErr r (Becomes given (borrower (loan_at loans id)) IsClosed new)
    → OnOk r (now ≡ before) → OnErr r ((now ≡ before) ⊎ (now ≡ ended before id))
    → TakesOne id frame (record { loans = loans; sockets = ss; server = before })
    (record { loans = after; sockets = take len (new ++ drop (length new) ss); server = now })
takes_one r id frame loans after len ss given new before now same fits rest stay takes closes still begins =
    subst (λ (ls : List Socket). TakesOne id frame (floor loans ss before) (floor after ls now)) (sym (written len ss new others.length all))
    (subst (λ (os : List Socket). TakesOne id frame (floor loans os before) (floor after new now)) same (record {
      rest = rest;
      others = stay;
      takes = takes_by r takes closes still begins;
    }))
  where
    floor : List (Option Loan) → List Socket → ServerState → Floor
    floor lent sockets server = record { loans = lent; sockets = sockets; server = server }

    others : OthersStay ss (borrower (loan_at loans id)) new
    others = subst (λ (os : List Socket). OthersStay os (borrower (loan_at loans id)) new) same stay

    all : length ss ≡ len
    all = ap length (sym same) ∙ fits

pub takes_on : {Z : Type 0} (items : List (ℕ × Vec ℕ Z)) (i : ℕ) (any : ℕ × Vec ℕ Z) (old mid last : Floor) → i < length items
    → TakesOne (slice_index_or items i any).0 (slice_index_or items i any).1.items old mid → TakesEach (frames_in (drop (i + 1) items)) mid last
    → TakesEach (frames_in (drop i items)) old last
takes_on items i any old mid last h one rest =
    subst (λ fs. TakesEach (frames_in fs) old last) (sym (next_of items i any h)) (mid, one, rest)

pub left_on : {F : Type 0} (items : List (ℕ × F)) (i : ℕ) (any : ℕ × F) (loans after : List (Option Loan)) → i < length items
    → after ≡ set loans (slice_index_or items i any).0 None → HaveReplies loans (drop i items) → HaveReplies after (drop (i + 1) items)
left_on {F} items i any loans after h is have =
    let x : ℕ × F = slice_index_or items i any in
    replies_left loans after x.0 x.1 (drop (i + 1) items) is (subst (HaveReplies loans) (next_of items i any h) have)

-- ---- the answers are handed out

pub hands_out : (len : ℕ) (ss given new : List Socket) (replies : List (ℕ × List ℕ)) (closed : List ℕ) → given ≡ ss → length given ≡ len
    → new ≡ map answered given → replies ≡ answers_from 0 given → closed ≡ closed_from 0 (take len (new ++ drop (length new) ss))
    → HandsOut ss replies closed (take len (new ++ drop (length new) ss))
hands_out len ss given new replies closed same fits is answers over = record {
  answers = answers ∙ ap (answers_from 0) same;
  given = written len ss new (ap length all ∙ length-map ss answered) (ap length (sym same) ∙ fits) ∙ all;
  over = over;
}
  where
    all : new ≡ map answered ss
    all = is ∙ ap (map answered) same
