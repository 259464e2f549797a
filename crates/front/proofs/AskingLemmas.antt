-- What is asked is what is wanted.
use Rattle.std.proofs.Common.{◌≡◌, ◌≤◌, ℕ, true, List, [], length, Option, Some, None, refl, sym, ap, subst, ◌∙◌, inl, inr, append-nil}
use Rattle.std.specs.Prelude.{is_none, slice_set, Ok}
use Rattle.bson.specs.Limits.{message_limit}
use Rattle.bson.specs.Spelling.{frame_of, pairs_bytes}
use Rattle.bson.specs.Lawful.{IsDocument}
use Rattle.bson.specs.Tree.{Pairs}
use Rattle.bson_bytes.specs.Decoding.{document_at}
use Rattle.bson_bytes.proofs.TreeLaws.{document_again}
use Rattle.op_msg.specs.Request.{document_alone, document_in}
use Rattle.drivers.specs.Answering.{kill_command}
use Rattle.server.specs.ServerState.{ServerState}
use Rattle.driver_sockets.specs.Choosing.{loan_to_end}
use Rattle.driver_sockets.specs.Questions.{IsNoOther}
use Rattle.front.specs.Asking.{IsAskedOn, AsksWanted, EndsOn, EndsOne}
use Rattle.driver_sockets.specs.Lending.{loan_at, is_at_rest}
use Rattle.driver_sockets.specs.declared.lending.Loan.{Loan}
use Rattle.driver_sockets.specs.declared.open_cursors.OpenCursor.{OpenCursor}

the_same : (q w : Option Pairs) (command : Pairs) → IsNoOther q w → q ≡ Some command → w ≡ Some command
the_same None w command asks e = absurd cc
the_same (Some other) w command asks e = asks ∙ e

pub asked_wanted : (socket : Option ℕ) (q w : Option Pairs) (old new : List (Option Loan)) (before after : ServerState) → IsNoOther q w
    → AsksWanted socket q old new before after → AsksWanted socket w old new before after
asked_wanted socket q w old new before after asks (inl h) = inl h
asked_wanted socket q w old new before after asks (inr h) = inr (record {
  command = h.command;
  is = the_same q w h.command asks h.is;
  id = h.id;
  loan = h.loan;
  of = h.of;
  rest = h.rest;
  lent = h.lent;
  there = h.there;
  asked = h.asked;
})

-- a command is read again of its bytes
pub reads_again : (command : Pairs) → IsDocument command → length (frame_of (pairs_bytes command)) ≤ message_limit
    → document_in (frame_of (pairs_bytes command)) ≡ Ok command
reads_again command lawful fits =
    let bytes = frame_of (pairs_bytes command) in
    ap document_alone
    (ap document_at (sym (append-nil bytes)) ∙ document_again bytes command [] (record { lawful = lawful; spelled = refl; size = fits }))

-- ---- a cursor is ended

resting : (o : Option Loan) → is_none o ≡ true → o ≡ None
resting None e = refl
resting (Some loan) e = absurd cc

pub ends_on : (cursor : OpenCursor) (command : Pairs) (loan : Loan) (loans after : List (Option Loan)) (before now : ServerState)
    → is_at_rest loans cursor.owner ≡ true → command ≡ kill_command cursor.database cursor.collection cursor.id → loan ≡ loan_to_end cursor
    → after ≡ slice_set loans cursor.owner (Some loan) → IsAskedOn before cursor.owner command now → EndsOn cursor loans after before now
ends_on cursor command loan loans after before now rest made is lent asked = record {
  rest = resting (loan_at loans cursor.owner) rest;
  lent = lent ∙ ap (λ (l : Loan). slice_set loans cursor.owner (Some l)) is;
  asked = subst (λ (c : Pairs). IsAskedOn before cursor.owner c now) made asked;
}

-- it is the first that is to end
pub ends_first : (first : Option OpenCursor) (cursor : OpenCursor) (loans after : List (Option Loan)) (before now : ServerState) → Some cursor ≡ first
    → EndsOn cursor loans after before now → EndsOne first loans after before now
ends_first first cursor loans after before now is h = subst (λ (x : Option OpenCursor). EndsOne x loans after before now) is h

pub ends_none : (first : Option OpenCursor) (loans after : List (Option Loan)) (before now : ServerState) → None ≡ first → after ≡ loans → now ≡ before
    → EndsOne first loans after before now
ends_none first loans after before now is same still = subst (λ (x : Option OpenCursor). EndsOne x loans after before now) is (same, still)
