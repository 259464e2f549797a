-- What is done with one socket.
use Rattle.std.proofs.Common.{◌≡◌, ℕ, ◌+◌, ◌≤◌, Bool, true, false, List, length, Option, Some, None, refl, sym, subst, arith}
use Rattle.std.proofs.lemmas.Bool.{le-ltb}
use Rattle.bson.specs.Limits.{message_limit}
use Rattle.bson.specs.Spelling.{frame_of, pairs_bytes}
use Rattle.bson.specs.Tree.{Pairs}
use Rattle.driver_messages.specs.Incoming.{next_message}
use Rattle.drivers.specs.declared.server_info.ServerInfo.{ServerInfo}
use Rattle.driver_sockets.specs.Choosing.{connection_for}
use Rattle.front.specs.OneSocket.{is_held, is_long, AsksBy, Asking, AsksOrRefuses, AsksUnless, IsAsked, IsSeatRefused, Seat, Serves}
use Rattle.driver_sockets.specs.Questions.{pending}
use Rattle.driver_sockets.specs.Replying.{Begins}
use Rattle.driver_sockets.specs.declared.job.Question.{Question}
use Rattle.driver_sockets.specs.declared.open_cursors.OpenCursor.{OpenCursor}
use Rattle.driver_sockets.specs.declared.socket.Socket.{Socket}

-- ---- nothing is asked

pub asks_nothing : (number : ℕ) (cursors : List OpenCursor) (old new : Seat) (p : Option Question) → p ≡ None → new ≡ old → Asking number cursors p old new
asks_nothing number cursors old new p none same = subst (λ (q : Option Question). Asking number cursors q old new) (sym none) same

pub asks_later : (number : ℕ) (cursors : List OpenCursor) (old new : Seat) (p : Option Question) (question : Question) → p ≡ Some question
    → connection_for old.loans cursors question ≡ None → new ≡ old → Asking number cursors p old new
asks_later number cursors old new p question wants none same =
    subst (λ (q : Option Question). Asking number cursors q old new) (sym wants)
    (subst (λ (id : Option ℕ). AsksBy id number question old new) (sym none) same)

-- ---- it is

short : (command : Pairs) → length (frame_of (pairs_bytes command)) + 21 ≤ message_limit → is_long command ≡ false
short command fits = le-ltb 1048555 (length (frame_of (pairs_bytes command))) (omega (arith, fits))

pub asks_it : (number id : ℕ) (cursors : List OpenCursor) (old new : Seat) (p : Option Question) (question : Question) → p ≡ Some question
    → connection_for old.loans cursors question ≡ Some id → IsAsked number id question old new → Asking number cursors p old new
asks_it number id cursors old new p question wants found asked =
    subst (λ (q : Option Question). Asking number cursors q old new) (sym wants)
    (subst (λ (i : Option ℕ). AsksBy i number question old new) (sym found)
    (subst (λ (b : Bool). AsksOrRefuses b number id question old new) (sym (short question.command asked.asked.room)) asked))

-- it has no room
pub asks_long : (number id : ℕ) (cursors : List OpenCursor) (old new : Seat) (p : Option Question) (question : Question) → p ≡ Some question
    → connection_for old.loans cursors question ≡ Some id → is_long question.command ≡ true → IsSeatRefused old new → Asking number cursors p old new
asks_long number id cursors old new p question wants found long refused =
    subst (λ (q : Option Question). Asking number cursors q old new) (sym wants)
    (subst (λ (i : Option ℕ). AsksBy i number question old new) (sym found)
    (subst (λ (b : Bool). AsksOrRefuses b number id question old new) (sym long) refused))

-- ---- the whole

pub serves_held : (info : ServerInfo) (number : ℕ) (cursors : List OpenCursor) (old : Seat) (begun : Socket)
    → Begins info old.socket old.socket.is_over old.socket.job (next_message old.socket.incoming) begun → is_held (record old { socket = begun }) ≡ true
    → Serves info number cursors old (record old { socket = begun })
serves_held info number cursors old begun begins held = record {
  begun = begun;
  begins = begins;
  asks = subst (λ (b : Bool). AsksUnless b number cursors (record old { socket = begun }) (record old { socket = begun })) (sym held) refl;
}

pub serves_on : (info : ServerInfo) (number : ℕ) (cursors : List OpenCursor) (old new : Seat) (begun : Socket)
    → Begins info old.socket old.socket.is_over old.socket.job (next_message old.socket.incoming) begun → is_held (record old { socket = begun }) ≡ false
    → Asking number cursors (pending begun.job) (record old { socket = begun }) new → Serves info number cursors old new
serves_on info number cursors old new begun begins free asks = record {
  begun = begun;
  begins = begins;
  asks = subst (λ (b : Bool). AsksUnless b number cursors (record old { socket = begun }) new) (sym free) asks;
}
