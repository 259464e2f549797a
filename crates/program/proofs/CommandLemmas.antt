-- What a command comes to, by what its turn answered.
use Rattle.std.proofs.Common.{◌≡◌, inr, ℕ, ◌-◌, List, [], ◌∷◌, length, drop, true, false, sym, subst, ◌∙◌, arith}
use Rattle.std.proofs.lemmas.List.{length-drop, take_all}
use Rattle.std.specs.Prelude.{◌≢◌, Result, Ok, Err, OnErr, Option, Some, IfOk, IfErr, Vec, is_err, slice_get, slice_range}
use Rattle.bson.specs.Tree.{Pairs}
use Rattle.op_msg.specs.Request.{document_in, reply_bytes}
use Rattle.page.specs.History.{History}
use Rattle.server.specs.Durable.{is_stopped}
use Rattle.server.specs.ServerState.{fed}
use Rattle.server.specs.View.{state, frames_in}
use Rattle.server.specs.declared.connection.FeedFault.{FeedFault}
use Rattle.server.specs.declared.connection.FeedFault.TheVariants as feeds
use Rattle.server.specs.declared.turn.Core.{Core}
use Rattle.server.specs.declared.turn.TurnOut.{TurnOut}
use Rattle.shell.specs.declared.database.DatabaseFault.{DatabaseFault}
use Rattle.shell.specs.declared.database.DatabaseFault.TheVariants as faults
use Rattle.program.specs.InProcess.{AnswersCommand, Says, TakesCommand}

module _ {D : Type 0} (history : D → History) (old : Core D) (command : Pairs) (new : Core D) (out : TurnOut)
    (runs : is_stopped old ≡ false) (taken : TakesCommand history old command (Ok out) new) where
  -- the turn answered: its reply was read, or found no memory
  pub answered : (r : Result Pairs DatabaseFault) → IfOk r (Says (frames_in out.replies.items)) → IfErr r (λ fault. fault ≡ faults.Memory)
      → AnswersCommand history old command r new
  answered (Ok reply) says why = (out, taken, says)
  answered (Err faults.Memory) says why = (runs, inr (out, taken))
  answered (Err faults.TooLarge) says why = absurd cc
  answered (Err faults.Stopped) says why = absurd cc

-- the bytes were taken, so the command waits
pub asked_of : {D : Type 0} (old asked : Core D) (id : ℕ) (bytes : List ℕ) (command : Pairs) (r : Result (Unit {0}) FeedFault) → is_err r ≡ false
    → (r ≢ Err feeds.Memory → state asked ≡ fed (state old) id bytes) → id ≡ 0 → bytes ≡ reply_bytes 1 0 command
    → state asked ≡ fed (state old) 0 (reply_bytes 1 0 command)
asked_of old asked id bytes command (Ok done) fine took first is = took (λ e. absurd cc) ∙ (λ i. fed (state old) (first i) (is i))
asked_of old asked id bytes command (Err e) fine took first is = absurd cc

pub when_err : {P : Type 0} (r : Result (Unit {0}) FeedFault) → is_err r ≡ true → OnErr r P → P
when_err (Ok done) e h = absurd cc
when_err (Err f) e h = h

pub says_first : {Z : Type 0} (items : List (ℕ × Vec ℕ Z)) (x : ℕ × Vec ℕ Z) (reply : Pairs) → Some x ≡ slice_get items 0
    → document_in (drop 21 x.1.items) ≡ Ok reply → Says (frames_in items) reply
says_first {Z} [] x reply e h = absurd cc
says_first {Z} (y ∷ ys) x reply e h = let same : x ≡ y = cc in subst (λ (z : ℕ × Vec ℕ Z). document_in (drop 21 z.1.items) ≡ Ok reply) same h

pub range_behind : (xs ys : List ℕ) (n : ℕ) → ys ≡ slice_range xs n (length xs) → drop n xs ≡ ys
range_behind xs ys n e = sym (take_all (length xs - n) (drop n xs) (omega (arith, length-drop n xs))) ∙ sym e
