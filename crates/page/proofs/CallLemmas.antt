-- How many calls of a disk are made, one after the other.
use Rattle.std.proofs.Common.{◌≡◌, ℕ, ◌+◌, ◌∙◌, Bool, arith}
use Rattle.std.specs.Prelude.{Result, Ok, Err, OnOk, is_ok}
use Rattle.page.specs.Calls.{MakesCalls}
use Rattle.page.specs.History.{History, KeepsWord, Ticks}

pub calls_all : {T E : Type 0} (result : Result T E) (old new : History) (n : ℕ) → (KeepsWord new → new.clock ≡ old.clock + n)
    → (KeepsWord new → OnOk result (new.failures ≡ old.failures)) → MakesCalls n result old new
calls_all (Ok x) old new n is clear = record { done = is; clear = clear; most = λ keeps. omega (arith, is keeps) }
calls_all (Err e) old new n is clear = record { done = λ keeps. tt; clear = clear; most = λ keeps. omega (arith, is keeps) }

-- one call more, behind calls none of which failed
pub clear_call : {writes : Bool} {T E : Type 0} (a b c : History) (result : Result T E) → Ticks writes b c (is_ok result)
    → (KeepsWord b → b.failures ≡ a.failures) → KeepsWord c → OnOk result (c.failures ≡ a.failures)
clear_call a b c (Ok x) tick so_far keeps = tick.failures keeps ∙ so_far (tick.kept keeps)
clear_call a b c (Err e) tick so_far keeps = tt

pub no_calls : {T E : Type 0} (e : E) (h : History) (n : ℕ) → MakesCalls {T = T} {E = E} n (Err e) h h
no_calls e h n = record { done = λ keeps. tt; clear = λ keeps. tt; most = λ keeps. omega arith }

-- those of two runs, of which the first was done
pub calls_further : {S T E F : Type 0} (value : S) (result : Result T F) (a b c : History) (m n : ℕ) → (KeepsWord c → KeepsWord b)
    → MakesCalls {T = S} {E = E} m (Ok value) a b → MakesCalls n result b c → MakesCalls (m + n) result a c
calls_further value (Ok x) a b c m n kept first second = record {
  done = λ keeps.
      let one : b.clock ≡ a.clock + m = first.done (kept keeps) in
      let other : c.clock ≡ b.clock + n = second.done keeps in omega arith;
  clear = λ keeps. second.clear keeps ∙ first.clear (kept keeps);
  most = λ keeps. omega (arith, first.most (kept keeps), second.most keeps);
}
calls_further value (Err e) a b c m n kept first second = record {
  done = λ keeps. tt;
  clear = λ keeps. tt;
  most = λ keeps. omega (arith, first.most (kept keeps), second.most keeps);
}
