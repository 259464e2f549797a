-- A server as the loops over sockets see it.
use Rattle.std.specs.Prelude.{◌≡◌, ◌⊎◌, ℕ, List, [], map}
use Rattle.page.specs.History.{History, KeepsWord}
use Rattle.server.specs.Turn.{Out, Turns, TurnFails, HandsOut}
use Rattle.server.specs.Causes.{IsCaused}
use Rattle.server.specs.History.{TakenBack}
use Rattle.server.specs.View.{state}
use Rattle.server.specs.Durable.{disk_history, moment_of, is_stopped}
use Rattle.server.specs.declared.turn.Core.{Core}
use Rattle.server.specs.declared.turn.TurnFault.TheVariants as turns

-- a turn that gave these replies and closed these connections
pub record TurnGives {D : Type 0} (history : D → History) (old : Core D)
    (replies : List (ℕ × List ℕ)) (closed : List ℕ) (new : Core D) : Type 0 where
  pub out : Out
  pub turns : KeepsWord (disk_history history new)
      → Turns (IsCaused (moment_of history old) (moment_of history new))
      (TakenBack (moment_of history old) (moment_of history new)) (state old)
      out (state new)
  -- on any disk: to whom its frames go
  pub hands_out : HandsOut (state old) out
  pub replies_are : replies ≡ out.replies
  pub closed_are : closed ≡ map (λ c. c.0) out.closed

-- a turn for which memory ran out before it took a message
pub record TurnWaits {D : Type 0} (history : D → History) (old : Core D)
    (replies : List (ℕ × List ℕ)) (closed : List ℕ) (new : Core D) : Type 0 where
  pub nothing : replies ≡ []
  pub none : closed ≡ []
  pub fails : TurnFails (KeepsWord (disk_history history new))
      (IsCaused (moment_of history old) (moment_of history new)) (state old)
      turns.Memory (is_stopped old) (state new)

abbrev pub IsAnswered : {D : Type 0} → (D → History) → Core D → List (ℕ × List ℕ) → List ℕ → Core D
    → Type 0
IsAnswered history old replies closed new =
    TurnGives history old replies closed new ⊎ TurnWaits history old replies closed new
