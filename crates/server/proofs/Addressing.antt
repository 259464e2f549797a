-- To whom the frames of one step go, and those of more.
use Rattle.std.proofs.Common.{◌≡◌, ℕ, List, [], ◌∷◌, ◌++◌, refl, sym, ◌∙◌, ap, subst, append_assoc, append-nil}
use Rattle.server.specs.ServerState.{ServerState, feed_connections, drop_connection}
use Rattle.server.specs.Turn.{Out, HandsOut, calls, connections_after, frames_of}
use Rattle.server.specs.Addressed.{Addresses}
use Rattle.server.specs.declared.connection.Connection.{Connection}
use Rattle.server.specs.declared.step.Step.{Step}
use Rattle.server.specs.declared.step.Step.TheVariants as steps

-- some steps and then others
pub addresses_on : (first later : List Step) (a b c : List Connection) (given others : List (ℕ × List ℕ)) → Addresses a first given b
    → Addresses b later others c → Addresses a (first ++ later) (given ++ others) c
addresses_on [] later a b c given others h k =
    subst (λ (fs : List (ℕ × List ℕ)). Addresses a later (fs ++ others) c) (sym h.0) (subst (λ (s : List Connection). Addresses s later others c) h.1 k)
addresses_on (steps.Bytes id chunk ∷ first) later a b c given others h k =
    addresses_on first later (feed_connections a id chunk.items) b c given others h k
addresses_on (steps.Gone id ∷ first) later a b c given others h k = addresses_on first later (drop_connection a id) b c given others h k
addresses_on (steps.Turn ∷ first) later a b c given others h k = (
  h.0,
  h.1 ++ others,
  h.2,
  ap (λ (fs : List (ℕ × List ℕ)). fs ++ others) h.3 ∙ append_assoc (frames_of (calls a) h.0) h.1 others,
  addresses_on first later (connections_after a) b c h.1 others h.4 k,
)

-- a turn that answers
pub one_addressed : (old : ServerState) (out : Out) (left : List Connection) → HandsOut old out → left ≡ connections_after old.connections
    → Addresses old.connections (steps.Turn ∷ []) out.replies left
one_addressed old out left h leaves =
    (h.replies, [], h.one_each, ap (λ (o : Out). o.replies) h.is ∙ sym (append-nil (frames_of (calls old.connections) h.replies)), (refl, leaves))
