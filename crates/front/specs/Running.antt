-- A front over any list of steps: bytes come on sockets, turns are made, sockets end. A socket gets
-- what its own bytes and the server's replies make, whatever comes on other sockets, in whatever
-- chunks its bytes come, and whenever turns are made.
use Rattle.std.specs.Prelude.{◌≡◌, ℕ, ◌==◌, if◌then◌else◌, List, [], ◌∷◌, ◌++◌}
use Rattle.std.specs.Prelude.{slice_index_or}
use Rattle.page.specs.History.{History}
use Rattle.server.specs.Streams.{bytes_from, DoesNotEnd}
use Rattle.server.specs.declared.step.Step.{Step}
use Rattle.server.specs.declared.step.Step.TheVariants as steps
use Rattle.front.specs.Fronting.{Forgets, IsFrontSound, TakesBytes}
use Rattle.front.specs.Rounds.{IsRound, MakesTurn}
use Rattle.front.specs.Served.{IsServed, ServerTurn}
use Rattle.driver_sockets.specs.Serving.{fresh}
use Rattle.front.specs.declared.front.Front.{Front}
use Rattle.driver_sockets.specs.declared.socket.Socket.{Socket}

-- From one front to another, which is sound behind each step, and these frames are handed out, each
-- with the number of its socket, in order.
abbrev pub Runs : {C D : Type 0} → (D → History) → Front C D → List Step → List (ℕ × List ℕ)
    → Front C D → Type 0
Runs history front [] given last = (given ≡ []) × (last ≡ front)
Runs {C} {D} history front (steps.Bytes n chunk ∷ later) given last =
    (next : Front C D) × TakesBytes front n chunk.items next × IsFrontSound history next
    × Runs history next later given last
Runs {C} {D} history front (steps.Gone n ∷ later) given last =
    (next : Front C D) × Forgets front n next × IsFrontSound history next
    × Runs history next later given last
Runs {C} {D} history front (steps.Turn ∷ later) given last =
    (next : Front C D) × (replies : List (ℕ × List ℕ)) × (closed : List ℕ)
    × (others : List (ℕ × List ℕ)) × IsRound history front replies closed next
    × IsFrontSound history next × (given ≡ replies ++ others)
    × Runs history next later others last

-- the server's turn of a round, and those of all steps, in order
abbrev pub turn_of : {C D : Type 0} (history : D → History) (old new : Front C D)
    → MakesTurn history old new → ServerTurn D
turn_of history old new turn = record {
  loans = old.lending.loans;
  old = old.core;
  result = turn.result;
  new = turn.after;
}

abbrev pub turns_of : {C D : Type 0} (history : D → History) (front : Front C D) (all : List Step)
    (given : List (ℕ × List ℕ)) (last : Front C D) → Runs history front all given last
    → List (ServerTurn D)
turns_of history front [] given last runs = []
turns_of history front (steps.Bytes n chunk ∷ later) given last runs =
    turns_of history runs.0 later given last runs.3
turns_of history front (steps.Gone n ∷ later) given last runs =
    turns_of history runs.0 later given last runs.3
turns_of history front (steps.Turn ∷ later) given last runs =
    turn_of history runs.4.asked runs.4.turned runs.4.turns
    ∷ turns_of history runs.0 later runs.3 last runs.7

-- the socket of a number, or one of which nothing has come
abbrev pub socket_in : {C D : Type 0} → Front C D → ℕ → Socket
socket_in front n = slice_index_or front.sockets.items n fresh

-- the frames for a socket
abbrev pub frames_to : ℕ → List (ℕ × List ℕ) → List (List ℕ)
frames_to n [] = []
frames_to n (f ∷ fs) = if f.0 == n then f.1 ∷ frames_to n fs else frames_to n fs

-- From a front on in which nothing of a socket has come, over steps in which it doesn't end: each
-- reply is of a turn of this front's server, for a connection that was lent to this socket.
abbrev pub ServesEachSocket : (C : Type 0) {D : Type 0} → (D → History) → Type 0
ServesEachSocket C {D} history = (n : ℕ) (first : Front C D) (all : List Step)
    (given : List (ℕ × List ℕ)) (last : Front C D)
    → IsFrontSound history first → socket_in first n ≡ fresh → DoesNotEnd n all
    → (runs : Runs history first all given last)
    → IsServed (turns_of history first all given last runs) n (bytes_from n all)
    (frames_to n given) (socket_in last n)
