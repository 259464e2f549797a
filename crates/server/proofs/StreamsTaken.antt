-- Why the messages that the turns of a history take from a connection are those of the whole stream.
use Rattle.std.proofs.Common.{◌≡◌, inl, inr, ℕ, List, [], ◌∷◌, ◌++◌, refl, sym, ◌∙◌, ap, subst, append_assoc, append-nil}
use Rattle.std.specs.Prelude.{◌==◌, if◌then◌else◌, Bool, true, false, Ok, Err, Option, Some, None}
use Rattle.path.specs.declared.refusal.Refusal.{Refusal}
use Rattle.database_model.specs.World.{World}
use Rattle.op_msg.specs.Frame.{Frame, front}
use Rattle.op_msg.specs.Stream.{Begins}
use Rattle.op_msg.specs.declared.fault.FrameFault.{FrameFault}
use Rattle.op_msg.proofs.Streams.{stays}
use Rattle.server.specs.ServerState.{ServerState, add_bytes, are_ascending, ended, fed}
use Rattle.server.specs.Moment.{Moment, TurnEnd}
use Rattle.server.specs.Causes.{IsCaused}
use Rattle.server.specs.History.{Happens, TakenBack}
use Rattle.server.specs.Turn.{Out, Turns, front_of, front_if_open, connection_at, connection_after, connections_after}
use Rattle.server.specs.Streams.{IsLeft, DoesNotEnd, TakesTheStream, bytes_from, connection_in, taken_from}
use Rattle.server.specs.declared.connection.Connection.{Connection}
use Rattle.server.specs.declared.step.Step.{Step}
use Rattle.server.specs.declared.step.Step.TheVariants as steps
use Rattle.server.proofs.Ascending.{after_ascends, drop_ascends, feed_ascends}
use Rattle.server.proofs.ConnectionIn.{Front, dropped_in, fed_at, fed_in, message_at, taken_in, turned_in}

-- ---- one connection, to which bytes come and of which turns take messages

data Event : Type 0 where
  bytes : List ℕ → Event
  turn : Event

abbrev stream_of : List Event → List ℕ
stream_of [] = []
stream_of (bytes chunk ∷ later) = chunk ++ stream_of later
stream_of (turn ∷ later) = stream_of later

abbrev connection_over : Connection → List Event → Connection
connection_over connection [] = connection
connection_over connection (bytes chunk ∷ later) =
    connection_over (add_bytes connection connection.fault chunk) later
connection_over connection (turn ∷ later) = connection_over (connection_after connection) later

abbrev taken_over : Connection → List Event → List Frame
taken_over connection [] = []
taken_over connection (bytes chunk ∷ later) =
    taken_over (add_bytes connection connection.fault chunk) later
taken_over connection (turn ∷ later) =
    message_at (front_of connection) ++ taken_over (connection_after connection) later

-- the law at one link, for these messages and this link at the end
abbrev Takes : List ℕ → List Frame → Connection → Type 0
Takes stream frames last = (rest : List ℕ) × Begins stream frames rest × IsLeft last.fault last.frames rest

-- nothing is taken from a link that a fault closed
closed_stays : (connection : Connection) (fault : FrameFault) (events : List Event) → connection.fault ≡ Some fault
    → (taken_over connection events ≡ []) × (connection_over connection events ≡ connection)
closed_stays connection fault [] e = (refl, refl)
closed_stays connection fault (bytes chunk ∷ later) e =
    let same : add_bytes connection connection.fault chunk ≡ connection = ap (λ (f : Option FrameFault). add_bytes connection f chunk) e in
    let behind = closed_stays connection fault later e in
    (ap (λ (l : Connection). taken_over l later) same ∙ behind.0, ap (λ (l : Connection). connection_over l later) same ∙ behind.1)
closed_stays connection fault (turn ∷ later) e =
    let nothing : front_of connection ≡ Ok None = ap (λ (f : Option FrameFault). front_if_open f connection.frames) e in
    let same : connection_after connection ≡ connection = ap (λ (f : Front). connection_at connection f) nothing in
    let behind = closed_stays connection fault later e in (
      ap (λ (f : Front). message_at f ++ taken_over (connection_after connection) later) nothing ∙ ap (λ (l : Connection). taken_over l later) same ∙ behind.0,
      ap (λ (l : Connection). connection_over l later) same ∙ behind.1,
    )

closed : (connection : Connection) (fault : FrameFault) (events : List Event) (stream : List ℕ) → connection.fault ≡ Some fault → front stream ≡ Err fault
    → Takes stream (taken_over connection events) (connection_over connection events)
closed connection fault events stream e f =
    let s = closed_stays connection fault events e in (
      stream,
      subst (λ (fs : List Frame). Begins stream fs stream) (sym s.0) refl,
      subst (λ (x : Option FrameFault). IsLeft x (connection_over connection events).frames stream) (sym (ap (λ (l : Connection). l.fault) s.1 ∙ e)) f,
    )

module _ (connection : Connection) (later : List Event) (is_open : connection.fault ≡ None) (goes_on : (l : Connection) → l.fault ≡ None
    → Takes (l.frames ++ stream_of later) (taken_over l later) (connection_over l later)) where
  by_front : (f : Front) → front connection.frames ≡ f
      → Takes (connection.frames ++ stream_of later) (message_at f ++ taken_over (connection_at connection f) later)
      (connection_over (connection_at connection f) later)
  by_front (Ok None) e = goes_on connection is_open
  by_front (Ok (Some x)) e =
      let t = goes_on (connection_at connection (Ok (Some x))) is_open in
      (t.0, (x.1 ++ stream_of later, (stays connection.frames (stream_of later)).0 x.0 x.1 e, t.1), t.2)
  by_front (Err fault) e =
      closed (connection_at connection (Err fault)) fault later (connection.frames ++ stream_of later) refl
      ((stays connection.frames (stream_of later)).1 fault e)

takes : (connection : Connection) (events : List Event) → connection.fault ≡ None
    → Takes (connection.frames ++ stream_of events) (taken_over connection events) (connection_over connection events)
takes connection [] is_open =
    (connection.frames, sym (append-nil connection.frames), subst (λ (x : Option FrameFault). IsLeft x connection.frames connection.frames) (sym is_open) refl)
takes connection (bytes chunk ∷ later) is_open =
    let fed : add_bytes connection connection.fault chunk ≡ record connection { frames = connection.frames ++ chunk } =
    ap (λ (f : Option FrameFault). add_bytes connection f chunk) is_open in
    let t = takes (record connection { frames = connection.frames ++ chunk }) later is_open in
    subst (λ (l : Connection). Takes (connection.frames ++ (chunk ++ stream_of later)) (taken_over l later) (connection_over l later)) (sym fed)
    (subst (λ (s : List ℕ). Takes s (taken_over (record connection { frames = connection.frames ++ chunk }) later)
    (connection_over (record connection { frames = connection.frames ++ chunk }) later)) (append_assoc connection.frames chunk (stream_of later)) t)
takes connection (turn ∷ later) is_open =
    let is : front_of connection ≡ front connection.frames = ap (λ (f : Option FrameFault). front_if_open f connection.frames) is_open in
    subst (λ (f : Front). Takes (connection.frames ++ stream_of later) (message_at f ++ taken_over (connection_at connection f) later)
    (connection_over (connection_at connection f) later)) (sym is)
    (by_front connection later is_open (λ l o. takes l later o) (front connection.frames) refl)

-- ---- a history

abbrev events_for : ℕ → List Step → List Event
events_for id [] = []
events_for id (steps.Bytes n chunk ∷ later) = if n == id then bytes chunk.items ∷ events_for id later else events_for id later
events_for id (steps.Turn ∷ later) = turn ∷ events_for id later
events_for id (steps.Gone n ∷ later) = events_for id later

stream_is : (id : ℕ) (all : List Step) → stream_of (events_for id all) ≡ bytes_from id all
stream_is id [] = refl
stream_is id (steps.Bytes n chunk ∷ later) = by (n == id) (stream_is id later)
  where
    by : (b : Bool) → stream_of (events_for id later) ≡ bytes_from id later
        → stream_of (if b then bytes chunk.items ∷ events_for id later else events_for id later)
        ≡ (if b then chunk.items ++ bytes_from id later else bytes_from id later)
    by true later = ap (λ (s : List ℕ). chunk.items ++ s) later
    by false later = later
stream_is id (steps.Turn ∷ later) = stream_is id later
stream_is id (steps.Gone n ∷ later) = stream_is id later

-- its turns take from the connection what they take from it alone, and leave it so
abbrev IsAlone : ℕ → List Connection → List Step → List Frame → List Connection → Type 0
IsAlone id before all taken after =
    (taken ≡ taken_over (connection_in before id) (events_for id all))
    × (connection_in after id ≡ connection_over (connection_in before id) (events_for id all))

fed_alone : (id n : ℕ) (chunk : List ℕ) (later : List Step) (c mid : Connection) (taken : List Frame) (last : Connection) → mid ≡ fed_at id n chunk c
    → (taken ≡ taken_over mid (events_for id later)) × (last ≡ connection_over mid (events_for id later))
    → (b : Bool) → (n == id) ≡ b
    → (taken ≡ taken_over c (if b then bytes chunk ∷ events_for id later else events_for id later))
    × (last ≡ connection_over c (if b then bytes chunk ∷ events_for id later else events_for id later))
fed_alone id n chunk later c mid taken last is h true e =
    let is_fed : mid ≡ add_bytes c c.fault chunk = is ∙ ap (λ (b : Bool). if b then add_bytes c c.fault chunk else c) e in
    (h.0 ∙ ap (λ (x : Connection). taken_over x (events_for id later)) is_fed, h.1 ∙ ap (λ (x : Connection). connection_over x (events_for id later)) is_fed)
fed_alone id n chunk later c mid taken last is h false e =
    let is_same : mid ≡ c = is ∙ ap (λ (b : Bool). if b then add_bytes c c.fault chunk else c) e in
    (h.0 ∙ ap (λ (x : Connection). taken_over x (events_for id later)) is_same, h.1 ∙ ap (λ (x : Connection). connection_over x (events_for id later)) is_same)

-- the connections after a turn, done or undone
turned : (beside : World → Refusal → Type 0) (undone : Refusal → Type 0) (state new : ServerState) (out : Out) → Turns beside undone state out new
    → new.connections ≡ connections_after state.connections
turned beside undone state new out (inl done) = ap (λ (s : ServerState). s.connections) done.leaves
turned beside undone state new out (inr (inl (why, back))) = ap (λ (s : ServerState). s.connections) back.leaves
turned beside undone state new out (inr (inr (why, back))) = ap (λ (s : ServerState). s.connections) back.leaves

alone : (id : ℕ) (at : Moment) (state : ServerState) (all : List Step) (given : List (ℕ × List ℕ)) (ends : List TurnEnd) (new : ServerState)
    (h : Happens at state all given ends new) → are_ascending state.connections ≡ true → DoesNotEnd id all
    → IsAlone id state.connections all (taken_from id at state all given ends new h) new.connections
alone id at state [] given ends new h ascends unended = (refl, ap (λ (s : ServerState). connection_in s.connections id) h.2)
alone id at state (steps.Bytes n chunk ∷ later) given ends new h ascends unended =
    let mid = fed state n chunk.items in
    fed_alone id n chunk.items later (connection_in state.connections id) (connection_in mid.connections id) (taken_from id at mid later given ends new h)
    (connection_in new.connections id)
    (fed_in id n chunk.items state.connections) (alone id at mid later given ends new h (feed_ascends state.connections n chunk.items ascends) unended)
    (n == id) refl
alone id at state (steps.Gone n ∷ later) given ends new h ascends unended =
    let mid = ended state n in
    let rest = alone id at mid later given ends new h (drop_ascends state.connections n ascends) unended.1 in
    let same = dropped_in id n state.connections unended.0 ascends in
    (rest.0 ∙ ap (λ (x : Connection). taken_over x (events_for id later)) same, rest.1 ∙ ap (λ (x : Connection). connection_over x (events_for id later)) same)
alone id at state (steps.Turn ∷ later) given ends new h ascends unended =
    let mid = h.0 in
    let after = turned (IsCaused at h.3.at) (TakenBack at h.3.at) state mid h.1 h.5 in
    let rises : are_ascending mid.connections ≡ true = ap are_ascending after ∙ after_ascends state.connections ascends in
    let rest = alone id h.3.at mid later h.2 h.4 new h.9 rises unended in
    let same : connection_in mid.connections id ≡ connection_after (connection_in state.connections id) =
    ap (λ (ls : List Connection). connection_in ls id) after ∙ turned_in id state.connections in (
      (λ i. taken_in id state.connections ascends i ++ rest.0 i)
          ∙ ap (λ (x : Connection). message_at (front_of (connection_in state.connections id)) ++ taken_over x (events_for id later)) same,
      rest.1 ∙ ap (λ (x : Connection). connection_over x (events_for id later)) same,
    )

pub takes_the_stream : TakesTheStream
takes_the_stream id at state all given ends new h ascends is_open unended =
    let c = connection_in state.connections id in
    let is = alone id at state all given ends new h ascends unended in
    let t = takes c (events_for id all) is_open in
    record {
      rest = t.0;
      begins = subst (λ (s : List ℕ). Begins (c.frames ++ s) (taken_from id at state all given ends new h) t.0) (stream_is id all)
          (subst (λ (fs : List Frame). Begins (c.frames ++ stream_of (events_for id all)) fs t.0) (sym is.0) t.1);
      is_left = subst (λ (x : Connection). IsLeft x.fault x.frames t.0) (sym is.1) t.2;
    }
