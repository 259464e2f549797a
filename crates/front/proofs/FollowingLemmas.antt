-- What the parts of a turn before the server's do with one socket.
use Rattle.std.proofs.Common.{◌≡◌, ◌≢◌, ◌⊎◌, ℕ, zero, suc, true, false, List, [], ◌∷◌, get_or, Option, Some, None}
use Rattle.std.proofs.Common.{refl, sym, ap, subst, ◌∙◌, inl, inr, arith}
use Rattle.std.specs.Prelude.{Bool, is_none}
use Rattle.std.specs.List.{Contains}
use Rattle.std.proofs.lemmas.List.Elements.{Contains-append_right}
use Rattle.bson.specs.Tree.{Pairs}
use Rattle.driver_messages.specs.Incoming.{next_message}
use Rattle.drivers.specs.declared.server_info.ServerInfo.{ServerInfo}
use Rattle.server.specs.ServerState.{ServerState}
use Rattle.server.specs.declared.connection.Connection.{Connection}
use Rattle.front.specs.Asking.{AsksWanted, EndsOne}
use Rattle.driver_sockets.specs.Cursors.{first_to_end}
use Rattle.driver_sockets.specs.Lending.{borrower, is_at_rest, loan_at}
use Rattle.front.specs.OneSocket.{Asking, AsksBy, AsksFor, AsksOrRefuses, AsksUnless, Seat, is_held, is_long}
use Rattle.driver_sockets.specs.Choosing.{connection_for, loan_of}
use Rattle.driver_sockets.specs.Questions.{pending}
use Rattle.driver_sockets.specs.Replying.{Begins, long_reply}
use Rattle.front.specs.Rounds.{EndsEach}
use Rattle.front.specs.Served.{IsAt, IsReplyTo, ServerTurn, Stand, Worked, standing}
use Rattle.driver_sockets.specs.Serving.{fresh}
use Rattle.front.specs.Turning.{AreServed, Desk, Does, EachOnce, seat_at}
use Rattle.driver_sockets.specs.Info.{info_of}
use Rattle.driver_sockets.specs.Tying.{is_asked}
use Rattle.front.specs.Unread.{HoldQuestions}
use Rattle.driver_sockets.specs.declared.job.Job.{Job}
use Rattle.driver_sockets.specs.declared.job.Question.{Question}
use Rattle.driver_sockets.specs.declared.job.Stage.{Stage}
use Rattle.driver_sockets.specs.declared.job.Stage.TheVariants as stages
use Rattle.driver_sockets.specs.declared.lending.Loan.{Loan}
use Rattle.driver_sockets.specs.declared.open_cursors.OpenCursor.{OpenCursor}
use Rattle.driver_sockets.specs.declared.socket.Socket.{Socket}
use Rattle.front.proofs.ServedLemmas.{Begun, Story, asked_as, asked_now, story_asked, story_begins, story_closed}
use Rattle.front.proofs.ServedLemmas.{story_replied, story_waits}
use Rattle.driver_sockets.proofs.LoanLemmas.{for_one_at_rest}
use Rattle.driver_sockets.proofs.TyingLemmas.{same_or_not, some_is}
use Rattle.front.proofs.AwaitingLemmas.{Awaits, IsFree, awaits_its_own, awaits_nothing, awaits_still, free_still, hold_on}

module _ {D : Type 0} (turns : List (ServerTurn D)) (n : ℕ) where
  -- A socket between the parts of a turn.
  pub record Follows (bytes : List ℕ) (given : List (List ℕ)) (loans : List (Option Loan)) (connections : List Connection) (s : Socket) : Type 0 where
    pub worked : List Worked
    pub story : Story turns n bytes given worked s
    pub awaits : Awaits n loans connections (asked_now worked)

  -- ---- cursors are ended

  ends_one : (cursor : Option OpenCursor) (bytes : List ℕ) (given : List (List ℕ)) (s : Socket) (loans after : List (Option Loan)) (before now : ServerState)
      → EndsOne cursor loans after before now → Follows bytes given loans before.connections s → Follows bytes given after now.connections s
  ends_one None bytes given s loans after before now h k =
      subst (λ (ls : List (Option Loan)). Follows bytes given ls now.connections s) (sym h.0)
      (subst (λ (x : ServerState). Follows bytes given loans x.connections s) (sym h.1) k)
  ends_one (Some cursor) bytes given s loans after before now h k = record {
    worked = k.worked;
    story = k.story;
    awaits = awaits_still n loans after before now (asked_now k.worked) cursor.owner _ _ (λ e. absurd cc) h.rest h.lent h.asked.came k.awaits;
  }

  pub ends_each : (times : ℕ) (bytes : List ℕ) (given : List (List ℕ)) (s : Socket) (old new : Desk) → EndsEach times old new
      → Follows bytes given old.loans old.server.connections s → Follows bytes given new.loans new.server.connections s
  ends_each zero bytes given s old new h k = subst (λ (d : Desk). Follows bytes given d.loans d.server.connections s) (sym h) k
  ends_each (suc times) bytes given s old new h k =
      ends_one (first_to_end h.0.loans h.0.cursors) bytes given s h.0.loans new.loans h.0.server new.server h.2.ends
      (ends_each times bytes given s old h.0 h.1 k)

  -- ---- messages are asked

  pending_is : (s : Socket) (question : Question) → pending s.job ≡ Some question → is_asked s.job ≡ false
  pending_is s question e = at s.job e
    where
      at : (job : Option Job) → pending job ≡ Some question → is_asked job ≡ false
      at None e = absurd cc
      at (Some job) e = stage job.stage e
        where
          stage : (x : Stage) → pending (Some (record job { stage = x })) ≡ Some question → is_asked (Some (record job { stage = x })) ≡ false
          stage (stages.Asks next) e = refl
          stage stages.Waits e = absurd cc

  -- what is to be asked is what the latest asks
  pending_now : (s : Socket) (worked : List Worked) (question : Question) → Stand s.job s.is_over worked → pending s.job ≡ Some question
      → asked_now worked ≡ Some question.command
  pending_now s worked question stand e = at s.job worked stand e
    where
      stage : (w : Worked) (k : Stage) (next : Question) (asks : asked_now (w ∷ []) ≡ Some next.command) → IsAt next k
          → (job : Job) → pending (Some (record job { stage = k })) ≡ Some question → asked_now (w ∷ []) ≡ Some question.command
      stage w (stages.Asks q) next asks is job e =
          asks ∙ ap (λ (x : Question). Some x.command) (sym is ∙ some_is q question e)
      stage w stages.Waits next asks is job e = absurd cc

      at : (job : Option Job) (ws : List Worked) → Stand job s.is_over ws → pending job ≡ Some question → asked_now ws ≡ Some question.command
      at None ws h e = absurd cc
      at (Some job) [] h e = absurd h
      at (Some job) (w ∷ earlier) h e =
          stage w job.stage h.0.question (asked_as (standing w).1 h.0.question h.0.next) h.0.at job e

  free_begun : (info : ServerInfo) (loans : List (Option Loan)) (s new : Socket) → IsFree n loans s
      → Begins info s s.is_over s.job (next_message s.incoming) new → IsFree n loans new
  free_begun info loans s new h begins = at s.is_over s.job refl begins
    where
      at : (over : Bool) (job : Option Job) → s.job ≡ job → Begins info s over job (next_message s.incoming) new
          → IsFree n loans new
      at true job e b = subst (IsFree n loans) (sym b) h
      at false (Some job) e b = subst (IsFree n loans) (sym b) h
      at false None e b = λ idle. h (ap is_asked e)

  at_rest_is : (loans : List (Option Loan)) (id : ℕ) → is_at_rest loans id ≡ true → loan_at loans id ≡ None
  at_rest_is loans id e = at (loan_at loans id) e
    where
      at : (o : Option Loan) → is_none o ≡ true → o ≡ None
      at None e = refl
      at (Some loan) e = absurd cc

  asks_question : (bytes : List ℕ) (given : List (List ℕ)) (cursors : List OpenCursor) (old new : Seat) (question : Question)
      → (k : Follows bytes given old.loans old.server.connections old.socket) → HoldQuestions old.loans old.server.connections
      → IsFree n old.loans old.socket → pending old.socket.job ≡ Some question → (o : Option ℕ) → connection_for old.loans cursors question ≡ o
      → AsksBy o n question old new → Follows bytes given new.loans new.server.connections new.socket
  asks_question bytes given cursors old new question k h free asks None e by =
      subst (λ (x : Seat). Follows bytes given x.loans x.server.connections x.socket) (sym by) k
  asks_question bytes given cursors old new question k h free asks (Some id) e by = at (is_long question.command) refl by
    where
      none : (i : ℕ) → borrower (loan_at old.loans i) ≡ Some n → ⊥
      none = free (pending_is old.socket question asks)

      now : asked_now k.worked ≡ Some question.command
      now = pending_now old.socket k.worked question k.story.stand asks

      at : (long : Bool) → is_long question.command ≡ long → AsksOrRefuses long n id question old new
          → Follows bytes given new.loans new.server.connections new.socket
      at true l refused =
          let replied = story_replied turns n bytes given k.worked old.socket new.socket long_reply k.story
          (subst (λ (q : Option Pairs). IsReplyTo turns n q long_reply) (sym now) (inl (l, refl))) refused.told in
          record {
            worked = replied.after;
            story = replied.story;
            awaits = awaits_nothing n new.loans new.server.connections (asked_now replied.after)
                (λ i e. none i (ap (λ (ls : List (Option Loan)). borrower (loan_at ls i)) (sym refused.loans) ∙ e));
          }
      at false l asked = record {
        worked = k.worked;
        story = subst (Story turns n bytes given k.worked) (sym asked.waits) (story_asked turns n bytes given k.worked old.socket k.story);
        awaits = subst (Awaits n new.loans new.server.connections) (sym now)
            (awaits_its_own n old.loans new.loans old.server new.server id (loan_of n question) question.command
            (at_rest_is old.loans id (for_one_at_rest old.loans cursors question id e)) asked.lent asked.asked.came h none);
      }

  asks_for : (bytes : List ℕ) (given : List (List ℕ)) (cursors : List OpenCursor) (old new : Seat)
      → Follows bytes given old.loans old.server.connections old.socket → HoldQuestions old.loans old.server.connections
      → IsFree n old.loans old.socket → AsksFor n cursors old new → Follows bytes given new.loans new.server.connections new.socket
  asks_for bytes given cursors old new k h free asks = at (is_held old) asks
    where
      same : new ≡ old → Follows bytes given new.loans new.server.connections new.socket
      same e = subst (λ (x : Seat). Follows bytes given x.loans x.server.connections x.socket) (sym e) k

      for_it : (q : Option Question) → pending old.socket.job ≡ q → Asking n cursors q old new
          → Follows bytes given new.loans new.server.connections new.socket
      for_it None e a = same a
      for_it (Some question) e a =
          asks_question bytes given cursors old new question k h free e (connection_for old.loans cursors question) refl a

      at : (held : Bool) → AsksUnless held n cursors old new → Follows bytes given new.loans new.server.connections new.socket
      at true a = same a
      at false a = for_it (pending old.socket.job) refl a

  -- the message at its front is begun, or none
  pub begins : (bytes : List ℕ) (given : List (List ℕ)) (info : ServerInfo) (loans : List (Option Loan)) (connections : List Connection) (s begun : Socket)
      → Follows bytes given loans connections s → s.answer ≡ None → IsFree n loans s
      → Begins info s s.is_over s.job (next_message s.incoming) begun → Follows bytes given loans connections begun
  begins bytes given info loans connections s begun k none free b = record {
    worked = one.after;
    story = one.story;
    awaits = at one.same;
  }
    where
      one : Begun turns n bytes given k.worked s begun
      one = story_begins turns n bytes given k.worked info s begun k.story none b

      at : (one.after ≡ k.worked) ⊎ (s.job ≡ None) → Awaits n loans connections (asked_now one.after)
      at (inl same) = subst (λ (ws : List Worked). Awaits n loans connections (asked_now ws)) (sym same) k.awaits
      at (inr idle) = awaits_nothing n loans connections (asked_now one.after) (free (ap is_asked idle))

  serves : (bytes : List ℕ) (given : List (List ℕ)) (info : ServerInfo) (cursors : List OpenCursor) (old new : Seat)
      → Follows bytes given old.loans old.server.connections old.socket → old.socket.answer ≡ None → HoldQuestions old.loans old.server.connections
      → IsFree n old.loans old.socket → Does info n cursors old new → Follows bytes given new.loans new.server.connections new.socket
  serves bytes given info cursors old new k none h free (inl d) =
      asks_for bytes given cursors (record old { socket = d.begun }) new
      (begins bytes given info old.loans old.server.connections old.socket d.begun k none free d.begins) h
      (free_begun info old.loans old.socket d.begun free d.begins) d.asks
  serves bytes given info cursors old new k none h free (inr (inl d)) =
      subst (λ (x : Seat). Follows bytes given x.loans x.server.connections new.socket) (sym d.rest) (record {
        worked = k.worked;
        story = story_waits turns n bytes given k.worked old.socket new.socket (next_message old.socket.incoming) k.story d.socket;
        awaits = k.awaits;
      })
  serves bytes given info cursors old new k none h free (inr (inr d)) =
      let one = begins bytes given info old.loans old.server.connections old.socket d.begun k none free d.begins in
      subst (λ (x : Seat). Follows bytes given x.loans x.server.connections new.socket) (sym d.closes.rest) (record {
        worked = one.worked;
        story = story_closed turns n bytes given one.worked d.begun new.socket one.story d.closes.socket;
        awaits = one.awaits;
      })

  -- ---- one socket after the other

  passed : (m : ℕ) (bytes : List ℕ) (given : List (List ℕ)) (s : Socket) (what : Option Pairs) (old new : Desk) → m ≢ n
      → AsksWanted (Some m) what old.loans new.loans old.server new.server → Follows bytes given old.loans old.server.connections s
      → Follows bytes given new.loans new.server.connections s
  passed m bytes given s what old new apart (inl same) k =
      subst (λ (ls : List (Option Loan)). Follows bytes given ls new.server.connections s) (sym same.0)
      (subst (λ (x : ServerState). Follows bytes given old.loans x.connections s) (sym same.1) k)
  passed m bytes given s what old new apart (inr a) k = record {
    worked = k.worked;
    story = k.story;
    awaits = awaits_still n old.loans new.loans old.server new.server (asked_now k.worked) a.id a.loan a.command (other m a.loan.socket a.of apart)
        a.rest a.lent a.asked.came k.awaits;
  }
    where
      other : (m : ℕ) (o : Option ℕ) → o ≡ Some m → m ≢ n → Some n ≢ o
      other m o e apart is = apart (some_is m n (sym e ∙ sym is))

  passed_free : (m : ℕ) (s : Socket) (what : Option Pairs) (old new : Desk) → m ≢ n
      → AsksWanted (Some m) what old.loans new.loans old.server new.server → IsFree n old.loans s → IsFree n new.loans s
  passed_free m s what old new apart (inl same) h = subst (λ (ls : List (Option Loan)). IsFree n ls s) (sym same.0) h
  passed_free m s what old new apart (inr a) h =
      free_still n old.loans new.loans a.id a.loan s (λ is. apart (some_is m n (sym a.of ∙ sym is))) a.lent h

  -- the others
  passes : (before after : List Socket) (time : ℕ) (numbers : List ℕ) (bytes : List ℕ) (given : List (List ℕ)) (s : Socket) (old new : Desk)
      → AreServed before after time numbers old new → (Contains numbers n → ⊥) → Follows bytes given old.loans old.server.connections s
      → Follows bytes given new.loans new.server.connections s
  passes before after time [] bytes given s old new h never_in k = subst (λ (d : Desk). Follows bytes given d.loans d.server.connections s) (sym h) k
  passes before after time (m ∷ later) bytes given s old new h never_in k =
      passes before after time later bytes given s h.0 new h.2 (λ c. never_in (Contains-append_right (m ∷ []) later n c))
      (passed m bytes given s _ old h.0 (λ e. never_in (0, omega arith, e)) (h.1.asks fresh) k)

  -- it is served itself, or it is as it was
  pub comes_to : (before after : List Socket) (time : ℕ) (numbers : List ℕ) (bytes : List ℕ) (given : List (List ℕ)) (old new : Desk)
      → AreServed before after time numbers old new → EachOnce numbers
      → ((Contains numbers n → ⊥) → get_or after n fresh ≡ get_or before n fresh) → (get_or before n fresh).answer ≡ None
      → HoldQuestions old.loans old.server.connections → IsFree n old.loans (get_or before n fresh)
      → Follows bytes given old.loans old.server.connections (get_or before n fresh)
      → Follows bytes given new.loans new.server.connections (get_or after n fresh)
  comes_to before after time [] bytes given old new h once stays none holds free k =
      let same = stays (λ c. absurd (omega (arith, c.1))) in
      subst (λ (d : Desk). Follows bytes given d.loans d.server.connections (get_or after n fresh)) (sym h)
      (subst (Follows bytes given old.loans old.server.connections) (sym same) k)
  comes_to before after time (m ∷ later) bytes given old new h once stays none holds free k =
      at (λ still. comes_to before after time later bytes given h.0 new h.2 once.1 still none) (same_or_not m n)
    where
      held : HoldQuestions h.0.loans h.0.server.connections
      held = hold_on (Some m) _ old.loans h.0.loans old.server h.0.server (h.1.asks fresh) holds

      at : (((Contains later n → ⊥) → get_or after n fresh ≡ get_or before n fresh) → HoldQuestions h.0.loans h.0.server.connections
          → IsFree n h.0.loans (get_or before n fresh) → Follows bytes given h.0.loans h.0.server.connections (get_or before n fresh)
          → Follows bytes given new.loans new.server.connections (get_or after n fresh))
          → (m ≡ n) ⊎ (m ≢ n) → Follows bytes given new.loans new.server.connections (get_or after n fresh)
      at others (inl same) =
          let as_planned : Does (info_of n time old.next_id) n old.cursors (seat_at old (get_or before n fresh)) (seat_at h.0 (get_or after n fresh)) =
          subst (λ (i : ℕ). Does (info_of i time old.next_id) i old.cursors (seat_at old (get_or before i fresh)) (seat_at h.0 (get_or after i fresh)))
          same (h.1.as_planned fresh) in
          passes before after time later bytes given (get_or after n fresh) h.0 new h.2 (λ c. once.0 (subst (Contains later) (sym same) c))
          (serves bytes given (info_of n time old.next_id) old.cursors (seat_at old (get_or before n fresh)) (seat_at h.0 (get_or after n fresh))
          k none holds free as_planned)
      at others (inr apart) =
          others (λ never_in. stays (λ c. not_there c never_in)) held
          (passed_free m (get_or before n fresh) _ old h.0 apart (h.1.asks fresh) free)
          (passed m bytes given (get_or before n fresh) _ old h.0 apart (h.1.asks fresh) k)
        where
          not_there : Contains (m ∷ later) n → (Contains later n → ⊥) → ⊥
          not_there (zero, less, is) never_in = apart is
          not_there (suc i, less, is) never_in = never_in (i, omega (arith, less), is)
