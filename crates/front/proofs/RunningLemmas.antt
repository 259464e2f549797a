-- What a front does with one socket, step by step.
use Rattle.std.proofs.Common.{◌≡◌, ◌≢◌, ◌⊎◌, ℕ, ◌<◌, true, false, List, [], ◌∷◌, ◌++◌, length, get_or, set, Option, Some, None}
use Rattle.std.proofs.Common.{Ok, Err, refl, sym, ap, subst, ◌∙◌, inl, inr, arith, append-nil, append_assoc}
use Rattle.std.specs.Prelude.{Bool, Result, ◌==◌, if◌then◌else◌, option_to_list, drop}
use Rattle.std.specs.List.{Contains}
use Rattle.std.proofs.lemmas.Bool.{true≢false}
use Rattle.std.proofs.lemmas.Bool.Decides.{nat_tests}
use Rattle.std.proofs.lemmas.List.{get_or-set_other, get_or-set_same}
use Rattle.std.proofs.lemmas.List.Elements.{Contains-append_right}
use Rattle.bson.specs.Tree.{Pairs}
use Rattle.op_msg.specs.Request.{document_in}
use Rattle.page.specs.History.{History}
use Rattle.server.specs.Durable.{is_stopped}
use Rattle.server.specs.ServerState.{ended}
use Rattle.server.specs.Streams.{bytes_from, connection_in, DoesNotEnd}
use Rattle.server.specs.Turning.{TakesTurn}
use Rattle.server.specs.View.{out_of, state}
use Rattle.server.specs.declared.step.Step.{Step}
use Rattle.server.specs.declared.step.Step.TheVariants as steps
use Rattle.server.specs.declared.turn.Core.{Core}
use Rattle.server.specs.declared.turn.TurnFault.{TurnFault}
use Rattle.server.specs.declared.turn.TurnFault.TheVariants as turn_faults
use Rattle.server.specs.declared.turn.TurnOut.{TurnOut}
use Rattle.driver_sockets.specs.Questions.{question_bytes}
use Rattle.driver_sockets.specs.Serving.{answered, fed, fresh}
use Rattle.front.specs.Fronting.{Forgets, HandsOut, IsFrontSound, TakesBytes}
use Rattle.driver_sockets.specs.Lending.{borrower, loan_at}
use Rattle.driver_sockets.specs.Replying.{Becomes, IsClosed, TakesDocument}
use Rattle.front.specs.Rounds.{Floor, IsRound, MakesTurn, TakesAll, TakesEach, TakesOne, floor}
use Rattle.front.specs.Running.{Runs, frames_to, socket_in, turn_of, turns_of}
use Rattle.front.specs.Served.{IsReplyTo, IsServed, ServerTurn}
use Rattle.front.specs.Turning.{desk}
use Rattle.driver_sockets.specs.Tying.{AreTied, is_asked}
use Rattle.front.specs.Unread.{HoldQuestions, HoldsUnread}
use Rattle.front.specs.declared.front.Front.{Front}
use Rattle.driver_sockets.specs.declared.lending.Loan.{Loan}
use Rattle.driver_sockets.specs.declared.socket.Socket.{Socket}
use Rattle.front.proofs.ServedLemmas.{Replied, asked_now, is_served, ready, story_closed, story_fed}
use Rattle.front.proofs.ServedLemmas.{story_fresh, story_replied}
use Rattle.driver_sockets.proofs.TyingLemmas.{borrower_left, borrower_ended, same_or_not}
use Rattle.front.proofs.SocketsLemmas.{answered_at, frames_both, frames_of_one, grown_at, with_chunk}
use Rattle.front.proofs.AwaitingLemmas.{IsFree, awaits_nothing, borrows}
use Rattle.front.proofs.FollowingLemmas.{Follows, begins, comes_to, ends_each}

module _ {D : Type 0} (history : D → History) (turns : List (ServerTurn D)) (n : ℕ) where
  -- ---- the server's replies are taken

  module _ (turn : ServerTurn D) (made : Contains turns turn) (out : TurnOut) (answers : turn.result ≡ Ok out) where
    abbrev WasLent : ℕ → Type 0
    WasLent id = borrower (loan_at turn.loans id) ≡ Some n

    came_back : (bytes : List ℕ) (given : List (List ℕ)) (id : ℕ) (frame : List ℕ) (reply : Pairs) (loans : List (Option Loan)) (s : Socket)
        → (k : Follows turns n bytes given loans (state turn.old).connections s) → borrower (loan_at loans id) ≡ Some n → WasLent id
        → Contains (out_of out).replies (id, frame) → document_in (drop 21 frame) ≡ Ok reply → IsReplyTo turns n (asked_now k.worked) reply
    came_back bytes given id frame reply loans s k lent was there reads =
        let its = k.awaits id lent in
        subst (λ (q : Option Pairs). IsReplyTo turns n q reply) (sym its.1) (inr (record {
          turn = turn;
          made = made;
          out = out;
          answered = answers;
          id = id;
          lent = was;
          stood = its.2;
          frame = frame;
          replied = there;
          reads = reads;
        }))

    abbrev IsOnce : List (Option Loan) → Type 0
    IsOnce loans = (id other : ℕ) → borrower (loan_at loans id) ≡ Some n → borrower (loan_at loans other) ≡ Some n → id ≡ other

    left : (loans later : List (Option Loan)) (owner id : ℕ) → later ≡ set loans owner None → borrower (loan_at later id) ≡ Some n
        → (id ≢ owner) × (borrower (loan_at loans id) ≡ Some n)
    left loans later owner id is e = borrower_left loans owner id n (ap (λ (ls : List (Option Loan)). borrower (loan_at ls id)) (sym is) ∙ e)

    takes_its : (bytes : List ℕ) (given : List (List ℕ)) (id : ℕ) (frame : List ℕ) (old new : Floor) → TakesOne id frame old new
        → Contains (out_of out).replies (id, frame) → borrower (loan_at old.loans id) ≡ Some n → WasLent id → n < length old.sockets → IsOnce old.loans
        → Follows turns n bytes given old.loans (state turn.old).connections (get_or old.sockets n fresh)
        → Follows turns n bytes given new.loans (state turn.old).connections (get_or new.sockets n fresh)
    takes_its bytes given id frame old new h there lent was inside once k = at h.takes
      where
        none : (other : ℕ) → borrower (loan_at new.loans other) ≡ Some n → ⊥
        none other e =
            let before = left old.loans new.loans id other h.rest e in
            before.0 (once other id before.1 lent)

        s : Socket
        s = get_or old.sockets n fresh

        t : Socket
        t = get_or new.sockets n fresh

        replied : TakesDocument frame s t → Follows turns n bytes given new.loans (state turn.old).connections t
        replied d =
            let one = story_replied turns n bytes given k.worked s t d.0 k.story
            (came_back bytes given id frame d.0 old.loans s k lent was there d.1) d.2 in
            record {
              worked = one.after;
              story = one.story;
              awaits = awaits_nothing n new.loans (state turn.old).connections (asked_now one.after) none;
            }

        over : IsClosed s t → Follows turns n bytes given new.loans (state turn.old).connections t
        over c = record {
          worked = k.worked;
          story = story_closed turns n bytes given k.worked s t k.story c;
          awaits = awaits_nothing n new.loans (state turn.old).connections (asked_now k.worked) none;
        }

        at : (Becomes old.sockets (borrower (loan_at old.loans id)) (TakesDocument frame) new.sockets × (new.server ≡ old.server))
            ⊎ (Becomes old.sockets (borrower (loan_at old.loans id)) IsClosed new.sockets
            × ((new.server ≡ old.server) ⊎ (new.server ≡ ended old.server id)))
            → Follows turns n bytes given new.loans (state turn.old).connections t
        at (inl d) = replied (d.0 n fresh lent inside)
        at (inr d) = over (d.0 n fresh lent inside)

    takes_another : (bytes : List ℕ) (given : List (List ℕ)) (id : ℕ) (frame : List ℕ) (old new : Floor) → TakesOne id frame old new
        → Some n ≢ borrower (loan_at old.loans id) → Follows turns n bytes given old.loans (state turn.old).connections (get_or old.sockets n fresh)
        → Follows turns n bytes given new.loans (state turn.old).connections (get_or new.sockets n fresh)
    takes_another bytes given id frame old new h other k =
        subst (Follows turns n bytes given new.loans (state turn.old).connections) (sym (h.others.others n fresh other)) (record {
          worked = k.worked;
          story = k.story;
          awaits = λ i e. k.awaits i (left old.loans new.loans id i h.rest e).1;
        })

    takes_each : (bytes : List ℕ) (given : List (List ℕ)) (replies : List (ℕ × List ℕ)) (old new : Floor)
        → ((r : ℕ × List ℕ) → Contains replies r → Contains (out_of out).replies r) → TakesEach replies old new
        → ((id : ℕ) → borrower (loan_at old.loans id) ≡ Some n → WasLent id)
        → ((id : ℕ) → borrower (loan_at old.loans id) ≡ Some n → n < length old.sockets) → IsOnce old.loans
        → Follows turns n bytes given old.loans (state turn.old).connections (get_or old.sockets n fresh)
        → Replied turns n bytes given (get_or new.sockets n fresh)
    takes_each bytes given [] old new all h was there once k =
        let last : Follows turns n bytes given old.loans (state turn.old).connections (get_or new.sockets n fresh) =
        subst (Follows turns n bytes given old.loans (state turn.old).connections) (ap (λ (f : Floor). get_or f.sockets n fresh) (sym h)) k in
        record { after = last.worked; story = last.story }
    takes_each bytes given (r ∷ rs) old new all h was there once k =
        takes_each bytes given rs h.0 new (λ x c. all x (Contains-append_right (r ∷ []) rs x c)) h.2
        (λ id e. was id (left old.loans h.0.loans r.0 id h.1.rest e).1)
        (λ id e. subst (λ (len : ℕ). n < len) (sym h.1.others.length) (there id (left old.loans h.0.loans r.0 id h.1.rest e).1))
        (λ id other e f.
        once id other (left old.loans h.0.loans r.0 id h.1.rest e).1 (left old.loans h.0.loans r.0 other h.1.rest f).1)
        (at (borrows (borrower (loan_at old.loans r.0)) n))
      where
        at : (borrower (loan_at old.loans r.0) ≡ Some n) ⊎ (Some n ≢ borrower (loan_at old.loans r.0))
            → Follows turns n bytes given h.0.loans (state turn.old).connections (get_or h.0.sockets n fresh)
        at (inl lent) =
            takes_its bytes given r.0 r.1 old h.0 h.1 (all r (0, omega arith, refl)) lent (was r.0 lent) (there r.0 lent) once k
        at (inr other) = takes_another bytes given r.0 r.1 old h.0 h.1 other k

  -- ---- the server makes a turn

  turns_on : {C : Type 0} (old new : Front C D) → MakesTurn history old new → is_stopped old.core ≡ false
  turns_on old new h = at (is_stopped old.core) refl
    where
      at : (b : Bool) → is_stopped old.core ≡ b → is_stopped old.core ≡ false
      at true e = absurd (h.goes_on (h.turns.idle e).0)
      at false e = e

  turned : {C : Type 0} (bytes : List ℕ) (given : List (List ℕ)) (old new : Front C D) → AreTied old.lending.loans old.sockets.items
      → (h : MakesTurn history old new) → Contains turns (turn_of history old new h)
      → Follows turns n bytes given old.lending.loans (state old.core).connections (socket_in old n)
      → Follows turns n bytes given new.lending.loans (state new.core).connections (socket_in new n)
  turned bytes given old new tied h made k = at h.result refl h.goes_on h.turns h.takes
    where
      turn : ServerTurn D
      turn = turn_of history old new h

      at : (r : Result TurnOut TurnFault) → turn.result ≡ r → r ≢ Err turn_faults.Stopped → TakesTurn history old.core r h.after
          → TakesAll r (record (floor old) { server = state h.after }) (floor new)
          → Follows turns n bytes given new.lending.loans (state new.core).connections (socket_in new n)
      at (Ok out) is extends t takes =
          let all = takes_each turn made out is bytes given (out_of out).replies (record (floor old) { server = state h.after }) (floor new)
          (λ r c. c) takes.1 (λ id e. e) (λ id e. tied.there id n e) (λ id other e f. tied.once id other n e f) k in
          record {
            worked = all.after;
            story = all.story;
            awaits = awaits_nothing n new.lending.loans (state new.core).connections (asked_now all.after)
                (λ id e. let never : None ≡ Some n = sym (ap borrower (takes.2 id)) ∙ e in absurd cc);
          }
      at (Err turn_faults.Memory) is extends t takes =
          let same : floor new ≡ floor old = takes ∙ ap (λ (c : Core D). record (floor old) { server = state c }) (t.untouched refl) in
          subst (λ (f : Floor). Follows turns n bytes given f.loans f.server.connections (get_or f.sockets n fresh)) (sym same) k
      at (Err turn_faults.Stopped) is extends t takes = absurd (extends refl)

  -- ---- the answers are handed out

  pub record Between {C : Type 0} (bytes : List ℕ) (given : List (List ℕ)) (front : Front C D) : Type 0 where
    pub follows : Follows turns n bytes given front.lending.loans (state front.core).connections (socket_in front n)
    pub none : (socket_in front n).answer ≡ None

  handed_out : {C : Type 0} (bytes : List ℕ) (given : List (List ℕ)) (old new : Front C D) (replies : List (ℕ × List ℕ)) (closed : List ℕ)
      → HandsOut old.sockets.items replies closed new.sockets.items → new ≡ record old { sockets = new.sockets }
      → Follows turns n bytes given old.lending.loans (state old.core).connections (socket_in old n)
      → Between bytes (given ++ frames_to n replies) new
  handed_out {C} bytes given old new replies closed h rest k =
      subst (λ (fs : List (List ℕ)). Between bytes (given ++ fs) new) (sym (ap (frames_to n) h.answers ∙ frames_of_one old.sockets.items n))
      (record {
        follows = subst (Follows turns n bytes (given ++ its) new.lending.loans (state new.core).connections) (sym there)
            (subst (λ (f : Front C D). Follows turns n bytes (given ++ its) f.lending.loans (state f.core).connections (answered s)) (sym rest) (record {
              worked = k.worked;
              story = record {
                rest = k.story.rest;
                begins = k.story.begins;
                waits = k.story.waits;
                replies = k.story.replies;
                stand = k.story.stand;
                answers = append-nil (given ++ its) ∙ k.story.answers;
                numbered = k.story.numbered;
                quiet = inr refl;
              };
              awaits = k.awaits;
            }));
        none = ap (λ (t : Socket). t.answer) there;
      })
    where
      s : Socket
      s = socket_in old n

      its : List (List ℕ)
      its = option_to_list (ready s.answer)

      there : socket_in new n ≡ answered s
      there = ap (λ (ss : List Socket). get_or ss n fresh) h.given ∙ answered_at old.sockets.items n

  -- ---- a turn, whole

  rounds : {C : Type 0} (bytes : List ℕ) (given : List (List ℕ)) (old new : Front C D) (replies : List (ℕ × List ℕ)) (closed : List ℕ)
      → (h : IsRound history old replies closed new) → Contains turns (turn_of history h.asked h.turned h.turns) → Between bytes given old
      → Between bytes (given ++ frames_to n replies) new
  rounds {C} bytes given old new replies closed h made k =
      handed_out bytes given h.turned new replies closed h.hands_out h.rest
      (turned bytes given h.asked h.turned h.sound.1.1 h.turns made
      (comes_to turns n h.ended.sockets.items h.asked.sockets.items h.asks.time h.asks.numbers bytes given (desk h.ended) (desk h.asked)
      h.asks.served h.asks.once
      (λ never_in. h.asks.others n fresh never_in) none holds free ended))
    where
      same : socket_in h.ended n ≡ socket_in old n
      same = ap (λ (f : Front C D). socket_in f n) h.ends.rest

      ended : Follows turns n bytes given h.ended.lending.loans (state h.ended.core).connections (socket_in h.ended n)
      ended = ends_each turns n h.ends.times bytes given (socket_in h.ended n) (desk old) (desk h.ended) h.ends.each
          (subst (Follows turns n bytes given old.lending.loans (state old.core).connections) (sym same) k.follows)

      none : (socket_in h.ended n).answer ≡ None
      none = ap (λ (s : Socket). s.answer) same ∙ k.none

      holds : HoldQuestions h.ended.lending.loans (state h.ended.core).connections
      holds = h.sound.0.0.unread (sym h.running ∙ turns_on h.asked h.turned h.turns)

      free : IsFree n h.ended.lending.loans (socket_in h.ended n)
      free idle id e = absurd (true≢false (sym (h.sound.0.1.asked id n fresh e) ∙ idle))

  -- ---- bytes come, or another socket ends

  fed_on : {C : Type 0} (m : ℕ) (chunk : List ℕ) (bytes : List ℕ) (given : List (List ℕ)) (old new : Front C D) → TakesBytes old m chunk new
      → Between bytes given old → Between (if m == n then bytes ++ chunk else bytes) given new
  fed_on {C} m chunk bytes given old new h k = at (same_or_not m n)
    where
      there : get_or h.fed.there n fresh ≡ socket_in old n
      there = grown_at old.sockets.items h.fed.there n h.fed.grown

      now : get_or new.sockets.items n fresh ≡ get_or (set h.fed.there m (fed (get_or h.fed.there m fresh) chunk)) n fresh
      now = ap (λ (ss : List Socket). get_or ss n fresh) (h.fed.fed fresh)

      moved : (b : List ℕ) (s : Socket) → Follows turns n b given old.lending.loans (state old.core).connections s
          → Follows turns n b given new.lending.loans (state new.core).connections s
      moved b s f = subst (λ (x : Front C D). Follows turns n b given x.lending.loans (state x.core).connections s) (sym h.rest) f

      its : m ≡ n → Between (bytes ++ chunk) given new
      its e =
          let is : socket_in new n ≡ fed (socket_in old n) chunk =
          now ∙ ap (λ (i : ℕ). get_or (set h.fed.there i (fed (get_or h.fed.there i fresh) chunk)) n fresh) e
          ∙ get_or-set_same h.fed.there n (fed (get_or h.fed.there n fresh) chunk) fresh (subst (λ (i : ℕ). i < length h.fed.there) e h.fed.within)
          ∙ ap (λ (s : Socket). fed s chunk) there in
          record {
            follows = subst (Follows turns n (bytes ++ chunk) given new.lending.loans (state new.core).connections) (sym is)
                (moved (bytes ++ chunk) (fed (socket_in old n) chunk) (record {
                  worked = k.follows.worked;
                  story = story_fed turns n bytes given k.follows.worked (socket_in old n) chunk k.follows.story;
                  awaits = k.follows.awaits;
                }));
            none = ap (λ (s : Socket). s.answer) is ∙ k.none;
          }

      others : m ≢ n → Between bytes given new
      others apart =
          let is : socket_in new n ≡ socket_in old n =
          now ∙ get_or-set_other h.fed.there m n (fed (get_or h.fed.there m fresh) chunk) fresh (λ e. apart (sym e)) ∙ there in
          record {
            follows = subst (Follows turns n bytes given new.lending.loans (state new.core).connections) (sym is) (moved bytes (socket_in old n) k.follows);
            none = ap (λ (s : Socket). s.answer) is ∙ k.none;
          }

      at : (m ≡ n) ⊎ (m ≢ n) → Between (if m == n then bytes ++ chunk else bytes) given new
      at (inl e) =
          let its_own : (m == n) ≡ true = grind (arith, nat_tests) in
          subst (λ (b : Bool). Between (if b then bytes ++ chunk else bytes) given new) (sym its_own) (its e)
      at (inr apart) =
          let other : (m == n) ≡ false = grind (arith, nat_tests) in
          subst (λ (b : Bool). Between (if b then bytes ++ chunk else bytes) given new) (sym other) (others apart)

  forgotten : {C : Type 0} (m : ℕ) (bytes : List ℕ) (given : List (List ℕ)) (old new : Front C D) → m ≢ n → Forgets old m new
      → Between bytes given old → Between bytes given new
  forgotten m bytes given old new apart h k = record {
    follows = subst (Follows turns n bytes given new.lending.loans (state new.core).connections) (sym is) (record {
      worked = k.follows.worked;
      story = k.follows.story;
      awaits = λ id e.
          let before = borrower_ended old.lending.loans m id n (ap (λ (ls : List (Option Loan)). borrower (loan_at ls id)) (sym h.loans) ∙ e) in
          let its = k.follows.awaits id before.1 in
          (its.0, its.1, subst (λ (c : Core D). HoldsUnread (question_bytes its.0) (connection_in (state c).connections id)) (sym h.core) its.2);
    });
    none = ap (λ (s : Socket). s.answer) is ∙ k.none;
  }
    where
      is : socket_in new n ≡ socket_in old n
      is = ap (λ (ss : List Socket). get_or ss n fresh) h.ended ∙ get_or-set_other old.sockets.items m n fresh fresh (λ e. apart (sym e))

  -- ---- all steps

  runs : {C : Type 0} (all : List Step) (bytes : List ℕ) (given : List (List ℕ)) (front : Front C D) (others : List (ℕ × List ℕ)) (last : Front C D)
      → DoesNotEnd n all → (h : Runs history front all others last)
      → ((t : ServerTurn D) → Contains (turns_of history front all others last h) t → Contains turns t) → Between bytes given front
      → Between (bytes ++ bytes_from n all) (given ++ frames_to n others) last
  runs {C} [] bytes given front others last stays h its k =
      subst (λ (f : Front C D). Between (bytes ++ []) (given ++ frames_to n others) f) (sym h.1)
      (subst (λ (fs : List (ℕ × List ℕ)). Between (bytes ++ []) (given ++ frames_to n fs) front) (sym h.0)
      (subst (λ (b : List ℕ). Between b (given ++ []) front) (sym (append-nil bytes))
      (subst (λ (g : List (List ℕ)). Between bytes g front) (sym (append-nil given)) k)))
  runs (steps.Bytes m chunk ∷ later) bytes given front others last stays h its k =
      subst (λ (b : List ℕ). Between b (given ++ frames_to n others) last) (with_chunk (m == n) bytes chunk.items (bytes_from n later))
      (runs later (if m == n then bytes ++ chunk.items else bytes) given h.0 others last stays h.3 its (fed_on m chunk.items bytes given front h.0 h.1 k))
  runs (steps.Gone m ∷ later) bytes given front others last stays h its k =
      runs later bytes given h.0 others last stays.1 h.3 its (forgotten m bytes given front h.0 stays.0 h.1 k)
  runs (steps.Turn ∷ later) bytes given front others last stays h its k =
      subst (λ (g : List (List ℕ)). Between (bytes ++ bytes_from n later) g last)
      (append_assoc given (frames_to n h.1) (frames_to n h.3)
      ∙ ap (λ (fs : List (List ℕ)). given ++ fs) (sym (ap (frames_to n) h.6 ∙ frames_both n h.1 h.3)))
      (runs later bytes (given ++ frames_to n h.1) h.0 h.3 last stays h.7
      (λ t c. its t (Contains-append_right (turn_of history h.4.asked h.4.turned h.4.turns ∷ []) (turns_of history h.0 later h.3 last h.7) t c))
      (rounds bytes given front h.0 h.1 h.2 h.4 (its (turn_of history h.4.asked h.4.turned h.4.turns) (0, omega arith, refl)) k))

pub serves_each_socket : (C : Type 0) {D : Type 0} (history : D → History) (n : ℕ) (first : Front C D) (all : List Step) (given : List (ℕ × List ℕ))
    (last : Front C D) → IsFrontSound history first → socket_in first n ≡ fresh → DoesNotEnd n all → (h : Runs history first all given last)
    → IsServed (turns_of history first all given last h) n (bytes_from n all) (frames_to n given) (socket_in last n)
serves_each_socket C {D} history n first all given last sound new stays h =
    let end = runs history turns n all [] [] first given last stays h (λ t c. c) (record {
      follows = subst (Follows turns n [] [] first.lending.loans (state first.core).connections) (sym new) (record {
        worked = [];
        story = story_fresh turns n;
        awaits = awaits_nothing n first.lending.loans (state first.core).connections None
            (λ id e. absurd (true≢false (sym (sound.1.asked id n fresh e) ∙ ap (λ (s : Socket). is_asked s.job) new)));
      });
      none = ap (λ (s : Socket). s.answer) new;
    }) in
    is_served turns n (bytes_from n all) (frames_to n given) end.follows.worked (socket_in last n) end.follows.story end.none
  where
    turns : List (ServerTurn D)
    turns = turns_of history first all given last h
