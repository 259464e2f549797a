-- What becomes of the messages of one socket.
use Rattle.std.proofs.Common.{◌≡◌, ◌⊎◌, ℕ, true, false, List, [], ◌∷◌, ◌++◌, Option, Some, None, Ok, Err, refl, sym, ap, subst, ◌∙◌, inl, inr, append-nil}
use Rattle.std.specs.Prelude.{Bool, Result, Vec, option_map, option_to_list}
use Rattle.bson.specs.Tree.{Pairs}
use Rattle.driver_messages.specs.Cutting.{Arrival, Begins as Stands}
use Rattle.driver_messages.specs.Incoming.{next_message}
use Rattle.driver_messages.specs.declared.message.Form.{Form}
use Rattle.driver_messages.specs.declared.message.Message.{Message}
use Rattle.driver_messages.specs.declared.stream_fault.StreamFault.{StreamFault}
use Rattle.driver_messages.proofs.CuttingLaws.{taken_in_order}
use Rattle.drivers.specs.Answering.{answered, first_plan, with_asked}
use Rattle.drivers.specs.Asked.{after_replies, begun}
use Rattle.drivers.specs.Framing.{framed}
use Rattle.drivers.specs.Laws.{asked_by}
use Rattle.drivers.specs.Starting.{started}
use Rattle.drivers.proofs.AskedLaws.{keeps_what_is_asked}
use Rattle.drivers.specs.declared.plan.Plan.{Plan}
use Rattle.drivers.specs.declared.server_info.ServerInfo.{ServerInfo}
use Rattle.drivers.specs.declared.step.Step.{Step}
use Rattle.drivers.specs.declared.step.Step.TheVariants as steps
use Rattle.driver_sockets.specs.Replying.{Begins, Follows, GoesOn, HasAnswer, IsClosed, TakesReply, WaitsOrCloses}
use Rattle.driver_sockets.specs.Replying.{closed, question_by, resting, to_ask, told}
use Rattle.op_msg.specs.ReplyNumbers.{next_number}
use Rattle.driver_sockets.specs.Questions.{kept_plan, waiting}
use Rattle.front.specs.Served.{Worked, standing, answer_behind, messages_of, number_behind, last_number, answers_of, AreReplies, AllAreReplies, IsReplyTo}
use Rattle.front.specs.Served.{HaveEnded, IsWorkedOn, Stand, IsServed, ServerTurn}
use Rattle.driver_sockets.specs.Serving.{fed, fresh}
use Rattle.driver_sockets.specs.declared.job.Job.{Job}
use Rattle.driver_sockets.specs.declared.job.Question.{Question}
use Rattle.driver_sockets.specs.declared.socket.Socket.{Socket}
use Rattle.driver_sockets.proofs.TyingLemmas.{some_is}

-- ---- one more

after_more : (x : Plan × Step) (replies : List Pairs) (reply : Pairs) → after_replies x (replies ++ reply ∷ []) ≡ answered (after_replies x replies).0 reply
after_more x [] reply = refl
after_more x (r ∷ rs) reply = after_more (answered x.0 r) rs reply

stands_one : (bytes : List ℕ) (messages : List Message) (rest : List ℕ) (message : Message) (after : List ℕ) → Stands bytes messages rest
    → next_message rest ≡ Ok (Some (message, after)) → Stands bytes (messages ++ message ∷ []) after
stands_one bytes [] rest message after h e = (after, subst (λ (b : List ℕ). next_message b ≡ Ok (Some (message, after))) h e, refl)
stands_one bytes (m ∷ ms) rest message after h e = (h.0, h.1, stands_one h.0 ms rest message after h.2 e)

stands_fed : (bytes : List ℕ) (messages : List Message) (rest chunk : List ℕ) → Stands bytes messages rest → Stands (bytes ++ chunk) messages (rest ++ chunk)
stands_fed bytes messages rest chunk h =
    let came : List Arrival = record { chunk = bytes; messages = messages } ∷ record { chunk = chunk; messages = [] } ∷ [] in
    subst (λ (c : List ℕ). Stands (bytes ++ c) messages (rest ++ chunk)) (append-nil chunk)
    (subst (λ (ms : List Message). Stands (bytes ++ (chunk ++ [])) ms (rest ++ chunk)) (append-nil messages)
    (taken_in_order came (rest ++ chunk) (rest, h, (rest ++ chunk, refl, refl))))

-- ---- how they stand

stand_over : (job : Option Job) (over : Bool) (worked : List Worked) → Stand job over worked → Stand job true worked
stand_over (Some job) over [] h = h
stand_over (Some job) over (w ∷ earlier) h = h
stand_over None true worked h = h
stand_over None false [] h = h
stand_over None false (w ∷ earlier) h = h.1

stand_left : (job : Option Job) (over : Bool) (worked : List Worked) → Stand job over worked → Stand None true worked
stand_left (Some job) over [] h = absurd h
stand_left (Some job) over (w ∷ earlier) h = h.1
stand_left None over worked h = stand_over None over worked h

stand_ended : (over : Bool) (worked : List Worked) → HaveEnded worked → Stand None over worked
stand_ended false worked h = h
stand_ended true [] h = h
stand_ended true (w ∷ earlier) h = h.1

-- ---- frames

abbrev pub ready : {Z : Type 0} → Option (Vec ℕ Z) → Option (List ℕ)
ready answer = option_map (λ v. v.items) answer

asks_unframed : (step : Step) (question : Question) (form : Form) (number request : ℕ) → question_by step ≡ Some question
    → framed form number request (told step) ≡ None
asks_unframed (steps.Ask command) question form number request e = refl
asks_unframed (steps.AskOwner id command) question form number request e = refl
asks_unframed (steps.Reply reply) question form number request e = absurd cc
asks_unframed (steps.Fail reply) question form number request e = absurd cc
asks_unframed steps.Silent question form number request e = absurd cc

pub asked_as : (step : Step) (question : Question) → question_by step ≡ Some question → asked_by step ≡ Some question.command
asked_as (steps.Ask command) question e = ap (λ (q : Question). Some q.command) (some_is (record { cursor = None; command = command }) question e)
asked_as (steps.AskOwner id command) question e =
    ap (λ (q : Question). Some q.command) (some_is (record { cursor = Some id; command = command }) question e)
asked_as (steps.Reply reply) question e = absurd cc
asked_as (steps.Fail reply) question e = absurd cc
asked_as steps.Silent question e = absurd cc

-- what the latest asks
abbrev pub asked_now : List Worked → Option Pairs
asked_now [] = None
asked_now (w ∷ earlier) = asked_by (standing w).1

module _ {D : Type 0} (turns : List (ServerTurn D)) (n : ℕ) where
  replies_more : (x : Plan × Step) (replies : List Pairs) (reply : Pairs) → AreReplies turns n x replies
      → IsReplyTo turns n (asked_by (after_replies x replies).1) reply → AreReplies turns n x (replies ++ reply ∷ [])
  replies_more x [] reply h one = (one, tt)
  replies_more x (r ∷ rs) reply h one = (h.0, replies_more (answered x.0 r) rs reply h.1 one)

  -- A socket at any time of a turn: these are its messages, and its last answer may not have been handed out yet.
  pub record Story (bytes : List ℕ) (given : List (List ℕ)) (worked : List Worked) (s : Socket) : Type 0 where
    pub rest : List ℕ
    pub begins : Stands bytes (messages_of worked) rest
    pub waits : s.is_over ≡ false → s.incoming ≡ rest
    pub replies : AllAreReplies turns n worked
    pub stand : Stand s.job s.is_over worked
    pub answers : given ++ option_to_list (ready s.answer) ≡ answers_of worked
    pub numbered : s.last_reply ≡ last_number worked
    pub quiet : (s.job ≡ None) ⊎ (s.answer ≡ None)

  none_given : (given : List (List ℕ)) (s : Socket) → s.answer ≡ None → given ++ option_to_list (ready s.answer) ≡ given
  none_given given s e = ap (λ a. given ++ option_to_list (ready a)) e ∙ append-nil given

  -- ---- a message goes on

  pub goes_on : (bytes : List ℕ) (given : List (List ℕ)) (w : Worked) (earlier : List Worked) (old new : Socket) (rest : List ℕ) (plan : Plan)
      → Stands bytes (messages_of (w ∷ earlier)) rest → (old.is_over ≡ false → old.incoming ≡ rest) → AllAreReplies turns n (w ∷ earlier)
      → HaveEnded earlier → old.job ≡ None → old.answer ≡ None → given ≡ answers_of earlier → old.last_reply ≡ last_number earlier
      → ((question : Question) → question_by (standing w).1 ≡ Some question → with_asked plan question.command ≡ (standing w).0)
      → Follows old w.message.form w.message.number (plan, (standing w).1) new → Story bytes given (w ∷ earlier) new
  goes_on bytes given w earlier old new rest plan begins waits replies ended free none answers numbered kept follows = at (question_by step) refl follows
    where
      form : Form
      form = w.message.form

      number : ℕ
      number = w.message.number

      step : Step
      step = (standing w).1

      last : ℕ
      last = last_number earlier

      framed_as : framed form (next_number old.last_reply) number (told step) ≡ answer_behind last w
      framed_as = ap (λ (k : ℕ). framed form (next_number k) number (told step)) numbered

      given_before : given ++ option_to_list (ready old.answer) ≡ answers_of earlier
      given_before = none_given given old none ∙ answers

      no_more : answer_behind last w ≡ None → answers_of (w ∷ earlier) ≡ answers_of earlier
      no_more e = ap (λ (f : Option (List ℕ)). answers_of earlier ++ option_to_list f) e ∙ append-nil (answers_of earlier)

      same_number : answer_behind last w ≡ None → last_number (w ∷ earlier) ≡ last
      same_number e = ap (number_behind last) e

      asks : (question : Question) → question_by step ≡ Some question
          → Story bytes given (w ∷ earlier) (record old { job = Some (to_ask form number plan question) })
      asks question e =
          let unframed = asks_unframed step question form (next_number last) number e in
          record {
            rest = rest;
            begins = begins;
            waits = waits;
            replies = replies;
            stand = (record { form = refl; number = refl; plan = kept question e; question = question; next = e; at = refl }, ended);
            answers = given_before ∙ sym (no_more unframed);
            numbered = numbered ∙ sym (same_number unframed);
            quiet = inr none;
          }

      ends_unanswered : answer_behind last w ≡ None → question_by step ≡ None → Story bytes given (w ∷ earlier) old
      ends_unanswered unframed e = record {
        rest = rest;
        begins = begins;
        waits = waits;
        replies = replies;
        stand = subst (λ (j : Option Job). Stand j old.is_over (w ∷ earlier)) (sym free) (stand_ended old.is_over (w ∷ earlier) (e, ended));
        answers = given_before ∙ sym (no_more unframed);
        numbered = numbered ∙ sym (same_number unframed);
        quiet = inl free;
      }

      ends_answered : (frame : List ℕ) → answer_behind last w ≡ Some frame → question_by step ≡ None → option_map (λ v. v.items) new.answer ≡ Some frame
          → new ≡ record old { answer = new.answer; last_reply = next_number old.last_reply } → Story bytes given (w ∷ earlier) new
      ends_answered frame is e out same = record {
        rest = rest;
        begins = begins;
        waits = λ unclosed. ap (λ (s : Socket). s.incoming) same ∙ waits (sym (ap (λ (s : Socket). s.is_over) same) ∙ unclosed);
        replies = replies;
        stand = subst (λ (j : Option Job). Stand j new.is_over (w ∷ earlier)) (sym job) (stand_ended new.is_over (w ∷ earlier) (e, ended));
        answers = ap (λ (f : Option (List ℕ)). given ++ option_to_list f) (out ∙ sym is)
            ∙ ap (λ (before : List (List ℕ)). before ++ option_to_list (answer_behind last w)) answers;
        numbered = ap (λ (s : Socket). s.last_reply) same ∙ ap next_number numbered ∙ sym (ap (number_behind last) is);
        quiet = inl job;
      }
        where
          job : new.job ≡ None
          job = ap (λ (s : Socket). s.job) same ∙ free

      ends : (frame : Option (List ℕ)) → framed form (next_number old.last_reply) number (told step) ≡ frame → question_by step ≡ None
          → HasAnswer old frame new → Story bytes given (w ∷ earlier) new
      ends None is e h = subst (Story bytes given (w ∷ earlier)) (sym h) (ends_unanswered (sym framed_as ∙ is) e)
      ends (Some frame) is e h = ends_answered frame (sym framed_as ∙ is) e h.ready h.rest

      at : (q : Option Question) → question_by step ≡ q → GoesOn old form number plan step q new → Story bytes given (w ∷ earlier) new
      at (Some question) e h = subst (Story bytes given (w ∷ earlier)) (sym h) (asks question e)
      at None e h = ends (framed form (next_number old.last_reply) number (told step)) refl e h

  -- ---- a socket is to be closed

  pub story_closed : (bytes : List ℕ) (given : List (List ℕ)) (worked : List Worked) (s new : Socket) → Story bytes given worked s → IsClosed s new
      → Story bytes given worked new
  story_closed bytes given worked s new h (inl is) = subst (Story bytes given worked) (sym is) (record {
    rest = h.rest;
    begins = h.begins;
    waits = λ unclosed. absurd cc;
    replies = h.replies;
    stand = stand_over s.job s.is_over worked h.stand;
    answers = h.answers;
    numbered = h.numbered;
    quiet = h.quiet;
  })
  story_closed bytes given worked s new h (inr is) = subst (Story bytes given worked) (sym is) (record {
    rest = h.rest;
    begins = h.begins;
    waits = λ unclosed. absurd cc;
    replies = h.replies;
    stand = stand_left s.job s.is_over worked h.stand;
    answers = h.answers;
    numbered = h.numbered;
    quiet = inl refl;
  })

  -- the message at its front is taken and not begun
  lost : (bytes : List ℕ) (given : List (List ℕ)) (worked : List Worked) (s : Socket) (left : List ℕ) → Story bytes given worked s
      → Story bytes given worked (closed (record s { incoming = left }))
  lost bytes given worked s left h = record {
    rest = h.rest;
    begins = h.begins;
    waits = λ unclosed. absurd cc;
    replies = h.replies;
    stand = stand_over s.job s.is_over worked h.stand;
    answers = h.answers;
    numbered = h.numbered;
    quiet = h.quiet;
  }

  pub story_waits : (bytes : List ℕ) (given : List (List ℕ)) (worked : List Worked) (s new : Socket)
      (next : Result (Option (Message × List ℕ)) StreamFault) → Story bytes given worked s → WaitsOrCloses s next new → Story bytes given worked new
  story_waits bytes given worked s new (Ok (Some x)) h (inl is) = subst (Story bytes given worked) (sym is) h
  story_waits bytes given worked s new (Ok (Some x)) h (inr is) = subst (Story bytes given worked) (sym is) (lost bytes given worked s x.1 h)
  story_waits bytes given worked s new (Ok None) h is = subst (Story bytes given worked) (sym is) h
  story_waits bytes given worked s new (Err fault) h is = subst (Story bytes given worked) (sym is) h

  -- ---- a message is begun

  -- The messages are the same, or the socket worked on none.
  pub record Begun (bytes : List ℕ) (given : List (List ℕ)) (worked : List Worked) (old new : Socket) : Type 0 where
    pub after : List Worked
    pub story : Story bytes given after new
    pub same : (after ≡ worked) ⊎ (old.job ≡ None)

  begun_same : (bytes : List ℕ) (given : List (List ℕ)) (worked : List Worked) (s new : Socket) → Story bytes given worked s → new ≡ s
      → Begun bytes given worked s new
  begun_same bytes given worked s new h is = record { after = worked; story = subst (Story bytes given worked) (sym is) h; same = inl refl }

  begun_one : (bytes : List ℕ) (given : List (List ℕ)) (worked : List Worked) (info : ServerInfo) (s new : Socket) (x : Message × List ℕ)
      → Story bytes given worked s → s.answer ≡ None → s.is_over ≡ false → s.job ≡ None → next_message s.incoming ≡ Ok (Some x)
      → Follows (record s { incoming = x.1 }) x.0.form x.0.number (first_plan info.ids x.0, started info x.0) new → Begun bytes given worked s new
  begun_one bytes given worked info s new x h none unclosed free next follows = record {
    after = w ∷ worked;
    story = goes_on bytes given w worked (record s { incoming = x.1 }) new x.1 (first_plan info.ids x.0)
        (stands_one bytes (messages_of worked) h.rest x.0 x.1 h.begins
        (subst (λ (b : List ℕ). next_message b ≡ Ok (Some x)) (h.waits unclosed) next))
        (λ still. refl) (tt, h.replies) ended free none (sym (none_given given s none) ∙ h.answers) h.numbered
        (λ question e. keeps_what_is_asked.first info x.0 question.command (asked_as (started info x.0) question e)) follows;
    same = inr free;
  }
    where
      w : Worked
      w = record { info = info; message = x.0; replies = [] }

      ended : HaveEnded worked
      ended =
          subst (λ (b : Bool). Stand None b worked) unclosed (subst (λ (j : Option Job). Stand j s.is_over worked) free h.stand)

  pub story_begins : (bytes : List ℕ) (given : List (List ℕ)) (worked : List Worked) (info : ServerInfo) (s new : Socket)
      → Story bytes given worked s → s.answer ≡ None → Begins info s s.is_over s.job (next_message s.incoming) new → Begun bytes given worked s new
  story_begins bytes given worked info s new h none begins = at s.is_over s.job (next_message s.incoming) refl refl refl begins
    where
      at : (over : Bool) (job : Option Job) (next : Result (Option (Message × List ℕ)) StreamFault) → s.is_over ≡ over → s.job ≡ job
          → next_message s.incoming ≡ next → Begins info s over job next new → Begun bytes given worked s new
      at true job next o j n b = begun_same bytes given worked s new h b
      at false (Some job) next o j n b = begun_same bytes given worked s new h b
      at false None (Ok None) o j n b = begun_same bytes given worked s new h b
      at false None (Ok (Some x)) o j n b = begun_one bytes given worked info s new x h none o j n b
      at false None (Err fault) o j n b =
          record { after = worked; story = story_closed bytes given worked s new h (inl b); same = inl refl }

  -- ---- it is asked, and a reply comes

  pub story_asked : (bytes : List ℕ) (given : List (List ℕ)) (worked : List Worked) (s : Socket) → Story bytes given worked s
      → Story bytes given worked (waiting s)
  story_asked bytes given worked s h = record {
    rest = h.rest;
    begins = h.begins;
    waits = h.waits;
    replies = h.replies;
    stand = at s.job worked h.stand;
    answers = h.answers;
    numbered = h.numbered;
    quiet = still h.quiet;
  }
    where
      at : (job : Option Job) (ws : List Worked) → Stand job s.is_over ws → Stand (waiting (record s { job = job })).job s.is_over ws
      at None ws k = k
      at (Some job) [] k = k
      at (Some job) (w ∷ earlier) k = (
        record { form = k.0.form; number = k.0.number; plan = k.0.plan; question = k.0.question; next = k.0.next; at = tt },
        k.1,
      )

      still : (s.job ≡ None) ⊎ (s.answer ≡ None) → ((waiting s).job ≡ None) ⊎ (s.answer ≡ None)
      still (inl e) = inl (ap (λ (j : Option Job). (waiting (record s { job = j })).job) e)
      still (inr e) = inr e

  -- the messages, and what has become of them
  pub record Replied (bytes : List ℕ) (given : List (List ℕ)) (new : Socket) : Type 0 where
    pub after : List Worked
    pub story : Story bytes given after new

  reply_to : (bytes : List ℕ) (given : List (List ℕ)) (w : Worked) (earlier : List Worked) (s new : Socket) (job : Job) (reply : Pairs)
      → Story bytes given (w ∷ earlier) s → s.answer ≡ None → IsWorkedOn w job → HaveEnded earlier
      → IsReplyTo turns n (asked_by (standing w).1) reply → Follows (resting s) job.form job.number (answered (kept_plan job) reply) new
      → Replied bytes given new
  reply_to bytes given w earlier s new job reply h none is ended one follows = record {
    after = next ∷ earlier;
    story = goes_on bytes given next earlier (resting s) new h.rest (standing next).0 h.begins h.waits
        (replies_more (begun w.info w.message) w.replies reply h.replies.0 one, h.replies.1) ended refl none
        (sym (none_given given s none) ∙ h.answers ∙ no_more) (h.numbered ∙ same_number)
        (λ question e. subst (λ (x : Plan × Step). with_asked x.0 question.command ≡ x.0) there
        (keeps_what_is_asked.later (kept_plan job) reply question.command))
        (subst (λ (f : Form). Follows (resting s) f w.message.number (standing next) new) is.form
        (subst (λ (n : ℕ). Follows (resting s) job.form n (standing next) new) is.number
        (subst (λ (x : Plan × Step). Follows (resting s) job.form job.number x new) there follows)));
  }
    where
      next : Worked
      next = record w { replies = w.replies ++ reply ∷ [] }

      there : answered (kept_plan job) reply ≡ standing next
      there = ap (λ (p : Plan). answered p reply) is.plan ∙ sym (after_more (begun w.info w.message) w.replies reply)

      last : ℕ
      last = last_number earlier

      unframed : answer_behind last w ≡ None
      unframed = asks_unframed (standing w).1 is.question w.message.form (next_number last) w.message.number is.next

      no_more : answers_of (w ∷ earlier) ≡ answers_of earlier
      no_more = ap (λ (f : Option (List ℕ)). answers_of earlier ++ option_to_list f) unframed ∙ append-nil (answers_of earlier)

      same_number : last_number (w ∷ earlier) ≡ last
      same_number = ap (number_behind last) unframed

  free_or : (s : Socket) (job : Job) → s.job ≡ Some job → (s.job ≡ None) ⊎ (s.answer ≡ None) → s.answer ≡ None
  free_or s job e (inl f) = let never : Some job ≡ None = sym e ∙ f in absurd cc
  free_or s job e (inr none) = none

  pub story_replied : (bytes : List ℕ) (given : List (List ℕ)) (worked : List Worked) (s new : Socket) (reply : Pairs)
      → Story bytes given worked s → IsReplyTo turns n (asked_now worked) reply → TakesReply s s.job reply new → Replied bytes given new
  story_replied bytes given worked s new reply h one takes = at s.job refl takes worked h one h.stand
    where
      at : (job : Option Job) → s.job ≡ job → TakesReply s job reply new → (ws : List Worked) → Story bytes given ws s
          → IsReplyTo turns n (asked_now ws) reply → Stand s.job s.is_over ws → Replied bytes given new
      at None e t ws k one stand =
          let same : resting s ≡ s = λ i. record s { job = sym e i } in
          record { after = ws; story = subst (Story bytes given ws) (sym (t ∙ same)) k }
      at (Some job) e t [] k one stand = absurd (subst (λ (j : Option Job). Stand j s.is_over []) e stand)
      at (Some job) e t (w ∷ earlier) k one stand =
          let its = subst (λ (j : Option Job). Stand j s.is_over (w ∷ earlier)) e stand in
          reply_to bytes given w earlier s new job reply k (free_or s job e k.quiet) its.0 its.1 one t

  -- ---- between turns

  pub story_fresh : Story [] [] [] fresh
  story_fresh = record {
    rest = [];
    begins = refl;
    waits = λ unclosed. refl;
    replies = tt;
    stand = tt;
    answers = refl;
    numbered = refl;
    quiet = inl refl;
  }

  pub story_fed : (bytes : List ℕ) (given : List (List ℕ)) (worked : List Worked) (s : Socket) (chunk : List ℕ) → Story bytes given worked s
      → Story (bytes ++ chunk) given worked (fed s chunk)
  story_fed bytes given worked s chunk h = record {
    rest = h.rest ++ chunk;
    begins = stands_fed bytes (messages_of worked) h.rest chunk h.begins;
    waits = λ unclosed. ap (λ (b : List ℕ). b ++ chunk) (h.waits unclosed);
    replies = h.replies;
    stand = h.stand;
    answers = h.answers;
    numbered = h.numbered;
    quiet = h.quiet;
  }

  pub is_served : (bytes : List ℕ) (given : List (List ℕ)) (worked : List Worked) (s : Socket) → Story bytes given worked s → s.answer ≡ None
      → IsServed turns n bytes given s
  is_served bytes given worked s h none = record {
    worked = worked;
    rest = h.rest;
    begins = h.begins;
    waits = h.waits;
    replies = h.replies;
    stand = h.stand;
    answers = sym (none_given given s none) ∙ h.answers;
    numbered = h.numbered;
    none_ready = none;
  }
