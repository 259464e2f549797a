-- In the server there stand unread the questions that connections are lent for, one on each, and nothing else; a turn takes and replies to all of them.
use Rattle.std.proofs.Common.{◌≡◌, ◌≢◌, ℕ, zero, suc, ◌+◌, ◌≤◌, Bool, true, false, List, [], ◌∷◌, ◌++◌, length, set, map, Option, Some, None, refl}
use Rattle.std.proofs.Common.{sym, ap, subst, ◌∙◌, inl, inr, ◌⊎◌, arith}
use Rattle.std.specs.Prelude.{◌==◌, if◌then◌else◌, Ok, Err, Vec, replicate}
use Rattle.std.specs.Ordering.{nat_cmp}
use Rattle.std.specs.declared.cmp.Ordering.{Ordering}
use Rattle.std.specs.declared.cmp.Ordering.TheVariants as orders
use Rattle.std.proofs.lemmas.Bool.Decides.{nat_tests}
use Rattle.std.proofs.lemmas.List.{get_or-set_other}
use Rattle.bson.specs.Limits.{message_limit}
use Rattle.bson.specs.Spelling.{frame_of, pairs_bytes}
use Rattle.bson.specs.Tree.{Pairs}
use Rattle.page.specs.History.{History}
use Rattle.op_msg.specs.Frame.{Frame, front}
use Rattle.op_msg.specs.Request.{document_in}
use Rattle.op_msg.specs.declared.fault.FrameFault.{FrameFault}
use Rattle.server.specs.Durable.{is_stopped, IsSound}
use Rattle.server.specs.ServerState.{ServerState, add_bytes, are_ascending, drop_connection, ended, feed_connections}
use Rattle.server.specs.Streams.{connection_in}
use Rattle.server.specs.Taking.{fault_in}
use Rattle.server.specs.Turn.{Call, Out, calls, call_at, connection_after, connection_at, connections_after, faults, frame_for, frame_unless, frames_of}
use Rattle.server.specs.Turn.{front_if_open, front_of}
use Rattle.op_msg.specs.ReplyNumbers.{next_number}
use Rattle.server.specs.Turning.{TakesTurn}
use Rattle.server.specs.View.{frames_in, out_of, state}
use Rattle.server.specs.declared.connection.Connection.{Connection}
use Rattle.server.specs.declared.turn.Core.{Core}
use Rattle.server.specs.declared.turn.TurnOut.{TurnOut}
use Rattle.server.proofs.ConnectionIn.{Front, dropped_in, ended_in, fed_in, found_by, none_faulty, turned_in}
use Rattle.driver_sockets.specs.Questions.{question_bytes}
use Rattle.front.specs.Asking.{IsAskedOn}
use Rattle.driver_sockets.specs.Laws.{question_frame}
use Rattle.driver_sockets.specs.Lending.{loan_at, after_end}
use Rattle.front.specs.Unread.{AreAtRest, HasReply, HasTurned, HaveReplies, HoldNothing, HoldQuestions, HoldsUnread, HoldsFor, HoldsQuestion, IsBehind}
use Rattle.driver_sockets.specs.declared.lending.Loan.{Loan}
use Rattle.driver_sockets.proofs.FrameLaws.{questions_are_messages}
use Rattle.driver_sockets.proofs.TyingLemmas.{same_or_not}

-- ---- a question comes

pub holds_more : (c : Connection) (bytes : List ℕ) → HoldsUnread [] c → HoldsUnread bytes (add_bytes c c.fault bytes)
holds_more c bytes h = record {
  is = ap (λ (f : Option FrameFault). (add_bytes c f bytes).frames) h.faultless ∙ ap (λ (before : List ℕ). before ++ bytes) h.is;
  faultless = ap (λ (f : Option FrameFault). (add_bytes c f bytes).fault) h.faultless ∙ h.faultless;
}

pub unread_asked : (loans : List (Option Loan)) (cs : List Connection) (id : ℕ) (loan : Loan) (command : Pairs)
    → loan_at (set loans id (Some loan)) id ≡ Some loan → loan_at loans id ≡ None → length (frame_of (pairs_bytes command)) + 21 ≤ message_limit
    → document_in (frame_of (pairs_bytes command)) ≡ Ok command → HoldQuestions loans cs
    → HoldQuestions (set loans id (Some loan)) (feed_connections cs id (question_bytes command))
unread_asked loans cs id loan command there rests room reads h k = at (same_or_not id k)
  where
    question : List ℕ
    question = question_bytes command

    empty : HoldsUnread [] (connection_in cs id)
    empty = subst (λ (o : Option Loan). HoldsFor o (connection_in cs id)) rests (h id)

    its : HoldsFor (loan_at (set loans id (Some loan)) id) (connection_in (feed_connections cs id question) id)
    its =
        let same : (id == id) ≡ true = grind (arith, nat_tests) in
        let here : connection_in (feed_connections cs id question) id ≡ add_bytes (connection_in cs id) (connection_in cs id).fault question =
        fed_in id id question cs
        ∙ ap (λ (b : Bool). if b then add_bytes (connection_in cs id) (connection_in cs id).fault question else connection_in cs id) same in
        subst (λ (o : Option Loan). HoldsFor o (connection_in (feed_connections cs id question) id)) (sym there)
        (record {
          command = command;
          room = room;
          reads = reads;
          alone = subst (HoldsUnread question) (sym here) (holds_more (connection_in cs id) question empty);
        })

    at : (id ≡ k) ⊎ (id ≢ k) → HoldsFor (loan_at (set loans id (Some loan)) k) (connection_in (feed_connections cs id question) k)
    at (inl same) =
        subst (λ (i : ℕ). HoldsFor (loan_at (set loans id (Some loan)) i) (connection_in (feed_connections cs id question) i)) same its
    at (inr apart) =
        let other : (id == k) ≡ false = grind (arith, nat_tests) in
        let here : connection_in (feed_connections cs id question) k ≡ connection_in cs k =
        fed_in k id question cs
        ∙ ap (λ (b : Bool). if b then add_bytes (connection_in cs k) (connection_in cs k).fault question else connection_in cs k) other in
        subst (HoldsFor (loan_at (set loans id (Some loan)) k)) (sym here)
        (subst (λ (o : Option Loan). HoldsFor o (connection_in cs k)) (sym (get_or-set_other loans id k (Some loan) None (λ e. apart (sym e)))) (h k))

-- ---- a turn takes them

front_empty : (c : Connection) → HoldsUnread [] c → front_of c ≡ Ok None
unfolding front
front_empty c h = λ i. front_if_open (h.faultless i) (h.is i)

front_question : (c : Connection) (h : HoldsQuestion c) → front_of c ≡ Ok (Some (question_frame h.command, []))
front_question c h = (λ i. front_if_open (h.alone.faultless i) (h.alone.is i)) ∙ questions_are_messages h.command h.room

after_turn : (loan : Option Loan) (c : Connection) → HoldsFor loan c → HoldsUnread [] (connection_after c)
after_turn None c h =
    let same : connection_after c ≡ c = ap (connection_at c) (front_empty c h) in
    subst (HoldsUnread []) (sym same) h
after_turn (Some loan) c h =
    let is : connection_after c ≡ connection_at c (Ok (Some (question_frame h.command, []))) = ap (connection_at c) (front_question c h) in
    subst (HoldsUnread []) (sym is) (record { is = refl; faultless = h.alone.faultless })

pub unread_turned : (loans : List (Option Loan)) (cs : List Connection) → HoldQuestions loans cs → HoldNothing (connections_after cs)
unread_turned loans cs h id = subst (HoldsUnread []) (sym (turned_in id cs)) (after_turn (loan_at loans id) (connection_in cs id) (h id))

-- ---- and replies to them

has_behind : {F : Type 0} (id : ℕ) (fs gs : List (ℕ × F)) → HasReply id gs → HasReply id (fs ++ gs)
has_behind id [] gs h = h
has_behind id (f ∷ fs) gs h = inr (has_behind id fs gs h)

first_replied : (id : ℕ) (l : Connection) (x : Frame × List ℕ) (f : Front) (cs : List Call) (replies : List Pairs) → f ≡ Ok (Some x) → l.id ≡ id
    → x.0.more_to_come ≡ false → length replies ≡ length (call_at l f ++ cs) → HasReply id (frames_of (call_at l f ++ cs) replies)
first_replied id l x (Ok (Some y)) cs [] is same wants n = absurd cc
first_replied id l x (Ok (Some y)) cs (r ∷ rs) is same wants n =
    let its : y ≡ x = cc in
    let wanted : y.0.more_to_come ≡ false = ap (λ (z : Frame × List ℕ). z.0.more_to_come) its ∙ wants in
    subst (λ (b : Bool). HasReply id (frame_unless b l.id (next_number l.last_reply) y.0.number r ++ frames_of cs rs)) (sym wanted) (inl same)
first_replied id l x (Ok None) cs replies is same wants n = absurd cc
first_replied id l x (Err fault) cs replies is same wants n = absurd cc

later_replied : (id : ℕ) (l : Connection) (f : Front) (cs : List Call) (replies : List Pairs) → length replies ≡ length (call_at l f ++ cs)
    → ((rs : List Pairs) → length rs ≡ length cs → HasReply id (frames_of cs rs)) → HasReply id (frames_of (call_at l f ++ cs) replies)
later_replied id l (Ok (Some y)) cs [] n later = absurd cc
later_replied id l (Ok (Some y)) cs (r ∷ rs) n later =
    has_behind id (frame_for (record { connection = l; frame = y.0 }) r) (frames_of cs rs) (later rs (omega (arith, n)))
later_replied id l (Ok None) cs replies n later = later replies n
later_replied id l (Err fault) cs replies n later = later replies n

-- whoever's message is taken has a reply, if it wants one
replied_in : (id : ℕ) (ls : List Connection) (replies : List Pairs) (x : Frame × List ℕ) → length replies ≡ length (calls ls)
    → front_of (connection_in ls id) ≡ Ok (Some x) → x.0.more_to_come ≡ false → HasReply id (frames_of (calls ls) replies)
unfolding front
replied_in id [] replies x n e wants = absurd cc
replied_in id (l ∷ ls) replies x n e wants = by (nat_cmp id l.id) refl e (λ rs m later. replied_in id ls rs x m later wants)
  where
    by : (o : Ordering) → nat_cmp id l.id ≡ o → front_of (found_by id o l ls) ≡ Ok (Some x)
        → ((rs : List Pairs) → length rs ≡ length (calls ls) → front_of (connection_in ls id) ≡ Ok (Some x) → HasReply id (frames_of (calls ls) rs))
        → HasReply id (frames_of (call_at l (front_of l) ++ calls ls) replies)
    by orders.Less c e later = absurd cc
    by orders.Equal c e later =
        let same : l.id ≡ id = grind (arith, nat_tests) in
        first_replied id l x (front_of l) (calls ls) replies e same wants n
    by orders.Greater c e later = later_replied id l (front_of l) (calls ls) replies n (λ rs m. later rs m e)

questions_replied : (loans : List (Option Loan)) (cs : List Connection) (replies : List Pairs) → HoldQuestions loans cs
    → length replies ≡ length (calls cs) → HaveReplies loans (frames_of (calls cs) replies)
questions_replied loans cs replies h n id = at (loan_at loans id) refl (h id)
  where
    at : (loan : Option Loan) → loan_at loans id ≡ loan → HoldsFor loan (connection_in cs id)
        → (loan_at loans id ≡ None) ⊎ HasReply id (frames_of (calls cs) replies)
    at None e h = inl e
    at (Some loan) e h = inr (replied_in id cs replies (question_frame h.command, []) n (front_question (connection_in cs id) h) refl)

unframed : {Z : Type 0} (id : ℕ) (fs : List (ℕ × Vec ℕ Z)) → HasReply id (frames_in fs) → HasReply id fs
unframed id [] h = h
unframed id (f ∷ fs) (inl e) = inl e
unframed id (f ∷ fs) (inr h) = inr (unframed id fs h)

pub turn_replies : {Z : Type 0} (loans : List (Option Loan)) (cs : List Connection) (replies : List Pairs) (frames : List (ℕ × Vec ℕ Z))
    → HoldQuestions loans cs → length replies ≡ length (calls cs) → frames_in frames ≡ frames_of (calls cs) replies → HaveReplies loans frames
turn_replies loans cs replies frames h n is id = at (questions_replied loans cs replies h n id)
  where
    at : (loan_at loans id ≡ None) ⊎ HasReply id (frames_of (calls cs) replies) → (loan_at loans id ≡ None) ⊎ HasReply id frames
    at (inl e) = inl e
    at (inr r) = inr (unframed id frames (subst (HasReply id) (sym is) r))

-- ---- and closes none

no_fault : (loan : Option Loan) (c : Connection) → HoldsFor loan c → fault_in (front_of c) ≡ None
no_fault None c h = ap fault_in (front_empty c h)
no_fault (Some loan) c h = ap fault_in (front_question c h)

pub turn_closes_none : (loans : List (Option Loan)) (cs : List Connection) → are_ascending cs ≡ true → HoldQuestions loans cs → faults cs ≡ []
turn_closes_none loans cs rises h = none_faulty cs rises (λ id. no_fault (loan_at loans id) (connection_in cs id) (h id))

-- ---- the connections come to rest

rests_on : (loans : List (Option Loan)) (id k : ℕ) → loan_at loans k ≡ None → loan_at (set loans id None) k ≡ None
rests_on [] id k e = e
rests_on (x ∷ xs) zero zero e = refl
rests_on (x ∷ xs) zero (suc k) e = e
rests_on (x ∷ xs) (suc id) zero e = e
rests_on (x ∷ xs) (suc id) (suc k) e = rests_on xs id k e

rests_again : (loans : List (Option Loan)) (id : ℕ) → loan_at (set loans id None) id ≡ None
rests_again [] id = refl
rests_again (x ∷ xs) zero = refl
rests_again (x ∷ xs) (suc id) = rests_again xs id

pub replies_left : {F : Type 0} (loans after : List (Option Loan)) (id : ℕ) (frame : F) (rest : List (ℕ × F)) → after ≡ set loans id None
    → HaveReplies loans ((id, frame) ∷ rest) → HaveReplies after rest
replies_left {F} loans after id frame rest is h k = subst (λ (ls : List (Option Loan)). (loan_at ls k ≡ None) ⊎ HasReply k rest) (sym is) (at (h k))
  where
    at : (loan_at loans k ≡ None) ⊎ ((id ≡ k) ⊎ HasReply k rest) → (loan_at (set loans id None) k ≡ None) ⊎ HasReply k rest
    at (inl e) = inl (rests_on loans id k e)
    at (inr (inl same)) = inl (subst (λ (i : ℕ). loan_at (set loans id None) i ≡ None) same (rests_again loans id))
    at (inr (inr later)) = inr later

pub all_rest : {F : Type 0} (loans : List (Option Loan)) (left : List (ℕ × F)) → left ≡ [] → HaveReplies loans left → AreAtRest loans
all_rest loans left none h id = at (subst (λ fs. (loan_at loans id ≡ None) ⊎ HasReply id fs) none (h id))
  where
    at : (loan_at loans id ≡ None) ⊎ ⊥ → loan_at loans id ≡ None
    at (inl e) = e
    at (inr h) = absurd h

pub unread_at_rest : (loans : List (Option Loan)) (cs : List Connection) → AreAtRest loans → HoldNothing cs → HoldQuestions loans cs
unread_at_rest loans cs rest h id = subst (λ (o : Option Loan). HoldsFor o (connection_in cs id)) (sym (rest id)) (h id)

-- ---- a connection ends, or a socket

pub unread_ended : (cs : List Connection) (id : ℕ) → are_ascending cs ≡ true → HoldNothing cs → HoldNothing (drop_connection cs id)
unread_ended cs id rises h k = at (same_or_not id k)
  where
    its : HoldsUnread [] (connection_in (drop_connection cs id) id)
    its = subst (HoldsUnread []) (sym (ended_in id cs rises)) (record { is = refl; faultless = refl })

    at : (id ≡ k) ⊎ (id ≢ k) → HoldsUnread [] (connection_in (drop_connection cs id) k)
    at (inl same) = subst (λ (i : ℕ). HoldsUnread [] (connection_in (drop_connection cs id) i)) same its
    at (inr apart) = subst (HoldsUnread []) (sym (dropped_in k id cs apart rises)) (h k)

loan_ended : (loans : List (Option Loan)) (n id : ℕ) → loan_at (map (after_end n) loans) id ≡ after_end n (loan_at loans id)
loan_ended [] n id = refl
loan_ended (x ∷ xs) n zero = refl
loan_ended (x ∷ xs) n (suc id) = loan_ended xs n id

pub unread_without : (loans after : List (Option Loan)) (n : ℕ) (cs : List Connection) → after ≡ map (after_end n) loans → HoldQuestions loans cs
    → HoldQuestions after cs
unread_without loans after n cs is h id =
    subst (λ (ls : List (Option Loan)). HoldsFor (loan_at ls id) (connection_in cs id)) (sym is)
    (subst (λ (o : Option Loan). HoldsFor o (connection_in cs id)) (sym (loan_ended loans n id)) (at (loan_at loans id) (h id)))
  where
    at : (o : Option Loan) → HoldsFor o (connection_in cs id) → HoldsFor (after_end n o) (connection_in cs id)
    at None h = h
    at (Some loan) h = h

-- ---- the server behind a front

module _ {D : Type 0} (history : D → History) where
  pub behind_same : (loans : List (Option Loan)) (old new : Core D) → IsBehind history loans old → IsSound history new
      → is_stopped new ≡ is_stopped old → state new ≡ state old → IsBehind history loans new
  behind_same loans old new h sound running same = record {
    sound = sound;
    unread = λ r. subst (HoldQuestions loans) (sym (ap (λ (s : ServerState). s.connections) same)) (h.unread (sym running ∙ r));
  }

  pub behind_asked : (loans after : List (Option Loan)) (old new : Core D) (id : ℕ) (loan : Loan) (command : Pairs)
      → loan_at after id ≡ Some loan → loan_at loans id ≡ None → after ≡ set loans id (Some loan) → IsBehind history loans old → IsSound history new
      → is_stopped new ≡ is_stopped old → IsAskedOn (state old) id command (state new) → IsBehind history after new
  behind_asked loans after old new id loan command there rests is h sound running asked = record {
    sound = sound;
    unread = λ r.
        subst (λ (ls : List (Option Loan)). HoldQuestions ls (state new).connections) (sym is)
        (subst (HoldQuestions (set loans id (Some loan))) (sym (ap (λ (s : ServerState). s.connections) asked.came))
        (unread_asked loans (state old).connections id loan command
        (ap (λ (ls : List (Option Loan)). loan_at ls id) (sym is) ∙ there) rests asked.room asked.reads (h.unread (sym running ∙ r))));
  }

  pub behind_turned : (loans : List (Option Loan)) (core : Core D) → HasTurned history core → AreAtRest loans → IsBehind history loans core
  behind_turned loans core h rest = record { sound = h.sound; unread = λ r. unread_at_rest loans (state core).connections rest h.unread }

  -- a turn that answers
  runs_on : (old new : Core D) (out : TurnOut) → TakesTurn history old (Ok out) new → is_stopped old ≡ false
  runs_on old new out t = at (is_stopped old) refl
    where
      at : (b : Bool) → is_stopped old ≡ b → is_stopped old ≡ false
      at true e = let never = (t.idle e).0 in absurd cc
      at false e = e

  pub turn_takes : (loans : List (Option Loan)) (old new : Core D) (out : TurnOut) → IsBehind history loans old → TakesTurn history old (Ok out) new
      → HasTurned history new
  turn_takes loans old new out h t = record {
    sound = t.sound;
    unread = subst HoldNothing (sym t.leaves) (unread_turned loans (state old).connections (h.unread (runs_on old new out t)));
  }

  pub turn_has_replies : (loans : List (Option Loan)) (old new : Core D) (out : TurnOut) → IsBehind history loans old
      → TakesTurn history old (Ok out) new → HaveReplies loans out.replies.items
  turn_has_replies loans old new out h t =
      turn_replies loans (state old).connections t.hands_out.replies out.replies.items (h.unread (runs_on old new out t)) t.hands_out.one_each
      (ap (λ (o : Out). o.replies) t.hands_out.is)

  pub turn_is_open : (loans : List (Option Loan)) (old new : Core D) (out : TurnOut) → IsBehind history loans old
      → TakesTurn history old (Ok out) new → (out_of out).closed ≡ []
  turn_is_open loans old new out h t =
      ap (λ (o : Out). o.closed) t.hands_out.is
      ∙ turn_closes_none loans (state old).connections h.sound.ascending (h.unread (runs_on old new out t))

  pub behind_stopped : (loans : List (Option Loan)) (core : Core D) → IsSound history core → is_stopped core ≡ true → IsBehind history loans core
  behind_stopped loans core sound stops =
      record { sound = sound; unread = λ r. let never : true ≡ false = sym stops ∙ r in absurd cc }

  pub behind_without : (loans after : List (Option Loan)) (n : ℕ) (core : Core D) → after ≡ map (after_end n) loans → IsBehind history loans core
      → IsBehind history after core
  behind_without loans after n core is h =
      record { sound = h.sound; unread = λ r. unread_without loans after n (state core).connections is (h.unread r) }

  pub behind_new : (loans : List (Option Loan)) (core : Core D) → IsSound history core → (state core).connections ≡ [] → loans ≡ replicate 64 None
      → IsBehind history loans core
  behind_new loans core sound fresh is = behind_turned loans core
      (record {
        sound = sound;
        unread = λ id. subst (λ (cs : List Connection). HoldsUnread [] (connection_in cs id)) (sym fresh) (record { is = refl; faultless = refl });
      })
      (λ id. ap (λ (ls : List (Option Loan)). loan_at ls id) is ∙ none_lent 64 id)
    where
      none_lent : (count id : ℕ) → loan_at (replicate count None) id ≡ None
      none_lent zero id = refl
      none_lent (suc count) zero = refl
      none_lent (suc count) (suc id) = none_lent count id

  pub turned_ended : (old new : Core D) (id : ℕ) → HasTurned history old → IsSound history new → state new ≡ ended (state old) id
      → HasTurned history new
  turned_ended old new id h sound is = record {
    sound = sound;
    unread = subst HoldNothing (sym (ap (λ (s : ServerState). s.connections) is))
        (unread_ended (state old).connections id h.sound.ascending h.unread);
  }
