-- Why the batches of a cursor in a history cut the list that it had.
use Rattle.std.proofs.Common.{◌≡◌, inl, inr, ℕ, ◌<◌, List, [], ◌∷◌, ◌++◌, Result, refl, sym, ◌∙◌, ap, subst, append_assoc}
use Rattle.bson.specs.Tree.{Pairs}
use Rattle.bson_bytes.specs.declared.fault.BsonFault.{BsonFault}
use Rattle.path.specs.declared.refusal.Refusal.{Refusal}
use Rattle.op_msg.specs.Request.{body_of}
use Rattle.op_msg.specs.declared.fault.FrameFault.{FrameFault}
use Rattle.entry_model.specs.State.{Collection}
use Rattle.database_model.specs.CursorLaws.{after_commands}
use Rattle.database_model.specs.CursorLife.{HasLeft, command, committed, ended as has_ended, undone as was_undone}
use Rattle.database_model.specs.Step.{Answers, step}
use Rattle.database_model.specs.World.{World, after_commit, after_undo, forget}
use Rattle.database_model.proofs.CursorLives.{Next, happens}
use Rattle.database_model.proofs.UndoneCursors.{kept_by_undo}
use Rattle.server.specs.ServerState.{ServerState, ended, fed}
use Rattle.server.specs.Turn.{Call, Out, Runs, Turns, Undone, calls, faults, forget_all}
use Rattle.server.specs.Causes.{IsCaused}
use Rattle.server.specs.Moment.{Moment, TurnEnd}
use Rattle.server.specs.History.{Happens, TakenBack}
use Rattle.server.specs.Batches.{BatchesCutTheList, CutsTheList, batch_of_answer, batches_in, batches_of_calls, batches_of_turn}
use Rattle.server.specs.declared.step.Step.{Step}
use Rattle.server.specs.declared.step.Step.TheVariants as steps

-- the cursor of a number gave these documents of those that it had, and is there still or not
abbrev Gives : ℕ → List Pairs → List Pairs → World → Type 0
Gives number batches had new = Next number batches had new

-- one answer and then others
gives_on : (number : ℕ) (first later had : List Pairs) (mid new : World) (h : Gives number first had mid) → Gives number later h.rest new
    → Gives number (first ++ later) had new
gives_on number first later had mid new h k = record {
  rest = k.rest;
  whole = append_assoc first later k.rest ∙ ap (λ (ds : List Pairs). first ++ ds) k.whole ∙ h.whole;
  is_left = k.is_left;
  drawn = k.drawn;
}

nothing : (number : ℕ) (had : List Pairs) (new : World) → number < new.next → HasLeft number new.cursors had → Gives number [] had new
nothing number had new drawn h = record { rest = had; whole = refl; is_left = h; drawn = drawn }

-- what gives nothing leaves what the cursor had
left_whole : (number : ℕ) (had : List Pairs) (new : World) → Gives number [] had new → HasLeft number new.cursors had
left_whole number had new h = subst (HasLeft number new.cursors) h.whole h.is_left

answer_gives : (number : ℕ) (beside : World → Refusal → Type 0) (world : World) (id : ℕ) (body : Result Pairs BsonFault) (new : World) (reply : Pairs)
    (h : Answers beside world id body new reply) (had : List Pairs)
    → number < world.next → HasLeft number world.cursors had → Gives number (batch_of_answer number beside world id body new reply h) had new
answer_gives number beside world id body new reply (inl is) had drawn has =
    let same : (step world id body).0 ≡ new = ap (λ (x : World × Pairs). x.0) (sym is) in
    subst (λ (w : World). Gives number (batch_of_answer number beside world id body new reply (inl is)) had w) same
    (happens number world (command id body) had drawn has)
answer_gives number beside world id body new reply (inr refused) had drawn has =
    subst (λ (w : World). Gives number [] had w) (sym refused.same) (nothing number had world drawn has)

calls_give : (number : ℕ) (beside : World → Refusal → Type 0) (world : World) (cs : List Call) (replies : List Pairs) (new : World)
    (h : Runs beside world cs replies new) (had : List Pairs)
    → number < world.next → HasLeft number world.cursors had → Gives number (batches_of_calls number beside world cs replies new h) had new
calls_give number beside world [] [] new h had drawn has = subst (λ (w : World). Gives number [] had w) (sym h) (nothing number had world drawn has)
calls_give number beside world [] (r ∷ rs) new h had drawn has = absurd h
calls_give number beside world (c ∷ cs) [] new h had drawn has = absurd h
calls_give number beside world (c ∷ cs) (r ∷ rs) new h had drawn has =
    let one = answer_gives number beside world c.connection.id (body_of c.frame) h.0 r h.1 had drawn has in
    gives_on number (batch_of_answer number beside world c.connection.id (body_of c.frame) h.0 r h.1)
    (batches_of_calls number beside h.0 cs rs new h.2) had h.0 new one
    (calls_give number beside h.0 cs rs new h.2 one.rest one.drawn one.is_left)

-- the commands of a turn that were not refused beside the definition
abbrev command_of_answer : (beside : World → Refusal → Type 0) (world : World) (id : ℕ) (body : Result Pairs BsonFault) (new : World) (reply : Pairs)
    → Answers beside world id body new reply → List (ℕ × Result Pairs BsonFault)
command_of_answer beside world id body new reply (inl is) = (id, body) ∷ []
command_of_answer beside world id body new reply (inr refused) = []

abbrev commands_of : (beside : World → Refusal → Type 0) (world : World) (cs : List Call) (replies : List Pairs) (new : World)
    → Runs beside world cs replies new → List (ℕ × Result Pairs BsonFault)
commands_of beside world [] replies new h = []
commands_of beside world (c ∷ cs) [] new h = []
commands_of beside world (c ∷ cs) (r ∷ rs) new h =
    command_of_answer beside world c.connection.id (body_of c.frame) h.0 r h.1 ++ commands_of beside h.0 cs rs new h.2

after_answer : (beside : World → Refusal → Type 0) (world : World) (id : ℕ) (body : Result Pairs BsonFault) (new : World) (reply : Pairs)
    (h : Answers beside world id body new reply) (later : List (ℕ × Result Pairs BsonFault))
    → after_commands world (command_of_answer beside world id body new reply h ++ later) ≡ after_commands new later
after_answer beside world id body new reply (inl is) later = ap (λ (x : World × Pairs). after_commands x.0 later) (sym is)
after_answer beside world id body new reply (inr refused) later = ap (λ (w : World). after_commands w later) (sym refused.same)

after_all : (beside : World → Refusal → Type 0) (world : World) (cs : List Call) (replies : List Pairs) (new : World) (h : Runs beside world cs replies new)
    → after_commands world (commands_of beside world cs replies new h) ≡ new
after_all beside world [] [] new h = sym h
after_all beside world [] (r ∷ rs) new h = absurd h
after_all beside world (c ∷ cs) [] new h = absurd h
after_all beside world (c ∷ cs) (r ∷ rs) new h =
    after_answer beside world c.connection.id (body_of c.frame) h.0 r h.1 (commands_of beside h.0 cs rs new h.2) ∙ after_all beside h.0 cs rs new h.2

-- ---- the end of a turn

forgets : (number : ℕ) (had : List Pairs) (world : World) (fs : List (ℕ × FrameFault)) → number < world.next → HasLeft number world.cursors had
    → Gives number [] had (forget_all world fs)
forgets number had world [] drawn has = nothing number had world drawn has
forgets number had world (f ∷ fs) drawn has =
    let one = happens number world (has_ended f.0) had drawn has in
    forgets number had (forget world f.0) fs one.drawn (left_whole number had (forget world f.0) one)

-- one that is done keeps what its commands made
done_gives : (number : ℕ) (batches had : List Pairs) (last : World) (fs : List (ℕ × FrameFault)) → Gives number batches had last
    → Gives number batches had (forget_all (after_commit last) fs)
done_gives number batches had last fs h =
    let kept = happens number last committed h.rest h.drawn h.is_left in
    let end = forgets number h.rest (after_commit last) fs kept.drawn (left_whole number h.rest (after_commit last) kept) in
    record { rest = end.rest; whole = ap (λ (ds : List Pairs). batches ++ ds) end.whole ∙ h.whole; is_left = end.is_left; drawn = end.drawn }

undone_gives : (number : ℕ) (beside : World → Refusal → Type 0) (state new : ServerState) (refusal : Refusal) (out : Out) (had : List Pairs)
    → Undone beside state refusal out new
    → number < state.world.next → HasLeft number state.world.cursors had → Gives number [] had new.world
undone_gives number beside state new refusal out had h drawn has =
    let cs = calls state.connections in
    let before : List Collection = state.world.collections in
    let xs = commands_of beside state.world cs h.replies h.last h.runs in
    let is : after_commands state.world xs ≡ h.last = after_all beside state.world cs h.replies h.last h.runs in
    let ran = calls_give number beside state.world cs h.replies h.last h.runs had drawn has in
    let back = happens number h.last (was_undone before) ran.rest ran.drawn ran.is_left in
    let stays = subst (λ (w : World). HasLeft number (after_undo before w).cursors ran.rest → HasLeft number (after_undo before w).cursors had) is
    (kept_by_undo number state.world xs had ran.rest has) in
    subst (λ (s : ServerState). Gives number [] had s.world) (sym h.leaves)
    (forgets number had (after_undo before h.last) (faults state.connections) back.drawn (stays (left_whole number ran.rest (after_undo before h.last) back)))

turn_gives : (number : ℕ) (beside : World → Refusal → Type 0) (undone : Refusal → Type 0) (state new : ServerState) (out : Out)
    (h : Turns beside undone state out new)
    (had : List Pairs) → number < state.world.next
    → HasLeft number state.world.cursors had → Gives number (batches_of_turn number beside undone state out new h) had new.world
turn_gives number beside undone state new out (inl done) had drawn has =
    let cs = calls state.connections in
    subst (λ (s : ServerState). Gives number (batches_of_calls number beside state.world cs done.replies done.last done.runs) had s.world) (sym done.leaves)
    (done_gives number (batches_of_calls number beside state.world cs done.replies done.last done.runs) had done.last (faults state.connections)
    (calls_give number beside state.world cs done.replies done.last done.runs had drawn has))
turn_gives number beside undone state new out (inr (inl (why, back))) had drawn has = undone_gives number beside state new _ out had back drawn has
turn_gives number beside undone state new out (inr (inr (why, back))) had drawn has = undone_gives number beside state new _ out had back drawn has

-- ---- a history

history_gives : (number : ℕ) (at : Moment) (state : ServerState) (all : List Step) (given : List (ℕ × List ℕ)) (ends : List TurnEnd) (new : ServerState)
    (h : Happens at state all given ends new) (had : List Pairs)
    → number < state.world.next → HasLeft number state.world.cursors had → Gives number (batches_in number at state all given ends new h) had new.world
history_gives number at state [] given ends new h had drawn has =
    subst (λ (s : ServerState). Gives number [] had s.world) (sym h.2) (nothing number had state.world drawn has)
history_gives number at state (steps.Bytes id chunk ∷ later) given ends new h had drawn has =
    history_gives number at (fed state id chunk.items) later given ends new h had drawn has
history_gives number at state (steps.Gone id ∷ later) given ends new h had drawn has =
    let one = happens number state.world (has_ended id) had drawn has in
    history_gives number at (ended state id) later given ends new h had one.drawn (left_whole number had (forget state.world id) one)
history_gives number at state (steps.Turn ∷ later) given ends new h had drawn has =
    let beside = IsCaused at h.3.at in
    let one = turn_gives number beside (TakenBack at h.3.at) state h.0 h.1 h.5 had drawn has in
    gives_on number (batches_of_turn number beside (TakenBack at h.3.at) state h.1 h.0 h.5)
    (batches_in number h.3.at h.0 later h.2 h.4 new h.9) had h.0.world new.world one
    (history_gives number h.3.at h.0 later h.2 h.4 new h.9 one.rest one.drawn one.is_left)

pub batches_cut_the_list : BatchesCutTheList
batches_cut_the_list number at state all given ends new h had drawn has =
    let all_of_them = history_gives number at state all given ends new h had drawn has in
    record { left = all_of_them.rest; whole = all_of_them.whole; is_left = all_of_them.is_left }
