-- What becomes of a message is what its plan says.
use Rattle.std.proofs.Common.{◌≡◌, ℕ, ◌-◌, ◌<◌, ◌≤◌, true, false, List, length, drop, get_or, set}
use Rattle.std.proofs.Common.{Option, Some, None, Ok, Err, refl, sym, subst, ◌∙◌, inl, inr, arith}
use Rattle.std.specs.Prelude.{Bool, Result, Vec, IfOk, OnOk, OnErr, is_err, is_some, option_map, slice_range, ◌||◌, if◌then◌else◌}
use Rattle.std.proofs.lemmas.List.{length-drop, take_all, get_or_default, get_or-set_same}
use Rattle.driver_messages.specs.Incoming.{next_message}
use Rattle.driver_messages.specs.declared.message.Form.{Form}
use Rattle.driver_messages.specs.declared.message.Message.{Message}
use Rattle.driver_messages.specs.declared.stream_fault.StreamFault.{StreamFault}
use Rattle.bson.specs.Spelling.{frame_of, pairs_bytes, tree_bytes}
use Rattle.database_model.specs.Refusals.{refusal_reply}
use Rattle.path.specs.declared.refusal.Refusal.TheVariants as refusals
use Rattle.drivers.specs.Framing.{framed, IsShort}
use Rattle.drivers.specs.declared.server_info.ServerInfo.{ServerInfo}
use Rattle.drivers.specs.declared.step.Step.{Step}
use Rattle.drivers.specs.declared.step.Step.TheVariants as steps
use Rattle.bson.specs.Tree.{Pairs}
use Rattle.op_msg.specs.Request.{document_in}
use Rattle.driver_sockets.specs.Replying.{Becomes, Begins, BeginsWith, HasAnswer, IsAnswered, IsFramed, Starts, TakesDocument, TakesFrame, TakesReply}
use Rattle.driver_sockets.specs.Replying.{WaitsOrCloses, closed, has_room, too_large}
use Rattle.op_msg.specs.ReplyNumbers.{next_number}
use Rattle.driver_sockets.specs.Tying.{is_asked}
use Rattle.driver_sockets.specs.declared.job.Job.{Job}
use Rattle.driver_sockets.specs.declared.socket.Socket.{Socket}
use Rattle.driver_sockets.proofs.TyingLemmas.{some_is}

-- ---- the frame of an answer

abbrev too_large_len : ℕ
too_large_len = 87

too_large_is : length (frame_of (pairs_bytes (refusal_reply refusals.BSONObjectTooLarge))) ≡ too_large_len
unfolding tree_bytes pairs_bytes
too_large_is = refl

-- the refusal has room
too_large_fits : IsShort too_large
too_large_fits = omega (arith, too_large_is)

pub refusal_fits : (refusal : Pairs) → refusal ≡ refusal_reply refusals.BSONObjectTooLarge → IsShort (steps.Reply refusal)
refusal_fits refusal is = subst (λ (d : Pairs). IsShort (steps.Reply d)) (sym is) too_large_fits

pub framed_short : {Z E : Type 0} (r : Result (Option (Vec ℕ Z)) E) (form : Form) (number request : ℕ) (step : Step) → has_room step ≡ true
    → IfOk r (λ x. option_map (λ v. v.items) x ≡ framed form number request step) → IfOk r (λ x. IsFramed form number request step x)
framed_short r form number request step room h =
    subst (λ (t : Step). IfOk r (λ x. option_map (λ v. v.items) x ≡ framed form number request t)) (λ i. if sym room i then step else too_large) h

pub framed_long : {Z E : Type 0} (r : Result (Option (Vec ℕ Z)) E) (form : Form) (number request : ℕ) (step : Step) (refusal : Pairs)
    → refusal ≡ refusal_reply refusals.BSONObjectTooLarge → has_room step ≡ false
    → IfOk r (λ x. option_map (λ v. v.items) x ≡ framed form number request (steps.Reply refusal)) → IfOk r (λ x. IsFramed form number request step x)
framed_long r form number request step refusal is none h =
    subst (λ (t : Step). IfOk r (λ x. option_map (λ v. v.items) x ≡ framed form number request t)) (λ i. if sym none i then step else too_large)
    (subst (λ (d : Pairs). IfOk r (λ x. option_map (λ v. v.items) x ≡ framed form number request (steps.Reply d))) is h)

pub range_behind : (xs ys : List ℕ) (n : ℕ) → ys ≡ slice_range xs n (length xs) → drop n xs ≡ ys
range_behind xs ys n e = sym (take_all (length xs - n) (drop n xs) (omega (arith, length-drop n xs))) ∙ sym e

pub on_ok : {A E P Q : Type 0} (r : Result A E) → (P → Q) → OnOk r P → OnOk r Q
on_ok (Ok x) f h = f h
on_ok (Err e) f h = h

pub on_err : {A E P Q : Type 0} (r : Result A E) → (P → Q) → OnErr r P → OnErr r Q
on_err (Ok x) f h = h
on_err (Err e) f h = f h

pub when_ok : {A E P : Type 0} (r : Result A E) → is_err r ≡ false → OnOk r P → P
when_ok (Ok x) e h = h
when_ok (Err f) e h = absurd cc

pub when_err : {A E P : Type 0} (r : Result A E) → is_err r ≡ true → OnErr r P → P
when_err (Ok x) e h = absurd cc
when_err (Err f) e h = h

-- an answer is ready, or there is none
pub answered_by : {Z : Type 0} (old new : Socket) (form : Form) (request : ℕ) (step : Step) (reply_no : ℕ) (given bytes : Option (Vec ℕ Z))
    → reply_no ≡ next_number old.last_reply → given ≡ bytes → IsFramed form reply_no request step given → HasAnswer old (option_map (λ v. v.items) bytes) new
    → IsAnswered old form request step new
answered_by old new form request step reply_no given bytes next is framed has =
    subst (λ (o : Option (List ℕ)). HasAnswer old o new)
    (subst (λ (n : ℕ). IsFramed form n request step bytes) next (subst (λ (o : Option (Vec ℕ _)). IsFramed form reply_no request step o) is framed)) has

abbrev Next : Type 0
Next = Result (Option (Message × List ℕ)) StreamFault

-- ---- taking the message at the front

pub none_asked : (j : Option Job) → is_some j ≡ false → is_asked j ≡ true → ⊥
none_asked None none e = absurd cc
none_asked (Some job) none e = absurd cc

-- none is, where one is worked on, or the socket is to be closed
pub begins_none : (info : ServerInfo) (old new : Socket) → (old.is_over || is_some old.job) ≡ true → new ≡ old
    → Begins info old old.is_over old.job (next_message old.incoming) new
begins_none info old new busy same = at old.is_over old.job busy
  where
    at : (b : Bool) (j : Option Job) → (b || is_some j) ≡ true → Begins info old b j (next_message old.incoming) new
    at true j e = same
    at false (Some job) e = same
    at false None e = absurd cc

-- what is done with the one at the front
pub begins_at : (info : ServerInfo) (old new : Socket) (next : Next) → old.is_over ≡ false → is_some old.job ≡ false → next_message old.incoming ≡ next
    → BeginsWith info old next new → Begins info old old.is_over old.job (next_message old.incoming) new
begins_at info old new next lives none is h =
    subst (λ (b : Bool). Begins info old b old.job (next_message old.incoming) new) (sym lives)
    (subst (λ (n : Next). Begins info old false old.job n new) (sym is) (at old.job none))
  where
    at : (j : Option Job) → is_some j ≡ false → Begins info old false j next new
    at None e = h
    at (Some job) e = absurd cc

pub begins_with : {A E : Type 0} (r : Result A E) (info : ServerInfo) (old new : Socket) (m : Message) (rest : List ℕ) → old.is_over ≡ false
    → is_some old.job ≡ false → next_message old.incoming ≡ Ok (Some (m, rest)) → OnOk r (Starts info (record old { incoming = rest }) m new)
    → OnOk r (Begins info old old.is_over old.job (next_message old.incoming) new)
begins_with r info old new m rest lives none is starts = on_ok r (λ h. begins_at info old new (Ok (Some (m, rest))) lives none is h) starts

-- memory runs out
pub waits_any : (old new : Socket) (next : Next) → new ≡ old → WaitsOrCloses old next new
waits_any old new (Ok None) same = same
waits_any old new (Ok (Some x)) same = inl same
waits_any old new (Err fault) same = same

pub closes_with : {A E : Type 0} (r : Result A E) (old new : Socket) (m : Message) (rest : List ℕ) → next_message old.incoming ≡ Ok (Some (m, rest))
    → OnErr r (new ≡ closed (record old { incoming = rest })) → OnErr r (WaitsOrCloses old (next_message old.incoming) new)
closes_with r old new m rest is h = on_err r (λ e. subst (λ (n : Next). WaitsOrCloses old n new) (sym is) (inr e)) h

-- ---- among the sockets

pub becomes_none : (old new : List Socket) (socket : Option ℕ) (goes : Socket → Socket → Type 0) → socket ≡ None → Becomes old socket goes new
becomes_none old new socket goes is = λ n any e inside.
    let nobody : Some n ≡ None = sym e ∙ is in
    absurd cc

pub becomes_past : (old new : List Socket) (socket : Option ℕ) (goes : Socket → Socket → Type 0) (number : ℕ) → socket ≡ Some number → length old ≤ number
    → Becomes old socket goes new
becomes_past old new socket goes number is past = λ n any e inside.
    let same : n ≡ number = some_is n number (sym e ∙ is) in
    absurd (omega (arith, same, inside, past))

pub becomes_at : (old : List Socket) (socket : Option ℕ) (goes : Socket → Socket → Type 0) (number : ℕ) (d now : Socket) → socket ≡ Some number
    → number < length old → goes (get_or old number d) now → Becomes old socket goes (set old number now)
becomes_at old socket goes number d now is within h = λ n any e inside.
    let same : number ≡ n = some_is number n (sym is ∙ e) in
    subst (λ (m : ℕ). goes (get_or old m any) (get_or (set old number now) m any)) same
    (subst (λ (s : Socket). goes s (get_or (set old number now) number any)) (get_or_default old number d any within)
    (subst (λ (s : Socket). goes (get_or old number d) s) (sym (get_or-set_same old number now any within)) h))

pub becomes_more : (old new : List Socket) (socket : Option ℕ) (goes more : Socket → Socket → Type 0)
    → ((s t : Socket) → goes s t → more s t) → Becomes old socket goes new → Becomes old socket more new
becomes_more old new socket goes more on h = λ n any e inside. on (get_or old n any) (get_or new n any) (h n any e inside)

-- the socket that the loan names
pub becomes_same : (old new : List Socket) (socket borrowed : Option ℕ) (goes : Socket → Socket → Type 0) → socket ≡ borrowed
    → Becomes old socket goes new → Becomes old borrowed goes new
becomes_same old new socket borrowed goes same h = λ n any e inside. h n any (same ∙ e) inside

pub takes_document : (frame : List ℕ) (old new : List Socket) (socket borrowed : Option ℕ) (reply : Pairs) → document_in (drop 21 frame) ≡ Ok reply
    → socket ≡ borrowed → Becomes old socket (λ s t. TakesReply s s.job reply t) new → TakesFrame frame old borrowed new
takes_document frame old new socket borrowed reply is same goes =
    becomes_same old new socket borrowed (TakesDocument frame) same
    (becomes_more old new socket (λ s t. TakesReply s s.job reply t) (TakesDocument frame) (λ s t h. (reply, is, h)) goes)
