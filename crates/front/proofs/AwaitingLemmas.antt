-- What stands on the connections that are lent to one socket.
use Rattle.std.proofs.Common.{◌≡◌, ◌≢◌, ◌⊎◌, ℕ, true, false, List, [], set, Option, Some, None}
use Rattle.std.proofs.Common.{refl, sym, ap, subst, ◌∙◌, inl, inr, arith}
use Rattle.std.specs.Prelude.{Bool, ◌==◌, if◌then◌else◌}
use Rattle.std.proofs.lemmas.Bool.Decides.{nat_tests}
use Rattle.bson.specs.Tree.{Pairs}
use Rattle.server.specs.ServerState.{ServerState, add_bytes, fed as fed_server, feed_connections}
use Rattle.server.specs.Streams.{connection_in}
use Rattle.server.specs.declared.connection.Connection.{Connection}
use Rattle.server.proofs.ConnectionIn.{fed_in}
use Rattle.driver_sockets.specs.Questions.{question_bytes}
use Rattle.front.specs.Asking.{AsksWanted}
use Rattle.driver_sockets.specs.Lending.{borrower, loan_at}
use Rattle.driver_sockets.specs.Tying.{is_asked}
use Rattle.front.specs.Unread.{HoldQuestions, HoldsUnread, HoldsFor}
use Rattle.driver_sockets.specs.declared.lending.Loan.{Loan}
use Rattle.driver_sockets.specs.declared.socket.Socket.{Socket}
use Rattle.driver_sockets.proofs.TyingLemmas.{borrower_after, same_or_not, some_is}
use Rattle.front.proofs.UnreadLemmas.{holds_more, unread_asked}

-- ---- which socket a connection is lent to

pub borrows : (o : Option ℕ) (n : ℕ) → (o ≡ Some n) ⊎ (Some n ≢ o)
borrows None n = inr (λ e. absurd cc)
borrows (Some m) n = at (same_or_not m n)
  where
    at : (m ≡ n) ⊎ (m ≢ n) → (Some m ≡ Some n) ⊎ (Some n ≢ Some m)
    at (inl e) = inl (ap Some e)
    at (inr apart) = inr (λ e. apart (sym (some_is n m e)))

-- what was asked last stands alone on each connection that is lent to the socket
abbrev pub Awaits : ℕ → List (Option Loan) → List Connection → Option Pairs → Type 0
Awaits n loans connections question = (id : ℕ) → borrower (loan_at loans id) ≡ Some n
    → (q : Pairs) × (question ≡ Some q) × HoldsUnread (question_bytes q) (connection_in connections id)

-- where it wasn't asked, none is
abbrev pub IsFree : ℕ → List (Option Loan) → Socket → Type 0
IsFree n loans s = is_asked s.job ≡ false → (id : ℕ) → borrower (loan_at loans id) ≡ Some n → ⊥

pub awaits_nothing : (n : ℕ) (loans : List (Option Loan)) (connections : List Connection) (question : Option Pairs)
    → ((id : ℕ) → borrower (loan_at loans id) ≡ Some n → ⊥) → Awaits n loans connections question
awaits_nothing n loans connections question none id e = absurd (none id e)

-- what comes on one connection changes no other
others_hold : (connections : List Connection) (owner id : ℕ) (bytes : List ℕ) → id ≢ owner
    → connection_in (feed_connections connections owner bytes) id ≡ connection_in connections id
others_hold connections owner id bytes apart =
    let other : (owner == id) ≡ false = grind (arith, nat_tests) in
    fed_in id owner bytes connections
    ∙ ap (λ (b : Bool). if b then add_bytes (connection_in connections id) (connection_in connections id).fault bytes else connection_in connections id) other

not_at_rest : (loans : List (Option Loan)) (id owner n : ℕ) → borrower (loan_at loans id) ≡ Some n → loan_at loans owner ≡ None → id ≢ owner
not_at_rest loans id owner n e rest same =
    let never : None ≡ Some n = sym (ap borrower rest) ∙ ap (λ (i : ℕ). borrower (loan_at loans i)) (sym same) ∙ e in
    absurd cc

-- a connection is lent to another, or to none
pub awaits_still : (n : ℕ) (loans after : List (Option Loan)) (before now : ServerState) (question : Option Pairs) (owner : ℕ) (loan : Loan) (command : Pairs)
    → Some n ≢ loan.socket → loan_at loans owner ≡ None → after ≡ set loans owner (Some loan) → now ≡ fed_server before owner (question_bytes command)
    → Awaits n loans before.connections question → Awaits n after now.connections question
awaits_still n loans after before now question owner loan command other rest lent came h id e =
    at (borrower_after loans owner loan id n (ap (λ (ls : List (Option Loan)). borrower (loan_at ls id)) (sym lent) ∙ e))
  where
    at : ((id ≡ owner) × (loan.socket ≡ Some n)) ⊎ (borrower (loan_at loans id) ≡ Some n)
        → (q : Pairs) × (question ≡ Some q) × HoldsUnread (question_bytes q) (connection_in now.connections id)
    at (inl its) = absurd (other (sym its.1))
    at (inr old) =
        let k = h id old in
        let same = ap (λ (s : ServerState). connection_in s.connections id) came
        ∙ others_hold before.connections owner id (question_bytes command) (not_at_rest loans id owner n old rest) in
        (k.0, k.1, subst (HoldsUnread (question_bytes k.0)) (sym same) k.2)

pub free_still : (n : ℕ) (loans after : List (Option Loan)) (owner : ℕ) (loan : Loan) (s : Socket) → Some n ≢ loan.socket
    → after ≡ set loans owner (Some loan) → IsFree n loans s → IsFree n after s
free_still n loans after owner loan s other lent h idle id e =
    at (borrower_after loans owner loan id n (ap (λ (ls : List (Option Loan)). borrower (loan_at ls id)) (sym lent) ∙ e))
  where
    at : ((id ≡ owner) × (loan.socket ≡ Some n)) ⊎ (borrower (loan_at loans id) ≡ Some n) → ⊥
    at (inl its) = other (sym its.1)
    at (inr old) = h idle id old

-- ---- it is asked itself

-- the connection that it is asked on had nothing unread
pub awaits_its_own : (n : ℕ) (loans after : List (Option Loan)) (before now : ServerState) (owner : ℕ) (loan : Loan) (command : Pairs)
    → loan_at loans owner ≡ None → after ≡ set loans owner (Some loan) → now ≡ fed_server before owner (question_bytes command)
    → HoldQuestions loans before.connections → ((id : ℕ) → borrower (loan_at loans id) ≡ Some n → ⊥)
    → Awaits n after now.connections (Some command)
awaits_its_own n loans after before now owner loan command rest lent came h none id e =
    at (borrower_after loans owner loan id n (ap (λ (ls : List (Option Loan)). borrower (loan_at ls id)) (sym lent) ∙ e))
  where
    question : List ℕ
    question = question_bytes command

    empty : HoldsUnread [] (connection_in before.connections owner)
    empty = subst (λ (o : Option Loan). HoldsFor o (connection_in before.connections owner)) rest (h owner)

    there : connection_in now.connections owner
        ≡ add_bytes (connection_in before.connections owner) (connection_in before.connections owner).fault question
    there =
        let same : (owner == owner) ≡ true = grind (arith, nat_tests) in
        ap (λ (s : ServerState). connection_in s.connections owner) came ∙ fed_in owner owner question before.connections
        ∙ ap (λ (b : Bool). if b then add_bytes (connection_in before.connections owner) (connection_in before.connections owner).fault question
        else connection_in before.connections owner) same

    at : ((id ≡ owner) × (loan.socket ≡ Some n)) ⊎ (borrower (loan_at loans id) ≡ Some n)
        → (q : Pairs) × (Some command ≡ Some q) × HoldsUnread (question_bytes q) (connection_in now.connections id)
    at (inl its) = (
      command,
      refl,
      subst (λ (i : ℕ). HoldsUnread question (connection_in now.connections i)) (sym its.0)
          (subst (HoldsUnread question) (sym there) (holds_more (connection_in before.connections owner) question empty)),
    )
    at (inr old) = absurd (none id old)

-- questions stand where connections are lent
pub hold_on : (socket : Option ℕ) (what : Option Pairs) (loans after : List (Option Loan)) (before now : ServerState)
    → AsksWanted socket what loans after before now → HoldQuestions loans before.connections → HoldQuestions after now.connections
hold_on socket what loans after before now (inl same) h =
    subst (λ (ls : List (Option Loan)). HoldQuestions ls now.connections) (sym same.0)
    (subst (λ (s : ServerState). HoldQuestions loans s.connections) (sym same.1) h)
hold_on socket what loans after before now (inr k) h =
    subst (λ (ls : List (Option Loan)). HoldQuestions ls now.connections) (sym k.lent)
    (subst (λ (s : ServerState). HoldQuestions (set loans k.id (Some k.loan)) s.connections) (sym k.asked.came)
    (unread_asked loans before.connections k.id k.loan k.command (ap (λ (ls : List (Option Loan)). loan_at ls k.id) (sym k.lent) ∙ k.there) k.rest
    k.asked.room k.asked.reads h))
