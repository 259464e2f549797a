-- Loans and sockets stay tied.
use Rattle.std.proofs.Common.{◌≡◌, ◌≢◌, ℕ, zero, suc, ◌<◌, ◌≤◌, Bool, true, false, List, [], ◌∷◌, ◌++◌, length, take, drop, append-nil, set, get_or, map}
use Rattle.std.proofs.Common.{replicate, Option, Some, None, refl, sym, ap, subst, ◌∙◌, inl, inr, ◌⊎◌, arith}
use Rattle.std.specs.Prelude.{◌==◌, if◌then◌else◌}
use Rattle.std.proofs.lemmas.Bool.Decides.{nat_tests}
use Rattle.std.proofs.lemmas.Bool.{cases_lt}
use Rattle.std.proofs.lemmas.List.{get_or-set_other, get_or-set_same, length-set, length-map, get_or-map}
use Rattle.std.proofs.lemmas.List.{get_or-replicate, get_or_past, length-append, length-replicate, get_or_append_left}
use Rattle.std.proofs.lemmas.List.{drop_all, take_all}
use Rattle.driver_sockets.specs.Serving.{answered, OthersStay, HaveGrown, fed, fresh}
use Rattle.driver_sockets.specs.Lending.{loan_at, borrower, left_borrower, after_end}
use Rattle.driver_sockets.specs.Tying.{is_asked, AreTied, IsLent, Asks, LendsToNone}
use Rattle.driver_sockets.specs.declared.lending.Loan.{Loan}
use Rattle.driver_sockets.specs.declared.socket.Socket.{Socket}

pub same_or_not : (m n : ℕ) → (m ≡ n) ⊎ (m ≢ n)
same_or_not zero zero = inl refl
same_or_not zero (suc n) = inr (λ e. absurd cc)
same_or_not (suc m) zero = inr (λ e. absurd cc)
same_or_not (suc m) (suc n) = step (same_or_not m n)
  where
    step : (m ≡ n) ⊎ (m ≢ n) → (suc m ≡ suc n) ⊎ (suc m ≢ suc n)
    step (inl e) = inl (ap suc e)
    step (inr apart) = inr (λ e. apart cc)

pub some_is : {X : Type 0} → (x y : X) → Some x ≡ Some y → x ≡ y
some_is x y e = cc

-- ---- who borrows after a change of the loans

-- after a loan: as before, or it is the loan's
pub borrower_after : (loans : List (Option Loan)) (id : ℕ) (loan : Loan) (k m : ℕ) → borrower (loan_at (set loans id (Some loan)) k) ≡ Some m
    → ((k ≡ id) × (loan.socket ≡ Some m)) ⊎ (borrower (loan_at loans k) ≡ Some m)
borrower_after [] id loan k m e = inr e
borrower_after (x ∷ xs) zero loan zero m e = inl (refl, e)
borrower_after (x ∷ xs) zero loan (suc k) m e = inr e
borrower_after (x ∷ xs) (suc id) loan zero m e = inr e
borrower_after (x ∷ xs) (suc id) loan (suc k) m e = step (borrower_after xs id loan k m e)
  where
    step : ((k ≡ id) × (loan.socket ≡ Some m)) ⊎ (borrower (loan_at xs k) ≡ Some m)
        → ((suc k ≡ suc id) × (loan.socket ≡ Some m)) ⊎ (borrower (loan_at xs k) ≡ Some m)
    step (inl h) = inl (ap suc h.0, h.1)
    step (inr h) = inr h

-- after a connection came back: as before, of another connection
pub borrower_left : (loans : List (Option Loan)) (owner k m : ℕ) → borrower (loan_at (set loans owner None) k) ≡ Some m
    → (k ≢ owner) × (borrower (loan_at loans k) ≡ Some m)
borrower_left [] owner k m e = absurd cc
borrower_left (x ∷ xs) zero zero m e = absurd cc
borrower_left (x ∷ xs) zero (suc k) m e = (λ f. absurd cc, e)
borrower_left (x ∷ xs) (suc owner) zero m e = (λ f. absurd cc, e)
borrower_left (x ∷ xs) (suc owner) (suc k) m e =
    let h = borrower_left xs owner k m e in
    (λ f. h.0 cc, h.1)

-- after the end of a socket: as before, and another socket
left_is : (n m : ℕ) (socket : Option ℕ) → left_borrower n socket ≡ Some m → (m ≢ n) × (socket ≡ Some m)
left_is n m None e = absurd cc
left_is n m (Some other) e = at (other == n) refl e
  where
    at : (b : Bool) → (other == n) ≡ b → (if b then None else Some other) ≡ Some m → (m ≢ n) × (Some other ≡ Some m)
    at true is e = absurd cc
    at false is e =
        let apart : other ≢ n = grind (arith, nat_tests) in
        (λ f. apart (some_is other m e ∙ f), e)

pub borrower_ended : (loans : List (Option Loan)) (n k m : ℕ) → borrower (loan_at (map (after_end n) loans) k) ≡ Some m
    → (m ≢ n) × (borrower (loan_at loans k) ≡ Some m)
borrower_ended [] n k m e = absurd cc
borrower_ended (None ∷ xs) n zero m e = absurd cc
borrower_ended (Some loan ∷ xs) n zero m e = left_is n m loan.socket e
borrower_ended (x ∷ xs) n (suc k) m e = borrower_ended xs n k m e

-- ---- they stay tied

-- a socket that waited goes on waiting
pub tied_socket : (loans : List (Option Loan)) (ss : List Socket) (n : ℕ) (any new : Socket) → AreTied loans ss → n < length ss
    → (is_asked (get_or ss n any).job ≡ true → is_asked new.job ≡ true) → AreTied loans (set ss n new)
tied_socket loans ss n any new tied within goes = record {
  there = λ k m e. subst (λ (l : ℕ). m < l) (sym (length-set ss n new)) (tied.there k m e);
  asked = λ k m d e. at k m d e (same_or_not m n);
  once = tied.once;
}
  where
    at : (k m : ℕ) (d : Socket) → borrower (loan_at loans k) ≡ Some m → (m ≡ n) ⊎ (m ≢ n) → is_asked (get_or (set ss n new) m d).job ≡ true
    at k m d e (inl same) =
        let there : get_or (set ss n new) m d ≡ new = ap (λ (i : ℕ). get_or (set ss n new) i d) same ∙ get_or-set_same ss n new d within in
        let waited : is_asked (get_or ss n any).job ≡ true = tied.asked k n any (e ∙ ap Some same) in
        ap (λ (s : Socket). is_asked s.job) there ∙ goes waited
    at k m d e (inr apart) = ap (λ (s : Socket). is_asked s.job) (get_or-set_other ss n m new d apart) ∙ tied.asked k m d e

-- a connection is lent to a socket that didn't wait
pub tied_lent : (loans after : List (Option Loan)) (ss : List Socket) (n : ℕ) (any new : Socket) → AreTied loans ss → n < length ss
    → IsLent (Some n) loans after → is_asked (get_or ss n any).job ≡ false → is_asked new.job ≡ true → AreTied after (set ss n new)
tied_lent loans after ss n any new tied within lent free waits =
    subst (λ (ls : List (Option Loan)). AreTied ls (set ss n new)) (sym lent.lent) (record {
      there = λ k m e. subst (λ (l : ℕ). m < l) (sym (length-set ss n new)) (inside k m (borrower_after loans lent.id lent.loan k m e));
      asked = λ k m d e. at k m d (borrower_after loans lent.id lent.loan k m e) (same_or_not m n);
      once = λ k o m e f. only k o m (borrower_after loans lent.id lent.loan k m e) (borrower_after loans lent.id lent.loan o m f);
    })
  where
    Either : ℕ → ℕ → Type 0
    Either k m = ((k ≡ lent.id) × (lent.loan.socket ≡ Some m)) ⊎ (borrower (loan_at loans k) ≡ Some m)

    -- no other connection is lent to it
    none : (k m : ℕ) → borrower (loan_at loans k) ≡ Some m → m ≡ n → ⊥
    none k m e same =
        let waited : is_asked (get_or ss n any).job ≡ true = tied.asked k n any (e ∙ ap Some same) in
        absurd cc

    its : (m : ℕ) → lent.loan.socket ≡ Some m → m ≡ n
    its m of = some_is m n (sym of ∙ lent.of)

    inside : (k m : ℕ) → Either k m → m < length ss
    inside k m (inl h) = subst (λ (i : ℕ). i < length ss) (sym (its m h.1)) within
    inside k m (inr old) = tied.there k m old

    there : (m : ℕ) (d : Socket) → m ≡ n → is_asked (get_or (set ss n new) m d).job ≡ true
    there m d same =
        let is : get_or (set ss n new) m d ≡ new = ap (λ (i : ℕ). get_or (set ss n new) i d) same ∙ get_or-set_same ss n new d within in
        ap (λ (s : Socket). is_asked s.job) is ∙ waits

    at : (k m : ℕ) (d : Socket) → Either k m → (m ≡ n) ⊎ (m ≢ n) → is_asked (get_or (set ss n new) m d).job ≡ true
    at k m d (inl h) known = there m d (its m h.1)
    at k m d (inr old) (inl same) = there m d same
    at k m d (inr old) (inr apart) = ap (λ (s : Socket). is_asked s.job) (get_or-set_other ss n m new d apart) ∙ tied.asked k m d old

    only : (k o m : ℕ) → Either k m → Either o m → k ≡ o
    only k o m (inl h) (inl i) = h.0 ∙ sym i.0
    only k o m (inl h) (inr old) = absurd (none o m old (its m h.1))
    only k o m (inr old) (inl h) = absurd (none k m old (its m h.1))
    only k o m (inr old) (inr older) = tied.once k o m old older

-- what a step does with a socket
pub tied_asked : (loans after : List (Option Loan)) (ss : List Socket) (n : ℕ) (any new : Socket) → AreTied loans ss → n < length ss
    → Asks n loans after (get_or ss n any) new → AreTied after (set ss n new)
tied_asked loans after ss n any new tied within (inl h) =
    subst (λ (ls : List (Option Loan)). AreTied ls (set ss n new)) (sym h.0) (tied_socket loans ss n any new tied within h.1)
tied_asked loans after ss n any new tied within (inr h) = tied_lent loans after ss n any new tied within h.0 h.1 h.2

-- a connection is lent to none
pub tied_to_none : (loans after : List (Option Loan)) (ss : List Socket) → AreTied loans ss → LendsToNone loans after → AreTied after ss
tied_to_none loans after ss tied (inl same) = subst (λ (ls : List (Option Loan)). AreTied ls ss) (sym same) tied
tied_to_none loans after ss tied (inr lent) =
    subst (λ (ls : List (Option Loan)). AreTied ls ss) (sym lent.lent) (record {
      there = λ k m e. tied.there k m (before k m (borrower_after loans lent.id lent.loan k m e));
      asked = λ k m d e. tied.asked k m d (before k m (borrower_after loans lent.id lent.loan k m e));
      once = λ k o m e f. tied.once k o m (before k m (borrower_after loans lent.id lent.loan k m e))
          (before o m (borrower_after loans lent.id lent.loan o m f));
    })
  where
    before : (k m : ℕ) → ((k ≡ lent.id) × (lent.loan.socket ≡ Some m)) ⊎ (borrower (loan_at loans k) ≡ Some m) → borrower (loan_at loans k) ≡ Some m
    before k m (inl h) =
        let nobody : None ≡ Some m = sym lent.of ∙ h.1 in
        absurd cc
    before k m (inr old) = old

-- a connection comes back, and no socket changes but its borrower
pub tied_back : (loans after : List (Option Loan)) (owner : ℕ) (ss new : List Socket) → AreTied loans ss → after ≡ set loans owner None
    → OthersStay ss (borrower (loan_at loans owner)) new → AreTied after new
tied_back loans after owner ss new tied is stay =
    subst (λ (ls : List (Option Loan)). AreTied ls new) (sym is) (record {
      there = λ k m e. subst (λ (l : ℕ). m < l) (sym stay.length) (tied.there k m (borrower_left loans owner k m e).1);
      asked = λ k m d e. at k m d (borrower_left loans owner k m e);
      once = λ k o m e f. tied.once k o m (borrower_left loans owner k m e).1 (borrower_left loans owner o m f).1;
    })
  where
    at : (k m : ℕ) (d : Socket) → (k ≢ owner) × (borrower (loan_at loans k) ≡ Some m) → is_asked (get_or new m d).job ≡ true
    at k m d h =
        let same = stay.others m d (λ f. h.0 (tied.once k owner m h.1 (sym f))) in
        ap (λ (s : Socket). is_asked s.job) same ∙ tied.asked k m d h.1

-- a socket ends
pub tied_end : (loans after : List (Option Loan)) (ss : List Socket) (n : ℕ) (new : Socket) → AreTied loans ss → after ≡ map (after_end n) loans
    → AreTied after (set ss n new)
tied_end loans after ss n new tied is =
    subst (λ (ls : List (Option Loan)). AreTied ls (set ss n new)) (sym is) (record {
      there = λ k m e. subst (λ (l : ℕ). m < l) (sym (length-set ss n new)) (tied.there k m (borrower_ended loans n k m e).1);
      asked = λ k m d e. at k m d (borrower_ended loans n k m e);
      once = λ k o m e f. tied.once k o m (borrower_ended loans n k m e).1 (borrower_ended loans n o m f).1;
    })
  where
    at : (k m : ℕ) (d : Socket) → (m ≢ n) × (borrower (loan_at loans k) ≡ Some m) → is_asked (get_or (set ss n new) m d).job ≡ true
    at k m d h = ap (λ (s : Socket). is_asked s.job) (get_or-set_other ss n m new d h.0) ∙ tied.asked k m d h.1

-- answers are handed out
pub tied_answered : (loans : List (Option Loan)) (ss new : List Socket) → AreTied loans ss → new ≡ map answered ss → AreTied loans new
tied_answered loans ss new tied is =
    subst (AreTied loans) (sym is) (record {
      there = λ k m e. subst (λ (l : ℕ). m < l) (sym (length-map ss answered)) (tied.there k m e);
      asked = at;
      once = tied.once;
    })
  where
    at : (k m : ℕ) (d : Socket) → borrower (loan_at loans k) ≡ Some m → is_asked (get_or (map answered ss) m d).job ≡ true
    at k m d e = ap (λ (s : Socket). is_asked s.job) (get_or-map answered ss m d d (tied.there k m e)) ∙ tied.asked k m d e

-- nothing is lent yet
rest : (k : ℕ) → loan_at (replicate 64 None) k ≡ None
rest k = at (cases_lt k 64)
  where
    at : (k < 64) ⊎ (64 ≤ k) → loan_at (replicate 64 None) k ≡ None
    at (inl h) = get_or-replicate 64 k None None h
    at (inr h) = get_or_past (replicate 64 None) k None (omega (arith, length-replicate {A = Option Loan} 64 None, h))

nobody : (k m : ℕ) → borrower (loan_at (replicate 64 None) k) ≡ Some m → ⊥
nobody k m e =
    let none : None ≡ Some m = sym (ap borrower (rest k)) ∙ e in
    absurd cc

pub tied_new : (loans : List (Option Loan)) (ss : List Socket) → loans ≡ replicate 64 None → AreTied loans ss
tied_new loans ss is =
    subst (λ (ls : List (Option Loan)). AreTied ls ss) (sym is) (record {
      there = λ k m e. absurd (nobody k m e);
      asked = λ k m d e. absurd (nobody k m e);
      once = λ k o m e f. absurd (nobody k m e);
    })

-- ---- what is done first with a socket, and then

pub asks_after : (n : ℕ) (loans after : List (Option Loan)) (s t u : Socket) → (is_asked s.job ≡ true → is_asked t.job ≡ true) → Asks n loans after t u
    → Asks n loans after s u
asks_after n loans after s t u goes (inl h) = inl (h.0, λ e. h.1 (goes e))
asks_after n loans after s t u goes (inr h) = inr (h.0, at (is_asked s.job) refl, h.2)
  where
    at : (b : Bool) → is_asked s.job ≡ b → is_asked s.job ≡ false
    at true e =
        let waits : is_asked t.job ≡ true = goes e in
        let free : is_asked t.job ≡ false = h.1 in
        absurd cc
    at false e = e

-- ---- in a vector

pub written : {X : Type 0} (len : ℕ) (old new : List X) → length new ≡ length old → length old ≡ len → take len (new ++ drop (length new) old) ≡ new
written len old new same is =
    ap (λ rest. take len (new ++ rest)) (drop_all (length new) old (omega (arith, same)))
    ∙ ap (take len) (append-nil new)
    ∙ take_all len new (omega (arith, same, is))

-- a connection comes back
pub tied_written : (loans after : List (Option Loan)) (owner len : ℕ) (ss given new : List Socket) → AreTied loans ss → after ≡ set loans owner None
    → given ≡ ss → length given ≡ len → OthersStay given (borrower (loan_at loans owner)) new → AreTied after (take len (new ++ drop (length new) ss))
tied_written loans after owner len ss given new tied is same fits stay =
    let others : OthersStay ss (borrower (loan_at loans owner)) new =
    subst (λ (os : List Socket). OthersStay os (borrower (loan_at loans owner)) new) same stay in
    subst (AreTied after) (sym (written len ss new others.length (ap length (sym same) ∙ fits))) (tied_back loans after owner ss new tied is others)

-- answers are handed out
pub tied_given : (loans : List (Option Loan)) (len : ℕ) (ss given new : List Socket) → AreTied loans ss → given ≡ ss → length given ≡ len
    → new ≡ map answered given → AreTied loans (take len (new ++ drop (length new) ss))
tied_given loans len ss given new tied same fits is =
    let all : new ≡ map answered ss = is ∙ ap (map answered) same in
    subst (AreTied loans) (sym (written len ss new (ap length all ∙ length-map ss answered) (ap length (sym same) ∙ fits)))
    (tied_answered loans ss new tied all)

-- a socket ends that isn't there
pub tied_over : (loans after : List (Option Loan)) (ss : List Socket) (n : ℕ) → AreTied loans ss → after ≡ map (after_end n) loans → AreTied after ss
tied_over loans after ss n tied is =
    subst (λ (ls : List (Option Loan)). AreTied ls ss) (sym is) (record {
      there = λ k m e. tied.there k m (borrower_ended loans n k m e).1;
      asked = λ k m d e. tied.asked k m d (borrower_ended loans n k m e).1;
      once = λ k o m e f. tied.once k o m (borrower_ended loans n k m e).1 (borrower_ended loans n o m f).1;
    })

-- a step with a socket that was there
pub tied_step : (loans after : List (Option Loan)) (ss : List Socket) (n : ℕ) (any before new : Socket) → AreTied loans ss → n < length ss
    → before ≡ get_or ss n any → Asks n loans after before new → AreTied after (set ss n new)
tied_step loans after ss n any before new tied within is asks =
    tied_asked loans after ss n any new tied within (subst (λ (s : Socket). Asks n loans after s new) is asks)

-- sockets of which nothing has come stand behind them
pub tied_grown : (loans : List (Option Loan)) (ss new : List Socket) → AreTied loans ss → HaveGrown ss new → AreTied loans new
tied_grown loans ss new tied grows =
    subst (AreTied loans) (sym grows.grown) (record {
      there = λ k m e. omega (arith, tied.there k m e, length-append ss (replicate grows.count fresh));
      asked = λ k m d e. ap (λ (s : Socket). is_asked s.job) (get_or_append_left ss (replicate grows.count fresh) d m (tied.there k m e)) ∙ tied.asked k m d e;
      once = tied.once;
    })

pub tied_fed : (loans : List (Option Loan)) (ss there : List Socket) (n : ℕ) (any new : Socket) (bytes : List ℕ) → AreTied loans ss → HaveGrown ss there
    → n < length there → new ≡ fed (get_or there n any) bytes → AreTied loans (set there n new)
tied_fed loans ss there n any new bytes tied grows within is =
    tied_socket loans there n any new (tied_grown loans ss there tied grows) within (λ e. ap (λ (s : Socket). is_asked s.job) is ∙ e)
