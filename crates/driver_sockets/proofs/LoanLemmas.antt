-- What a loan more makes of the loans, and that who is lent was at rest.
use Rattle.std.proofs.Common.{◌≡◌, ℕ, zero, suc, ◌+◌, ◌-◌, ◌≤◌, Bool, true, false, List, [], ◌∷◌, set, Option, Some, None}
use Rattle.std.proofs.Common.{refl, sym, ap, ◌∙◌, subst, inl, inr, arith}
use Rattle.std.specs.Prelude.{nat_lt, if◌then◌else◌, is_none, IfSome}
use Rattle.std.proofs.lemmas.Bool.Decides.{nat_tests}
use Rattle.driver_sockets.specs.Choosing.{connection_for, owner_of, owner_or_least}
use Rattle.driver_sockets.specs.Cursors.{counts_of}
use Rattle.driver_sockets.specs.Lending.{loan_at, is_at_rest, count_at, fewer, has_none, with_one, least_used, Lends}
use Rattle.driver_sockets.specs.declared.job.Question.{Question}
use Rattle.driver_sockets.specs.declared.lending.Loan.{Loan}
use Rattle.driver_sockets.specs.declared.open_cursors.OpenCursor.{OpenCursor}

pub none_if : {X : Type 0} (x : Option X) → is_none x ≡ true → x ≡ None
none_if None e = refl
none_if (Some x) e = absurd cc

some_is : {X : Type 0} {x y : X} → Some x ≡ Some y → x ≡ y
some_is e = cc

-- what was found is at rest
least_rests : (loans : List (Option Loan)) (counts : List ℕ) (n id : ℕ) → least_used loans counts n ≡ Some id → is_at_rest loans id ≡ true
unfolding least_used
least_rests loans counts zero id e = absurd cc
least_rests loans counts (suc n) id e = at (is_at_rest loans n) refl (least_used loans counts n) e (least_rests loans counts n)
  where
    one : (b : Bool) (other : ℕ) → is_at_rest loans n ≡ true → is_at_rest loans other ≡ true → (if b then n else other) ≡ id → is_at_rest loans id ≡ true
    one true other rests before same = subst (λ (k : ℕ). is_at_rest loans k ≡ true) same rests
    one false other rests before same = subst (λ (k : ℕ). is_at_rest loans k ≡ true) same before

    at : (b : Bool) → is_at_rest loans n ≡ b → (least : Option ℕ) → (if b then with_one counts least n else least) ≡ Some id
        → ((k : ℕ) → least ≡ Some k → is_at_rest loans k ≡ true) → is_at_rest loans id ≡ true
    at true is None found before =
        let same : n ≡ id = cc in
        subst (λ (k : ℕ). is_at_rest loans k ≡ true) same is
    at true is (Some other) found before = one (nat_lt (count_at counts n) (count_at counts other)) other is (before other refl) (some_is found)
    at false is least found before = before id found

pub found_rests : (loans : List (Option Loan)) (counts : List ℕ) (n : ℕ) (found : Option ℕ) → found ≡ least_used loans counts n
    → IfSome found (λ id. is_at_rest loans id ≡ true)
found_rests loans counts n None e = tt
found_rests loans counts n (Some id) e = least_rests loans counts n id (sym e)

-- none has fewer than none
no_fewer : (counts : List ℕ) (id other : ℕ) → count_at counts id ≡ 0 → fewer counts id other ≡ id
no_fewer counts id other none = at (nat_lt (count_at counts other) (count_at counts id)) refl
  where
    at : (b : Bool) → nat_lt (count_at counts other) (count_at counts id) ≡ b → (if b then other else id) ≡ id
    at false is = refl
    at true is = absurd (grind (arith, nat_tests))

-- so the first at rest that has none stays the one with the fewest
least_stays : (loans : List (Option Loan)) (counts : List ℕ) (n k id : ℕ) → least_used loans counts n ≡ Some id → count_at counts id ≡ 0
    → least_used loans counts (k + n) ≡ Some id
unfolding least_used
least_stays loans counts n zero id e none =
    let same : zero + n ≡ n = omega arith in ap (least_used loans counts) same ∙ e
least_stays loans counts n (suc k) id e none =
    let more : suc k + n ≡ suc (k + n) = omega arith in
    let before : least_used loans counts (k + n) ≡ Some id = least_stays loans counts n k id e none in
    ap (least_used loans counts) more
    ∙ ap (λ (least : Option ℕ). if is_at_rest loans (k + n) then with_one counts least (k + n) else least) before
    ∙ at (is_at_rest loans (k + n)) (fewer counts id (k + n)) (no_fewer counts id (k + n) none)
  where
    at : (b : Bool) (best : ℕ) → best ≡ id → (if b then Some best else Some id) ≡ Some id
    at true best same = ap Some same
    at false best same = refl

pub least_of_all : (loans : List (Option Loan)) (counts : List ℕ) (n all : ℕ) (least : Option ℕ) → least ≡ least_used loans counts n
    → has_none counts least ≡ true → n ≤ all → least ≡ least_used loans counts all
least_of_all loans counts n all None is none within = absurd cc
least_of_all loans counts n all (Some id) is none within =
    let more : all ≡ (all - n) + n = omega arith in
    sym (ap (least_used loans counts) more ∙ least_stays loans counts n (all - n) id (sym is) (grind (arith, nat_tests)))

-- one loan more
lends_at : (socket : Option ℕ) (loans : List (Option Loan)) (id : ℕ) (loan : Loan) → loan.socket ≡ socket → loan_at loans id ≡ None
    → Lends socket loans (set loans id (Some loan))
lends_at socket [] id loan of rests k = inl refl
lends_at socket (x ∷ xs) zero loan of rests zero = inr (rests, of)
lends_at socket (x ∷ xs) zero loan of rests (suc k) = inl refl
lends_at socket (x ∷ xs) (suc id) loan of rests zero = inl refl
lends_at socket (x ∷ xs) (suc id) loan of rests (suc k) = lends_at socket xs id loan of rests k

pub lends : (socket : Option ℕ) (loans after : List (Option Loan)) (id : ℕ) (loan : Loan) → loan.socket ≡ socket → is_at_rest loans id ≡ true
    → after ≡ set loans id (Some loan) → Lends socket loans after
lends socket loans after id loan of rests is = subst (Lends socket loans) (sym is) (lends_at socket loans id loan of (none_if (loan_at loans id) rests))

pub lends_none : (socket : Option ℕ) (loans : List (Option Loan)) → Lends socket loans loans
lends_none socket loans id = inl refl

-- ---- a connection for a question is at rest

pub for_one_at_rest : (loans : List (Option Loan)) (cursors : List OpenCursor) (question : Question) (id : ℕ)
    → connection_for loans cursors question ≡ Some id → is_at_rest loans id ≡ true
for_one_at_rest loans cursors question id e = at (owner_of cursors question.cursor) e
  where
    owners : (owner : ℕ) (rests : Bool) → is_at_rest loans owner ≡ rests → (if rests then Some owner else None) ≡ Some id → is_at_rest loans id ≡ true
    owners owner true r e = ap (is_at_rest loans) (sym (some_is e)) ∙ r
    owners owner false r e = absurd cc

    at : (o : Option ℕ) → owner_or_least loans cursors o ≡ Some id → is_at_rest loans id ≡ true
    at (Some owner) e = owners owner (is_at_rest loans owner) refl e
    at None e = least_rests loans (counts_of cursors) 64 id e
