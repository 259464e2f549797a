-- A message during which nobody else may ask stands alone.
use Rattle.std.proofs.Common.{◌≡◌, ◌≢◌, ℕ, zero, suc, ◌-◌, ◌<◌, ◌≤◌, Bool, true, false, ◌&&◌, ◌||◌, List, [], ◌∷◌, ◌++◌, length, take, drop, set, get_or}
use Rattle.std.proofs.Common.{map, replicate, Option, Some, None, refl, sym, ap, subst, ◌∙◌, inl, inr, ◌⊎◌, arith}
use Rattle.std.specs.Prelude.{is_some}
use Rattle.std.specs.List.{list_any}
use Rattle.std.proofs.lemmas.Bool.{cases_lt, true≢false}
use Rattle.std.proofs.lemmas.List.{get_or-set_other, get_or-set_same, length-set, length-map, length-append, get_or-map}
use Rattle.std.proofs.lemmas.List.{get_or_default, get_or_append_left, get_or-append_right, get_or-replicate, get_or_push, length-replicate}
use Rattle.drivers.specs.Answering.{asks_alone}
use Rattle.drivers.specs.AloneLaws.{is_later, stays_asked}
use Rattle.driver_sockets.specs.Alone.{is_alone, alone_in, has_begun, begun_in, StandsAlone, AreLentTo, NobodyBetween, GoesOnAlone, IsNobodyAlone}
use Rattle.driver_sockets.specs.Questions.{kept_plan, plan_at}
use Rattle.driver_sockets.specs.Serving.{answered, OthersStay, HaveGrown, fresh, fed}
use Rattle.driver_sockets.specs.Lending.{loan_at, borrower, IsLoanOf, Lends}
use Rattle.driver_sockets.specs.Tying.{is_asked, was_asked, AreTied}
use Rattle.driver_sockets.specs.declared.job.Job.{Job}
use Rattle.driver_sockets.specs.declared.job.Stage.{Stage}
use Rattle.driver_sockets.specs.declared.job.Stage.TheVariants as stages
use Rattle.driver_sockets.specs.declared.lending.Loan.{Loan}
use Rattle.driver_sockets.specs.declared.socket.Socket.{Socket}
use Rattle.driver_sockets.proofs.LoanLemmas.{lends_none}
use Rattle.driver_sockets.proofs.TyingLemmas.{same_or_not, some_is, written}

-- ---- a message

and_first : (a b : Bool) → (a && b) ≡ true → a ≡ true
and_first true b e = refl
and_first false b e = absurd cc

-- one whose first question was asked is one
pub begun_alone : (s : Socket) → has_begun s ≡ true → is_alone s ≡ true
begun_alone s e = at s.job e
  where
    at : (j : Option Job) → begun_in j ≡ true → alone_in j ≡ true
    at None e = absurd cc
    at (Some job) e = and_first (asks_alone job.plan.wait) (was_asked job.stage || is_later job.plan.wait) e

-- what is asked makes none of it
pub kept_alone : (job : Job) → asks_alone (kept_plan job).wait ≡ asks_alone job.plan.wait
kept_alone job = at job.stage
  where
    at : (stage : Stage) → asks_alone (plan_at stage job.plan).wait ≡ asks_alone job.plan.wait
    at (stages.Asks question) = stays_asked job.plan question.command
    at stages.Waits = refl

-- one that waits for a reply has begun
pub asked_begun : (s : Socket) → is_asked s.job ≡ true → is_alone s ≡ true → has_begun s ≡ true
asked_begun s e f = at s.job e f
  where
    at : (j : Option Job) → is_asked j ≡ true → alone_in j ≡ true → begun_in j ≡ true
    at None e f = absurd cc
    at (Some job) e f = λ i. f i && (e i || is_later job.plan.wait)

-- ---- loans

none_lent : (loans : List (Option Loan)) → list_any is_some loans ≡ false → (id : ℕ) → loan_at loans id ≡ None
none_lent [] e id = refl
none_lent (Some loan ∷ loans) e id = absurd cc
none_lent (None ∷ loans) e zero = refl
none_lent (None ∷ loans) e (suc id) = none_lent loans e id

-- what is lent where nothing was, is lent to this socket
pub lent_alone : (n : ℕ) (loans after : List (Option Loan)) → list_any is_some loans ≡ false → Lends (Some n) loans after → AreLentTo n after
lent_alone n loans after none lends id = at (lends id)
  where
    its : (loan : Option Loan) → IsLoanOf (Some n) loan → borrower loan ≡ Some n
    its None h = absurd h
    its (Some loan) h = h

    at : (loan_at after id ≡ loan_at loans id) ⊎ ((loan_at loans id ≡ None) × IsLoanOf (Some n) (loan_at after id))
        → (loan_at after id ≡ None) ⊎ (borrower (loan_at after id) ≡ Some n)
    at (inl same) = inl (same ∙ none_lent loans none id)
    at (inr h) = inr (its (loan_at after id) h.1)

-- a message that may ask is not one of these, or nothing is lent
pub nothing_lent : (s : Socket) (loans : List (Option Loan)) → (is_alone s && list_any is_some loans) ≡ false → is_alone s ≡ true
    → list_any is_some loans ≡ false
nothing_lent s loans e alone = sym (λ i. alone i && list_any is_some loans) ∙ e

-- ---- whose message it is

pub nobody : (ss : List Socket) (n : ℕ) (any : Socket) → StandsAlone None ss → n < length ss → has_begun (get_or ss n any) ≡ true → ⊥
nobody ss n any free within e =
    let known : None ≡ Some n = free n any within e in
    absurd cc

pub rests : (b : Bool) → (b ≡ true → ⊥) → b ≡ false
rests true never = absurd (never refl)
rests false never = refl

-- where nobody's has begun, whoever's may be known
pub stands_any : (alone : Option ℕ) (ss : List Socket) → StandsAlone None ss → StandsAlone alone ss
stands_any alone ss free n any within e = absurd (nobody ss n any free within e)

-- it was the message of a socket that isn't there, or of one that works on no such message
pub stands_past : (alone : Option ℕ) (m : ℕ) (ss : List Socket) → Some m ≡ alone → length ss ≤ m → StandsAlone alone ss → StandsAlone None ss
stands_past alone m ss is past stands n any within e =
    let same : m ≡ n = some_is m n (is ∙ stands n any within e) in
    absurd (omega (arith, same, past, within))

pub stands_over : (alone : Option ℕ) (m : ℕ) (any : Socket) (ss : List Socket) → Some m ≡ alone → is_alone (get_or ss m any) ≡ false
    → StandsAlone alone ss → StandsAlone None ss
stands_over alone m any ss is quiet stands n d within e =
    let same : m ≡ n = some_is m n (is ∙ stands n d within e) in
    let there : get_or ss n d ≡ get_or ss m any = get_or_default ss n d any within ∙ ap (λ (i : ℕ). get_or ss i any) (sym same) in
    absurd (true≢false (sym (begun_alone (get_or ss m any) (ap has_begun (sym there) ∙ e)) ∙ quiet))

pub nobody_first : (alone : Option ℕ) (before after : List Socket) → IsNobodyAlone before alone after → StandsAlone alone after → StandsAlone None before
nobody_first alone before after none stands =
    subst (StandsAlone None) none.same (subst (λ (a : Option ℕ). StandsAlone a after) none.free stands)

pub stands_new : StandsAlone None []
stands_new n any within e = absurd (omega (arith, within))

pub stands_pushed : (ss : List Socket) (s : Socket) → StandsAlone None ss → has_begun s ≡ false → StandsAlone None (ss ++ s ∷ [])
stands_pushed ss s free quiet n any within e = at (cases_lt n (length ss))
  where
    at : (n < length ss) ⊎ (length ss ≤ n) → None ≡ Some n
    at (inl before) = free n any before (ap has_begun (sym (get_or_append_left ss (s ∷ []) any n before)) ∙ e)
    at (inr behind) =
        let last : length ss ≡ n = omega (arith, within, behind, length-append ss (s ∷ [])) in
        absurd (true≢false (sym (ap has_begun (sym (get_or_push ss s any n last)) ∙ e) ∙ quiet))

-- of one socket nothing is known
pub stands_known : (n : ℕ) (ss : List Socket) (new : Socket) → StandsAlone (Some n) ss → StandsAlone (Some n) (set ss n new)
stands_known n ss new stands m any within e = at (same_or_not m n)
  where
    at : (m ≡ n) ⊎ (m ≢ n) → Some n ≡ Some m
    at (inl same) = ap Some (sym same)
    at (inr apart) =
        stands m any (subst (λ (l : ℕ). m < l) (length-set ss n new) within) (ap has_begun (sym (get_or-set_other ss n m new any apart)) ∙ e)

-- it has none of these
pub stands_free : (n : ℕ) (ss : List Socket) (new : Socket) → n < length ss → StandsAlone (Some n) ss → is_alone new ≡ false → StandsAlone None (set ss n new)
stands_free n ss new inside stands quiet m any within e = at (same_or_not m n)
  where
    at : (m ≡ n) ⊎ (m ≢ n) → None ≡ Some m
    at (inl same) =
        let there : get_or (set ss n new) m any ≡ new = ap (λ (i : ℕ). get_or (set ss n new) i any) same ∙ get_or-set_same ss n new any inside in
        absurd (true≢false (sym (begun_alone new (ap has_begun (sym there) ∙ e)) ∙ quiet))
    at (inr apart) =
        let known : Some n ≡ Some m =
        stands m any (subst (λ (l : ℕ). m < l) (length-set ss n new) within) (ap has_begun (sym (get_or-set_other ss n m new any apart)) ∙ e) in
        absurd (apart (sym (some_is n m known)))

-- a socket that changes begins none
pub stands_set : (alone : Option ℕ) (ss : List Socket) (n : ℕ) (any new : Socket) → n < length ss → (has_begun new ≡ true → has_begun (get_or ss n any) ≡ true)
    → StandsAlone alone ss → StandsAlone alone (set ss n new)
stands_set alone ss n any new inside goes stands m d within e = at (same_or_not m n)
  where
    at : (m ≡ n) ⊎ (m ≢ n) → alone ≡ Some m
    at (inl same) =
        let there : get_or (set ss n new) m d ≡ new = ap (λ (i : ℕ). get_or (set ss n new) i d) same ∙ get_or-set_same ss n new d inside in
        stands n any inside (goes (ap has_begun (sym there) ∙ e)) ∙ ap Some (sym same)
    at (inr apart) =
        stands m d (subst (λ (l : ℕ). m < l) (length-set ss n new) within) (ap has_begun (sym (get_or-set_other ss n m new d apart)) ∙ e)

-- answers are handed out
pub stands_answered : (alone : Option ℕ) (ss : List Socket) → StandsAlone alone ss → StandsAlone alone (map answered ss)
stands_answered alone ss stands n any within e =
    let inside : n < length ss = subst (λ (l : ℕ). n < l) (length-map ss answered) within in
    stands n any inside (ap has_begun (sym (get_or-map answered ss n any any inside)) ∙ e)

pub stands_given : (alone : Option ℕ) (len : ℕ) (ss given new : List Socket) → StandsAlone alone ss → given ≡ ss → length given ≡ len
    → new ≡ map answered given → StandsAlone alone (take len (new ++ drop (length new) ss))
stands_given alone len ss given new stands same fits is =
    let all : new ≡ map answered ss = is ∙ ap (map answered) same in
    subst (StandsAlone alone) (sym (written len ss new (ap length all ∙ length-map ss answered) (ap length (sym same) ∙ fits)))
    (subst (StandsAlone alone) (sym all) (stands_answered alone ss stands))

-- a reply came for one
pub stands_back : (alone : Option ℕ) (loans : List (Option Loan)) (owner : ℕ) (ss new : List Socket) → AreTied loans ss
    → OthersStay ss (borrower (loan_at loans owner)) new → GoesOnAlone ss (borrower (loan_at loans owner)) new → StandsAlone alone ss
    → StandsAlone alone new
stands_back alone loans owner ss new tied stay goes stands n any within e = at (borrower (loan_at loans owner)) refl
  where
    inside : n < length ss
    inside = subst (λ (l : ℕ). n < l) stay.length within

    other : Some n ≢ borrower (loan_at loans owner) → alone ≡ Some n
    other apart = stands n any inside (ap has_begun (sym (stay.others n any apart)) ∙ e)

    its : borrower (loan_at loans owner) ≡ Some n → alone ≡ Some n
    its is = stands n any inside (asked_begun (get_or ss n any) (tied.asked owner n any is) (goes n any is inside e))

    which : (m : ℕ) → borrower (loan_at loans owner) ≡ Some m → (n ≡ m) ⊎ (n ≢ m) → alone ≡ Some n
    which m is (inl same) = its (is ∙ ap Some (sym same))
    which m is (inr apart) = other (λ f. let g : Some n ≡ Some m = f ∙ is in apart cc)

    at : (o : Option ℕ) → borrower (loan_at loans owner) ≡ o → alone ≡ Some n
    at None is = other (λ f. let g : Some n ≡ None = f ∙ is in absurd cc)
    at (Some m) is = which m is (same_or_not n m)

pub stands_written : (alone : Option ℕ) (loans : List (Option Loan)) (owner len : ℕ) (ss given new : List Socket) → AreTied loans ss
    → given ≡ ss → length given ≡ len → OthersStay given (borrower (loan_at loans owner)) new → GoesOnAlone given (borrower (loan_at loans owner)) new
    → StandsAlone alone ss → StandsAlone alone (take len (new ++ drop (length new) ss))
stands_written alone loans owner len ss given new tied same fits stay goes stands =
    let others : OthersStay ss (borrower (loan_at loans owner)) new =
    subst (λ (os : List Socket). OthersStay os (borrower (loan_at loans owner)) new) same stay in
    let on : GoesOnAlone ss (borrower (loan_at loans owner)) new =
    subst (λ (os : List Socket). GoesOnAlone os (borrower (loan_at loans owner)) new) same goes in
    subst (StandsAlone alone) (sym (written len ss new others.length (ap length (sym same) ∙ fits)))
    (stands_back alone loans owner ss new tied others on stands)

-- ---- between its questions

pub between_none : (loans : List (Option Loan)) (ss : List Socket) → NobodyBetween loans ss loans ss
between_none loans ss = record {
  as_many = refl;
  goes_on = λ n any inside e. lends_none (Some n) loans;
  begins = λ n any inside e f. absurd (true≢false (sym f ∙ e));
}

-- a step with a socket
pub between_step : (loans after : List (Option Loan)) (ss : List Socket) (n : ℕ) (any new : Socket) → n < length ss → StandsAlone (Some n) ss
    → Lends (Some n) loans after → (has_begun (get_or ss n any) ≡ false → has_begun new ≡ true → AreLentTo n after)
    → NobodyBetween loans ss after (set ss n new)
between_step loans after ss n any new inside stands lends begins = record {
  as_many = length-set ss n new;
  goes_on = λ m d within e. subst (λ (s : Option ℕ). Lends s loans after) (stands m d within e) lends;
  begins = λ m d within e f. at m d within e f (same_or_not m n);
}
  where
    at : (m : ℕ) (d : Socket) → m < length ss → has_begun (get_or ss m d) ≡ false → has_begun (get_or (set ss n new) m d) ≡ true
        → (m ≡ n) ⊎ (m ≢ n) → AreLentTo m after
    at m d within e f (inl same) =
        let there : get_or (set ss n new) m d ≡ new = ap (λ (i : ℕ). get_or (set ss n new) i d) same ∙ get_or-set_same ss n new d inside in
        let before : get_or ss n any ≡ get_or ss m d = get_or_default ss n any d inside ∙ ap (λ (i : ℕ). get_or ss i d) (sym same) in
        subst (λ (i : ℕ). AreLentTo i after) (sym same) (begins (ap has_begun before ∙ e) (ap has_begun (sym there) ∙ f))
    at m d within e f (inr apart) = absurd (true≢false (sym (ap has_begun (sym (get_or-set_other ss n m new d apart)) ∙ f) ∙ e))

-- no message has begun, and none begins
pub between_free : (loans after : List (Option Loan)) (ss now : List Socket) → StandsAlone None ss → length now ≡ length ss → StandsAlone None now
    → NobodyBetween loans ss after now
between_free loans after ss now free same still = record {
  as_many = same;
  goes_on = λ n any inside e. absurd (nobody ss n any free inside e);
  begins = λ n any inside e f. absurd (nobody now n any still (subst (λ (l : ℕ). n < l) (sym same) inside) f);
}

-- no message has begun until one does
pub between_last : (loans lent after : List (Option Loan)) (ss now last : List Socket) → StandsAlone None ss → length now ≡ length ss → StandsAlone None now
    → NobodyBetween lent now after last → NobodyBetween loans ss after last
between_last loans lent after ss now last free same still between = record {
  as_many = between.as_many ∙ same;
  goes_on = λ n any inside e. absurd (nobody ss n any free inside e);
  begins = λ n any inside e f.
      let within : n < length now = subst (λ (l : ℕ). n < l) (sym same) inside in
      between.begins n any within (rests (has_begun (get_or now n any)) (nobody now n any still within)) f;
}

-- ---- a socket that ends, and one of which bytes came

pub stands_ended : (alone : Option ℕ) (ss : List Socket) (n : ℕ) (new : Socket) → n < length ss → new ≡ fresh → StandsAlone alone ss
    → StandsAlone alone (set ss n new)
stands_ended alone ss n new inside is stands =
    stands_set alone ss n new new inside (λ e. absurd (true≢false (sym e ∙ ap has_begun is))) stands

-- sockets of which nothing has come stand behind them
stands_more : (alone : Option ℕ) (ss : List Socket) (count : ℕ) → StandsAlone alone ss → StandsAlone alone (ss ++ replicate count fresh)
stands_more alone ss count stands n any within e = at (cases_lt n (length ss))
  where
    more : List Socket
    more = replicate count fresh

    at : (n < length ss) ⊎ (length ss ≤ n) → alone ≡ Some n
    at (inl before) = stands n any before (ap has_begun (sym (get_or_append_left ss more any n before)) ∙ e)
    at (inr behind) = absurd (true≢false (sym e ∙ ap has_begun (get_or-append_right ss more (length ss) n any refl behind ∙ last)))
      where
        last : get_or more (n - length ss) any ≡ fresh
        last = get_or-replicate count (n - length ss) fresh any
            (omega (arith, within, behind, length-append ss more, length-replicate {A = Socket} count fresh))

pub stands_grown : (alone : Option ℕ) (ss new : List Socket) → StandsAlone alone ss → HaveGrown ss new → StandsAlone alone new
stands_grown alone ss new stands grows = subst (StandsAlone alone) (sym grows.grown) (stands_more alone ss grows.count stands)

pub stands_fed : (alone : Option ℕ) (ss : List Socket) (n : ℕ) (any new : Socket) (bytes : List ℕ) → n < length ss → new ≡ fed (get_or ss n any) bytes
    → StandsAlone alone ss → StandsAlone alone (set ss n new)
stands_fed alone ss n any new bytes inside is stands = stands_set alone ss n any new inside (λ e. sym (ap has_begun is) ∙ e) stands

-- a step with a socket that was there
pub between_asked : (loans after : List (Option Loan)) (ss : List Socket) (n : ℕ) (any before new : Socket) → n < length ss → before ≡ get_or ss n any
    → StandsAlone (Some n) ss → Lends (Some n) loans after → (has_begun before ≡ false → has_begun new ≡ true → AreLentTo n after)
    → NobodyBetween loans ss after (set ss n new)
between_asked loans after ss n any before new inside is stands lends begins =
    between_step loans after ss n any new inside stands lends (λ e. begins (ap has_begun is ∙ e))

-- the last one that is asked in a turn, where no message had begun
pub between_turn : (loans lent after : List (Option Loan)) (alone : Option ℕ) (ss first now last : List Socket) → IsNobodyAlone ss alone first
    → StandsAlone alone first → length now ≡ length first → StandsAlone None now → NobodyBetween lent now after last → NobodyBetween loans ss after last
between_turn loans lent after alone ss first now last none stands same still between =
    between_last loans lent after ss now last (nobody_first alone ss first none stands) (same ∙ ap length none.same) still between
