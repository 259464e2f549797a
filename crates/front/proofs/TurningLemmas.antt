-- Which sockets a turn asks for.
use Rattle.std.proofs.Common.{◌≡◌, ◌≢◌, ◌⊎◌, ℕ, zero, suc, ◌+◌, ◌-◌, ◌*◌, ◌/◌, ◌%◌, ◌<◌, ◌≤◌, true, false, List, [], ◌∷◌, ◌++◌, length, get_or, set}
use Rattle.std.proofs.Common.{Option, Some, Ok, Err, refl, sym, ap, subst, ◌∙◌, inl, inr, arith, div-add-mod'}
use Rattle.std.specs.Prelude.{is_none, Result, OnErr, OnOk}
use Rattle.std.specs.List.{Contains, list_any}
use Rattle.std.proofs.lemmas.Bool.{cases_lt, true≢false}
use Rattle.std.proofs.lemmas.List.{get_or_default, get_or-set_other, get_or-set_same, length-set}
use Rattle.std.proofs.lemmas.List.Elements.{Contains-append_cases, Contains-append_left, Contains-append_right}
use Rattle.std.proofs.lemmas.Nat.{mul-le, mod_below, mod-mul-add}
use Rattle.drivers.specs.declared.server_info.ServerInfo.{ServerInfo}
use Rattle.server.specs.ServerState.{ServerState}
use Rattle.driver_sockets.specs.Alone.{is_alone}
use Rattle.driver_sockets.specs.Questions.{wanted}
use Rattle.front.specs.Asking.{AsksWanted}
use Rattle.driver_sockets.specs.Serving.{OthersStay, fresh, waits}
use Rattle.front.specs.OneSocket.{RunsOut, Seat, Serves}
use Rattle.driver_sockets.specs.Info.{after_ids, info_of}
use Rattle.front.specs.Turning.{seat_at, Desk, Does, ServesOne, AreServed, AsksAlone, AsksInTurn, EachOnce, GoesOnWithOne, Waits}
use Rattle.driver_sockets.specs.declared.lending.Loan.{Loan}
use Rattle.driver_sockets.specs.declared.open_cursors.OpenCursor.{OpenCursor}
use Rattle.driver_sockets.specs.declared.socket.Socket.{Socket}

pub others_set : (ss : List Socket) (n : ℕ) (new : Socket) → OthersStay ss (Some n) (set ss n new)
others_set ss n new = record {
  length = length-set ss n new;
  others = λ i any apart. get_or-set_other ss n i new any (λ e. apart (ap Some e));
}

apart_by : (q r count m a b : ℕ) → q * count + m ≡ a → r * count + m ≡ b → a < b → b < a + count → ⊥
apart_by q r count m a b e f less near = at (cases_lt q r)
  where
    at : (q < r) ⊎ (r ≤ q) → ⊥
    at (inl h) = absurd (omega (arith, e, f, near, mul-le (q + 1) count r count (omega (arith, h)) (omega arith)))
    at (inr h) = absurd (omega (arith, e, f, less, mul-le r count q count h (omega arith)))

-- a turn comes to no socket twice
apart : (first i j count : ℕ) → i < j → j < count → (first + j) % count ≢ (first + i) % count
apart first i j count less within same =
    apart_by ((first + i) / count) ((first + j) / count) count ((first + i) % count) (first + i) (first + j) (div-add-mod' (first + i) count)
    (ap (λ (m : ℕ). (first + j) / count * count + m) (sym same) ∙ div-add-mod' (first + j) count) (omega (arith, less)) (omega (arith, less, within))

-- so those to which it comes later are as they were
pub later_stay : (first i j count : ℕ) (ss new : List Socket) (any : Socket) → i + 1 ≤ j → j < count → OthersStay ss (Some ((first + i) % count)) new
    → get_or new ((first + j) % count) any ≡ get_or ss ((first + j) % count) any
later_stay first i j count ss new any less within stay =
    stay.others ((first + j) % count) any (λ e. apart first i j count (omega (arith, less)) within (some_is _ _ e))
  where
    some_is : (x y : ℕ) → Some x ≡ Some y → x ≡ y
    some_is x y e = cc

-- ---- one is served

either : {A E P Q : Type 0} (r : Result A E) → OnOk r P → OnErr r Q → P ⊎ Q
either (Ok x) h k = inl h
either (Err e) h k = inr k

pub serves_one : {A E : Type 0} (r : Result A E) (ss : List Socket) (time n next later : ℕ) (info : ServerInfo) (s new : Socket)
    (cursors : List OpenCursor) (loans after : List (Option Loan)) (before now : ServerState)
    → n < length ss → s ≡ get_or ss n s → info ≡ info_of n time next → later ≡ after_ids next
    → AsksWanted (Some n) (wanted info s) loans after before now
    → OnOk r (Serves info n cursors (record { loans = loans; server = before; socket = s }) (record { loans = after; server = now; socket = new }))
    → OnErr r (RunsOut info (record { loans = loans; server = before; socket = s }) (record { loans = after; server = now; socket = new }))
    → ServesOne ss (set ss n new) time n (record { loans = loans; cursors = cursors; server = before; next_id = next })
    (record { loans = after; cursors = cursors; server = now; next_id = later })
serves_one r ss time n next later info s new cursors loans after before now inside is known behind asks served out = record {
  behind = behind;
  cursors = refl;
  asks = λ any.
      subst (λ (i : ServerInfo). AsksWanted (Some n) (wanted i (get_or ss n any)) loans after before now) known
      (subst (λ (t : Socket). AsksWanted (Some n) (wanted info t) loans after before now) (there any) asks);
  as_planned = λ any.
      subst (λ (i : ServerInfo). Does i n cursors (seat (get_or ss n any)) (seat_new (get_or (set ss n new) n any))) known
      (subst (λ (t : Socket). Does info n cursors (seat t) (seat_new (get_or (set ss n new) n any))) (there any)
      (subst (λ (t : Socket). Does info n cursors (seat s) (seat_new t)) (sym (get_or-set_same ss n new any inside)) (either r served out)));
}
  where
    there : (any : Socket) → s ≡ get_or ss n any
    there any = is ∙ get_or_default ss n s any inside

    seat : Socket → Seat
    seat t = record { loans = loans; server = before; socket = t }

    seat_new : Socket → Seat
    seat_new t = record { loans = after; server = now; socket = t }

-- a socket as it was
as_was : (ss now later : List Socket) (time n : ℕ) (old new : Desk) → ((any : Socket) → get_or now n any ≡ get_or ss n any)
    → ServesOne now later time n old new → ServesOne ss later time n old new
as_was ss now later time n old new same h = record {
  behind = h.behind;
  cursors = h.cursors;
  asks = λ any.
      subst (λ (s : Socket). AsksWanted (Some n) (wanted (info_of n time old.next_id) s) old.loans new.loans old.server new.server) (same any) (h.asks any);
  as_planned = λ any.
      subst (λ (s : Socket). Does (info_of n time old.next_id) n old.cursors (seat_at old s) (seat_at new (get_or later n any))) (same any) (h.as_planned any);
}

-- a socket as it is left
as_left : (ss now later : List Socket) (time n : ℕ) (old new : Desk) → ((any : Socket) → get_or later n any ≡ get_or now n any)
    → ServesOne ss now time n old new → ServesOne ss later time n old new
as_left ss now later time n old new same h = record {
  behind = h.behind;
  cursors = h.cursors;
  asks = h.asks;
  as_planned = λ any.
      subst (λ (s : Socket). Does (info_of n time old.next_id) n old.cursors (seat_at old (get_or ss n any)) (seat_at new s)) (sym (same any))
      (h.as_planned any);
}

-- ---- one after the other

served_on : (ss later : List Socket) (time : ℕ) (ns ms : List ℕ) (a b c : Desk) → AreServed ss later time ns a b → AreServed ss later time ms b c
    → AreServed ss later time (ns ++ ms) a c
served_on ss later time [] ms a b c h k = subst (λ (x : Desk). AreServed ss later time ms x c) h k
served_on ss later time (n ∷ ns) ms a b c h k = (h.0, h.1, served_on ss later time ns ms h.0 b c h.2 k)

-- those that were served are left as they are
served_left : (ss now later : List Socket) (time : ℕ) (ns : List ℕ) (a b : Desk)
    → ((n : ℕ) (any : Socket) → Contains ns n → get_or later n any ≡ get_or now n any) → AreServed ss now time ns a b → AreServed ss later time ns a b
served_left ss now later time [] a b same h = h
served_left ss now later time (n ∷ ns) a b same h = (
  h.0,
  as_left ss now later time n a h.0 (λ any. same n any (0, omega arith, refl)) h.1,
  served_left ss now later time ns h.0 b (λ m any c. same m any (Contains-append_right (n ∷ []) ns m c)) h.2,
)

-- a turn that began with the socket of a number has come so far
pub record HaveServed (before now : List Socket) (first count step time : ℕ) (old new : Desk) : Type 0 where
  pub numbers : List ℕ
  pub served : AreServed before now time numbers old new
  pub once : EachOnce numbers
  pub came : (n : ℕ) → Contains numbers n → (s : ℕ) × (s < step) × (n ≡ (first + s) % count)
  pub only : (n : ℕ) → Contains numbers n → Waits before n
  pub all : (s : ℕ) (any : Socket) → s < step → waits (get_or before ((first + s) % count) any) ≡ true → Contains numbers ((first + s) % count)
  pub others : (n : ℕ) (any : Socket) → (Contains numbers n → ⊥) → get_or now n any ≡ get_or before n any

pub served_none : (ss : List Socket) (first count time : ℕ) (d : Desk) → HaveServed ss ss first count 0 time d d
served_none ss first count time d = record {
  numbers = [];
  served = refl;
  once = tt;
  came = λ n h. absurd (omega (arith, h.1));
  only = λ n h. absurd (omega (arith, h.1));
  all = λ s any h e. absurd (omega (arith, h));
  others = λ n any no. refl;
}

last_or_before : (s step : ℕ) → s < step + 1 → (s < step) ⊎ (s ≡ step)
last_or_before s step h = at (cases_lt s step)
  where
    at : (s < step) ⊎ (step ≤ s) → (s < step) ⊎ (s ≡ step)
    at (inl less) = inl less
    at (inr more) = inr (omega (arith, more, h))

-- one that doesn't wait is passed over
pub served_past : (ss now : List Socket) (first count step time : ℕ) (old new : Desk) (s : Socket) → count ≡ length ss → length now ≡ length ss
    → step < count → s ≡ get_or now ((first + step) % count) s → waits s ≡ false → HaveServed ss now first count step time old new
    → ((any : Socket) → get_or now ((first + step) % count) any ≡ get_or ss ((first + step) % count) any)
    → HaveServed ss now first count (step + 1) time old new
served_past ss now first count step time old new s fits many within is quiet h same = record {
  numbers = h.numbers;
  served = h.served;
  once = h.once;
  came = λ n c. let k = h.came n c in (k.0, omega (arith, k.1), k.2);
  only = h.only;
  all = λ k any less e. at k any e (last_or_before k step less);
  others = h.others;
}
  where
    i : ℕ
    i = (first + step) % count

    inside : i < length now
    inside = omega (arith, mod_below (first + step) count (omega (arith, within)), fits, many)

    at : (k : ℕ) (any : Socket) → waits (get_or ss ((first + k) % count) any) ≡ true → (k < step) ⊎ (k ≡ step) → Contains h.numbers ((first + k) % count)
    at k any e (inl less) = h.all k any less e
    at k any e (inr last) =
        let there : s ≡ get_or ss ((first + k) % count) any =
        is ∙ get_or_default now i s any inside ∙ same any ∙ ap (λ (m : ℕ). get_or ss ((first + m) % count) any) (sym last) in
        absurd (true≢false (sym e ∙ sym (ap waits there) ∙ quiet))

last_is : (i n : ℕ) → Contains (i ∷ []) n → n ≡ i
last_is i n (zero, h, e) = sym e
last_is i n (suc k, h, e) = absurd (omega (arith, h))

contains_last : (ns : List ℕ) (n : ℕ) → Contains (ns ++ n ∷ []) n
contains_last ns n = Contains-append_right ns (n ∷ []) n (0, omega arith, refl)

some_same : (x y : ℕ) → Some x ≡ Some y → x ≡ y
some_same x y e = cc

contains_behind : (n : ℕ) (ns : List ℕ) (m : ℕ) → Contains ns m → Contains (n ∷ ns) m
contains_behind n ns m c = Contains-append_right (n ∷ []) ns m c

once_more : (ns : List ℕ) (n : ℕ) → EachOnce ns → (Contains ns n → ⊥) → EachOnce (ns ++ n ∷ [])
once_more [] n h never_in = (λ c. absurd (omega (arith, c.1)), tt)
once_more (m ∷ ms) n h never_in = (λ c. not_again (Contains-append_cases ms (n ∷ []) m c), once_more ms n h.1 (λ c. never_in (contains_behind m ms n c)))
  where
    not_again : Contains ms m ⊎ Contains (n ∷ []) m → ⊥
    not_again (inl c) = h.0 c
    not_again (inr c) = never_in (0, omega arith, last_is n m c)

-- one more is served
pub served_more : (ss now later : List Socket) (first count step time : ℕ) (old mid new : Desk) (s : Socket) → count ≡ length ss → length now ≡ length ss
    → step < count → s ≡ get_or now ((first + step) % count) s → waits s ≡ true → HaveServed ss now first count step time old mid
    → ((any : Socket) → get_or now ((first + step) % count) any ≡ get_or ss ((first + step) % count) any)
    → OthersStay now (Some ((first + step) % count)) later → ServesOne now later time ((first + step) % count) mid new
    → HaveServed ss later first count (step + 1) time old new
served_more ss now later first count step time old mid new s fits many within is wait h same stay one = record {
  numbers = h.numbers ++ i ∷ [];
  served = served_on ss later time h.numbers (i ∷ []) old mid new (served_left ss now later time h.numbers old mid still h.served)
      (new, as_was ss now later time i mid new same one, refl);
  once = once_more h.numbers i h.once (λ c. let k = h.came i c in apart first k.0 step count k.1 within k.2);
  came = λ n c. came n (Contains-append_cases h.numbers (i ∷ []) n c);
  only = λ n c. which n (Contains-append_cases h.numbers (i ∷ []) n c);
  all = λ k any less e. at k any e (last_or_before k step less);
  others = λ n any no.
      stay.others n any (λ e. no (subst (λ (m : ℕ). Contains (h.numbers ++ i ∷ []) m) (sym (some_same n i e)) (contains_last h.numbers i)))
      ∙ h.others n any (λ c. no (Contains-append_left h.numbers (i ∷ []) n c));
}
  where
    i : ℕ
    i = (first + step) % count

    inside : i < length now
    inside = omega (arith, mod_below (first + step) count (omega (arith, within)), fits, many)

    still : (n : ℕ) (any : Socket) → Contains h.numbers n → get_or later n any ≡ get_or now n any
    still n any c =
        let k = h.came n c in
        stay.others n any (λ e. apart first k.0 step count k.1 within (sym (sym k.2 ∙ some_same n i e)))

    came : (n : ℕ) → Contains h.numbers n ⊎ Contains (i ∷ []) n → (k : ℕ) × (k < step + 1) × (n ≡ (first + k) % count)
    came n (inl before) = let k = h.came n before in (k.0, omega (arith, k.1), k.2)
    came n (inr c) = (step, omega arith, last_is i n c)

    which : (n : ℕ) → Contains h.numbers n ⊎ Contains (i ∷ []) n → Waits ss n
    which n (inl before) = h.only n before
    which n (inr c) = subst (Waits ss) (sym (last_is i n c)) (λ any. ap waits (sym (is ∙ get_or_default now i s any inside ∙ same any)) ∙ wait)

    at : (k : ℕ) (any : Socket) → waits (get_or ss ((first + k) % count) any) ≡ true → (k < step) ⊎ (k ≡ step)
        → Contains (h.numbers ++ i ∷ []) ((first + k) % count)
    at k any e (inl less) = Contains-append_left h.numbers (i ∷ []) ((first + k) % count) (h.all k any less e)
    at k any e (inr last) =
        subst (λ (m : ℕ). Contains (h.numbers ++ i ∷ []) ((first + m) % count)) (sym last) (contains_last h.numbers i)

-- ---- a turn has come to an end

-- it comes to every socket
comes_to : (first n count : ℕ) → n < count → (s : ℕ) × (s < count) × ((first + s) % count ≡ n)
comes_to first n count within = at (cases_lt n r)
  where
    q : ℕ
    q = first / count

    r : ℕ
    r = first % count

    split : q * count + r ≡ first
    split = div-add-mod' first count

    less : r < count
    less = mod_below first count (omega (arith, within))

    at : (n < r) ⊎ (r ≤ n) → (s : ℕ) × (s < count) × ((first + s) % count ≡ n)
    at (inl h) =
        let there : first + (count + n - r) ≡ (q + 1) * count + n = omega (arith, split, h, less) in
        (count + n - r, omega (arith, h, less), ap (λ (m : ℕ). m % count) there ∙ mod-mul-add (q + 1) count n within)
    at (inr h) =
        let there : first + (n - r) ≡ q * count + n = omega (arith, split, h) in
        (n - r, omega (arith, h, within), ap (λ (m : ℕ). m % count) there ∙ mod-mul-add q count n within)

-- the first one was come to
came_first : (ss now : List Socket) (first count step time : ℕ) (old new : Desk) (n : ℕ) → count ≡ length ss → 0 < step
    → (h : HaveServed ss now first count step time old new) → n ≡ first % length ss → Waits ss n → Contains h.numbers n
came_first ss now first count step time old new n fits some h is wait =
    subst (Contains h.numbers) (sym there) (h.all 0 fresh some (ap (λ (m : ℕ). waits (get_or ss m fresh)) (sym there) ∙ wait fresh))
  where
    there : n ≡ (first + 0) % count
    there = is ∙ ap (λ (m : ℕ). first % m) (sym fits) ∙ ap (λ (m : ℕ). m % count) (omega arith)

pub turn_whole : (ss now : List Socket) (given first count step time next : ℕ) (old new : Desk) → first ≡ given % 1024 → next ≡ given → count ≡ length ss
    → count ≤ step → HaveServed ss now first count step time old new → AsksInTurn ss now given next old new
turn_whole ss now given first count step time next old new from stays fits whole h = record {
  time = time;
  numbers = h.numbers;
  served = h.served;
  once = h.once;
  only = λ n c. inl (h.only n c);
  all = λ n any within e. inl (all n any within e);
  others = h.others;
  begins = λ n is within wait. inl (all n fresh within (wait fresh));
  ends = inl (record { all = all; again = stays });
}
  where
    all : (n : ℕ) (any : Socket) → n < length ss → waits (get_or ss n any) ≡ true → Contains h.numbers n
    all n any within e =
        let came = comes_to first n count (omega (arith, within, fits)) in
        subst (Contains h.numbers) came.2
        (h.all came.0 any (omega (arith, came.1, whole)) (ap (λ (m : ℕ). waits (get_or ss m any)) came.2 ∙ e))

nothing_yet : (ss now : List Socket) (first count time : ℕ) (old new : Desk) → HaveServed ss now first count 0 time old new → new ≡ old
nothing_yet ss now first count time old new h = at h.numbers h.served h.came
  where
    at : (ns : List ℕ) → AreServed ss now time ns old new → ((n : ℕ) → Contains ns n → (s : ℕ) × (s < 0) × (n ≡ (first + s) % count)) → new ≡ old
    at [] served came = served
    at (n ∷ ns) served came = absurd (omega (arith, (came n (0, omega arith, refl)).1))

-- no connection is at rest
pub turn_full : (ss now : List Socket) (given first count step time next : ℕ) (old new : Desk) (s : Socket) → first ≡ given % 1024
    → next ≡ (first + step) % count → count ≡ length ss → length now ≡ length ss → step < count → s ≡ get_or now ((first + step) % count) s
    → waits s ≡ true → HaveServed ss now first count step time old new
    → ((any : Socket) → get_or now ((first + step) % count) any ≡ get_or ss ((first + step) % count) any) → list_any is_none new.loans ≡ false
    → AsksInTurn ss now given next old new
turn_full ss now given first count step time next old new s from continues fits many within is wait h same full = record {
  time = time;
  numbers = h.numbers;
  served = h.served;
  once = h.once;
  only = λ n c. inl (h.only n c);
  all = λ n any inside e. inr (inl full);
  others = h.others;
  begins = λ n at inside waiting. first_one n (at ∙ ap (λ (m : ℕ). m % length ss) (sym from)) waiting (cases_lt 0 step);
  ends = inr (inl (record { full = full; waits = subst (Waits ss) (sym continues) waiting; kept = λ c. kept (subst (Contains h.numbers) continues c) }));
}
  where
    i : ℕ
    i = (first + step) % count

    inside : i < length now
    inside = omega (arith, mod_below (first + step) count (omega (arith, within)), fits, many)

    waiting : Waits ss i
    waiting any = ap waits (sym (is ∙ get_or_default now i s any inside ∙ same any)) ∙ wait

    kept : Contains h.numbers i → ⊥
    kept c = let k = h.came i c in apart first k.0 step count k.1 within k.2

    first_one : (n : ℕ) → n ≡ first % length ss → Waits ss n → (0 < step) ⊎ (step ≤ 0)
        → Contains h.numbers n ⊎ ((list_any is_none old.loans ≡ false) ⊎ GoesOnWithOne h.numbers ss given next)
    first_one n at wait (inl some) = inl (came_first ss now first count step time old new n fits some h at wait)
    first_one n at wait (inr none) =
        let begun : step ≡ 0 = omega (arith, none) in
        let same : new ≡ old =
        nothing_yet ss now first count time old new (subst (λ (k : ℕ). HaveServed ss now first count k time old new) begun h) in
        inr (inl (ap (λ (d : Desk). list_any is_none d.loans) (sym same) ∙ full))

-- the last one is a message during which nobody else may ask
pub turn_last : (ss now later : List Socket) (given first count step time next : ℕ) (old mid new : Desk) (s : Socket) → first ≡ given % 1024
    → next ≡ (first + step) % count + 1 → count ≡ length ss → length now ≡ length ss → step < count → s ≡ get_or now ((first + step) % count) s
    → waits s ≡ true → HaveServed ss now first count step time old mid
    → ((any : Socket) → get_or now ((first + step) % count) any ≡ get_or ss ((first + step) % count) any)
    → OthersStay now (Some ((first + step) % count)) later → ServesOne now later time ((first + step) % count) mid new
    → AsksAlone later ((first + step) % count) → AsksInTurn ss later given next old new
unfolding served_more
turn_last ss now later given first count step time next old mid new s from continues fits many less is wait h same stay one alone = record {
  time = time;
  numbers = more.numbers;
  served = more.served;
  once = more.once;
  only = λ n c. inl (more.only n c);
  all = λ n any within e. inr (inr (i, contains_last h.numbers i, inr alone));
  others = more.others;
  begins = λ n at inside waiting.
      inl (came_first ss later first count (step + 1) time old new n fits (omega arith) more (at ∙ ap (λ (m : ℕ). m % length ss) (sym from)) waiting);
  ends = inr (inr (inl (record { last = i; served = contains_last h.numbers i; alone = alone; behind = continues })));
}
  where
    i : ℕ
    i = (first + step) % count

    more : HaveServed ss later first count (step + 1) time old new
    more = served_more ss now later first count step time old mid new s fits many less is wait h same stay one

-- it goes on with such a one
pub turn_alone : (ss later : List Socket) (given next time n : ℕ) (old new : Desk) → next ≡ given → OthersStay ss (Some n) later
    → ServesOne ss later time n old new → AsksAlone ss n → AsksInTurn ss later given next old new
turn_alone ss later given next time n old new stays stay one alone = record {
  time = time;
  numbers = n ∷ [];
  served = (new, one, refl);
  once = (λ c. absurd (omega (arith, c.1)), tt);
  only = λ m c. inr (subst (AsksAlone ss) (sym (last_is n m c)) alone);
  all = λ m any within e. inr (inr (n, contains_last [] n, inl alone));
  others = λ m any no. stay.others m any (λ e. no (subst (Contains (n ∷ [])) (sym (some_same m n e)) (contains_last [] n)));
  begins = λ m at inside waiting. inr (inr continues);
  ends = inr (inr (inr continues));
}
  where
    continues : GoesOnWithOne (n ∷ []) ss given next
    continues = record { one = n; is = refl; alone = alone; again = stays }

-- nothing has changed before
pub turn_behind : (ss given after : List Socket) (first begun next : ℕ) (old mid new : Desk) → given ≡ ss → begun ≡ first → mid ≡ old
    → AsksInTurn given after begun next mid new → AsksInTurn ss after first next old new
turn_behind ss given after first begun next old mid new same from still h =
    subst (λ (d : Desk). AsksInTurn ss after first next d new) still
    (subst (λ (x : ℕ). AsksInTurn ss after x next mid new) from (subst (λ (x : List Socket). AsksInTurn x after begun next mid new) same h))

-- the socket that was served is one of these
pub asks_alone_at : (ss : List Socket) (n : ℕ) (s : Socket) → n < length ss → s ≡ get_or ss n s → is_alone s ≡ true → AsksAlone ss n
asks_alone_at ss n s inside is alone = λ any. ap is_alone (sym (is ∙ get_or_default ss n s any inside)) ∙ alone
