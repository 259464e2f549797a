-- Years and months that are counted off one by one.
use Rattle.std.proofs.Common.{◌≡◌, ℕ, zero, suc, ◌+◌, ◌-◌, ◌<◌, ◌≤◌, Bool, cond, refl, ap, sym, ◌∙◌, arith}
use Rattle.std.proofs.lemmas.Bool.{lt-ltb, le-ltb}
use Rattle.std.proofs.Common.{List, [], ◌∷◌, ◌++◌, ◌/◌, true, false, ◌==◌, IsAscii}
use Rattle.std.proofs.lemmas.Str.Ascii.{IsAscii-nil, IsAscii-cons}
use Rattle.ext_json.specs.declared.calendar.Moment.{Moment}
use Rattle.ext_json.specs.Calendar.{year_len, month_len, year_from, month_from, digit, two_digits, three_digits, four_digits, fraction_text, moment_text}

pub year_here : (most year days : ℕ) → days < year_len year → (year, days) ≡ year_from most year days
unfolding year_from
year_here zero year days h = refl
year_here (suc most) year days h =
    sym (ap (λ (b : Bool). cond b (year, days) (year_from most (year + 1) (days - year_len year))) (lt-ltb days (year_len year) h))

pub year_next : (most year days : ℕ) → 0 < most → year_len year ≤ days → year_from most year days ≡ year_from (most - 1) (year + 1) (days - year_len year)
unfolding year_from
year_next zero year days some h = absurd (omega arith)
year_next (suc most) year days some h =
    ap (λ (b : Bool). cond b (year, days) (year_from most (year + 1) (days - year_len year))) (le-ltb days (year_len year) h)
    ∙ ap (λ (n : ℕ). year_from n (year + 1) (days - year_len year)) (let e : most ≡ suc most - 1 = omega arith in e)

pub month_here : (most year month days : ℕ) → days < month_len year month → (month, days) ≡ month_from most year month days
unfolding month_from
month_here zero year month days h = refl
month_here (suc most) year month days h =
    sym (ap (λ (b : Bool). cond b (month, days) (month_from most year (month + 1) (days - month_len year month))) (lt-ltb days (month_len year month) h))

pub month_next : (most year month days : ℕ) → 0 < most → month_len year month ≤ days
    → month_from most year month days ≡ month_from (most - 1) year (month + 1) (days - month_len year month)
unfolding month_from
month_next zero year month days some h = absurd (omega arith)
month_next (suc most) year month days some h =
    ap (λ (b : Bool). cond b (month, days) (month_from most year (month + 1) (days - month_len year month))) (le-ltb days (month_len year month) h)
    ∙ ap (λ (n : ℕ). month_from n year (month + 1) (days - month_len year month)) (let e : most ≡ suc most - 1 = omega arith in e)

pub no_year : (year days : ℕ) → (year, days) ≡ year_from 0 year days
unfolding year_from
no_year year days = refl

pub no_month : (year month days : ℕ) → (month, days) ≡ month_from 0 year month days
unfolding month_from
no_month year month days = refl

-- ---- texts

IsAscii-digit : (n : ℕ) (bs : List ℕ) → IsAscii bs → IsAscii (digit n ∷ bs)
IsAscii-digit n bs h = IsAscii-cons (digit n) bs (omega arith) h

IsAscii-two : (n : ℕ) (bs : List ℕ) → IsAscii bs → IsAscii (two_digits n ++ bs)
IsAscii-two n bs h = IsAscii-digit (n / 10) (digit n ∷ bs) (IsAscii-digit n bs h)

IsAscii-three : (n : ℕ) (bs : List ℕ) → IsAscii bs → IsAscii (three_digits n ++ bs)
IsAscii-three n bs h = IsAscii-digit (n / 100) (two_digits n ++ bs) (IsAscii-two n bs h)

IsAscii-four : (n : ℕ) (bs : List ℕ) → IsAscii bs → IsAscii (four_digits n ++ bs)
IsAscii-four n bs h = IsAscii-digit (n / 1000) (three_digits n ++ bs) (IsAscii-three n bs h)

IsAscii-fraction : (b : Bool) (n : ℕ) (bs : List ℕ) → IsAscii bs → IsAscii ((cond b [] (46 ∷ three_digits n)) ++ bs)
IsAscii-fraction true n bs h = h
IsAscii-fraction false n bs h = IsAscii-cons 46 (three_digits n ++ bs) (omega arith) (IsAscii-three n bs h)

pub IsAscii-moment : (m : Moment) → IsAscii (moment_text m)
unfolding moment_text
IsAscii-moment m =
    let zone : IsAscii (90 ∷ []) = IsAscii-cons 90 [] (omega arith) IsAscii-nil in
    let fraction = IsAscii-fraction (m.milli == 0) m.milli (90 ∷ []) zone in
    let rest0 : List ℕ = fraction_text m.milli ++ 90 ∷ [] in
    let second = IsAscii-two m.second rest0 fraction in
    let rest1 : List ℕ = 58 ∷ (two_digits m.second ++ rest0) in
    let minute = IsAscii-two m.minute rest1 (IsAscii-cons 58 (two_digits m.second ++ rest0) (omega arith) second) in
    let rest2 : List ℕ = 58 ∷ (two_digits m.minute ++ rest1) in
    let hour = IsAscii-two m.hour rest2 (IsAscii-cons 58 (two_digits m.minute ++ rest1) (omega arith) minute) in
    let rest3 : List ℕ = 84 ∷ (two_digits m.hour ++ rest2) in
    let day = IsAscii-two m.day rest3 (IsAscii-cons 84 (two_digits m.hour ++ rest2) (omega arith) hour) in
    let rest4 : List ℕ = 45 ∷ (two_digits m.day ++ rest3) in
    let month = IsAscii-two m.month rest4 (IsAscii-cons 45 (two_digits m.day ++ rest3) (omega arith) day) in
    let rest5 : List ℕ = 45 ∷ (two_digits m.month ++ rest4) in
    IsAscii-four m.year rest5 (IsAscii-cons 45 (two_digits m.month ++ rest4) (omega arith) month)
