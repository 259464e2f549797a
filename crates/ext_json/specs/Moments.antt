-- Moments from texts: a date, a time with milliseconds at most, and `Z` or an offset (RFC 3339,
-- section 5.6).
use Rattle.std.specs.Prelude.{ℕ, zero, suc, ℤ, pos, neg_ℤ, ◌-ℤ◌, ◌*ℤ◌, ◌≤ℤ◌, ◌+◌, ◌-◌, ◌*◌, ◌/◌}
use Rattle.std.specs.Prelude.{◌<◌, ◌==◌, ◌&&◌, nat_lt, nat_le, Bool, if◌then◌else◌, Option, Some}
use Rattle.std.specs.Prelude.{None, option_and_then, option_map, List, [], ◌∷◌, length, Result}
use Rattle.std.specs.Char.{is_ascii_digit}
use Rattle.outcome.specs.Outcome.{or_refused}
use Rattle.ext_json.specs.Calendar.{month_len}
use Rattle.ext_json.specs.declared.calendar.Moment.{Moment}
use Rattle.ext_json.specs.declared.fault.ExtJsonFault.{ExtJsonFault}
use Rattle.ext_json.specs.declared.fault.ExtJsonFault.TheVariants as faults

-- what stands at the front of a text, and the text behind it
abbrev pub Part : Type 0 → Type 0
Part A = List ℕ → Option (A × List ℕ)

abbrev pub digit_at : Part ℕ
digit_at [] = None
digit_at (c ∷ s) = if is_ascii_digit c then Some (c - 48, s) else None

abbrev pub byte_at : ℕ → List ℕ → Option (List ℕ)
byte_at b [] = None
byte_at b (c ∷ s) = if c == b then Some s else None

abbrev pub two_at : Part ℕ
two_at s = option_and_then (λ a. option_map (λ b. (10 * a.0 + b.0, b.1)) (digit_at a.1))
    (digit_at s)

abbrev pub four_at : Part ℕ
four_at s = option_and_then (λ a. option_map (λ b. (100 * a.0 + b.0, b.1)) (two_at a.1)) (two_at s)

-- year, month and day
abbrev pub day_at : Part (ℕ × ℕ × ℕ)
day_at s =
    option_and_then (λ year. option_and_then (λ a. option_and_then (λ month. option_and_then (λ b.
    option_map (λ day. ((year.0, month.0, day.0), day.1)) (two_at b))
    (byte_at 45 month.1)) (two_at a)) (byte_at 45 year.1)) (four_at s)

-- hour, minute and second
abbrev pub clock_at : Part (ℕ × ℕ × ℕ)
clock_at s =
    option_and_then (λ hour. option_and_then (λ a. option_and_then (λ minute. option_and_then (λ b.
    option_map (λ second. ((hour.0, minute.0, second.0), second.1)) (two_at b))
    (byte_at 58 minute.1)) (two_at a)) (byte_at 58 hour.1)) (two_at s)

-- behind a point one digit, two or three; 0 where there is no point
abbrev pub last_at : ℕ → List ℕ → Option (ℕ × List ℕ) → ℕ × List ℕ
last_at n s None = (n, s)
last_at n s (Some d) = (n + d.0, d.1)

abbrev pub hundredths_at : ℕ → List ℕ → Option (ℕ × List ℕ) → ℕ × List ℕ
hundredths_at n s None = (n, s)
hundredths_at n s (Some d) = last_at (n + 10 * d.0) d.1 (digit_at d.1)

abbrev pub millis_at : List ℕ → Option (List ℕ) → Option (ℕ × List ℕ)
millis_at s None = Some (0, s)
millis_at s (Some digits) =
    option_map (λ d. hundredths_at (100 * d.0) d.1 (digit_at d.1)) (digit_at digits)

abbrev pub fraction_at : Part ℕ
fraction_at s = millis_at s (byte_at 46 s)

abbrev pub moment_by : ℕ × ℕ × ℕ → ℕ × ℕ × ℕ → ℕ → Moment
moment_by day clock milli = record {
  year = day.0;
  month = day.1;
  day = day.2;
  hour = clock.0;
  minute = clock.1;
  second = clock.2;
  milli = milli;
}

abbrev pub moment_at : Part Moment
moment_at s =
    option_and_then (λ day. option_and_then (λ a. option_and_then (λ clock.
    option_map (λ milli. (moment_by day.0 clock.0 milli.0, milli.1)) (fraction_at clock.1))
    (clock_at a)) (byte_at 84 day.1)) (day_at s)

-- hours and minutes, less than a day, in minutes
abbrev pub offset_in : List ℕ → Option ℕ
offset_in s =
    option_and_then (λ hours. option_and_then (λ a. option_and_then (λ minutes.
    if (length minutes.1 == 0) && (nat_lt hours.0 24 && nat_lt minutes.0 60)
    then Some (60 * hours.0 + minutes.0) else None)
    (two_at a)) (byte_at 58 hours.1)) (two_at s)

abbrev pub zone_by : ℕ → List ℕ → Option ℤ
zone_by c s =
    if c == 90 then (if length s == 0 then Some (pos 0) else None)
    else if c == 43 then option_map pos (offset_in s)
    else if c == 45 then option_map (λ n. neg_ℤ (pos n)) (offset_in s)
    else None

-- `Z`, or an offset to the east or to the west, in minutes
abbrev pub zone_in : List ℕ → Option ℤ
zone_in [] = None
zone_in (c ∷ s) = zone_by c s

-- the calendar has the moment; there are no leap seconds
abbrev pub is_moment : Moment → Bool
is_moment m =
    nat_le 1 m.month
    && (nat_le m.month 12 && (nat_le 1 m.day && (nat_le m.day (month_len m.year m.month)
    && (nat_lt m.hour 24 && (nat_lt m.minute 60 && nat_lt m.second 60)))))

-- how many days so many months of a year have
unfoldable pub months_len : ℕ → ℕ → ℕ
months_len year zero = 0
months_len year (suc months) = months_len year months + month_len year (months + 1)

-- how many days there are before a year, from the beginning of the year 0 on: 365 for each, and one
-- for each leap year
abbrev pub years_len : ℕ → ℕ
years_len year = 365 * year + (year + 3) / 4 + (year + 399) / 400 - (year + 99) / 100

-- from the beginning of the year 0 on
unfoldable pub millis_of : Moment → ℕ
millis_of m =
    86400000 * (years_len m.year + months_len m.year (m.month - 1) + m.day - 1)
    + 1000 * (3600 * m.hour + 60 * m.minute + m.second) + m.milli

-- with an offset in minutes, and from 1970 on
abbrev pub since_1970 : ℕ → ℤ → ℤ
since_1970 millis zone = (pos millis -ℤ pos 62167219200000) -ℤ (pos 60000 *ℤ zone)

abbrev pub moment_by_zone : Moment → ℤ → Option ℤ
moment_by_zone m zone = if is_moment m
    then Some (since_1970 (millis_of m) zone) else None

unfoldable pub moment_in : List ℕ → Option ℤ
moment_in s =
    option_and_then (λ m. option_and_then (moment_by_zone m.0) (zone_in m.1)) (moment_at s)

-- the milliseconds since 1970 of a text in a wrapper
unfoldable pub date_in : List ℕ → Result ℤ ExtJsonFault
date_in s = or_refused (moment_in s) faults.Wrapper

-- ---- for the prover

-- the parts have as many digits as in a text
pub record IsSmall (m : Moment) : Type 0 where
  pub year : m.year < 10000
  pub month : m.month < 100
  pub day : m.day < 100
  pub hour : m.hour < 100
  pub minute : m.minute < 100
  pub second : m.second < 100
  pub milli : m.milli < 1000

-- less than a day, in minutes
pub record IsOffset (z : ℤ) : Type 0 where
  pub least : neg_ℤ (pos 1440) ≤ℤ z
  pub most : z ≤ℤ pos 1440
