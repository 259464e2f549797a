-- Dates as texts of ISO 8601, in the form of RFC 3339 with milliseconds at most, by the calendar of
-- ISO 8601 (the Gregorian one).
use Rattle.std.specs.Prelude.{ℕ, zero, suc, ◌+◌, ◌-◌, ◌/◌, ◌%◌, ◌==◌, ◌&&◌, ◌||◌, nat_lt, Bool, not}
use Rattle.std.specs.Prelude.{if◌then◌else◌, List, [], ◌∷◌, ◌++◌}
use Rattle.ext_json.specs.declared.calendar.Moment.{Moment}

abbrev pub is_leap : ℕ → Bool
is_leap year = (year % 4 == 0) && (not (year % 100 == 0) || (year % 400 == 0))

abbrev pub year_len : ℕ → ℕ
year_len year = if is_leap year then 366 else 365

-- how many days a month has, from 1 on
abbrev pub month_len : ℕ → ℕ → ℕ
month_len year month =
    if month == 2 then (if is_leap year then 29 else 28)
    else (if (month == 4) || (month == 6) || (month == 9) || (month == 11) then 30 else 31)

-- The year in which so many days from the first day of a year on lead, and how many days of it are
-- before. The first number bounds the years.
unfoldable pub year_from : ℕ → ℕ → ℕ → ℕ × ℕ
year_from zero year days = (year, days)
year_from (suc most) year days =
    if nat_lt days (year_len year) then (year, days)
    else year_from most (year + 1) (days - year_len year)

-- likewise the month in a year
unfoldable pub month_from : ℕ → ℕ → ℕ → ℕ → ℕ × ℕ
month_from zero year month days = (month, days)
month_from (suc most) year month days =
    if nat_lt days (month_len year month) then (month, days)
    else month_from most year (month + 1) (days - month_len year month)

-- the moment so many milliseconds after the beginning of 1970, up to the year 9999
unfoldable pub moment_of : ℕ → Moment
moment_of millis =
    let year = year_from 8029 1970 (millis / 86400000) in
    let month = month_from 11 year.0 1 year.1 in
    record {
      year = year.0;
      month = month.0;
      day = month.1 + 1;
      hour = millis % 86400000 / 3600000;
      minute = millis / 60000 % 60;
      second = millis / 1000 % 60;
      milli = millis % 1000;
    }

-- ---- texts

abbrev pub digit : ℕ → ℕ
digit n = 48 + n % 10

abbrev pub two_digits : ℕ → List ℕ
two_digits n = digit (n / 10) ∷ digit n ∷ []

abbrev pub three_digits : ℕ → List ℕ
three_digits n = digit (n / 100) ∷ two_digits n

abbrev pub four_digits : ℕ → List ℕ
four_digits n = digit (n / 1000) ∷ three_digits n

-- the parts of a moment
abbrev pub date_text : Moment → List ℕ
date_text m = four_digits m.year ++ (45 ∷ (two_digits m.month ++ (45 ∷ two_digits m.day)))

abbrev pub clock_text : Moment → List ℕ
clock_text m = two_digits m.hour ++ (58 ∷ (two_digits m.minute ++ (58 ∷ two_digits m.second)))

-- the milliseconds, left out where there are none
abbrev pub fraction_text : ℕ → List ℕ
fraction_text millis = if millis == 0 then [] else 46 ∷ three_digits millis

unfoldable pub moment_text : Moment → List ℕ
moment_text m = date_text m ++ (84 ∷ (clock_text m ++ (fraction_text m.milli ++ (90 ∷ []))))
