-- The Easter of the Anonymous Gregorian algorithm is that of the computus, in years 1 to 9999.
-- Assumes nothing.
use Rattle.std.proofs.Common.{Some}
use Prim.Native.Nat.{ℕ, ◌+◌, ◌-◌, ◌%◌, ◌≤◌}
use mathlib.Core.Path.{◌≡◌, refl, ap, sym, ◌∙◌}
use mathlib.Core.Bool.{Bool, true}
use lib.Dec.{eqb, lit≤}
use native.Mathlib.Omega.{arith}
use borrow.Author.Tests.{eqb-true}
use Rattle.gregorian.specs.Calendar.{leap, leap_day, month_length, total, day_number, last_year, date_of, sunday, weekday_of}
use Rattle.gregorian.proofs.Laws.{number-of-date, date-of-is}
use Rattle.gregorian.proofs.Tests.{every, every-at}
use Rattle.gregorian.proofs.YearDays.{years, years-is}
use Rattle.utils.specs.Weekday.{first_from}
use Rattle.utils.specs.Easter.{moon_days, easter}
use Rattle.utils.proofs.WeekdayLaws.{first-is}
use Rattle.utils.proofs.EasterLaws.{days_after, easter_days, easter-days, easter-range, easter-day, easter-found}
use Rattle.answers.specs.Answers.{optional_date}
use Rattle.computus.specs.Computus.{golden_number, century, solar_correction, lunar_correction, mean_epact, epact, full_moon, computus, EasterByComputus}

march-22 : (y : ℕ) → day_number y 3 22 ≡ years (y - 1) + (81 + leap_day y)
unfolding day_number total month_length
march-22 y = omega (arith, years-is (y - 1))

-- The test of a year, counted from 22 March: the algorithm's day is the Sunday after the full moon of the computus.
agrees : ℕ → Bool
agrees y =
    let p = (53 - epact y) % 30 in
    eqb (easter_days y) (p + (13 - (years (y - 1) + (81 + leap_day y) + p + 6) % 7) % 7)

all-agree : every agrees last_year ≡ true
unfolding every agrees days_after moon_days leap_day leap golden_number century solar_correction lunar_correction mean_epact epact
all-agree = refl

-- With n the number of 22 March and the full moon p days after the 21st, the test says that n + x is the Sunday after it.
sunday-after : (n p x : ℕ) → x ≡ p + (13 - (n + p + 6) % 7) % 7 → n + x ≡ n + p + (6 + 7 - (n + p + 6) % 7) % 7
sunday-after n p x e = omega arith

moon-next : (y : ℕ) → full_moon y + 1 ≡ day_number y 3 22 + (53 - epact y) % 30
unfolding full_moon day_number
moon-next y = omega arith

easter-computus : (y : ℕ) → 1 ≤ y → y ≤ last_year → easter y ≡ computus y
unfolding agrees computus first_from weekday_of
easter-computus y l h =
    let p = (53 - epact y) % 30 in
    let t = eqb-true (easter_days y) _ (every-at agrees last_year all-agree y l h) in
    let e = ap (λ (n : ℕ). p + (13 - (n + p + 6) % 7) % 7) (march-22 y) in
    easter-days y ∙ sunday-after (day_number y 3 22) p (easter_days y) (t ∙ sym e) ∙ ap (λ (s : ℕ). s + (6 + 7 - (s + 6) % 7) % 7) (sym (moon-next y))

pub easter-by-computus : EasterByComputus
unfolding computus optional_date
easter-by-computus y l h =
    let e = easter-computus y l h in
    let r = easter-range y in
    let d = easter-day y (easter y) (easter-found y l h) in
    let n = number-of-date (computus y) (omega (arith, d, e)) in
    record {
      easter = date_of (computus y);
      returned = ap optional_date (easter-found y l h ∙ ap Some e);
      is-date = date-of-is (computus y) (omega (arith, d, e)) (omega (arith, d, e));
      by-computus = n;
      on-sunday = ap weekday_of n ∙ first-is (full_moon y + 1) sunday (lit≤ tt);
      from-22-march = omega (arith, r, e, n);
      to-25-april = omega (arith, r, e, n);
    }
