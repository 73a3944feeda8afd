-- Easter by the Gregorian computus, from the golden number and the epact to the full moon and the Sunday after it, and not by the
-- letters of src/utils/easter.rs, and the claim that the two agree: docs/SCOPE.md [authority]. Assumes nothing.
use Rattle.std.specs.Prelude.{ℕ, ◌+◌, ◌-◌, ◌*◌, ◌/◌, ◌%◌, ◌≤◌, ◌≡◌, true, cond, ◌&&◌, eqb, ltb}
use Rattle.gregorian.specs.declared.Date.{Date}
use Rattle.gregorian.specs.Calendar.{day_number, last_year, is_date_of, number, sunday, weekday_of}
use Rattle.utils.specs.Weekday.{first_from}
use Rattle.utils.specs.Easter.{calculate_easter}
use Rattle.answers.specs.Answers.{optional_date}
use Rattle.answers.specs.Expected.{found_date}

-- the year's place in the 19-year cycle of the moon, 1 to 19
unfoldable pub golden_number : ℕ → ℕ
golden_number y = y % 19 + 1

-- 1 for the years 0 to 99
unfoldable pub century : ℕ → ℕ
century y = y / 100 + 1

-- the leap days that the Gregorian calendar leaves out up to the century
unfoldable pub solar_correction : ℕ → ℕ
solar_correction y = 3 * century y / 4

-- the days by which the moon runs ahead of its 19-year cycle, 8 in 25 centuries
unfoldable pub lunar_correction : ℕ → ℕ
lunar_correction y = (8 * century y + 5) / 25

-- The age of the moon at the start of the year, 0 to 29; it grows by 11 days a year. 8 sets the start of the count, and 90, three
-- times 30, keeps the difference from falling below 0 up to century 100.
unfoldable pub mean_epact : ℕ → ℕ
mean_epact y = (11 * (golden_number y - 1) + 8 + 90 + lunar_correction y - solar_correction y) % 30

-- The exceptions: 24 counts as 25, and 25 as 26 where the golden number is above 11.
unfoldable pub epact : ℕ → ℕ
epact y =
    let e = mean_epact y in
    cond (eqb e 24) 25 (cond (eqb e 25 && ltb 11 (golden_number y)) 26 e)

-- The full moon on or after 21 March: on 21 March where the epact is 23, and a day earlier for each day more; and where that is before
-- 21 March, 30 days later.
unfoldable pub full_moon : ℕ → ℕ
full_moon y = day_number y 3 21 + (53 - epact y) % 30

-- Easter is the first Sunday after that full moon.
unfoldable pub computus : ℕ → ℕ
computus y = first_from (full_moon y + 1) sunday

-- The Easter call of year y returns a date, that of the computus: a Sunday from 22 March to 25 April.
pub record EasterOfYear (y : ℕ) : Type 0 where
  pub easter : Date
  pub returned : optional_date (calculate_easter y) ≡ found_date easter
  pub is-date : is_date_of easter ≡ true
  pub by-computus : number easter ≡ computus y
  pub on-sunday : weekday_of (number easter) ≡ sunday
  pub from-22-march : day_number y 3 22 ≤ number easter
  pub to-25-april : number easter ≤ day_number y 4 25

-- [authority], the claim: so it is in every year 1 to 9999.
abbrev pub EasterByComputus : Type 0
EasterByComputus = (y : ℕ) → 1 ≤ y → y ≤ last_year → EasterOfYear y
