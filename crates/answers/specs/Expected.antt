-- Answers written out, field by field, for the claims about what calls return. They use no definition of Answers.antt, so a wrong field
-- in Answers.antt contradicts the claims. Assumes nothing.
use Rattle.std.specs.Prelude.{ℕ}
use Rattle.gregorian.specs.declared.Date.{Date}
use Rattle.gregorian.specs.Calendar.{no_date}
use Rattle.answers.specs.declared.OptionalDate.{OptionalDate}
use Rattle.answers.specs.declared.BoolAnswer.{BoolAnswer}
use Rattle.answers.specs.declared.neighbouring_days.TradingDayAnswer.{TradingDayAnswer}
use Rattle.answers.specs.declared.counts.CountAnswer.{CountAnswer}
use Rattle.answers.specs.declared.slices.SliceAnswer.{SliceAnswer}
use Rattle.answers.specs.declared.optional_dates.OptionalDateAnswer.{OptionalDateAnswer}

-- ---- without an error

abbrev pub found_date : Date → OptionalDate
found_date t = record { found = 1; date = t }

abbrev pub no_date_found : OptionalDate
no_date_found = record { found = 0; date = no_date }

abbrev pub is_yes : BoolAnswer
is_yes = record { error = 0; value = 1; date = no_date }

abbrev pub is_no : BoolAnswer
is_no = record { error = 0; value = 0; date = no_date }

-- a trading day, its distance and its mark
abbrev pub found_day : Date → ℕ → ℕ → TradingDayAnswer
found_day t distance mark = record { error = 0; date = t; distance = distance; outside = mark }

-- a count, of days or of entries
abbrev pub counted : ℕ → CountAnswer
counted n = record { error = 0; count = n; date = no_date }

-- an order over so many days, with its shares per day and its remainder
abbrev pub sliced_over : ℕ → ℕ → ℕ → SliceAnswer
sliced_over count per_day remainder = record { error = 0; count = count; per_day = per_day; remainder = remainder; date = no_date }

-- a search that found a day, and one that found none
abbrev pub some_date : Date → OptionalDateAnswer
some_date t = record { error = 0; found = 1; date = t }

abbrev pub none_found : OptionalDateAnswer
none_found = record { error = 0; found = 0; date = no_date }

-- ---- with one

-- error 1, with the date that it returns
abbrev pub out_of_range : Date → CountAnswer
out_of_range t = record { error = 1; count = 0; date = t }

-- error 9, with the number of entries needed
abbrev pub too_small : ℕ → CountAnswer
too_small n = record { error = 9; count = n; date = no_date }

-- an error of an order, with the number that error 9 returns and the date that error 1 does
abbrev pub not_sliced : ℕ → ℕ → Date → SliceAnswer
not_sliced error count t = record { error = error; count = count; per_day = 0; remainder = 0; date = t }

-- an error of a search, with the date that error 1 returns
abbrev pub not_searched : ℕ → Date → OptionalDateAnswer
not_searched error t = record { error = error; found = 0; date = t }
