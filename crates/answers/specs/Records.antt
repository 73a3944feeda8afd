-- The hours record of the header and the one inside, each from the other: docs/SCOPE.md [host-answers]. Assumes nothing.
use Rattle.std.specs.Prelude.{unwrap_or, ℕ, cond, eqb, Option, Some, None}
use Rattle.gregorian.specs.Calendar.{no_date}
use Rattle.schedule.specs.declared.TradingHours.{TradingHours}
use Rattle.schedule.specs.Schedule.{no_session}
use Rattle.answers.specs.declared.records.Hours.{Hours}

-- A part is absent if its has_ field is 0, whatever its numbers are.
unfoldable pub optional : {T : Type 0} → ℕ → T → Option T
optional has part = cond (eqb has 0) None (Some part)

-- what the host hands in
abbrev pub trading_hours_of : Hours → TradingHours
trading_hours_of hours =
    record {
      date = hours.date;
      pre_market = optional hours.has_pre_market hours.pre_market;
      regular = hours.regular;
      after_hours = optional hours.has_after_hours hours.after_hours;
      early_close = optional hours.has_early_close hours.early_close;
    }

-- In an answer a has_ field is 1 or 0, and the numbers of an absent part are 0.
abbrev pub has_part : {T : Type 0} → Option T → ℕ
has_part (Some part) = 1
has_part None = 0

-- what comes back to the host
abbrev pub hours_of : TradingHours → Hours
hours_of hours =
    record {
      date = hours.date;
      has_pre_market = has_part hours.pre_market;
      pre_market = unwrap_or hours.pre_market no_session;
      regular = hours.regular;
      has_after_hours = has_part hours.after_hours;
      after_hours = unwrap_or hours.after_hours no_session;
      has_early_close = has_part hours.early_close;
      early_close = unwrap_or hours.early_close 0;
    }

-- no hours, where an answer has none
abbrev pub no_hours : Hours
no_hours =
    record {
      date = no_date;
      has_pre_market = 0;
      pre_market = no_session;
      regular = no_session;
      has_after_hours = 0;
      after_hours = no_session;
      has_early_close = 0;
      early_close = 0;
    }
