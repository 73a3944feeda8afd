-- One claim about the next, previous, month and count calls together: docs/SCOPE.md [agreement]. Dates are year, month and day, and
-- the answers are the structs that the exported calls return, by the definitions that their contracts cite. Assumes nothing.
use Rattle.std.specs.Prelude.{ℕ, zero, suc, ◌+◌, ◌-◌, ◌*◌, ◌≤◌, ◌<◌, ◌≡◌, Bool, true, cond, ◌&&◌, ◌⊎◌, List, [], ◌∷◌, map, reverse, leb, length, take}
use Rattle.gregorian.specs.declared.Date.{Date}
use Rattle.gregorian.specs.Calendar.{is_date_of, date, number, day_after, date_of, day_before}
use Rattle.utils.specs.Weekday.{next_month, next_year}
use Rattle.markets.specs.Markets.{is_market, is_trading_day}
use Rattle.markets.specs.Years.{is_supported}
use Rattle.ranges.specs.Ranges.{days_between, filter, Every, trading_days, sum_of, joined}
use Rattle.ranges.specs.Traversals.{NonTradingBetween, Traversal}
use Rattle.range_calls.specs.RangeCalls.{next_trading_day_result, previous_trading_day_result, trading_days_in_month_result, trading_days_in_month_buffer, count_trading_days_result}
use Rattle.answers.specs.declared.neighbouring_days.TradingDayAnswer.{TradingDayAnswer}
use Rattle.answers.specs.declared.counts.CountAnswer.{CountAnswer}
use Rattle.answers.specs.Answers.{trading_day_answer, count_answer}
use Rattle.answers.specs.Expected.{found_day, counted, too_small}

-- ---- the range

-- [agreement-range]: a range ("stretch") goes from a first to a last date, two dates of the supported years in order
pub record IsRange (first last : Date) : Type 0 where
  pub first-date : is_date_of first ≡ true
  pub first-year : is_supported first.year ≡ true
  pub last-date : is_date_of last ≡ true
  pub last-year : is_supported last.year ≡ true
  pub ordered : number first ≤ number last

-- its list: those of all its days that trade
abbrev pub trading_dates : ℕ → Date → Date → List Date
trading_dates market first last = map date_of (trading_days (is_trading_day market) (number first) (number last))

-- each date is before all that follow it, so that none occurs twice
abbrev pub Ascending : List Date → Type 0
Ascending [] = Unit {0}
Ascending (t ∷ l) = Every (λ u. number t < number u) l × Ascending l

-- ---- traversals

abbrev pub next_call : ℕ → Date → TradingDayAnswer
next_call market t = trading_day_answer (next_trading_day_result market t.year t.month t.day)

abbrev pub previous_call : ℕ → Date → TradingDayAnswer
previous_call market t = trading_day_answer (previous_trading_day_result market t.year t.month t.day)

-- [outside]: the mark of a call, set if the date given or the answer is outside the supported years
abbrev pub mark_of : Date → Date → ℕ
mark_of s t = cond (is_supported s.year && is_supported t.year) 0 1

-- [agreement-call], [agreement-no-error]: a call ("step") gives no error and answers a date that trades. `earlier` and `later` are the
-- date given and the answer, the earlier one first. At most `most` days are strictly between them, and none of these trades; the
-- distance is one more than their number, and it is the number of days from the one to the other.
pub record NeighbourAnswer (market most : ℕ) (returned : TradingDayAnswer) (answer earlier later : Date) : Type 0 where
  pub distance : ℕ
  pub no-error : returned ≡ found_day answer distance (mark_of earlier later)
  pub is-date : is_date_of answer ≡ true
  pub trading : is_trading_day market (number answer) ≡ true
  pub between : NonTradingBetween (is_trading_day market) most (number earlier) (number later)
  pub one_more : distance ≡ suc (length (days_between (number earlier) (number later)))
  pub difference : number earlier + distance ≡ number later

-- [agreement-call]: at most ten
abbrev pub most_between : ℕ
most_between = 10

-- the next and the previous call on the date given
abbrev pub Next : ℕ → Date → Date → Type 0
Next market given answer = NeighbourAnswer market most_between (next_call market given) answer given answer

abbrev pub Previous : ℕ → Date → Date → Type 0
Previous market given answer = NeighbourAnswer market most_between (previous_call market given) answer answer given

-- What a host sees of such a call on the date given: no error, and this answer.
abbrev pub Returns : (Date → TradingDayAnswer) → Date → Date → Type 0
Returns call given answer = ((call given).error ≡ 0) × ((call given).date ≡ answer)

-- No other list: what comes of calling on each answer in turn, by error and date alone, is this list. That there is such a list is for
-- another part to say.
abbrev pub OnlyList : (Date → TradingDayAnswer) → (Date → Bool) → Date → List Date → Type 0
OnlyList call inside start list = (l : List Date) → Traversal (Returns call) inside start l → l ≡ list

-- ---- months

pub record Month : Type 0 where
  pub year : ℕ
  pub month : ℕ

-- the number of a month, one more than that of the month before
abbrev pub month_number : ℕ → ℕ → ℕ
month_number y m = 12 * y + m

-- k months from a month on
abbrev pub months_from : ℕ → ℕ → ℕ → List Month
months_from y m zero = []
months_from y m (suc k) = record { year = y; month = m } ∷ months_from (next_year y m) (next_month m) k

-- [agreement-months]: the months from that of the first date to that of the last
abbrev pub months_of : Date → Date → List Month
months_of first last =
    months_from first.year first.month (suc (month_number last.year last.month) - month_number first.year first.month)

abbrev pub month_call : ℕ → Month → List ℕ → CountAnswer
month_call market m buffer = count_answer (trading_days_in_month_result market m.year m.month buffer)

-- The call on the buffer gives no error; the first bytes of the buffer after it, as many as it returned, are these.
abbrev pub Writes : ℕ → Month → List ℕ → List ℕ → Type 0
Writes market m buffer bytes =
    (month_call market m buffer ≡ counted (length bytes))
    × (take (length bytes) (trading_days_in_month_buffer market m.year m.month buffer) ≡ bytes)

-- The call on the month's own buffer writes these bytes; or it gives error 9 with their number, and writes them on every buffer that
-- has so many or more.
abbrev pub Reads : ℕ → Month → List ℕ → List ℕ → Type 0
Reads market m buffer bytes =
    Writes market m buffer bytes
    ⊎ ((month_call market m buffer ≡ too_small (length bytes)) × ((room : List ℕ) → length bytes ≤ length room → Writes market m room bytes))

-- the bytes as days of their month
abbrev pub dates_of : (Month → List ℕ) → Month → List Date
dates_of bytes m = map (date m.year m.month) (bytes m)

-- those of the dates that lie in the range
abbrev pub limit_to_range : Date → Date → List Date → List Date
limit_to_range first last = filter (λ t. leb (number first) (number t) && leb (number t) (number last))

-- The month calls, with these buffers, read some bytes, which are days of their months; as dates, joined in order and limited to the
-- range, they are its list.
abbrev pub MonthLists : ℕ → Date → Date → (Month → List ℕ) → Type 0
MonthLists market first last buffer =
    (bytes : Month → List ℕ) × Every (λ m. Reads market m (buffer m) (bytes m)) (months_of first last)
    × Every (λ t. is_date_of t ≡ true) (joined (dates_of bytes) (months_of first last))
    × (limit_to_range first last (joined (dates_of bytes) (months_of first last)) ≡ trading_dates market first last)

-- ---- counts

abbrev pub count_call : ℕ → Date → Date → CountAnswer
count_call market start end =
    count_answer (count_trading_days_result market start.year start.month start.day end.year end.month end.day)

pub record Part : Type 0 where
  pub start : Date
  pub end : Date

-- [agreement-parts]: each split date ("cut date") starts a part ("piece"), and the part before it ends on the day before
abbrev pub parts_of : Date → List Date → Date → List Part
parts_of first [] last = record { start = first; end = last } ∷ []
parts_of first (split ∷ splits) last = record { start = first; end = day_before split } ∷ parts_of split splits last

-- [reading-split-dates]: the split dates are dates in order, from the first date on to the last or the day after it. Two may be equal.
-- In the recursion, `first` is the split date before.
abbrev pub SplitDates : Date → List Date → Date → Type 0
SplitDates first [] last = number first ≤ suc (number last)
SplitDates first (split ∷ splits) last = (is_date_of split ≡ true) × (number first ≤ number split) × SplitDates split splits last

-- [agreement-no-error]: the count calls on the parts answer these numbers, in order and without an error; they add up to the length of
-- the list
abbrev pub PartCounts : ℕ → Date → List Date → Date → Type 0
PartCounts market first splits last =
    (counts : List ℕ) × (map (λ p. count_call market p.start p.end) (parts_of first splits last) ≡ map counted counts)
    × (sum_of (λ n. n) counts ≡ length (trading_dates market first last))

-- ---- the claim

pub record CallsAgree (market : ℕ) (first last : Date) : Type 0 where
  -- [agreement-range]
  pub ascending : Ascending (trading_dates market first last)
  -- [agreement-forward]: next on the day before the range, then on each answer, until one is past the range; and there is no other list
  pub forward : Traversal (Next market) (λ t. leb (number t) (number last)) (day_before first) (trading_dates market first last)
  pub forward-only : OnlyList (next_call market) (λ t. leb (number t) (number last)) (day_before first) (trading_dates market first last)
  -- [agreement-backward]: previous on the day after the range, then on each answer, until one is before the range; and no other list
  pub backward : Traversal (Previous market) (λ t. leb (number first) (number t)) (day_after last) (reverse (trading_dates market first last))
  pub backward-only : OnlyList (previous_call market) (λ t. leb (number first) (number t)) (day_after last) (reverse (trading_dates market first last))
  -- [agreement-months]: whatever the months' buffers are
  pub months : (buffer : Month → List ℕ) → MonthLists market first last buffer
  -- [agreement-count]
  pub count : count_call market first last ≡ counted (length (trading_dates market first last))
  -- [agreement-parts]: also where there is no split date; and an empty part counts 0, on the range's first day and after its last too
  pub parts : (splits : List Date) → SplitDates first splits last → PartCounts market first splits last
  pub empty-part : (split : Date) → is_date_of split ≡ true → number first ≤ number split → number split ≤ suc (number last)
      → count_call market split (day_before split) ≡ counted 0

-- [agreement], for every market and every range
abbrev pub AllCallsAgree : Type 0
AllCallsAgree = (market : ℕ) (first last : Date) → is_market market ≡ true → IsRange first last → CallsAgree market first last
