-- The hours of a market by its code.
-- Assumes nothing.
use Prim.Native.Nat.{ℕ, ◌≤◌, ◌<◌}
use mathlib.Core.Path.{◌≡◌, refl, ap, ap₂, sym, ◌∙◌}
use mathlib.Core.Bool.{Bool, true, false, cond, ◌&&◌, ◌||◌}
use lib.Dec.{ltb, leb, lit≤}
use lib.ListN.{length, get_or-eq_default}
use native.Mathlib.Decide.{dec_lt}
use native.Mathlib.Omega.{arith}
use borrow.Author.Tests.{lt-ltb, le-ltb, le-leb, lt-leb}
use Rattle.gregorian.specs.declared.Date.{Date}
use Rattle.gregorian.proofs.Tests.{and-true, and-false}
use Rattle.gregorian.proofs.Total.{upto}
use Rattle.rule_days.proofs.DayLaws.{or-false}
use Rattle.markets.specs.Markets.{holidays_by_code}
use Rattle.schedule.specs.declared.TradingHours.{TradingHours}
use Rattle.schedule.specs.Schedule.{contains, is_open_at}
use Rattle.schedule.specs.MarketHours.{is_early_close_day, us_regular_hours, us_early_hours, us_trading_hours, regular_hours, hours_by_code, HoursForEachMarket, trading_hours}

module _ (date : Date) where
  pub early-hours : is_early_close_day date ≡ true → us_early_hours date ≡ us_trading_hours date
  unfolding us_trading_hours
  early-hours e = simp e

  pub other-hours : is_early_close_day date ≡ false → us_regular_hours date ≡ us_trading_hours date
  unfolding us_trading_hours
  other-hours e = simp e

-- NYSE and NASDAQ
pub us-hours : (m : ℕ) → m < 2 → trading_hours m ≡ us_trading_hours
unfolding trading_hours
us-hours m h = upto (λ m. trading_hours m ≡ us_trading_hours) 2 ((tt, refl), refl) m h

pub hours-for-each-market : HoursForEachMarket
hours-for-each-market = refl

-- a code that is no market's
pub no-hours : (m : ℕ) → length holidays_by_code ≤ m → trading_hours m ≡ regular_hours 0 0
unfolding trading_hours
no-hours m h = get_or-eq_default hours_by_code (regular_hours 0 0) {n = m} (omega (arith, hours-for-each-market))

-- the hours of the code k, which is that of the market
pub by_code : (m k : ℕ) (date : Date) (hours : TradingHours) → hours ≡ trading_hours k date → m ≡ k → hours ≡ trading_hours m date
by_code m k date hours e h = e ∙ ap (λ (i : ℕ). trading_hours i date) (sym h)

-- ---- when the hours of a market are open

-- Two sessions of which one ends where the next starts are open as one is.
meet : (a b c t : ℕ) → a ≤ b → b ≤ c → (leb a t && ltb t b || leb b t && ltb t c) ≡ (leb a t && ltb t c)
meet a b c t h k = elim (dec_lt t b) [
  | yes l ↦ simp (lt-ltb t b l, lt-leb b t l, lt-ltb t c (omega arith)) (or-false (leb a t && true))
  | no n ↦ simp (le-ltb t b (omega arith), le-leb b t (omega arith), le-leb a t (omega arith))
]

-- Regular hours alone.
pub regular-open : (start end : ℕ) (date : Date) (t : ℕ) → (leb start t && ltb t end) ≡ is_open_at (regular_hours start end date) t
unfolding is_open_at
regular-open start end date t = sym (or-false (leb start t && ltb t end))

-- The hours 0 to 0 are never open.
pub never-open : (date : Date) (t : ℕ) → false ≡ is_open_at (regular_hours 0 0 date) t
never-open date t = sym (ap (λ (b : Bool). leb 0 t && b) (le-ltb t 0 (omega arith)) ∙ and-false (leb 0 t)) ∙ regular-open 0 0 date t

-- NYSE and NASDAQ: from the pre-market to the after-hours, with an early close and without.
us-sessions : (close t : ℕ) (after : Bool) → 34200 ≤ close → close ≤ 72000 → after ≡ (leb close t && ltb t 72000)
    → (leb 14400 t && ltb t 34200 || leb 34200 t && ltb t close || after) ≡ (leb 14400 t && ltb t 72000)
us-sessions close t after l u e =
    ap₂ ◌||◌ (meet 14400 34200 close t (lit≤ tt) l) e ∙ meet 14400 close 72000 t (omega arith) u

pub us-open : (date : Date) (t : ℕ) → (leb 14400 t && ltb t 72000) ≡ is_open_at (us_trading_hours date) t
unfolding us_trading_hours is_open_at contains
us-open date t = by (is_early_close_day date)
  where
    and_again : (a b : Bool) → (a && b && a) ≡ (a && b)
    and_again true b = and-true b
    and_again false b = refl

    by : (early : Bool) → (leb 14400 t && ltb t 72000) ≡ is_open_at (cond early (us_early_hours date) (us_regular_hours date)) t
    by true = sym (us-sessions 46800 t _ (lit≤ tt) (lit≤ tt) (and_again (leb 46800 t) (ltb t 72000)))
    by false = sym (us-sessions 57600 t _ (lit≤ tt) (lit≤ tt) (and-true (leb 57600 t && ltb t 72000)))

-- whether the hours of the code k, which is that of the market, are open
pub open-by-code : (m k : ℕ) (date : Date) (t : ℕ) (r : Bool) → r ≡ is_open_at (trading_hours k date) t → m ≡ k → r ≡ is_open_at (trading_hours m date) t
open-by-code m k date t r e h = e ∙ ap (λ (i : ℕ). is_open_at (trading_hours i date) t) (sym h)
