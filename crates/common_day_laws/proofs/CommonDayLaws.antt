-- The call for a day common to several markets: what each answer that its contract allows has to be.
-- Assumes nothing.
use Rattle.std.proofs.Common.{Option, Some, None, Result, Ok, Err}
use Prim.Native.Nat.{ℕ, suc, ◌^◌, ◌≤◌, ◌<◌}
use mathlib.Core.Path.{◌≡◌, refl, sym, ap, ap₂, ◌∙◌, subst}
use mathlib.Core.Bool.{Bool, true, false}
use mathlib.Core.Logic.{◌⊎◌, inl, inr, ⊎_elim}
use native.Mathlib.Omega.{arith}
use Rattle.gregorian.specs.declared.Date.{Date}
use Rattle.gregorian.specs.Calendar.{is_date_of, number, date_of}
use Rattle.gregorian.proofs.Laws.{is-date, number-of-date, date-of-number, date-of-is}
use Rattle.markets.specs.Markets.{is_market, is_trading_day}
use Rattle.markets.specs.Years.{is_supported}
use Rattle.markets.proofs.YearLaws.{years-supported}
use Rattle.ranges.specs.Ranges.{SomeTradingDay, previous_trading_day, count_trading_days}
use Rattle.ranges.proofs.Lists.{test, clash}
use Rattle.ranges.proofs.StepLaws.{last_some}
use Rattle.ranges.proofs.Counts.{none-counted, one-counted}
use Rattle.error.specs.declared.CalendarError.TheVariants.{InvalidMarketSet}
use Rattle.checks.specs.Checks.{checked_range}
use Rattle.error.specs.Errors.{result_and_then}
use Rattle.checks.proofs.CheckLaws.{CheckedRange, range-checked, supported-passes}
use Rattle.range_calls.proofs.CountLaws.{count-of-dates}
use Rattle.market_sets.specs.MarketSets.{is_market_set, is_common_trading_day, checked_set_range, found_on}
use Rattle.market_sets.proofs.SetLaws.{sum-of-bits, member-is-market, members-trade, is-common, member-closed, one-market-set, one-market, set-passes, no-set, set-checked}
use Rattle.answers.specs.declared.BoolAnswer.{BoolAnswer}
use Rattle.answers.specs.declared.counts.CountAnswer.{CountAnswer}
use Rattle.answers.specs.declared.optional_dates.OptionalDateAnswer.{OptionalDateAnswer}
use Rattle.answers.specs.Answers.{flag_of, bool_answer, count_answer, optional_date_answer}
use Rattle.answers.specs.CommonDayCall.{CommonDayPast, CommonTradingDay}
use Rattle.answers.specs.Expected.{is_yes, is_no, counted, some_date, none_found, not_searched}
use Rattle.answers.proofs.AnswerLaws.{counted_is, some-date-is, none-found-is, no-set-is, as-counted, is-search-error, no-search-error}
use Rattle.agreement.specs.CallsAgree.{count_call}
use Rattle.agreement.proofs.Dates.{number-from, number-to, year-from, year-to}
use Rattle.common_day_laws.specs.CommonDayLaws.{InRange, is_trading_day_call, AllTrade, OneIsClosed, IsCommonDate, IsNone, last_common_day, AllCommonDayLaws}
use Rattle.error.specs.declared.CalendarError.{CalendarError}

-- ---- the call of one market on a date of the years

module _ (market : ℕ) (t : Date) (known : is_market market ≡ true) (d : is_date_of t ≡ true) (s : is_supported t.year ≡ true) where
  by-rule : is_trading_day_call market t ≡ bool_answer (Ok (is_trading_day market (number t)))
  by-rule = simp (supported-passes market t.year t.month t.day known d s)

  says-yes : is_trading_day market (number t) ≡ true → is_trading_day_call market t ≡ is_yes
  unfolding bool_answer flag_of
  says-yes e = by-rule ∙ ap (λ (b : Bool). bool_answer (Ok b)) e

  says-no : is_trading_day market (number t) ≡ false → is_trading_day_call market t ≡ is_no
  unfolding bool_answer flag_of
  says-no e = by-rule ∙ ap (λ (b : Bool). bool_answer (Ok b)) e

  said-yes : is_trading_day_call market t ≡ is_yes → is_trading_day market (number t) ≡ true
  unfolding bool_answer flag_of
  said-yes e = by (is_trading_day market (number t)) (ap (λ (a : BoolAnswer). a.value) (sym by-rule ∙ e))
    where
      by : (b : Bool) → (bool_answer (Ok b)).value ≡ 1 → b ≡ true
      by true q = refl
      by false q = absurd (omega (arith, q))

-- ---- past the checks

-- Without an error there were a set and two day numbers, and the answer is some day of the range or none.
pub record Searched (markets : ℕ) (start end : Date) (r : OptionalDateAnswer) : Type 0 where
  pub a : ℕ
  pub b : ℕ
  pub set : is_market_set markets ≡ true
  pub range : CheckedRange start end a b
  pub is-range : checked_set_range markets start end ≡ Ok (a, b)
  pub day : Option ℕ
  pub some : SomeTradingDay (is_common_trading_day markets) a b day
  pub answer : r ≡ optional_date_answer (found_on day)

module _ (markets : ℕ) (start end : Date) (r : OptionalDateAnswer) (s : Searched markets start end r) where
  -- a date of the range as a day, and a day of it as a date
  as-day : (t : Date) → InRange start end t → (s.a ≤ number t) × (number t ≤ s.b)
  as-day t i = (omega (arith, i.from, s.range.numbers), omega (arith, i.to, s.range.numbers))

  day-in-range : (n : ℕ) → s.a ≤ n → n ≤ s.b → InRange start end (date_of n)
  day-in-range n l h =
      let low = s.range.same.0 in
      let same = number-of-date n (omega (arith, low)) in
      record {
        is-date = date-of-is n (omega (arith, low)) (omega (arith, s.range.in-years));
        from = omega (arith, same, s.range.numbers);
        to = omega (arith, same, s.range.numbers);
      }

  -- the year of a date of the range is supported
  supported : (t : Date) → InRange start end t → is_supported t.year ≡ true
  supported t i =
      let c = s.range in
      let d = i.is-date in
      years-supported t.year (year-from t d (omega (arith, i.from, number-from start c.start-date c.start-year)))
      (year-to t d (omega (arith, i.to, number-to end c.end-date c.end-year)))

  all-trade : (t : Date) → InRange start end t → is_common_trading_day markets (number t) ≡ true → AllTrade markets t
  all-trade t i e market h =
      let known = member-is-market markets market s.set h in
      says-yes market t known i.is-date (supported t i) (members-trade markets (number t) e market known h)

  one-is-closed : (t : Date) → InRange start end t → is_common_trading_day markets (number t) ≡ false → OneIsClosed markets t
  one-is-closed t i e =
      let c = member-closed markets (number t) e in
      let known = member-is-market markets c.0 s.set c.1 in
      (c.0, c.1, says-no c.0 t known i.is-date (supported t i) c.2)

  common : (t : Date) → InRange start end t → AllTrade markets t → is_common_trading_day markets (number t) ≡ true
  common t i h = is-common markets (number t) (λ market known m. said-yes market t known i.is-date (supported t i) (h market m))

  -- ---- the answer by its day

  common-date : (n : ℕ) → SomeTradingDay (is_common_trading_day markets) s.a s.b (Some n) → r ≡ some_date (date_of n) → IsCommonDate markets start end r
  common-date n (l, h, e) q =
      let i = day-in-range n l h in
      let same = number-of-date n (omega (arith, s.range.same.0)) in
      (date_of n, q, i, all-trade (date_of n) i (ap (is_common_trading_day markets) same ∙ e))

  is-answered : IsCommonDate markets start end r ⊎ IsNone markets start end r
  is-answered = by s.day s.some s.answer
    where
      by : (day : Option ℕ) → SomeTradingDay (is_common_trading_day markets) s.a s.b day → r ≡ optional_date_answer (found_on day)
          → IsCommonDate markets start end r ⊎ IsNone markets start end r
      by (Some n) d q = inl (common-date n d (q ∙ some-date-is (date_of n)))
      by None d q = inr (q ∙ none-found-is, λ t i. let n = as-day t i in one-is-closed t i (d (number t) n.0 n.1))

  -- no day is common
  abbrev NoDay : Type 0
  NoDay = (n : ℕ) → s.a ≤ n → n ≤ s.b → is_common_trading_day markets n ≡ false

  is_none : NoDay → r ≡ none_found
  is_none h = by s.day s.some s.answer
    where
      by : (day : Option ℕ) → SomeTradingDay (is_common_trading_day markets) s.a s.b day → r ≡ optional_date_answer (found_on day) → r ≡ none_found
      by (Some n) (l, u, e) q = absurd (clash (is_common_trading_day markets n) e (h n l u))
      by None d q = q ∙ none-found-is

  is_found : (NoDay → ⊥) → r.found ≡ 1
  is_found h = by s.day s.some s.answer
    where
      by : (day : Option ℕ) → SomeTradingDay (is_common_trading_day markets) s.a s.b day → r ≡ optional_date_answer (found_on day) → r.found ≡ 1
      by (Some n) d q = ap (λ (x : OptionalDateAnswer). x.found) (q ∙ some-date-is (date_of n))
      by None d q = absurd (h d)

  reversed : number end < number start → r ≡ none_found
  reversed h = is_none (λ n l u. absurd (omega (arith, l, u, s.range.numbers, h)))

  any-date : (t : Date) → InRange start end t → AllTrade markets t → CommonTradingDay markets start end (some_date t)
  any-date t i h =
      let d = as-day t i in
      let same = date-of-number t (is-date t.year t.month t.day i.is-date).exists in
      subst (λ (c : Result (ℕ × ℕ) CalendarError). CommonDayPast markets c (some_date t)) (sym s.is-range)
      (Some (number t), (d.0, d.1, common t i h), sym (some-date-is t) ∙ ap (λ (u : Date). optional_date_answer (Ok (Some u))) (sym same))

  -- ---- of one market

  module _ (market k : ℕ) (known : is_market market ≡ true) (e : markets ≡ 2 ^ market) (q : count_call market start end ≡ counted k) where
    same-days : (n : ℕ) → is_common_trading_day markets n ≡ is_trading_day market n
    same-days n = ap (λ (m : ℕ). is_common_trading_day m n) e ∙ one-market market n known

    days-counted : count_trading_days (is_trading_day market) s.a s.b ≡ k
    days-counted =
        let c = s.range in
        ap₂ (count_trading_days (is_trading_day market)) c.numbers.0 c.numbers.1
        ∙ ap (λ (x : CountAnswer). x.count)
        (sym
        (ap count_answer (count-of-dates market start.year start.month start.day end.year end.month end.day known c.start-date c.end-date c.start-year c.end-year)
        ∙ counted_is _)
        ∙ q)

    no-day : k ≡ 0 → NoDay
    no-day z n l u =
        same-days n
        ∙ ⊎_elim (λ (t : is_trading_day market n ≡ true). absurd (omega (arith, z, days-counted, one-counted (is_trading_day market) s.a s.b n l u t)))
        (λ (t : is_trading_day market n ≡ false). t)
        (test (is_trading_day market n))

    some-day : 1 ≤ k → NoDay → ⊥
    some-day o none = omega (arith, o, days-counted, none-counted (is_trading_day market) s.a s.b (λ n l u. sym (same-days n) ∙ none n l u))

-- ---- the call, by what its checks came to

module _ (markets : ℕ) (start end : Date) (r : OptionalDateAnswer) (w : CommonTradingDay markets start end r) where
  searched : r.error ≡ 0 → Searched markets start end r
  searched z = by (checked_set_range markets start end) refl w
    where
      by : (c : Result (ℕ × ℕ) CalendarError) → checked_set_range markets start end ≡ c → CommonDayPast markets c r → Searched markets start end r
      by (Ok (a, b)) q (day, some, p) =
          let s = set-checked markets start end a b q in
          record { a = a; b = b; set = s.0; range = range-checked start end a b s.1; is-range = q; day = day; some = some; answer = p }
      by (Err e) q p = absurd (is-search-error e (ap (λ (x : OptionalDateAnswer). x.error) (sym p) ∙ z))

  -- what the contract says where the checks came to c
  past : (c : Result (ℕ × ℕ) CalendarError) → checked_set_range markets start end ≡ c → CommonDayPast markets c r
  past c q = subst (λ (d : Result (ℕ × ℕ) CalendarError). CommonDayPast markets d r) q w

  -- the dates as the count call checks them
  module _ (market : ℕ) (set : is_market_set markets ≡ true) (known : is_market market ≡ true) where
    abbrev counts : Result (ℕ × ℕ) CalendarError → CountAnswer
    counts c = count_answer (result_and_then c (λ (a, b). Ok (count_trading_days (is_trading_day market) a b)))

    by-dates : count_call market start end ≡ counts (checked_range start end)
    by-dates = simp known

    date-error : ((count_call market start end).error ≡ 0 → ⊥) → r ≡ not_searched (count_call market start end).error (count_call market start end).date
    date-error n = by (checked_range start end) refl
      where
        by : (c : Result (ℕ × ℕ) CalendarError) → checked_range start end ≡ c → r ≡ not_searched (count_call market start end).error (count_call market start end).date
        by (Ok (a, b)) q = absurd (n (ap (λ (x : CountAnswer). x.error) (by-dates ∙ ap counts q ∙ counted_is _)))
        by (Err e) q =
            past (Err e) (set-passes markets start end set ∙ q)
            ∙ as-counted e
            ∙ ap (λ (x : CountAnswer). not_searched x.error x.date) (sym (by-dates ∙ ap counts q))

    no-error : (count_call market start end).error ≡ 0 → r.error ≡ 0
    no-error z = by (checked_range start end) refl
      where
        by : (c : Result (ℕ × ℕ) CalendarError) → checked_range start end ≡ c → r.error ≡ 0
        by (Ok (a, b)) q =
            let p = past (Ok (a, b)) (set-passes markets start end set ∙ q) in
            ap (λ (x : OptionalDateAnswer). x.error) p.2 ∙ no-search-error p.0
        by (Err e) q =
            absurd (is-search-error e (ap (λ (x : OptionalDateAnswer). x.error) (as-counted e) ∙ ap (λ (x : CountAnswer). x.error) (sym (by-dates ∙ ap counts q)) ∙ z))

  -- of one market
  module _ (market k : ℕ) (known : is_market market ≡ true) (e : markets ≡ 2 ^ market) (q : count_call market start end ≡ counted k) where
    of_one : Searched markets start end r
    of_one = searched (no-error market (ap is_market_set e ∙ one-market-set market known) known (ap (λ (x : CountAnswer). x.error) q))

    one-market-none : k ≡ 0 → r ≡ none_found
    one-market-none z = is_none markets start end r of_one (no-day markets start end r of_one market k known e q z)

    one-market-found : 1 ≤ k → r.found ≡ 1
    one-market-found o = is_found markets start end r of_one (some-day markets start end r of_one market k known e q o)

-- ---- the claim

-- of two answers that are allowed
only-the-date : (markets : ℕ) (start end : Date) (r s : OptionalDateAnswer) → CommonTradingDay markets start end r → CommonTradingDay markets start end s
    → (r ≡ s) ⊎ ((t u : Date) × (r ≡ some_date t) × (s ≡ some_date u))
only-the-date markets start end r s w v = by (checked_set_range markets start end) w v
  where
    of-days : (a b : ℕ) (d e : Option ℕ) → SomeTradingDay (is_common_trading_day markets) a b d → SomeTradingDay (is_common_trading_day markets) a b e → r ≡ optional_date_answer (found_on d) → s ≡ optional_date_answer (found_on e)
        → (r ≡ s) ⊎ ((t u : Date) × (r ≡ some_date t) × (s ≡ some_date u))
    of-days a b (Some n) (Some m) f g p q = inr (date_of n, date_of m, p ∙ some-date-is (date_of n), q ∙ some-date-is (date_of m))
    of-days a b (Some n) None (l, h, t) g p q = absurd (clash (is_common_trading_day markets n) t (g n l h))
    of-days a b None (Some m) f (l, h, t) p q = absurd (clash (is_common_trading_day markets m) t (f m l h))
    of-days a b None None f g p q = inl (p ∙ sym q)

    by : (c : Result (ℕ × ℕ) CalendarError) → CommonDayPast markets c r → CommonDayPast markets c s → (r ≡ s) ⊎ ((t u : Date) × (r ≡ some_date t) × (s ≡ some_date u))
    by (Ok (a, b)) (d, f, p) (e, g, q) = of-days a b d e f g p q
    by (Err e) p q = inl (p ∙ sym q)

last-is-right : (markets : ℕ) (start end : Date) → CommonTradingDay markets start end (last_common_day markets start end)
last-is-right markets start end = by (checked_set_range markets start end) refl
  where
    by : (c : Result (ℕ × ℕ) CalendarError) → checked_set_range markets start end ≡ c
        → CommonDayPast markets c (optional_date_answer (result_and_then c (λ (a, b). found_on (previous_trading_day (is_common_trading_day markets) a (suc b)))))
    by (Ok (a, b)) q =
        let low = (range-checked start end a b (set-checked markets start end a b q).1).same.0 in
        (previous_trading_day (is_common_trading_day markets) a (suc b), last_some (is_common_trading_day markets) a b low, refl)
    by (Err e) q = refl

-- [common-day-laws]
pub common-day-laws : AllCommonDayLaws
common-day-laws = record {
  sum-of-bits = sum-of-bits;
  only-markets = member-is-market;
  one-market = one-market;
  laws = λ markets start end r w. record {
    answered = λ z. is-answered markets start end r (searched markets start end r w z);
    reversed = λ z. reversed markets start end r (searched markets start end r w z);
    any-date = λ z. any-date markets start end r (searched markets start end r w z);
    no-set = λ n. past markets start end r w (Err InvalidMarketSet) (no-set markets start end n) ∙ no-set-is;
    date-error = date-error markets start end r w;
    no-error = no-error markets start end r w;
    one-market-none = λ market known e q. one-market-none markets start end r w market 0 known e q refl;
    one-market-found = λ market k known e q. one-market-found markets start end r w market (suc k) known e q (omega arith);
  };
  only-the-date = only-the-date;
  last-is-right = last-is-right;
}
