-- The two traversals of a range by the calls: those of the day numbers, as dates.
-- Assumes nothing.
use Rattle.std.proofs.Common.{Option, Some}
use Prim.Native.Nat.{ℕ, suc, ◌-◌, ◌≤◌}
use mathlib.Core.Path.{◌≡◌, refl, sym, ap, ap₂, ◌∙◌, subst, subst₂}
use mathlib.Core.Bool.{Bool, true, false, cond, not, ◌&&◌, ◌||◌}
use mathlib.Core.List.{List, map}
use lib.ListN.{length}
use native.Mathlib.Omega.{arith}
use Rattle.gregorian.specs.declared.Date.{Date}
use Rattle.gregorian.specs.Calendar.{number, date_of}
use Rattle.gregorian.proofs.Laws.{number-of-date, date-of-is}
use Rattle.utils.specs.Inner.{InYears}
use Rattle.markets.specs.Markets.{is_market, is_trading_day}
use Rattle.markets.specs.Years.{is_supported, first_day_of, last_day_of}
use Rattle.markets.proofs.YearLaws.{searched-days}
use Rattle.ranges.specs.Ranges.{days_between, next_trading_day, previous_trading_day}
use Rattle.ranges.specs.Steps.{NextStep, PreviousStep}
use Rattle.ranges.specs.Traversals.{NonTradingBetween, TraversalTo, EndsOutside, Traversal}
use Rattle.ranges.proofs.Lists.{between-length}
use Rattle.ranges.proofs.StepLaws.{next-in-years, previous-in-years}
use Rattle.ranges.proofs.Traversals.{traversal-map, outside-map, traversal-weaker, traversal-unique, outside-ends}
use Rattle.range_calls.specs.RangeCalls.{distance_of, trading_day, trading_day_result, neighbour_result}
use Rattle.range_calls.proofs.RangeLaws.{to-later, to-earlier, neighbour-of-date}
use Rattle.answers.specs.declared.neighbouring_days.TradingDayAnswer.{TradingDayAnswer}
use Rattle.answers.specs.Answers.{flag_of, trading_day_answer}
use Rattle.answers.specs.Expected.{found_day}
use Rattle.agreement.specs.CallsAgree.{mark_of, next_call, previous_call, NeighbourAnswer, Returns, OnlyList}

-- a day of years 1 to 9999
abbrev pub IsDay : ℕ → Type 0
IsDay n = InYears (Some n)

-- A traversal of day numbers is one of their dates, and likewise how it ends.
module _ (C : ℕ → ℕ → Type 0) (D : Date → Date → Type 0) (inside : ℕ → Bool) (h : (n m : ℕ) → IsDay n → C n m → IsDay m × D (date_of n) (date_of m)) where
  dated : (n m : ℕ) → IsDay n → C n m → D (date_of n) (date_of m) × (inside (number (date_of m)) ≡ inside m) × (inside m ≡ true → IsDay m)
  dated n m k c = let g = h n m k c in (g.1, ap inside (number-of-date m g.0.0), λ e. g.0)

  pub as-dates : (E : ℕ → Type 0) (F : Date → Type 0) → ((n : ℕ) → IsDay n → E n → F (date_of n))
      → (n : ℕ) (l : List ℕ) → IsDay n → TraversalTo C inside E n l → TraversalTo D (λ t. inside (number t)) F (date_of n) (map date_of l)
  as-dates = traversal-map date_of C D inside (λ t. inside (number t)) IsDay dated

  pub outside-as-dates : (n : ℕ) → IsDay n → EndsOutside C inside n → EndsOutside D (λ t. inside (number t)) (date_of n)
  outside-as-dates = outside-map date_of C D inside (λ t. inside (number t)) IsDay dated

-- the mark of a call on the date s that answers t
abbrev mark : Date → Date → ℕ
mark s t = flag_of (not (is_supported s.year) || not (is_supported t.year))

-- It is the same in either order.
mark-is : (s t : Date) → (mark s t ≡ mark_of s t) × (mark s t ≡ mark_of t s)
unfolding flag_of
mark-is s t = by (is_supported s.year) (is_supported t.year)
  where
    by : (p q : Bool) → (flag_of (not p || not q) ≡ cond (p && q) 0 1) × (flag_of (not p || not q) ≡ cond (q && p) 0 1)
    by true true = (refl, refl)
    by true false = (refl, refl)
    by false true = (refl, refl)
    by false false = (refl, refl)

module _ (market : ℕ) (known : is_market market ≡ true) (most : ℕ) where
  -- Where the neighbour of day n is day m, the call on the date of n answers the date of m.
  answered : (neighbour : ℕ → Option ℕ) (n m earlier later : ℕ) → IsDay n → IsDay m → 1 ≤ earlier → neighbour n ≡ Some m → is_trading_day market m ≡ true
      → distance_of n m ≡ later - earlier → mark (date_of n) (date_of m) ≡ mark_of (date_of earlier) (date_of later) → NonTradingBetween (is_trading_day market) most earlier later
      → NeighbourAnswer market most (trading_day_answer (neighbour_result neighbour market (date_of n).year (date_of n).month (date_of n).day)) (date_of m) (date_of earlier) (date_of later)
  unfolding trading_day_result trading_day trading_day_answer
  answered neighbour n m earlier later k i o q t d s b =
      let up = b.ordered in
      let e = number-of-date earlier o in
      let f = number-of-date later (omega arith) in
      let day = trading_day (date_of n).year n m in
      record {
        distance = day.distance;
        no-error =
            ap trading_day_answer
            (neighbour-of-date neighbour market (date_of n).year (date_of n).month (date_of n).day known (date-of-is n k.0 k.1)
            ∙ ap (λ (i : ℕ). trading_day_result (date_of n).year i (neighbour i)) (number-of-date n k.0)
            ∙ ap (trading_day_result (date_of n).year n) q)
            ∙ ap (found_day (date_of m) day.distance) s;
        is-date = date-of-is m i.0 i.1;
        trading = ap (is_trading_day market) (number-of-date m i.0) ∙ t;
        between = subst₂ (NonTradingBetween (is_trading_day market) most) (sym e) (sym f) b;
        one_more = d ∙ sym (between-length earlier later up) ∙ sym (ap₂ (λ (x y : ℕ). suc (length (days_between x y))) e f);
        difference = omega (arith, d, e, f);
      }

  pub next-answer : (n m : ℕ) → IsDay n → NextStep (is_trading_day market) most (last_day_of market) n m
      → IsDay m × NeighbourAnswer market most (next_call market (date_of n)) (date_of m) (date_of n) (date_of m)
  next-answer n m k c =
      let i = subst InYears c.0 (next-in-years (is_trading_day market) (last_day_of market) n (searched-days market).1) in
      (i, answered (next_trading_day (is_trading_day market) (last_day_of market)) n m n m k i k.0 c.0 c.1 (sym (to-later n m (m - n) c.2.ordered refl)) (mark-is (date_of n) (date_of m)).0 c.2)

  pub previous-answer : (n m : ℕ) → IsDay n → PreviousStep (is_trading_day market) most (first_day_of market) n m
      → IsDay m × NeighbourAnswer market most (previous_call market (date_of n)) (date_of m) (date_of m) (date_of n)
  previous-answer n m k c =
      let i = subst InYears c.0 (previous-in-years (is_trading_day market) (first_day_of market) n (searched-days market).0 k.1) in
      let down = c.2.ordered in
      (i, answered (previous_trading_day (is_trading_day market) (first_day_of market)) n m m n k i i.0 c.0 c.1 (sym (to-earlier n m (n - m) (omega arith) refl)) (mark-is (date_of n) (date_of m)).1 c.2)

-- A call returns one date, and so whoever follows the dates lists those of the traversal.
pub only-list : (Call : Date → Date → Type 0) (call : Date → TradingDayAnswer) (inside : Date → Bool) (start : Date) (list : List Date)
    → ((s t : Date) → Call s t → Returns call s t) → Traversal Call inside start list → OnlyList call inside start list
only-list Call call inside start list returns t l u =
    traversal-unique (Returns call) inside one _ (outside-ends (Returns call) inside one) start l list u (traversal-weaker Call (Returns call) inside returns start list t)
  where
    one : (s t u : Date) → Returns call s t → Returns call s u → t ≡ u
    one s t u c d = sym c.1 ∙ d.1

-- What is known of a call includes what it returns.
pub returned : (market most : ℕ) (call : Date → TradingDayAnswer) (given answer earlier later : Date) → NeighbourAnswer market most (call given) answer earlier later → Returns call given answer
returned market most call given answer earlier later c = (ap (λ (r : TradingDayAnswer). r.error) c.no-error, ap (λ (r : TradingDayAnswer). r.date) c.no-error)
