-- The laws of sessions and hours: what each case comes to.
-- Assumes nothing.
use Rattle.std.proofs.Common.{Option, Some, Ok, Err}
use Prim.Native.Nat.{ℕ, ◌≤◌, ◌<◌}
use mathlib.Core.Path.{◌≡◌, ap, sym, ◌∙◌}
use mathlib.Core.Bool.{Bool, true, false, ◌&&◌, ◌||◌}
use lib.Dec.{ltb, leb}
use native.Mathlib.Decide.{dec_lt}
use native.Mathlib.Omega.{arith}
use borrow.Author.Tests.{lt-ltb, le-ltb, le-leb, lt-leb}
use Rattle.gregorian.proofs.Tests.{and-false}
use Rattle.error.specs.declared.CalendarError.TheVariants.{InvalidTime}
use Rattle.schedule.specs.declared.Session.{Session}
use Rattle.schedule.specs.declared.TradingHours.{TradingHours}
use Rattle.schedule.specs.Schedule.{contains, may_contain, is_reached, market_close, is_regular_at, is_after_hours_at, set_early_close, with_early_close}

from-or-before : (a b t : ℕ) → a ≤ b → (leb a t || ltb t b) ≡ true
from-or-before a b t h = elim (dec_lt t a) [
  | yes l ↦ simp (lt-ltb t b (omega arith), lt-leb a t l)
  | no n ↦ simp (le-leb a t (omega arith))
]

from-and-before : (a b t : ℕ) → b ≤ a → (leb a t && ltb t b) ≡ false
from-and-before a b t h = elim (dec_lt t a) [
  | yes l ↦ simp (lt-leb a t l)
  | no n ↦ simp (le-leb a t (omega arith), le-ltb t b (omega arith))
]

module _ (s : Session) (t : ℕ) where
  pub within-a-day : s.start < s.end → (leb s.start t && ltb t s.end) ≡ contains s t
  unfolding contains
  within-a-day h = simp (lt-ltb s.start s.end h)

  pub over-midnight : s.end ≤ s.start → (leb s.start t || ltb t s.end) ≡ contains s t
  unfolding contains
  over-midnight h = simp (le-ltb s.start s.end h)

  -- Equal ends contain every time.
  pub equal-ends : s.start ≡ s.end → contains s t ≡ true
  equal-ends e = sym (over-midnight (omega (arith, e))) ∙ from-or-before s.start s.end t (omega (arith, e))

module _ (hours : TradingHours) (t : ℕ) where
  -- Regular hours that close no later than they open, as those over midnight do without an early close, are never open.
  pub never-regular : market_close hours ≤ hours.regular.start → is_regular_at hours t ≡ false
  never-regular h = from-and-before hours.regular.start (market_close hours) t h

  -- An early close is refused unless it is before the regular end.
  pub late-close : hours.regular.end ≤ t → Err InvalidTime ≡ with_early_close hours t
  unfolding with_early_close
  late-close h = simp (le-leb hours.regular.end t h)

  pub early-close : t < hours.regular.end → Ok (set_early_close hours (Some t)) ≡ with_early_close hours t
  unfolding with_early_close
  early-close h = simp (lt-leb hours.regular.end t h)

  -- After-hours do not count before an early close.
  pub not-before-early-close : (close : ℕ) → hours.early_close ≡ Some close → t < close → is_after_hours_at hours t ≡ false
  not-before-early-close close e h =
      ap (λ (o : Option ℕ). may_contain hours.after_hours t && is_reached o t) e
      ∙ ap (λ (b : Bool). may_contain hours.after_hours t && b) (lt-leb close t h)
      ∙ and-false (may_contain hours.after_hours t)
