-- What a has_ field says of its part; and a record that comes back to the host and is handed in again is the one inside.
-- Assumes nothing.
use Rattle.std.proofs.Common.{Option, Some, None, unwrap_or}
use Prim.Native.Nat.{ℕ}
use mathlib.Core.Path.{◌≡◌, refl}
use mathlib.Core.Bool.{cond}
use lib.Dec.{eqb}
use borrow.Author.Tests.{eq-eqb, ne_eqb}
use Rattle.schedule.specs.declared.TradingHours.{TradingHours}
use Rattle.answers.specs.Records.{optional, trading_hours_of, has_part, hours_of}
use Rattle.schedule.specs.Schedule.{no_session}

module _ {A : Type 0} (has : ℕ) (none some : A) where
  pub absent : has ≡ 0 → none ≡ cond (eqb has 0) none some
  absent e = simp (eq-eqb has 0 e)

  pub present : (has ≡ 0 → ⊥) → some ≡ cond (eqb has 0) none some
  present n = simp (ne_eqb has 0 n)

same-part : {T : Type 0} (o : Option T) (none : T) → optional (has_part o) (unwrap_or o none) ≡ o
unfolding optional
same-part (Some part) none = refl
same-part None none = refl

pub same-hours : (h : TradingHours) → trading_hours_of (hours_of h) ≡ h
same-hours h =
    λ j.
    record {
      date = h.date;
      pre_market = same-part h.pre_market no_session j;
      regular = h.regular;
      after_hours = same-part h.after_hours no_session j;
      early_close = same-part h.early_close 0 j;
    }
