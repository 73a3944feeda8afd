-- The codes of the markets, and the rules of a market by its code.
-- Assumes nothing.
use Prim.Native.Nat.{ℕ, suc, ◌≤◌, ◌<◌}
use mathlib.Core.Path.{◌≡◌, ap, sym, ◌∙◌}
use mathlib.Core.Bool.{true, false}
use mathlib.Core.List.{List, []}
use lib.Dec.{ltb, leb}
use lib.ListN.{length, get_or-eq_default}
use native.Mathlib.Decide.{dec_le}
use native.Mathlib.Omega.{arith}
use borrow.Author.Tests.{lt-ltb, le-ltb, ltb-true, lt-leb, le-leb}
use Rattle.rule_days.specs.Inner.{Rule, any_of}
use Rattle.markets.specs.Markets.{holidays_by_code, is_market}
use Rattle.markets.specs.Inner.{rules_by_code, rules}

-- ---- the codes

-- Up to the last is before the one after it.
pub up-to-last : (m last : ℕ) → leb m last ≡ ltb m (suc last)
up-to-last m last = elim (dec_le m last) [
  | yes h ↦ le-leb m last h ∙ sym (lt-ltb m (suc last) (omega arith))
  | no h ↦ lt-leb m last (omega arith) ∙ sym (le-ltb m (suc last) (omega arith))
]

pub market-code : (m : ℕ) → is_market m ≡ true → m < length holidays_by_code
unfolding is_market
market-code m e = ltb-true m (length holidays_by_code) e

-- ---- the rules

pub no-market : (market month year n : ℕ) → length rules_by_code ≤ market → false ≡ any_of month (rules market year n)
no-market market month year n h =
    ap (λ (f : ℕ → ℕ → List Rule). any_of month (f year n)) (sym (get_or-eq_default rules_by_code (λ year n. []) {n = market} h))
