-- `gregorian::day_number` meets its contract: in January and February, and from March on.
use Prim.Native.Nat.{◌+◌, ◌*◌, ◌/◌, ◌≤◌}
use mathlib.Core.Path.{◌≡◌}
use native.Mathlib.Omega.{arith}
use Rattle.gregorian.specs.Calendar.{day_number, last_day}
use Rattle.gregorian.proofs.Laws.{is-date}
use Rattle.gregorian.proofs.Formulas.{InMarchYear, january, march, number-by-march}
use Rattle.gregorian.proofs.day_number.Goals as goal
use Rattle.gregorian.proofs.day_number.Goals.{then-month-lt3, else-month-lt3, then-month-lt3-2, else-month-lt3-2}

in-march-year : (c : goal.Joined-month-lt3-2) → InMarchYear c.args.year c.args.month c.if-month-lt3.march_year c.if-month-lt3-2.march_month
in-march-year c =
    let x = (is-date c.args.year c.args.month c.args.day c.requires).exists in
    elim c.if-month-lt3.branch [
      | then-month-lt3 w ↦ elim c.if-month-lt3-2.branch [
        | then-month-lt3-2 v ↦ rw (w.march_year-is, v.march_month-is) (january c.args.year c.args.month x.m-low w.if-month-lt3.true)
        | else-month-lt3-2 v ↦ absurd (omega arith)
      ]
      | else-month-lt3 w ↦ elim c.if-month-lt3-2.branch [
        | then-month-lt3-2 v ↦ absurd (omega arith)
        | else-month-lt3-2 v ↦ rw (w.march_year-is, v.march_month-is) (march c.args.year c.args.month x.y-low w.if-month-lt3.false x.m-high)
      ]
    ]

pub overflow_sub-march_year : goal.overflow_sub-march_year
overflow_sub-march_year c = (is-date c.args.year c.args.month c.args.day c.requires).exists.y-low

pub days_in_years-requires : goal.days_in_years-requires
days_in_years-requires c = omega (arith, (in-march-year c).y-high, (is-date c.args.year c.args.month c.args.day c.requires).y-high)

-- the parts make up the number and the days from March to December
whole : (c : goal.After-row_known-1)
    → (c.days_in_years.result + (153 * c.if-month-lt3-2.march_month + 2) / 5 + c.args.day ≡ day_number c.args.year c.args.month c.args.day + 306)
    × (day_number c.args.year c.args.month c.args.day ≤ last_day)
whole c = number-by-march _ _ _ _ _ _ c.requires c.days_in_years.ensures (in-march-year c.before.before)

pub overflow_mul-result : goal.overflow_mul-result
overflow_mul-result c = record { fits = omega (arith, (in-march-year c.before.before).m-high) }

pub overflow_add-result : goal.overflow_add-result
overflow_add-result c = record { fits = omega (arith, (in-march-year c.before.before).m-high) }

pub overflow_add-result-2 : goal.overflow_add-result-2
overflow_add-result-2 c = record { fits = omega (arith, whole c) }

pub overflow_add-result-3 : goal.overflow_add-result-3
overflow_add-result-3 c = record { fits = omega (arith, whole c) }

pub overflow_sub-result : goal.overflow_sub-result
overflow_sub-result c = omega (arith, whole c)

pub returns : goal.returns
returns c = omega (arith, whole c)
