-- The call that slices an order, by what the count call returns on its market and dates: docs/SCOPE.md [slice-order]. Assumes nothing.
use Rattle.std.specs.Prelude.{ℕ, cond, List, eqb}
use Rattle.orders.specs.Slices.{slice_result, slice_buffer}
use Rattle.answers.specs.declared.counts.CountAnswer.{CountAnswer}
use Rattle.answers.specs.declared.slices.SliceAnswer.{SliceAnswer}
use Rattle.answers.specs.Answers.{slice_answer}

-- Without an error of the count, the order over the days counted; or else that error, with what comes with it.
unfoldable pub slice_order_answer : ℕ → CountAnswer → List ℕ → SliceAnswer
slice_order_answer quantity counted buffer =
    cond (eqb counted.error 0) (slice_answer (slice_result quantity counted.count buffer))
    (record { error = counted.error; count = counted.count; per_day = 0; remainder = 0; date = counted.date })

-- [error-writes-nothing]: what the buffer holds at the end
unfoldable pub slice_order_buffer : ℕ → CountAnswer → List ℕ → List ℕ
slice_order_buffer quantity counted buffer = cond (eqb counted.error 0) (slice_buffer quantity counted.count buffer) buffer
