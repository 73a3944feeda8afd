-- The first bytes of the input, if they are more than 48, decide what is printed.
-- Assumes nothing.
use Rattle.std.proofs.Common.{Option}
use Prim.Native.Nat.{ℕ, ◌<◌}
use mathlib.Core.Path.{◌≡◌, sym, ap, ◌∙◌}
use mathlib.Core.List.{List}
use lib.ListN.{length, take}
use lib.Seq.{take_all, length-take-le}
use native.Mathlib.Decide.{dec_le}
use native.Mathlib.Omega.{arith}
use Rattle.request.specs.declared.Request.{Request}
use Rattle.request.specs.Request.{read_request}
use Rattle.request.proofs.Form.{reads-the-form}
use Rattle.sheet.specs.SheetCall.{sheet_of_request}
use Rattle.month_sheet.specs.Printed.{printed_result, printed, ReadOf, FirstBytesDecide}

-- They are the whole input, or already too long for a text of the form.
same-request : (room : ℕ) → 48 < room → (input : List ℕ) → read_request (take room input) ≡ read_request input
same-request room h input =
    elim (dec_le (length input) room) [
      | yes k ↦ ap read_request (take_all room input k)
      | no k ↦ reads-the-form.too_long (take room input) (omega (arith, length-take-le room input (omega arith)))
          ∙ sym (reads-the-form.too_long input (omega arith))
    ]

pub first-bytes-decide : FirstBytesDecide
first-bytes-decide room h input = ap (λ (o : Option Request). printed_result (sheet_of_request o)) (same-request room h input)

-- What was read is printed as the input is.
pub read-decides : (input buffer : List ℕ) (n : ℕ) → 48 < length buffer → ReadOf input buffer n → printed (take n buffer) ≡ printed input
read-decides input buffer n h e = ap printed e ∙ first-bytes-decide (length buffer) h input
