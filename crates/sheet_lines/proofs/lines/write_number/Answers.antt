-- `sheet_lines::lines::write_number` meets its contract: the digits, and a byte after them.
use Prim.Native.Nat.{ℕ, ◌+◌, ◌≤◌}
use mathlib.Core.Path.{◌≡◌, ap, sym, ◌∙◌}
use mathlib.Core.List.{List, [], ◌∷◌, ◌++◌}
use lib.ListN.{length, set, length-append}
use native.Mathlib.Omega.{arith}
use Rattle.buffers.specs.Buffers.{overwrite}
use Rattle.buffers.proofs.BufferLaws.{overwrite-byte}
use Rattle.decimal.specs.Decimal.{decimal}
use Rattle.sheet_lines.proofs.lines.write_number.Goals as goal

-- n digits were written to the buffer: with the byte all is written
ended : (number end : ℕ) (buffer : List ℕ) → length (decimal number ++ (end ∷ [])) ≤ length buffer
    → (n : ℕ) (out : List ℕ) → (n ≡ length (decimal number)) × (out ≡ overwrite (decimal number) buffer)
    → (n + 1 ≡ length (decimal number ++ (end ∷ []))) × (set out n end ≡ overwrite (decimal number ++ (end ∷ [])) buffer)
ended number end buffer fits n out w =
    let longer = length-append (decimal number) (end ∷ []) in (
      omega (arith, longer, w.0),
      ap (λ (l : List ℕ). set l n end) w.1 ∙ overwrite-byte (decimal number) buffer end n (sym w.0) (omega (arith, longer, w.0)),
    )

pub returns : goal.returns
returns c = ended _ _ _ c.requires _ _ c.write-n.ensures
