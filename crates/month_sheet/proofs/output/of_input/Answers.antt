-- `month_sheet::output::of_input`: the bytes that were read are printed as the whole input is. The buffer has room for one byte more than
-- the longest text of the form has.
use Rattle.std.proofs.Common.{rules, ℕ, List, ◌≤◌, ◌≡◌, length, take, drop}
use mathlib.Core.Path.{sym, ap, ◌∙◌}
use lib.ListN.{length-append}
use lib.Seq.{length-take-le}
use native.Mathlib.Omega.{arith}
use Rattle.buffers.specs.Buffers.{overwrite}
use Rattle.month_sheet.proofs.FirstBytes.{read-decides}
use Rattle.month_sheet.proofs.output.of_input.Goals as goal

pub returns-clause-by_index : goal.returns-clause-by_index
returns-clause-by_index c = λ input e.
    let same = read-decides input c.args.buffer.now c.args.n (search rules) e in
    (c.of_text.ensures.0 ∙ ap length same, c.of_text.ensures.1 ∙ ap (λ (l : List ℕ). overwrite l c.args.out.now) same)

-- The bytes at the start of the buffer lie in it.
in-bounds : (bytes buffer out : List ℕ) (n : ℕ) → (n ≡ length bytes) × (out ≡ overwrite bytes buffer) → (n ≤ length out) × (n ≡ length (take n out))
unfolding overwrite
in-bounds bytes buffer out n (l, q) =
    let fits : n ≤ length out = omega (arith, ap length q, length-append bytes (drop (length bytes) buffer)) in
    (fits, sym (length-take-le n out fits))

pub returns-clause-prefix_len : goal.returns-clause-prefix_len
returns-clause-prefix_len c = in-bounds _ _ _ _ c.of_text.ensures
