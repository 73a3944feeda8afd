-- `orders::write_slices` meets its contract: one more for the first days, and then the shares per day.
use Rattle.std.proofs.Common.{ℕ, List, [], ◌≡◌, ◌+◌, ◌-◌, ◌≤◌, ◌<◌, ◌++◌, length, refl, sym, ap, ◌∙◌, arith}
use Rattle.std.proofs.Math.ListN.{replicate, length-replicate}
use borrow.Rule.Slice.PartMut.{mid_of, put_mid, mid_len}
use Rattle.buffers.specs.Buffers.{overwrite}
use Rattle.buffers.proofs.BufferLaws.{overwrite-none, overwrite-part, overwrite-length}
use Rattle.orders.proofs.SliceLaws.{slices-are}
use Rattle.orders.proofs.write_slices.Goals as goal
use Rattle.orders.proofs.write_slices.Goals.{then-remainder-gt0, else-remainder-gt0}

-- A part of k entries, `&mut out[a..e]`, was filled right after what was written.
part_filled : (entries part buffer out : List ℕ) (a e k value : ℕ) → out ≡ overwrite entries buffer → length entries ≡ a → a + k ≡ e → e ≤ length buffer
    → part ≡ replicate (length (mid_of a (e - a) out)) value → put_mid a (e - a) out part ≡ overwrite (entries ++ replicate k value) buffer
part_filled entries part buffer out a e k value q n s l p =
    let long : length out ≡ length buffer = ap length q ∙ overwrite-length entries buffer (omega (arith, n, s)) in
    let as_many : e - a ≡ k = omega (arith, s) in
    let filled : part ≡ replicate k value = p ∙ ap (λ (i : ℕ). replicate i value) (mid_len a e out (omega (arith, long)) ∙ as_many) in
    rw (filled, q) (overwrite-part entries (replicate k value) buffer a e n (length-replicate k value ∙ sym as_many))

pub returns : goal.returns
returns c =
    let a = c.args in
    let more = c.if-remainder-gt0.more in
    let more-is : 0 < a.remainder → more ≡ a.per_day + 1 =
    λ h. elim c.if-remainder-gt0.branch [ then-remainder-gt0 w ↦ w.more-is | else-remainder-gt0 w ↦ absurd (omega arith) ] in
    let out = part_filled [] _ a.out.now _ 0 a.remainder a.remainder more (sym (overwrite-none _)) refl (omega arith) (omega (arith, c.requires)) c.fill.ensures in
    part_filled (replicate a.remainder more) _ a.out.now _ a.remainder a.count (a.count - a.remainder) a.per_day out (length-replicate a.remainder more) (omega (arith, c.requires)) c.requires.1 c.fill-2.ensures
    ∙ ap (λ (l : List ℕ). overwrite l a.out.now) (slices-are a.per_day a.remainder a.count more (omega (arith, c.requires)) more-is)
