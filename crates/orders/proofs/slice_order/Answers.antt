-- `orders::slice_order` meets its contract: the days past the checks, their slices, and an error stays.
use Rattle.std.proofs.Common.{ℕ, refl, sym, ap, ◌∙◌, arith}
use Rattle.std.proofs.lemmas.Result.{err_from_is_err_and}
use Rattle.buffers.specs.Buffers.{overwrite}
use Rattle.orders.specs.Slices.{slices}
use Rattle.orders.proofs.SliceLaws.{days-checked, remainder-less, no-more-than, slice-by-days}
use Rattle.orders.proofs.slice_order.Goals as goal

pub nonzero_div-per_day : goal.nonzero_div-per_day
nonzero_div-per_day c = (days-checked _ _ _ (sym c.in_ok-days.ensures)).one

pub nonzero_rem-remainder : goal.nonzero_rem-remainder
nonzero_rem-remainder c = (days-checked _ _ _ (sym c.in_ok-days.ensures)).one

pub write_slices-requires : goal.write_slices-requires
write_slices-requires c =
    let d = days-checked _ _ _ (sym c.in_ok-days.ensures) in
    (remainder-less _ _ d.one, d.fit, omega (arith, no-more-than c.args.quantity c.in_ok-days.days d.one))

pub returns : goal.returns
returns c =
    let a = c.args in
    slice-by-days _ _ _ _ _ _ c.in_ok-days.ensures refl
    (c.write_slices.ensures ∙ ap (λ (n : ℕ). overwrite (slices a.quantity n) a.out.now) (days-checked _ _ _ (sym c.in_ok-days.ensures)).all)

pub returns-in_err-days : goal.returns-in_err-days
returns-in_err-days c =
    let p = err_from_is_err_and c.from_residual.result c.from_residual.ensures.1 in
    rw (p.1, p.2) (slice-by-days _ _ _ _ _ _ c.in_err-days.ensures refl refl)
