use Rattle.std.proofs.Common.{◌≡◌, ◌+◌, ◌*◌, ◌^◌, ◌<◌, length, get_or, arith}
use Rattle.ts_constraint.proofs.Numbers.{fits-in, fits-more, next-digit}
use Rattle.ts_constraint.proofs.masked.number.Goals as goal

pub overflow_mul-number : goal.overflow_mul-number
overflow_mul-number c =
    let n = c.loop-octet.number in
    let most = fits-in n 0 c.loop-octet.octet-index c.loop-octet.invariant.fits (omega arith) (omega arith) in
    omega arith

pub overflow_add-number : goal.overflow_add-number
overflow_add-number c =
    let i = c.loop-octet.octet-index in
    let x = get_or c.args.octets.now i 0 in
    let most = fits-in c.loop-octet.number x i c.loop-octet.invariant.fits (omega (arith, c.type_inv.octets i)) (omega arith) in
    omega arith

pub loop-octet-preserved : goal.loop-octet-preserved
loop-octet-preserved c =
    let i = c.loop-octet.octet-index in
    let xs = c.args.octets.now in
    record {
      digits = next-digit c.loop-octet.number i xs _ c.loop-octet-test.true c.loop-octet.invariant.digits;
      fits = fits-more c.loop-octet.number (get_or xs i 0) i c.loop-octet.invariant.fits (omega (arith, c.type_inv.octets i));
    }
