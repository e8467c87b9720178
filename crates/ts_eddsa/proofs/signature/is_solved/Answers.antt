use Rattle.std.proofs.Common.{◌≡◌, ap, ◌∙◌}
use Rattle.ts_curve.specs.Four.{number4}
use Rattle.ts_eddsa.specs.Points.{base, multiple, sum}
use Rattle.ts_eddsa.specs.inside.Addend.{addend_of, sum_by}
use Rattle.ts_eddsa.specs.Tests.{are_equal}
use Rattle.ts_eddsa.proofs.Multiple.{sum_is}
use Rattle.ts_eddsa.proofs.signature.is_solved.Goals as goal

pub returns : goal.returns
returns c =
    let s = number4 c.args.s.now in
    let r = c.args.r.now in
    let m = multiple 256 (number4 c.args.k.now) c.args.a.now in
    let left : c.multiple-left.result ≡ multiple 256 s base =
    c.multiple-left.ensures ∙ ap (multiple 256 s) c.base.ensures in
    let right : c.add.new.self ≡ sum r m =
    c.add.ensures ∙ ap (λ q. sum_by q c.addend.result) c.copy-right.ensures
    ∙ ap (sum_by r) (c.addend.ensures ∙ ap addend_of c.multiple.ensures)
    ∙ sum_is r m in
    c.is_equal.ensures ∙ ap (λ q. are_equal q c.add.new.self) left
    ∙ ap (are_equal (multiple 256 s base)) right
