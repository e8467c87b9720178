use Rattle.std.proofs.Common.{◌∙◌, ◌++◌, ◌∷◌, [], sym, refl}
use Rattle.std.proofs.lemmas.Result.{err_from_is_err_and}
use Rattle.ts_der.specs.Reading.{many}
use Rattle.ts_der.proofs.Many.{goes_on, breaks_off, is_done}
use Rattle.ts_name.specs.Names.{rdn_at, rdn_of}
use Rattle.ts_shape.proofs.Walks.{within-consumes}
use Rattle.ts_name.proofs.name_reading.check_rdns.Goals as goal

pub loop-rest-smaller : goal.loop-rest-smaller
loop-rest-smaller c = within-consumes 0x31 rdn_of c.loop-rest.rest c.in_ok-pass_rdn.ensures.0 c.pass_rdn.new.rest c.in_ok-pass_rdn.ensures.1

pub loop-rest-preserved : goal.loop-rest-preserved
loop-rest-preserved c =
    let i = c.loop-rest.invariant in
    let x = c.in_ok-pass_rdn.ensures.0 in (
      i.0 ++ x ∷ [],
      goes_on rdn_at (within-consumes 0x31 rdn_of) i.0 c.loop-rest.rest x
          c.pass_rdn.new.rest (many rdn_at c.args.rest.now)
          (sym c.is_at_end.ensures ∙ c.loop-rest-test.true) c.in_ok-pass_rdn.ensures.1 i.1,
    )

pub returns-in_err-pass_rdn : goal.returns-in_err-pass_rdn
returns-in_err-pass_rdn c =
    let p = err_from_is_err_and c.from_residual.result c.from_residual.ensures.1 in
    let i = c.loop-rest.invariant in
    let total = breaks_off rdn_at (within-consumes 0x31 rdn_of) i.0 c.loop-rest.rest
    c.in_err-pass_rdn.field-0.0 (many rdn_at c.args.rest.now)
    (sym c.is_at_end.ensures ∙ c.loop-rest-test.true) c.in_err-pass_rdn.ensures i.1 in
    rw (p.1, p.2, total) refl

pub returns : goal.returns
returns c =
    let i = c.loop-rest.invariant in
    let total = is_done rdn_at i.0 c.loop-rest.rest (many rdn_at c.args.rest.now) (sym c.is_at_end.ensures ∙ c.loop-rest-test.false) i.1 in
    rw total refl
