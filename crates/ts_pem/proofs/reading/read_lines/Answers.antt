-- Each line is a step.
use Rattle.std.proofs.Common.{map, option_map, arith}
use Rattle.std.specs.Prelude.{Vec}
use Rattle.std.specs.declared.alloc.Global.{Global}
use Rattle.ts_pem.specs.declared.block.Block.{Block}
use Rattle.std.proofs.lemmas.Result.{err_from_is_err_and}
use Rattle.ts_pem.specs.inside.Lines.{rest_of}
use Rattle.ts_pem.specs.Files.{block_in}
use Rattle.ts_pem.specs.Pem.{lines, blocks_of}
use Rattle.ts_pem.proofs.Steps.{goes_on, breaks_off, ends}
use Rattle.ts_pem.proofs.reading.read_lines.Goals as goal

pub returns-in_err-reading : goal.returns-in_err-reading
returns-in_err-reading c =
    let p = err_from_is_err_and c.from_residual.result c.from_residual.ensures.1 in
    rw (p.1, p.2)
    (breaks_off c.loop-reading.number (lines c.loop-reading.rest.now) c.first_line.result.0.now
    c.trim.result.now (rest_of (option_map (λ r. r.now) c.first_line.result.1))
    c.loop-reading.reading (blocks_of c.args.text.now) c.in_err-reading.field-0.0
    (λ (v : Vec Block Global). map block_in v.items) c.loop-reading.invariant.same c.first_line.ensures.lines
    c.trim.ensures c.in_err-reading.ensures)

pub returns-in_default : goal.returns-in_default
returns-in_default c =
    let last = rw c.in_default.is at c.first_line.ensures.lines in
    let e = ends c.loop-reading.number (lines c.loop-reading.rest.now) c.first_line.result.0.now
    c.trim.result.now c.loop-reading.reading c.in_ok-reading.reading
    (blocks_of c.args.text.now) c.loop-reading.invariant.same last c.trim.ensures
    c.in_ok-reading.ensures in
    rw e c.end.ensures

pub loop-reading-preserved : goal.loop-reading-preserved
loop-reading-preserved c =
    let split = rw c.in-Some.is at c.first_line.ensures.lines in
    let less = rw c.in-Some.is at c.first_line.ensures.shorter in
    record {
      same = goes_on c.loop-reading.number (lines c.loop-reading.rest.now)
          c.first_line.result.0.now c.trim.result.now (lines c.in-Some.others.now)
          c.loop-reading.reading c.in_ok-reading.reading (blocks_of c.args.text.now)
          c.loop-reading.invariant.same split c.trim.ensures c.in_ok-reading.ensures;
      number = omega (arith, less);
    }
