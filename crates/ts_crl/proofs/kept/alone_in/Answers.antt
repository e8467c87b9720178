use Rattle.std.proofs.Common.{ap, sym, ◌∙◌}
use Rattle.ts_der.specs.Reading.{next_at}
use Rattle.ts_der.specs.View.{now}
use Rattle.ts_crl.proofs.Borrowing.{extensions-again}
use Rattle.ts_crl.proofs.kept.alone_in.Goals as goal

pub returns : goal.returns
returns c =
    extensions-again (now c.args.element) (now c.in_ok-next.field-0) (now c.in_ok-element.element) c.next.new.self (ap next_at (sym c.reader-fields.ensures) ∙ c.in_ok-next.ensures.exact)
    c.in_ok-element.ensures tt c.in_ok-end.ensures.exact c.requires
