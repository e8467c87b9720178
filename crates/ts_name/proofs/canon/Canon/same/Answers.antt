use Rattle.std.proofs.Common.{sym, ◌∙◌}
use Rattle.ts_name.proofs.Equal.{one_name}
use Rattle.ts_name.proofs.canon.Canon.same.Goals as goal

pub returns : goal.returns
returns c =
    let d = one_name c.args.self.now c.args.other.now in
    (λ t. d.0 (sym c.eq.ensures ∙ t), λ e. c.eq.ensures ∙ d.1 e)
