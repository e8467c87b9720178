use Rattle.std.proofs.Common.{sym, ◌∙◌}
use Rattle.ts_der.specs.Element.{inside}
use Rattle.ts_der.specs.View.{now}
use Rattle.ts_extensions.proofs.ValidExtensions.{sound}
use Rattle.ts_extensions.proofs.extensions.Extensions.broken_rule.Goals as goal

pub returns-clause-sound : goal.returns-clause-sound
returns-clause-sound c =
    let s = sound c.args.holder (inside (now c.args.self.list.element)) c.args.self.list.element.octets in
    let fault = c.first_broken_value.ensures in
    ((λ e. s.0 (sym fault ∙ e)), λ are. fault ∙ s.1 are)
