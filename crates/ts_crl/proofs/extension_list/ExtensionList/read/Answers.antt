use Rattle.std.proofs.Common.{ap, sym}
use Rattle.ts_der.specs.Answer.{refusal}
use Rattle.ts_der.specs.View.{now}
use Rattle.ts_shape.proofs.ItemParts.{some-walked}
use Rattle.ts_extensions.specs.Extension.{located_in}
use Rattle.ts_crl.proofs.extension_list.ExtensionList.read.Goals as goal

pub returns : goal.returns
returns c = some-walked located_in (now c.args.element) (ap (λ r. refusal r) (sym c.in_ok-read.ensures))
