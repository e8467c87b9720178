use Rattle.std.proofs.Common.{◌∙◌, sym}
use Rattle.ts_revoke.specs.Reasons.{all_reasons}
use Rattle.ts_revoke.proofs.Sets.{same_set, holds-all}
use Rattle.ts_revoke.proofs.reasons.all.Goals as goal

pub returns : goal.returns
returns c = same_set c.all.result all_reasons (λ flag. c.all.ensures flag ∙ sym (holds-all flag))
