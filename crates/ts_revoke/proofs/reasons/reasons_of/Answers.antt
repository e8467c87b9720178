use Rattle.std.proofs.Common.{◌∙◌, sym}
use Rattle.ts_der.specs.BitsView.{bits_in}
use Rattle.ts_ext.specs.declared.reason_flag.ReasonFlag.{ReasonFlag}
use Rattle.ts_ext.specs.NamedBits.{bit, flag_number}
use Rattle.ts_revoke.specs.Reasons.{reasons_where}
use Rattle.ts_revoke.proofs.Sets.{same_set, holds-where}
use Rattle.ts_revoke.proofs.reasons.reasons_of.Goals as goal

pub returns : goal.returns
returns c =
    same_set c.reasons.result (reasons_where (λ flag. bit (flag_number flag) (bits_in c.args.flags.bits)))
    (λ flag. c.reasons.ensures flag ∙ sym (holds-where (λ (f : ReasonFlag). bit (flag_number f) (bits_in c.args.flags.bits)) flag))
