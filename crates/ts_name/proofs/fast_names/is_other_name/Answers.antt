use Rattle.std.proofs.Common.{ap, ◌∙◌, arith}
use Rattle.ts_der.specs.Element.{Place}
use Rattle.ts_der.specs.Reading.{many}
use Rattle.ts_der.specs.Answer.{refusal}
use Rattle.ts_name.specs.Names.{rdn_at}
use Rattle.ts_name.proofs.ShortNames.{name-test}
use Rattle.ts_name.proofs.fast_names.is_other_name.Goals as goal

pub returns : goal.returns
returns c = rw c.is_ok.ensures.value
    (name-test c.args.content.now (λ i. omega (arith, c.type_inv.content i)) c.check_rdns.result
    (c.check_rdns.ensures ∙ ap (λ (here : Place). refusal (many rdn_at here)) c.new.ensures))
