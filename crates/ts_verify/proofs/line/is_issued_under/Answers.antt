-- The names are compared.
use Rattle.std.proofs.Common.{ap, ◌∙◌}
use Rattle.ts_name.specs.NameView.{rdns_in}
use Rattle.ts_name.specs.Sameness.{is_same_name}
use Rattle.ts_name.proofs.SameNames.{same_is}
use Rattle.ts_verify.proofs.line.is_issued_under.Goals as goal

pub returns : goal.returns
returns c =
    same_is c.same.result (rdns_in c.issuer.result) (rdns_in c.args.anchor.now.name) c.same.ensures
    ∙ ap (λ n. is_same_name n (rdns_in c.args.anchor.now.name)) c.issuer.ensures
