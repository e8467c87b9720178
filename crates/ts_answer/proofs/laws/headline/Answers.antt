use Rattle.ts_answer.proofs.OneReply.{the_headline}
use Rattle.ts_answer.proofs.laws.headline.Goals as goal

pub returns : goal.returns
returns g c = λ check n start run few is allowed.
    the_headline (g.S.SignatureCheck.accepts check) n start run (c.headline.ensures check n start run few is allowed)
