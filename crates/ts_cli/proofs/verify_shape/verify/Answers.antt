use Rattle.ts_cli.specs.Shapes.{verify}
use Rattle.ts_cli.proofs.verify_shape.verify.Goals as goal

pub returns-clause-shape : goal.returns-clause-shape
unfolding verify
returns-clause-shape c =
    let anchor = c.with-command.ensures.shape _ _ (c.mandatory.ensures.rule _ c.options.ensures.rule) c.leaf-command.ensures.shape in
    let crl = c.with-command-2.ensures.shape _ _ c.options-2.ensures.rule anchor in
    let certificates = c.with-command-3.ensures.shape _ _ (c.mandatory-2.ensures.rule _ c.words.ensures.rule) crl in
    let json = c.with-command-4.ensures.shape _ _ c.flag.ensures.rule certificates in
    c.with_inputs.ensures.shape _ json
