-- What is left may be shown behind what is shown.
use Rattle.std.proofs.Common.{◌++◌, ◌+◌, List, drop}
use Rattle.ts_render.specs.Chain.{AreShown, certificates_in}
use Rattle.ts_render.specs.declared.chain.CertificateFields.{CertificateFields}
use Rattle.ts_render.proofs.chain.chain_fields.Given as goal

abbrev pub invariant-loop-place : goal.invariant-loop-place
invariant-loop-place l = (rest : List CertificateFields)
    → AreShown rest (l.place + 1) (drop l.place (certificates_in l.question)) l.failing
    → AreShown (l.all.items ++ rest) 1 (certificates_in l.question) l.failing
