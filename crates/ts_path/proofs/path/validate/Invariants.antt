-- The certificates that have been passed, and the state at the next.
use Rattle.std.proofs.Common.{◌≡◌, ◌≢◌, List, [], length, map, true}
use Rattle.ts_cert.specs.Certificate.{Certificate}
use Rattle.ts_cert.specs.CertView.{cert_in}
use Rattle.ts_path.specs.Chain.{chained}
use Rattle.ts_path.specs.State.{state_at, policies_above}
use Rattle.ts_path.specs.View.{question_in}
use Rattle.ts_path.proofs.Positions.{AllHold}
use Rattle.ts_path.proofs.path.validate.Given as goal

abbrev pub invariant-loop-rest : goal.invariant-loop-rest
invariant-loop-rest g l =
    let q = question_in l.anchor l.chain l.inputs l.crls (g.S.SignatureCheck.accepts l.check) in
    (above : List Certificate)
    × (q.chain ≡ chained above (map cert_in l.rest))
    × (l.rest ≢ [])
    × (l.walk.state ≡ state_at q.asked (length q.chain) above)
    × (l.walk.policies ≡ record { certificates = policies_above q.asked (length q.chain) above; mapped = true })
    × AllHold q (length above)

abbrev pub decreases-loop-rest : goal.decreases-loop-rest
decreases-loop-rest g l = length l.rest
