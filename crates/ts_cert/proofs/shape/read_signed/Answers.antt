use Rattle.ts_der.specs.View.{now}
use Rattle.ts_cert.specs.View.{tbs_in}
use Rattle.ts_cert.proofs.Certificates.{tbs-found}
use Rattle.ts_cert.proofs.shape.read_signed.Goals as goal

pub read_algorithm_beside-requires-clause-read : goal.read_algorithm_beside-requires-clause-read
read_algorithm_beside-requires-clause-read c =
    let is = (tbs-found (now c.in_ok-tbs.tbs) (tbs_in c.in_ok-signed.signed) c.in_ok-tbs.tbs.octets c.in_ok-signed.ensures).is in
    (is.algorithm, is.signature)
