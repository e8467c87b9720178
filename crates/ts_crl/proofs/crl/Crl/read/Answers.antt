use Rattle.std.proofs.Common.{arith}
use Rattle.ts_crl.specs.Fault.{fault_in}
use Rattle.ts_crl.specs.ListView.{crl_in}
use Rattle.ts_crl.specs.Encoding.{IsCertificateList}
use Rattle.ts_crl.specs.Table.{crl_of}
use Rattle.ts_crl.proofs.Crls.{crl-found, crl-again}
use Rattle.ts_crl.proofs.Judging.{fault-judged, found-by, read-by}
use Rattle.ts_crl.proofs.crl.Crl.read.Goals as goal

pub returns-clause-found : goal.returns-clause-found
returns-clause-found c =
    found-by crl_in fault_in c.read_crl.result (crl_of c.args.octets.now) (IsCertificateList c.args.octets.now) c.read_crl.ensures
    (λ x read. crl-found c.args.octets.now x (λ i. omega (arith, c.type_inv.octets i)) read)

pub returns-clause-only : goal.returns-clause-only
returns-clause-only c x is = read-by crl_in fault_in c.read_crl.result (crl_of c.args.octets.now) x c.read_crl.ensures (crl-again c.args.octets.now x is)

pub returns-clause-fault : goal.returns-clause-fault
returns-clause-fault c = fault-judged crl_in c.read_crl.result c.args.octets.now c.read_crl.ensures
