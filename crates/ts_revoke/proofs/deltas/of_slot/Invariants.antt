use Rattle.std.proofs.Common.{◌≡◌, drop}
use Rattle.std.specs.List.{find}
use Rattle.std.specs.Prelude.{map}
use Rattle.ts_crl.specs.List.{CertificateList}
use Rattle.ts_crl.specs.ListView.{crl_in}
use Rattle.ts_crl.specs.Slots.{is_same_slot}
use Rattle.ts_revoke.proofs.deltas.of_slot.Given as goal

abbrev pub invariant-loop-delta : goal.invariant-loop-delta
invariant-loop-delta l =
    find (λ (d : CertificateList). is_same_slot (crl_in l.fn.crl) d)
    (map crl_in (drop l.delta-index l.fn.deltas)) ≡ find
    (λ (d : CertificateList). is_same_slot (crl_in l.fn.crl) d) (map crl_in l.fn.deltas)
