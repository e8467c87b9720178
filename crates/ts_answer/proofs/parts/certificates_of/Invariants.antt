use Rattle.std.proofs.Common.{◌≡◌, ◌+◌, map, take, drop, length}
use Rattle.ts_cert.specs.CertView.{cert_in, certificate_in}
use Rattle.ts_answer.specs.Parts.{first_certificate}
use Rattle.ts_answer.proofs.parts.certificates_of.Given as goal

abbrev pub invariant-loop-octets : goal.invariant-loop-octets
invariant-loop-octets l = record {
  left : first_certificate 1 (map (λ s. s.items) l.strings) ≡ first_certificate (l.octets-index + 1) (map (λ s. s.items) (drop l.octets-index l.strings));
  read : map cert_in l.certificates.items ≡ map certificate_in (map (λ s. s.items) (take l.octets-index l.strings));
  counted : length l.certificates.items ≡ l.octets-index;
}
