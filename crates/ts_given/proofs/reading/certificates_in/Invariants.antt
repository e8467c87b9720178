use Rattle.std.proofs.Common.{◌≡◌, ◌+◌, map, take, drop, length}
use Rattle.ts_cert.specs.CertView.{cert_in, certificate_in}
use Rattle.ts_given.specs.Given.{first_certificate, octets_of}
use Rattle.ts_given.proofs.reading.certificates_in.Given as goal

abbrev pub invariant-loop-i : goal.invariant-loop-i
invariant-loop-i l = record {
  left : first_certificate 1 (octets_of l.all) ≡ first_certificate (l.i + 1) (octets_of (drop l.i l.all));
  counted : length l.certificates.items ≡ l.i;
  read : map cert_in l.certificates.items ≡ map certificate_in (octets_of (take l.i l.all));
}
