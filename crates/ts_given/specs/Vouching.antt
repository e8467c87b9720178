-- What speaks against the octets of a CRL that is to be loaded.
use Rattle.std.specs.Prelude.{ℤ, List, Option, Some, option_map, Result, Ok, Err}
use Rattle.ts_cert.specs.Certificate.{Certificate}
use Rattle.ts_check.specs.Native.{native_accepts}
use Rattle.ts_crl.specs.Fault.{ListFault}
use Rattle.ts_crl.specs.List.{CertificateList}
use Rattle.ts_revoke.specs.Vouched.{doubt_of}
use Rattle.ts_given.specs.declared.vouching.CrlDoubt.{CrlDoubt}
use Rattle.ts_given.specs.declared.vouching.CrlDoubt.TheVariants.{NoCrl, Against}

-- they are no CRL that a store takes; else the first doubt about it, at a moment, by these
-- certificates of those who may have signed it (RFC 5280 6.3.3 (f), (g))
abbrev pub doubt_about : List Certificate → ℤ → Result CertificateList ListFault → Option CrlDoubt
doubt_about issuers moment (Err e) = Some NoCrl
doubt_about issuers moment (Ok l) = option_map Against (doubt_of native_accepts issuers moment l)
