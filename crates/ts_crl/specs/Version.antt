-- Reading the version of a list (RFC 5280 5.1.2.1).
use Rattle.std.specs.Prelude.{ℕ, ◌==◌, List, [], ◌∷◌, Option, Some, None, Result, Ok, Err}
use Rattle.std.specs.Prelude.{if◌then◌else◌}
use Rattle.ts_der.specs.Answer.{◌>>=◌}
use Rattle.ts_der.specs.Element.{Place, Tlv}
use Rattle.ts_der.specs.Reading.{optional_at, value_at}
use Rattle.ts_der.specs.Integer.{integer_rules}
use Rattle.ts_shape.specs.declared.fault.CertRule.TheVariants.{Version}
use Rattle.ts_shape.specs.declared.fault.CertFault.{CertFault}
use Rattle.ts_shape.specs.Fault.{der, breaks}
use Rattle.ts_crl.specs.declared.version.ListVersion.{ListVersion}
use Rattle.ts_crl.specs.declared.version.ListVersion.TheVariants.{V1, V2}

-- a version that is present is v2(1)
abbrev pub crl_version_named : ℕ → List ℕ → Result ListVersion CertFault
crl_version_named at (octet ∷ []) = if octet == 1 then Ok V2 else Err (breaks at Version)
crl_version_named at content = Err (breaks at Version)

-- an INTEGER that is a version
unfoldable pub crl_version_of : Tlv → Result ListVersion CertFault
crl_version_of e = do
  content ← der (value_at integer_rules (λ c. c) e)
  crl_version_named e.at content

-- absent in version 1
abbrev pub crl_version_if : Option Tlv → Result ListVersion CertFault
crl_version_if None = Ok V1
crl_version_if (Some e) = crl_version_of e

-- version Version OPTIONAL
unfoldable pub crl_version_at : Place → Result (ListVersion × Place) CertFault
crl_version_at here = do
  e ← der (optional_at 0x02 here)
  version ← crl_version_if e.0
  Ok (version, e.1)
