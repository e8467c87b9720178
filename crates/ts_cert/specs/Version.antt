-- Reading a version (RFC 5280 4.1.2.1).
use Rattle.std.specs.Prelude.{ℕ, ◌==◌, List, [], ◌∷◌, Option, Some, None, Result, Ok, Err}
use Rattle.std.specs.Prelude.{if◌then◌else◌}
use Rattle.ts_der.specs.declared.fault.DerFault.TheVariants.{DefaultEncoded}
use Rattle.ts_der.specs.Answer.{◌>>=◌}
use Rattle.ts_der.specs.Element.{Place, Tlv, inside}
use Rattle.ts_der.specs.Reading.{element_at, optional_at, value_at, end_at}
use Rattle.ts_der.specs.Integer.{integer_rules}
use Rattle.ts_shape.specs.declared.fault.CertRule.TheVariants.{Der, Version as VersionRule}
use Rattle.ts_shape.specs.declared.fault.CertFault.{CertFault}
use Rattle.ts_cert.specs.declared.version.Version.{Version}
use Rattle.ts_cert.specs.declared.version.Version.TheVariants.{V1, V2, V3}
use Rattle.ts_shape.specs.Fault.{der, breaks}

-- Version ::= INTEGER { v1(0), v2(1), v3(2) }, by its content
abbrev pub version_named : ℕ → List ℕ → Result Version CertFault
version_named at (octet ∷ []) =
    if octet == 0 then Ok V1 else (if octet == 1 then Ok V2
    else (if octet == 2 then Ok V3 else Err (breaks at VersionRule)))
version_named at content = Err (breaks at VersionRule)

-- an INTEGER that is a version
unfoldable pub version_integer : Tlv → Result Version CertFault
version_integer e = do
  content ← der (value_at integer_rules (λ c. c) e)
  version_named e.at content

-- a version that is present is not the default
abbrev pub not_default : Tlv → Version → Result Version CertFault
not_default e V1 = Err (breaks e.at (Der DefaultEncoded))
not_default e v = Ok v

-- [0] EXPLICIT Version
unfoldable pub version_of : Tlv → Result Version CertFault
version_of e = do
  number ← der (element_at 0x02 (inside e))
  version ← version_integer number.0
  done ← der (end_at number.1)
  not_default e version

-- DEFAULT v1
abbrev pub version_if : Option Tlv → Result Version CertFault
version_if None = Ok V1
version_if (Some e) = version_of e

-- version [0] EXPLICIT Version DEFAULT v1
unfoldable pub version_at : Place → Result (Version × Place) CertFault
version_at here = do
  e ← der (optional_at 0xA0 here)
  version ← version_if e.0
  Ok (version, e.1)
