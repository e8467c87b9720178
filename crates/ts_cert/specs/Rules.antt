-- The rules of a certificate beside its shape (RFC 5280 4.1.2.1, 4.2): which fields a version has,
-- and what extensions keep to.
use Rattle.std.specs.Prelude.{ℕ, List, [], Option, Some, None, unwrap_or}
use Rattle.ts_shape.specs.declared.fault.CertRule.TheVariants.{ExtensionsInOldVersion}
use Rattle.ts_shape.specs.declared.fault.CertFault.{CertFault}
use Rattle.ts_shape.specs.Fault.{breaks}
use Rattle.ts_shape.specs.Shape.{◌or_else◌}
use Rattle.ts_ext.specs.declared.known.Holder.TheVariants.{Certificate as CertificateHolder}
use Rattle.ts_extensions.specs.Extension.{Located}
use Rattle.ts_extensions.specs.ValueRules.{extension_list_fault}
use Rattle.ts_cert.specs.declared.version.Version.{Version}
use Rattle.ts_cert.specs.declared.version.Version.TheVariants.{V1, V2, V3}
use Rattle.ts_cert.specs.Certificate.{Tbs}

-- the fields that version 1 does not have, and where they are or would stand
pub record OptionalFields : Type 0 where
  pub issuerUniqueID : Option (ℕ × List ℕ)
  pub subjectUniqueID : Option (ℕ × List ℕ)
  pub extensions : Option (List Located)
  pub issuerUniqueID_at : ℕ
  pub subjectUniqueID_at : ℕ
  pub extensions_at : ℕ

-- the extensions, none where there is no such field
abbrev pub all_located : OptionalFields → List Located
all_located l = unwrap_or l.extensions []

-- what is signed, with the places of the fields that version 1 does not have
pub record LocatedTbs : Type 0 where
  pub fields : Tbs
  pub optional_fields : OptionalFields

-- a field that may not be there
abbrev pub must_lack : {A : Type 0} → Option A → ℕ → Option CertFault
must_lack None at = None
must_lack (Some x) at = Some (breaks at ExtensionsInOldVersion)

-- the first field that a version does not have (4.1.2.1): unique identifiers before version 2,
-- extensions before version 3
abbrev pub version_fault : Version → OptionalFields → Option CertFault
version_fault V1 l = must_lack l.issuerUniqueID l.issuerUniqueID_at or_else must_lack
    l.subjectUniqueID l.subjectUniqueID_at or_else must_lack l.extensions l.extensions_at
version_fault V2 l = must_lack l.extensions l.extensions_at
version_fault V3 l = None

-- the first rule that is broken: of versions, that no extension occurs twice (4.2), of the values
-- of extensions
abbrev pub extensions_fault : Version → OptionalFields → Option CertFault
extensions_fault v l = version_fault v l or_else extension_list_fault CertificateHolder
    (all_located l)
