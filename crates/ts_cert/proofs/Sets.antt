-- Equations of what certificates say have one proof at most.
use Rattle.std.proofs.Common.{◌≡◌, ℕ, List, Option, Result}
use Rattle.std.proofs.Props.{props}
use Rattle.ts_name.specs.Canon.{Attr}
use Rattle.ts_shape.specs.declared.fault.CertFault.{CertFault}
use Rattle.ts_extensions.specs.Extension.{Extension}
use Rattle.ts_field.specs.Algorithm.{Algorithm}
use Rattle.ts_cert.specs.declared.version.Version.{Version}
use Rattle.ts_cert.specs.Certificate.{KeyInfo, Certificate}
use Rattle.ts_cert.specs.declared.validity.Validity.{Validity}

pub octets-one : (a b : List ℕ) → IsProp (a ≡ b)
octets-one a b = Prim.hlevel props

pub version-one : (a b : Version) → IsProp (a ≡ b)
version-one a b = Prim.hlevel props

pub names-one : (a b : List (List Attr)) → IsProp (a ≡ b)
names-one a b = Prim.hlevel props

pub validity-one : (a b : Validity) → IsProp (a ≡ b)
validity-one a b = Prim.hlevel props

pub algorithm-one : (a b : Algorithm) → IsProp (a ≡ b)
algorithm-one a b = Prim.hlevel props

pub key-one : (a b : KeyInfo) → IsProp (a ≡ b)
key-one a b = Prim.hlevel props

pub id-one : (a b : Option (ℕ × List ℕ)) → IsProp (a ≡ b)
id-one a b = Prim.hlevel props

pub extensions-one : (a b : Option (List Extension)) → IsProp (a ≡ b)
extensions-one a b = Prim.hlevel props

pub certificate-one : (a b : Certificate) → IsProp (a ≡ b)
certificate-one a b = Prim.hlevel props

pub read-one : (a b : Result Certificate CertFault) → IsProp (a ≡ b)
read-one a b = Prim.hlevel props
