-- Where the parts of a certificate (RFC 5280 4.1) begin while it is read, and once it is.
use Rattle.std.specs.Prelude.{◌≡◌, ℕ, ◌≤◌, false, List, [], ◌++◌, length, drop, Option, None}
use Rattle.ts_der.specs.Stands.{HavePart}
use Rattle.ts_der.specs.Reading.{begins_with}
use Rattle.ts_shape.specs.Fields.{IfAny}
use Rattle.ts_shape.specs.Repeats.{first_repeated}
use Rattle.ts_ext.specs.declared.known.Holder.TheVariants.{Certificate as CertificateHolder}
use Rattle.ts_extensions.specs.Extension.{Extension, AreExplicit}
use Rattle.ts_extensions.specs.ValueRules.{AreValid}
use Rattle.ts_cert.specs.declared.version.Version.TheVariants.{V3}
use Rattle.ts_cert.specs.Encoding.{version_octets}

-- the encoding of a value lies between two offsets
pub record Spans {A : Type 0} (Encodes : List ℕ → A → Type 0) (octets : List ℕ)
    (from to : ℕ) : Type 0 where
  pub value : A
  pub part : List ℕ
  pub here : HavePart octets from part to
  pub encoded : Encodes part value
  pub ends : to ≤ length octets

-- extensions after their explicit tag, of which none occurs twice and each has a sound value
abbrev pub AreValidExplicit : List ℕ → List Extension → Type 0
AreValidExplicit content xs = AreExplicit content xs
    × (first_repeated (λ x. x.extnID) [] xs ≡ None) × AreValid CertificateHolder xs

-- the octets between two offsets occur once more between two others
pub record IsRepeated (octets : List ℕ) (at from to end : ℕ) : Type 0 where
  pub part : List ℕ
  pub first : HavePart octets from part to
  pub second : HavePart octets at part end
  pub ends : end ≤ length octets

-- version 3 is between two offsets
pub record IsVersion3 (octets : List ℕ) (at end : ℕ) : Type 0 where
  pub here : HavePart octets at (version_octets V3) end
  pub ends : end ≤ length octets

-- the encoding of a value begins at an offset
pub record HoldsEncoding {A : Type 0} (Encodes : List ℕ → A → Type 0) (octets : List ℕ) (at : ℕ)
    (x : A) : Type 0 where
  pub part : List ℕ
  pub rest : List ℕ
  pub here : drop at octets ≡ part ++ rest
  pub encoded : Encodes part x
  pub begins : at ≤ length octets

-- the same for a field that may be absent
pub record HoldsEncodingIfAny {A : Type 0} (tag : ℕ) (Encodes : List ℕ → A → Type 0)
    (octets : List ℕ)
    (at : ℕ) (x : Option A) : Type 0 where
  pub part : List ℕ
  pub rest : List ℕ
  pub here : drop at octets ≡ part ++ rest
  pub encoded : IfAny tag Encodes part x
  pub other : begins_with tag rest ≡ false
  pub begins : at ≤ length octets
