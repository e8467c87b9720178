-- Distribution points (RFC 5280 4.2.1.13), and what a list covers (5.2.5).
use Rattle.std.specs.Prelude.{◌≡◌, ℕ, ◌++◌, ◌==◌, Bool, List, [], ◌∷◌, Option, Some, None, Result}
use Rattle.std.specs.Prelude.{Ok, Err, if◌then◌else◌}
use Rattle.ts_der.specs.declared.fault.DerFault.TheVariants.{WrongTag}
use Rattle.ts_der.specs.declared.fault.Fault.{Fault}
use Rattle.ts_der.specs.Answer.{◌>>=◌}
use Rattle.ts_der.specs.Element.{Tlv, inside}
use Rattle.ts_der.specs.Reading.{fault_at, end_at}
use Rattle.ts_der.specs.Default.{flag_at}
use Rattle.ts_name.specs.Canon.{Attr}
use Rattle.ts_name.specs.Names.{rdn_of}
use Rattle.ts_name.specs.NameEncoding.{IsRdnContent}
use Rattle.ts_shape.specs.Fields.{Within, IfAny, optional_of}
use Rattle.ts_shape.specs.Items.{alone, of_tag, some_of, AreSome, IsChoice}
use Rattle.ts_name.specs.General.{GeneralName, uniformResourceIdentifier}
use Rattle.ts_shape.specs.Rows.{set_rules}
use Rattle.ts_name.specs.NameRows.{attribute_type_and_value}
use Rattle.ts_shape.specs.Shape.{Row, Shape, tagged, no_other, optional, items, nothing, ◌then◌}
use Rattle.ts_shape.specs.Shape.{◌or◌, der_rules, no_rules, primitive, sequence}
use Rattle.ts_ext.specs.Encoding.{IfTrue, AreReasonFlags}
use Rattle.ts_ext.specs.Reading.{reason_flags_of}
use Rattle.ts_ext.specs.Table.{flag, reason_flags_rules}
use Rattle.ts_ext.specs.GeneralNames.{AreGeneralNames, general_names_of, general_names}

-- ---- names of distribution points

-- DistributionPointName, by its names
pub data PointName : Type 0 where
  fullName : List GeneralName → PointName
  nameRelativeToCRLIssuer : List Attr → PointName

-- DistributionPointName ::= CHOICE { fullName [0] GeneralNames, nameRelativeToCRLIssuer [1]
-- RelativeDistinguishedName }
abbrev pub IsPointForm : ℕ → List ℕ → PointName → Type 0
IsPointForm tag content (fullName names) = (tag ≡ 0xA0) × AreGeneralNames content names
IsPointForm tag content (nameRelativeToCRLIssuer rdn) = (tag ≡ 0xA1) × IsRdnContent content rdn

abbrev pub IsPointName : List ℕ → PointName → Type 0
IsPointName = IsChoice IsPointForm

unfoldable pub point_name_of : Tlv → Result PointName Fault
point_name_of e =
    if e.tag == 0xA0 then (general_names_of e >>= λ names. Ok (fullName names))
    else (if e.tag == 0xA1 then (rdn_of e >>= λ rdn. Ok (nameRelativeToCRLIssuer rdn))
    else Err (fault_at e.at WrongTag))

abbrev pub full_name : Row
full_name = general_names 0xA0

abbrev pub relative_name : Row
relative_name = tagged 0xA1 (items attribute_type_and_value) (der_rules set_rules) no_other

abbrev pub point_name : Row
point_name = full_name or relative_name

-- [0] DistributionPointName, explicit since it is a CHOICE
abbrev pub wrapped_name_of : Tlv → Result PointName Fault
wrapped_name_of = alone point_name_of

abbrev pub wrapped_name : Row
wrapped_name = tagged 0xA0 (point_name then nothing) no_rules no_other

-- ---- distribution points

pub record Point : Type 0 where
  pub distributionPoint : Option PointName
  pub reasons : Option (List Bool)
  pub cRLIssuer : Option (List GeneralName)

-- DistributionPoint ::= SEQUENCE { distributionPoint [0] DistributionPointName OPTIONAL, reasons
-- [1] ReasonFlags OPTIONAL, cRLIssuer [2] GeneralNames OPTIONAL } (4.2.1.13)
pub record IsPoint (content : List ℕ) (p : Point) : Type 0 where
  pub named : List ℕ
  pub flags : List ℕ
  pub issued_by : List ℕ
  pub distributionPoint : IfAny 0xA0 IsPointName named p.distributionPoint
  pub reasons : IfAny 0x81 AreReasonFlags flags p.reasons
  pub cRLIssuer : IfAny 0xA2 AreGeneralNames issued_by p.cRLIssuer
  pub fields : content ≡ named ++ (flags ++ issued_by)

-- a point that is known by one URI, and by nothing else
abbrev pub point_of_uri : List ℕ → Point
point_of_uri uri = record {
  distributionPoint = Some
      (fullName (uniformResourceIdentifier uri ∷ []));
  reasons = None;
  cRLIssuer = None;
}

unfoldable pub point_of : Tlv → Result Point Fault
point_of e = do
  name ← optional_of 0xA0 wrapped_name_of (inside e)
  reasons ← optional_of 0x81 reason_flags_of name.1
  issuer ← optional_of 0xA2 general_names_of reasons.1
  done ← end_at issuer.1
  Ok (record { distributionPoint = name.0; reasons = reasons.0; cRLIssuer = issuer.0 })

abbrev pub point_fields : Shape
point_fields = optional wrapped_name then optional (primitive 0x81 reason_flags_rules)
    then optional (general_names 0xA2) then nothing

-- DistributionPoint, in a SEQUENCE
abbrev pub point_item : Tlv → Result Point Fault
point_item = of_tag 0x30 point_of

-- CRLDistributionPoints ::= SEQUENCE SIZE (1..MAX) OF DistributionPoint (4.2.1.13); FreshestCRL is
-- the same (4.2.1.15, 5.2.6)
abbrev pub ArePoints : List ℕ → List Point → Type 0
ArePoints = AreSome (Within 0x30 IsPoint)

abbrev pub points_of : Tlv → Result (List Point) Fault
points_of = some_of point_item

abbrev pub points_items : Shape
points_items = items (sequence point_fields)

-- ---- the scope of a list

pub record ListScope : Type 0 where
  pub distributionPoint : Option PointName
  pub onlyContainsUserCerts : Bool
  pub onlyContainsCACerts : Bool
  pub onlySomeReasons : Option (List Bool)
  pub indirectCRL : Bool
  pub onlyContainsAttributeCerts : Bool

-- IssuingDistributionPoint ::= SEQUENCE { distributionPoint [0] DistributionPointName OPTIONAL,
-- onlyContainsUserCerts [1] BOOLEAN DEFAULT FALSE, onlyContainsCACerts [2] BOOLEAN DEFAULT FALSE,
-- onlySomeReasons [3] ReasonFlags OPTIONAL, indirectCRL [4] BOOLEAN DEFAULT FALSE,
-- onlyContainsAttributeCerts [5] BOOLEAN DEFAULT FALSE } (5.2.5)
pub record IsIssuingPoint (content : List ℕ) (p : ListScope) : Type 0 where
  pub named : List ℕ
  pub user : List ℕ
  pub ca : List ℕ
  pub flags : List ℕ
  pub indirect : List ℕ
  pub attribute : List ℕ
  pub distributionPoint : IfAny 0xA0 IsPointName named p.distributionPoint
  pub onlyContainsUserCerts : IfTrue 0x81 user p.onlyContainsUserCerts
  pub onlyContainsCACerts : IfTrue 0x82 ca p.onlyContainsCACerts
  pub onlySomeReasons : IfAny 0x83 AreReasonFlags flags p.onlySomeReasons
  pub indirectCRL : IfTrue 0x84 indirect p.indirectCRL
  pub onlyContainsAttributeCerts : IfTrue 0x85 attribute p.onlyContainsAttributeCerts
  pub fields : content ≡ named ++ (user ++ (ca ++ (flags ++ (indirect ++ attribute))))

unfoldable pub issuing_point_of : Tlv → Result ListScope Fault
issuing_point_of e = do
  name ← optional_of 0xA0 wrapped_name_of (inside e)
  user ← flag_at 0x81 name.1
  ca ← flag_at 0x82 user.1
  reasons ← optional_of 0x83 reason_flags_of ca.1
  indirect ← flag_at 0x84 reasons.1
  attribute ← flag_at 0x85 indirect.1
  done ← end_at attribute.1
  Ok (record {
    distributionPoint = name.0;
    onlyContainsUserCerts = user.0;
    onlyContainsCACerts = ca.0;
    onlySomeReasons = reasons.0;
    indirectCRL = indirect.0;
    onlyContainsAttributeCerts = attribute.0;
  })

abbrev pub issuing_point_fields : Shape
issuing_point_fields =
    optional wrapped_name then optional (flag 0x81) then optional (flag 0x82)
    then optional (primitive 0x83 reason_flags_rules)
    then optional (flag 0x84) then optional (flag 0x85) then nothing
