-- The parts of extensions about policies (RFC 5280 4.2.1.4, 4.2.1.5): what their octets say, in the
-- standard's field names. An object identifier is the content of its element.
use Rattle.std.specs.Prelude.{ℕ, List, Option}

-- PolicyQualifierInfo (4.2.1.4): the qualifier is a whole element, of any type
pub record Qualifier : Type 0 where
  pub policyQualifierId : List ℕ
  pub qualifier : List ℕ

-- PolicyInformation (4.2.1.4)
pub record Information : Type 0 where
  pub policyIdentifier : List ℕ
  pub policyQualifiers : Option (List Qualifier)

-- a member of PolicyMappings (4.2.1.5)
pub record Mapping : Type 0 where
  pub issuerDomainPolicy : List ℕ
  pub subjectDomainPolicy : List ℕ
