-- Why octets are no list that can be used: a rule of its shape and of its extensions with a place,
-- or one of this profile without (RFC 5280 5, 6.3).
use Rattle.std.specs.Prelude.{◌≡◌, ℕ, List, ◌++◌, codes, Result, Ok, Err}
use Rattle.std.specs.Fmt.{decimal}
use Rattle.ts_shape.specs.declared.fault.CertFault.{CertFault}
use Rattle.ts_shape.specs.Fault.{code_of}
use Rattle.ts_shape.specs.Printed.{rule_name}
use Rattle.ts_crl.specs.declared.fault.CrlFault.{CrlFault}
use Rattle.ts_crl.specs.declared.fault.CrlFault.TheVariants as borrowed

pub data ListFault : Type 0 where
  -- a rule that has a place
  broken : CertFault → ListFault
  -- nextUpdate is absent (5.1.2.5)
  noNextUpdate : ListFault
  -- a critical extension is not processed, by the content of its object identifier (5.2, 5.3)
  criticalCrlExtension : List ℕ → ListFault
  -- the list states what has changed since another one, and has no number (5.2.3, 5.2.4)
  deltaCrl : ListFault
  -- the list has certificates of other issuers (5.2.5, 5.3.3)
  indirect : ListFault
  -- the list's name is relative to that of its issuer (5.2.5)
  relativeName : ListFault

-- what contracts see of a fault
abbrev pub fault_in : CrlFault → ListFault
fault_in (borrowed.Broken fault) = broken fault
fault_in borrowed.NoNextUpdate = noNextUpdate
fault_in (borrowed.CriticalCrlExtension oid) = criticalCrlExtension oid.now
fault_in borrowed.DeltaCrl = deltaCrl
fault_in borrowed.Indirect = indirect
fault_in borrowed.RelativeName = relativeName

-- the number of a fault: of one that has a place that of its rule
abbrev pub fault_code : ListFault → ℕ
fault_code (broken fault) = code_of fault.kind
fault_code noNextUpdate = 48
fault_code (criticalCrlExtension oid) = 49
fault_code deltaCrl = 50
fault_code indirect = 51
fault_code relativeName = 52

-- what is printed of a fault: the name of the rule, and its place where it has one
abbrev pub fault_text : ListFault → List ℕ
fault_text (broken fault) = rule_name fault.kind ++ (codes " at " ++ decimal fault.at)
fault_text noNextUpdate = codes "NoNextUpdate"
fault_text (criticalCrlExtension oid) = codes "CriticalCrlExtension"
fault_text deltaCrl = codes "DeltaCrl"
fault_text indirect = codes "Indirect"
fault_text relativeName = codes "RelativeName"

-- a call returned, seen by view, what reading gives, and its fault seen likewise
abbrev pub AnswersBy : {X Y E F : Type 0} → (X → Y) → (E → F) → Result X E → Result Y F → Type 0
AnswersBy view see (Ok x) reading = reading ≡ Ok (view x)
AnswersBy view see (Err e) reading = reading ≡ Err (see e)
