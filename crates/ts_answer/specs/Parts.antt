-- The parts of a question that are read: its initial subtrees and its certificates; and the first
-- of them that can't be.
use Rattle.std.specs.Prelude.{ℕ, ◌+◌, List, [], ◌∷◌, None, option_map, Option}
use Rattle.std.specs.Result.{result_unwrap_or}
use Rattle.ts_name.specs.General.{GeneralName, otherName}
use Rattle.ts_name.specs.Subtree.{GeneralSubtree, constraint_of}
use Rattle.ts_name.specs.SubtreeTable.{constraint_fault}
use Rattle.ts_shape.specs.Shape.{◌or_else◌}
use Rattle.ts_shape.specs.declared.fault.CertFault.{CertFault}
use Rattle.ts_cert.specs.Table.{certificate_fault}
use Rattle.ts_question.specs.declared.question.Target.{Target}
use Rattle.ts_question.specs.declared.question.Target.TheVariants.{Chain, Search, Store, Log}
use Rattle.ts_question.specs.declared.terms.Terms.{Terms}
use Rattle.ts_question.specs.Question.{StoreQuestion}

-- a part, 0 for an initial subtree and else the certificate, counted from 1; and the first rule
-- that its octets break
pub record Unreadable : Type 0 where
  pub index : ℕ
  pub fault : CertFault

abbrev pub unreadable : ℕ → CertFault → Unreadable
unreadable index fault = record { index = index; fault = fault }

-- the first subtree that is none (RFC 5280 4.2.1.10)
abbrev pub first_subtree : List (List ℕ) → Option Unreadable
first_subtree [] = None
first_subtree (octets ∷ others) =
    option_map (unreadable 0) (constraint_fault octets) or_else first_subtree others

-- the first certificate that is none, where the first of the list has this place
abbrev pub first_certificate : ℕ → List (List ℕ) → Option Unreadable
first_certificate place [] = None
first_certificate place (octets ∷ others) = option_map (unreadable place)
    (certificate_fault octets) or_else first_certificate (place + 1) others

abbrev pub certificates_of : Target → List (List ℕ)
certificates_of (Chain anchor certificates) = certificates
certificates_of (Search certificates) = certificates
certificates_of (Store from) = []
certificates_of (Log from) = []

-- the permitted subtrees are read first, then the excluded ones, then the certificates in their
-- order
unfoldable pub first_part : Terms → List (List ℕ) → Option Unreadable
first_part terms certificates = first_subtree terms.permitted_subtrees or_else
    (first_subtree terms.excluded_subtrees or_else first_certificate 1 certificates)

abbrev pub first_unreadable : StoreQuestion → Option Unreadable
first_unreadable q = first_part q.terms (certificates_of q.target)

-- ---- what is read

abbrev pub no_subtree : GeneralSubtree
no_subtree = record { base = otherName []; minimum = []; maximum = None }

-- the name at which a subtree begins; of octets that are none it says nothing
abbrev pub subtree_base : List ℕ → GeneralName
subtree_base octets = (result_unwrap_or (constraint_of octets) no_subtree).base
