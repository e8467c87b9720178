-- An algorithm identifier (RFC 5280 4.1.1.2): what it says, its one encoding, and how it is read.
use Rattle.std.specs.Prelude.{◌≡◌, ℕ, List, [], ◌++◌, Option, Some, None, unwrap_or, Result, Ok}
use Rattle.std.specs.Prelude.{if◌then◌else◌}
use Rattle.ts_der.specs.declared.fault.Fault.{Fault}
use Rattle.ts_der.specs.Answer.{◌>>=◌}
use Rattle.ts_der.specs.Element.{Place, Tlv, inside, encode}
use Rattle.ts_der.specs.Reading.{is_end, next_at, end_at}
use Rattle.ts_shape.specs.Fields.{Within, IsAny, IsOid, within, oid_at}

-- AlgorithmIdentifier: the content of the algorithm's OBJECT IDENTIFIER, the parameters as a whole
-- element, and all of it
pub record Algorithm : Type 0 where
  pub algorithm : List ℕ
  pub parameters : Option (List ℕ)
  pub whole : List ℕ

-- ---- its encoding

-- parameters ANY DEFINED BY algorithm OPTIONAL
abbrev pub AreParameters : Option (List ℕ) → Type 0
AreParameters None = Unit {0}
AreParameters (Some octets) = IsAny octets

-- AlgorithmIdentifier ::= SEQUENCE { algorithm OBJECT IDENTIFIER, parameters }
pub record IsAlgorithm (content : List ℕ) (a : Algorithm) : Type 0 where
  pub oid : List ℕ
  pub algorithm : Within 0x06 IsOid oid a.algorithm
  pub parameters : AreParameters a.parameters
  pub fields : content ≡ oid ++ unwrap_or a.parameters []
  pub whole : a.whole ≡ encode 0x30 content

-- ---- reading it, up to the first rule that is broken

-- the element that is left, if any is
unfoldable pub parameters_at : Place → Result (Option (List ℕ) × Place) Fault
parameters_at here = if is_end here.rest then Ok (None, here)
    else (next_at here >>= λ e. Ok (Some e.0.whole, e.1))

-- AlgorithmIdentifier ::= SEQUENCE { algorithm OBJECT IDENTIFIER, parameters }
unfoldable pub algorithm_of : Tlv → Result Algorithm Fault
algorithm_of e = do
  algorithm ← oid_at (inside e)
  parameters ← parameters_at algorithm.1
  done ← end_at parameters.1
  Ok (record { algorithm = algorithm.0; parameters = parameters.0; whole = e.whole })

unfoldable pub algorithm_at : Place → Result (Algorithm × Place) Fault
algorithm_at = within 0x30 algorithm_of
