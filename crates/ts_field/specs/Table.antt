-- The rows that the tables of certificates and of revocation lists share (RFC 5280 4.1.1.2,
-- 4.1.2.5, as restated in Appendix A.1).
use Rattle.std.specs.Prelude.{ℕ, not, List, is_some}
use Rattle.ts_der.specs.declared.fault.DerFault.TheVariants.{TimeForm}
use Rattle.ts_der.specs.Element.{Place}
use Rattle.ts_time.specs.Reading.{utc_in, generalized_time_in}
use Rattle.ts_shape.specs.declared.fault.CertRule.TheVariants.{Der}
use Rattle.ts_shape.specs.Shape.{Row, any, optional, nothing, ◌then◌, one_rule, primitive, sequence}
use Rattle.ts_shape.specs.Shape.{◌or◌}
use Rattle.ts_shape.specs.Rows.{object_identifier}

-- UTCTime in its one form (4.1.2.5.1)
abbrev pub utc_time : Row
utc_time = primitive 0x17 (one_rule (Der TimeForm) (λ c. not (is_some (utc_in c))))

-- GeneralizedTime in its one form (4.1.2.5.2)
abbrev pub generalized_time : Row
generalized_time = primitive 0x18
    (one_rule (Der TimeForm) (λ c. not (is_some (generalized_time_in c))))

-- Time ::= CHOICE { utcTime UTCTime, generalTime GeneralizedTime } (4.1.2.5)
abbrev pub time : Row
time = utc_time or generalized_time

-- AlgorithmIdentifier ::= SEQUENCE { algorithm OBJECT IDENTIFIER, parameters ANY DEFINED BY
-- algorithm OPTIONAL } (4.1.1.2)
abbrev pub algorithm_identifier : Row
algorithm_identifier = sequence (object_identifier then optional any then nothing)

-- the input, from its first octet on
abbrev pub from_front : List ℕ → Place
from_front octets = record { rest = octets; at = 0 }
