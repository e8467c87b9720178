-- The numbers of the rules that a certificate's octets can break: 1 to 17 those of DER, 32 to 38
-- those of certificates.
use Rattle.std.specs.Prelude.{ℕ, Result, Ok, Err}
use Rattle.ts_der.specs.declared.fault.DerFault.{DerFault}
use Rattle.ts_der.specs.declared.fault.DerFault.TheVariants.{Truncated, HighTag, Indefinite}
use Rattle.ts_der.specs.declared.fault.DerFault.TheVariants.{LongLength, TooLarge, WrongTag}
use Rattle.ts_der.specs.declared.fault.DerFault.TheVariants.{Trailing, IntegerForm, BooleanForm}
use Rattle.ts_der.specs.declared.fault.DerFault.TheVariants.{BitsForm, NamedBits, OidForm, SetOrder}
use Rattle.ts_der.specs.declared.fault.DerFault.TheVariants.{DefaultEncoded, TextForm, TimeForm}
use Rattle.ts_der.specs.declared.fault.DerFault.TheVariants.{Empty}
use Rattle.ts_der.specs.declared.fault.Fault.{Fault}
use Rattle.ts_shape.specs.declared.fault.CertRule.{CertRule}
use Rattle.ts_shape.specs.declared.fault.CertRule.TheVariants.{Der, AlgorithmMismatch}
use Rattle.ts_shape.specs.declared.fault.CertRule.TheVariants.{DuplicateExtension, Version}
use Rattle.ts_shape.specs.declared.fault.CertRule.TheVariants.{ExtensionsInOldVersion}
use Rattle.ts_shape.specs.declared.fault.CertRule.TheVariants.{SubtreeBounds, DuplicatePolicy}
use Rattle.ts_shape.specs.declared.fault.CertRule.TheVariants.{AddressLength}
use Rattle.ts_shape.specs.declared.fault.CertFault.{CertFault}

-- the number of a rule of DER
abbrev pub der_code_of : DerFault → ℕ
der_code_of Truncated = 1
der_code_of HighTag = 2
der_code_of Indefinite = 3
der_code_of LongLength = 4
der_code_of TooLarge = 5
der_code_of WrongTag = 6
der_code_of Trailing = 7
der_code_of IntegerForm = 8
der_code_of BooleanForm = 9
der_code_of BitsForm = 10
der_code_of NamedBits = 11
der_code_of OidForm = 12
der_code_of SetOrder = 13
der_code_of DefaultEncoded = 14
der_code_of TextForm = 15
der_code_of TimeForm = 16
der_code_of Empty = 17

-- the number of a rule
abbrev pub code_of : CertRule → ℕ
code_of (Der rule) = der_code_of rule
code_of AlgorithmMismatch = 32
code_of DuplicateExtension = 33
code_of Version = 34
code_of ExtensionsInOldVersion = 35
code_of SubtreeBounds = 36
code_of DuplicatePolicy = 37
code_of AddressLength = 38

-- a fault of DER, as one of a certificate at the same place
abbrev pub about : Fault → CertFault
about f = record { kind = Der f.kind; at = f.at }

-- a rule of DER that is broken is one that a certificate breaks, at the same place
abbrev pub der : {A : Type 0} → Result A Fault → Result A CertFault
der (Ok x) = Ok x
der (Err f) = Err (about f)

-- a rule that is broken, with its place
abbrev pub breaks : ℕ → CertRule → CertFault
breaks at kind = record { kind = kind; at = at }
