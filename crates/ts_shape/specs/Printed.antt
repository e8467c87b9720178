-- The names by which the rules are printed.
use Rattle.std.specs.Prelude.{ℕ, List, codes}
use Rattle.ts_der.specs.Printed.{fault_name}
use Rattle.ts_shape.specs.declared.fault.CertRule.{CertRule}
use Rattle.ts_shape.specs.declared.fault.CertRule.TheVariants.{Der, AlgorithmMismatch}
use Rattle.ts_shape.specs.declared.fault.CertRule.TheVariants.{DuplicateExtension, Version}
use Rattle.ts_shape.specs.declared.fault.CertRule.TheVariants.{ExtensionsInOldVersion}
use Rattle.ts_shape.specs.declared.fault.CertRule.TheVariants.{SubtreeBounds, DuplicatePolicy}
use Rattle.ts_shape.specs.declared.fault.CertRule.TheVariants.{AddressLength}

-- the name of a rule; of a rule of DER that which it has there
abbrev pub rule_name : CertRule → List ℕ
rule_name (Der rule) = fault_name rule
rule_name AlgorithmMismatch = codes "AlgorithmMismatch"
rule_name DuplicateExtension = codes "DuplicateExtension"
rule_name Version = codes "Version"
rule_name ExtensionsInOldVersion = codes "ExtensionsInOldVersion"
rule_name SubtreeBounds = codes "SubtreeBounds"
rule_name DuplicatePolicy = codes "DuplicatePolicy"
rule_name AddressLength = codes "AddressLength"
