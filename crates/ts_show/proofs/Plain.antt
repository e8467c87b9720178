-- What is shown as it is.
use Rattle.std.proofs.Common.{◌≡◌, refl}
use Rattle.ts_der.specs.declared.fault.DerFault.{DerFault}
use Rattle.ts_der.specs.declared.fault.DerFault.TheVariants as der
use Rattle.ts_der.specs.Printed.{fault_name}
use Rattle.ts_shape.specs.declared.fault.CertRule.{CertRule}
use Rattle.ts_shape.specs.declared.fault.CertRule.TheVariants as rule
use Rattle.ts_shape.specs.Printed.{rule_name}
use Rattle.ts_line.specs.Lines.{printable}

shown_name : (fault : DerFault) → printable (fault_name fault) ≡ fault_name fault
shown_name der.Truncated = refl
shown_name der.HighTag = refl
shown_name der.Indefinite = refl
shown_name der.LongLength = refl
shown_name der.TooLarge = refl
shown_name der.WrongTag = refl
shown_name der.Trailing = refl
shown_name der.IntegerForm = refl
shown_name der.BooleanForm = refl
shown_name der.BitsForm = refl
shown_name der.NamedBits = refl
shown_name der.OidForm = refl
shown_name der.SetOrder = refl
shown_name der.DefaultEncoded = refl
shown_name der.TextForm = refl
shown_name der.TimeForm = refl
shown_name der.Empty = refl

pub shown_rule : (rule : CertRule) → printable (rule_name rule) ≡ rule_name rule
shown_rule (rule.Der fault) = shown_name fault
shown_rule rule.AlgorithmMismatch = refl
shown_rule rule.DuplicateExtension = refl
shown_rule rule.Version = refl
shown_rule rule.ExtensionsInOldVersion = refl
shown_rule rule.SubtreeBounds = refl
shown_rule rule.DuplicatePolicy = refl
shown_rule rule.AddressLength = refl
