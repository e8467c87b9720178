-- The first rule that a value breaks, found of one that is not kept.
use Rattle.std.proofs.Common.{◌≡◌, ℕ, Option, Some, Result, Ok, Err, sym, ap}
use Rattle.std.specs.Prelude.{option_map}
use Rattle.ts_der.specs.declared.fault.Fault.{Fault}
use Rattle.ts_der.specs.Answer.{Answers}
use Rattle.ts_der.specs.Element.{Tlv}
use Rattle.ts_shape.specs.declared.fault.CertFault.{CertFault}
use Rattle.ts_shape.specs.declared.fault.CertRule.{CertRule}
use Rattle.ts_shape.specs.Fault.{about, der, breaks}
use Rattle.ts_shape.specs.Shape.{◌or_else◌}
use Rattle.ts_shape.proofs.Judging.{Judged}
use Rattle.ts_ext.specs.declared.known.Known.{Known}
use Rattle.ts_ext.specs.Ext.{ExtValue, ext_of, ext_fault}
use Rattle.ts_extensions.specs.ValueRules.{rule_of, content_fault}
use Rattle.ts_ext.proofs.Exts.{ext-judged}

-- a rule, or a fault of DER, as the fault of an extension at a place
abbrev pub fault_at : ℕ → Result (Option CertRule) Fault → Option CertFault
fault_at at (Ok rule) = option_map (breaks at) rule
fault_at at (Err f) = Some (about f)

by_value : (at : ℕ) (checked : Result (Option CertRule) Fault) (read : Result ExtValue Fault) (o : Option CertFault)
    → Judged (der read) o (λ x. Unit {0}) → Answers (λ rule. rule) checked (rule_of read) → fault_at at checked ≡ (o or_else content_fault at read)
by_value at (Ok rule) (Ok x) o j a = rw (j.0) (ap (λ (r : Result (Option CertRule) Fault). fault_at at r) (sym a))
by_value at (Ok rule) (Err f) o j a = absurd cc
by_value at (Err g) (Ok x) o j a = absurd cc
by_value at (Err g) (Err f) o j a = rw (j) (ap (λ (r : Result (Option CertRule) Fault). fault_at at r) (sym a))

-- what is found of the value of an extension that is known so is the first rule that it breaks
pub value-checked : (read known : Option Known) (v : Tlv) (at : ℕ) (checked : Result (Option CertRule) Fault) → read ≡ known → Answers (λ rule. rule) checked (rule_of (ext_of read v))
    → fault_at at checked ≡ (ext_fault known v or_else content_fault at (ext_of known v))
value-checked read known v at checked same a = rw (← same) (by_value at checked (ext_of read v) (ext_fault read v) (ext-judged read v) a)
