-- What making a certificate answers.
use Rattle.std.specs.Prelude.{◌≡◌, ℕ, ◌<◌, ◌≤◌, ◌⊎◌, true, List, [], length, None, Result, Ok, Err}
use Rattle.std.specs.Prelude.{is_ok}
use Rattle.std.specs.declared.vec.Vec.{Vec}
use Rattle.std.specs.declared.alloc.Global.{Global}
use Rattle.ts_der.specs.declared.fault.DerFault.TheVariants.{TimeForm}
use Rattle.ts_shape.specs.declared.fault.CertRule.TheVariants.{Der}
use Rattle.ts_shape.specs.Repeats.{first_repeated}
use Rattle.ts_time.specs.Civil.{IsInYears}
use Rattle.ts_ext.specs.declared.known.Holder.TheVariants.{Certificate}
use Rattle.ts_extensions.specs.Extension.{Extension}
use Rattle.ts_extensions.specs.ValueRules.{AreValid}
use Rattle.ts_cert.specs.Reading.{certificate_of}
use Rattle.ts_make.specs.declared.description.CertText.{CertText}
use Rattle.ts_make.specs.declared.fault.MakeFault.{MakeFault}
use Rattle.ts_make.specs.Extensions.{described_extensions}
use Rattle.ts_make.specs.declared.fault.MakeFault.TheVariants.{Memory, TooLong, Unreadable}

-- of the octets of a certificate: they are returned where reading takes them, and else the answer
-- says why not
abbrev pub AnswersMade : Result (Vec ℕ Global) MakeFault → List ℕ → Type 0
AnswersMade (Ok v) octets = (v.items ≡ octets) × (length octets ≤ 65536)
    × (is_ok (certificate_of octets) ≡ true)
AnswersMade (Err TooLong) octets = 65536 < length octets
AnswersMade (Err (Unreadable fault)) octets =
    (length octets ≤ 65536) × (certificate_of octets ≡ Err fault)
AnswersMade (Err Memory) octets = Unit {0}

-- extensions that a certificate may have: none occurs twice (4.2), and the value of each is one
-- that it has
pub record AreAllowed (extensions : List Extension) : Type 0 where
  pub distinct : first_repeated (λ x. x.extnID) [] extensions ≡ None
  pub sound : AreValid Certificate extensions

-- what was written is refused only for a time, where a moment lies outside the years 0 to 9999, or
-- for extensions that a certificate may not have
abbrev pub IsRefusal : CertText → MakeFault → Type 0
IsRefusal text Memory = Unit {0}
IsRefusal text TooLong = Unit {0}
IsRefusal text (Unreadable fault) =
    (fault.kind ≡ Der TimeForm) × (¬ (IsInYears 0 9999 text.from) ⊎ ¬ (IsInYears 0 9999 text.to))
    ⊎ ¬ (AreAllowed (described_extensions text.extensions.now))
