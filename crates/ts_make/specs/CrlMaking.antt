-- What making a CRL answers.
use Rattle.std.specs.Prelude.{◌≡◌, ℕ, ◌<◌, ◌≤◌, ◌⊎◌, ◌^◌, List, [], length, None, Result, Ok, Err}
use Rattle.std.specs.List.{AllByRecursion}
use Rattle.std.specs.declared.vec.Vec.{Vec}
use Rattle.std.specs.declared.alloc.Global.{Global}
use Rattle.ts_der.specs.declared.fault.DerFault.TheVariants.{TimeForm}
use Rattle.ts_shape.specs.declared.fault.CertRule.TheVariants.{Der}
use Rattle.ts_shape.specs.Repeats.{first_repeated}
use Rattle.ts_time.specs.Civil.{IsInYears}
use Rattle.ts_ext.specs.declared.known.Holder.TheVariants.{List as ListHolder}
use Rattle.ts_extensions.specs.Extension.{Extension}
use Rattle.ts_extensions.specs.ValueRules.{AreValid}
use Rattle.ts_crl.specs.Fault.{ListFault, broken, criticalCrlExtension, deltaCrl}
use Rattle.ts_crl.specs.List.{CertificateList}
use Rattle.ts_crl.specs.Rules.{all_as_ruled}
use Rattle.ts_crl.specs.Table.{crl_of}
use Rattle.ts_make.specs.declared.crl_description.EntryText.{EntryText}
use Rattle.ts_make.specs.declared.crl_description.CrlText.{CrlText}
use Rattle.ts_make.specs.declared.fault.MakeFault.{MakeFault}
use Rattle.ts_make.specs.declared.fault.MakeFault.TheVariants.{Memory, TooLong, Unreadable}
use Rattle.ts_make.specs.Sayable.{AreTexts}
use Rattle.ts_make.specs.Told.{IsSmallIfAny}
use Rattle.ts_make.specs.CrlExtensions.{crl_extensions}

-- no rule that has a place is broken
abbrev pub IsWhole : Result CertificateList ListFault → Type 0
IsWhole (Ok c) = Unit {0}
IsWhole (Err (broken fault)) = ⊥
IsWhole (Err other) = Unit {0}

-- reading takes the octets, or refuses them for a critical extension that it does not process or as
-- a delta without a number, and for nothing else
abbrev pub IsTaken : Result CertificateList ListFault → Type 0
IsTaken (Ok c) = Unit {0}
IsTaken (Err (criticalCrlExtension oid)) = Unit {0}
IsTaken (Err deltaCrl) = Unit {0}
IsTaken (Err other) = ⊥

-- of the octets of a list: they are returned where their reading is as is asked, and else the
-- answer says why not: they are too long, or a rule that has a place is broken
abbrev pub AnswersCrl : (Result CertificateList ListFault → Type 0)
    → Result (Vec ℕ Global) MakeFault → List ℕ → Type 0
AnswersCrl Reads (Ok v) octets = (v.items ≡ octets) × (length octets ≤ 4194304)
    × Reads (crl_of octets)
AnswersCrl Reads (Err TooLong) octets = 4194304 < length octets
AnswersCrl Reads (Err (Unreadable fault)) octets =
    (length octets ≤ 4194304) × (crl_of octets ≡ Err (broken fault))
AnswersCrl Reads (Err Memory) octets = Unit {0}

-- the serial numbers of entries are u32s
abbrev pub AreSerials : List EntryText → Type 0
AreSerials es = AllByRecursion (λ e. e.serial < 2 ^ 32) es

-- what the types of a description say of it, wherever the code reads them: the texts of the name
-- are UTF-8, and the numbers u32s
pub record IsSayableCrl (text : CrlText) : Type 0 where
  pub issuer : AreTexts text.issuer.now
  pub entries : AreSerials text.entries.now
  pub number : IsSmallIfAny text.number
  pub base : IsSmallIfAny text.base

-- extensions that a list may have: none occurs twice (4.2), and the value of each is one that it
-- has (5.2)
pub record AreAllowedInCrl (extensions : List Extension) : Type 0 where
  pub distinct : first_repeated (λ x. x.extnID) [] extensions ≡ None
  pub sound : AreValid ListHolder (all_as_ruled ListHolder extensions)

-- what was written is refused only for a time, where a moment lies outside the years 0 to 9999, or
-- for extensions that a list may not have
abbrev pub IsCrlRefusal : CrlText → MakeFault → Type 0
IsCrlRefusal text Memory = Unit {0}
IsCrlRefusal text TooLong = Unit {0}
IsCrlRefusal text (Unreadable fault) =
    (fault.kind ≡ Der TimeForm) × (¬ (IsInYears 0 9999 text.this_update)
    ⊎ ¬ (IsInYears 0 9999 text.next_update))
    ⊎ ¬ (AreAllowedInCrl (crl_extensions text))
