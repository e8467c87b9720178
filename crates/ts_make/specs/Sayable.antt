-- What the types of a description say of it: they say it wherever the code reads them.
use Rattle.std.specs.Prelude.{ℕ, ◌<◌, ◌^◌, List, Result, Ok, Err}
use Rattle.std.specs.List.{AllByRecursion}
use Rattle.std.specs.Str.{IsUtf8}
use Rattle.std.specs.declared.vec.Vec.{Vec}
use Rattle.std.specs.declared.alloc.Global.{Global}
use Rattle.ts_make.specs.declared.description.RdnText.{RdnText}
use Rattle.ts_make.specs.declared.description.CertText.{CertText}
use Rattle.ts_make.specs.declared.fault.MakeFault.{MakeFault}
use Rattle.ts_make.specs.declared.fault.MakeFault.TheVariants.{Memory, TooLong, Unreadable}

-- the texts of a name are UTF-8
abbrev pub AreTexts : List RdnText → Type 0
AreTexts rdns = AllByRecursion (λ r. IsUtf8 r.text.now) rdns

-- the serial number is a u32, and the texts of both names are UTF-8
pub record IsSayable (text : CertText) : Type 0 where
  pub serial : text.serial < 2 ^ 32
  pub issuer : AreTexts text.issuer.now
  pub subject : AreTexts text.subject.now

-- a fact for a call that wrote all of a certificate, also one that was then refused
abbrev pub IfWritten : Result (Vec ℕ Global) MakeFault → Type 0 → Type 0
IfWritten (Ok v) P = P
IfWritten (Err Memory) P = Unit {0}
IfWritten (Err TooLong) P = Unit {0}
IfWritten (Err (Unreadable fault)) P = P
