-- A step of a loop over items.
use Rattle.std.specs.Prelude.{◌≡◌, Result, Ok, Err}
use Rattle.ts_der.specs.declared.fault.Fault.{Fault}
use Rattle.ts_der.specs.Element.{Place}
use Rattle.ts_shape.specs.declared.fault.CertFault.{CertFault}

-- a call returned what reading gives, and left the reader there; at a fault nothing is claimed of
-- the reader
abbrev pub Takes : {X Y : Type 0} → (X → Y) → Place → Result X Fault → Result (Y × Place) Fault
    → Type 0
Takes view new (Ok x) reading = reading ≡ Ok (view x, new)
Takes view new (Err f) reading = reading ≡ Err f

-- the same for a call that only looks
abbrev pub Passes : {Y : Type 0} → Place → Result (Unit {0}) Fault → Result (Y × Place) Fault
    → Type 0
Passes {Y} new (Ok done) reading = (y : Y) × (reading ≡ Ok (y, new))
Passes new (Err f) reading = reading ≡ Err f

-- the same for a call that may break a rule of certificates
abbrev pub TakesIn : {X Y : Type 0} → (X → Y) → Place → Result X CertFault
    → Result (Y × Place) CertFault → Type 0
TakesIn view new (Ok x) reading = reading ≡ Ok (view x, new)
TakesIn view new (Err f) reading = reading ≡ Err f
