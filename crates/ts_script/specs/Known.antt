-- What a script has named so far.
use Rattle.std.specs.Prelude.{ℕ, if◌then◌else◌, List, [], ◌∷◌, map, Option, Some, None}
use Rattle.std.specs.Str.{bytes_eq}
use Rattle.std.specs.declared.vec.Vec.{Vec}
use Rattle.std.specs.declared.alloc.Global.{Global}
use Rattle.ts_script.specs.declared.symbols.Item.{Item}
use Rattle.ts_script.specs.declared.symbols.Item.TheVariants as kept
use Rattle.ts_script.specs.declared.symbols.Symbols.{Symbols}

-- what a name stands for: a certificate or a CRL, as its octets
pub data Thing : Type 0 where
  certificate : List ℕ → Thing
  revocation_list : List ℕ → Thing

-- a name, and what it stands for
abbrev pub Entry : Type 0
Entry = List ℕ × Thing

abbrev pub thing_in : Item → Thing
thing_in (kept.Certificate cert) = certificate cert.octets.items
thing_in (kept.List octets) = revocation_list octets.items

abbrev pub entry_in : Vec ℕ Global × Item → Entry
entry_in e = (e.0.items, thing_in e.1)

abbrev pub known_in : Symbols → List Entry
known_in known = map entry_in known.things.entries

-- what a name stands for, by its first entry
abbrev pub thing_named : List Entry → List ℕ → Option Thing
thing_named [] name = None
thing_named (e ∷ known) name = if bytes_eq name e.0 then Some e.1 else thing_named known name

-- the octets of a certificate
abbrev pub certificate_in : Option Thing → Option (List ℕ)
certificate_in None = None
certificate_in (Some (certificate octets)) = Some octets
certificate_in (Some (revocation_list octets)) = None

-- those of the certificate that a name stands for
abbrev pub certificate_named : List Entry → List ℕ → Option (List ℕ)
certificate_named known name = certificate_in (thing_named known name)
