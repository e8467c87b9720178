-- A name as a field, as it is read and encoded.
use Rattle.std.proofs.Common.{◌≡◌, ℕ, Bool, true, false, cond, not, eqb, List, [], ◌∷◌, Some, None, Ok, refl, sym, ap, ◌∙◌}
use Rattle.std.specs.Prelude.{drop}
use Rattle.std.proofs.lemmas.Bool.{eqb-true}
use Rattle.ts_der.specs.declared.fault.DerFault.{DerFault}
use Rattle.ts_der.specs.declared.fault.DerFault.TheVariants.{IntegerForm, OidForm, BitsForm}
use Rattle.ts_der.specs.declared.fault.Fault.{Fault}
use Rattle.ts_der.specs.Octets.{AreOctets}
use Rattle.ts_der.specs.Rules.{first_broken, value_unless}
use Rattle.ts_der.specs.Element.{Tlv, encode}
use Rattle.ts_der.specs.Integer.{is_shortest, integer_rules}
use Rattle.ts_der.specs.BitString.{whole_octets_rules}
use Rattle.ts_der.specs.ObjectIdentifier.{is_oid, oid_rules}
use Rattle.ts_der.specs.Reading.{at_element, value_at}
use Rattle.ts_der.proofs.Laws.{ok_is}
use Rattle.ts_name.specs.Names.{name_of, name_at}
use Rattle.ts_name.specs.NameEncoding.{IsName}
use Rattle.ts_shape.specs.Fields.{Within, IsOid, IsInteger, IsBits, oid_at, integer_at, bits_at}
use Rattle.ts_name.proofs.Shapes.{name-found, name-again}
use Rattle.ts_shape.proofs.Parts.{Part, within-part}

pub name-part : Part name_at (Within 0x30 IsName)
unfolding name_at
name-part = within-part 0x30 name_of IsName (record { found = λ e x fits w read. name-found e x fits read; again = λ e x w is. name-again e x is })
