-- The contents octets of a name are its encoding.
use Rattle.std.proofs.Common.{◌≡◌, true, List, [], Result, Ok, Err, refl}
use Rattle.std.specs.Prelude.{is_ok}
use Rattle.std.specs.Result.{result_unwrap_or}
use Rattle.ts_der.specs.declared.fault.Fault.{Fault}
use Rattle.ts_der.specs.Element.{Tlv, inside}
use Rattle.ts_der.specs.Octets.{AreOctets}
use Rattle.ts_der.specs.Reading.{many}
use Rattle.ts_name.specs.Canon.{Attr}
use Rattle.ts_name.specs.Names.{are_rdns, name_of, rdn_at, rdns_from}
use Rattle.ts_name.proofs.Shapes.{name-found}
use Rattle.ts_listing.specs.Listing.{name_content}

was_read : (r : Result (List (List Attr)) Fault) → is_ok r ≡ true → r ≡ Ok (result_unwrap_or r [])
was_read (Ok x) is = refl
was_read (Err e) is = absurd (cc is)

pub content_is : (e : Tlv) → AreOctets e.content → are_rdns (inside e) ≡ true → e.content ≡ name_content (rdns_from (inside e))
unfolding name_of
content_is e octets form = (name-found e (rdns_from (inside e)) octets (was_read (many rdn_at (inside e)) form)).whole
