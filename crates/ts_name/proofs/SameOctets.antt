-- An element with the octets of a name is read as that name.
use Rattle.std.proofs.Common.{◌≡◌, [], List, ℕ, Ok, true, subst, sym, ap, ◌∙◌}
use Rattle.std.specs.Result.{result_unwrap_or}
use Rattle.std.specs.Prelude.{Result}
use Rattle.ts_der.specs.declared.fault.Fault.{Fault}
use Rattle.ts_der.specs.Element.{Tlv, inside}
use Rattle.ts_der.specs.Octets.{AreOctets}
use Rattle.ts_der.specs.Reading.{many}
use Rattle.ts_name.specs.Canon.{Attr}
use Rattle.ts_name.specs.Names.{name_of, rdns_from, are_rdns, rdn_at}
use Rattle.ts_name.specs.NameEncoding.{IsName}
use Rattle.ts_shape.proofs.Walks.{ok_unwrapped}
use Rattle.ts_name.proofs.Shapes.{name-found, name-again}

pub again : (e f : Tlv) → AreOctets e.content → are_rdns (inside e) ≡ true → e.content ≡ f.content
    → many rdn_at (inside f) ≡ Ok (rdns_from (inside e))
unfolding name_of
again e f fits ok same =
    let read = ok_unwrapped (many rdn_at (inside e)) [] ok in
    let is = name-found e (rdns_from (inside e)) fits read in
    name-again f (rdns_from (inside e))
    (subst (λ (o : List ℕ). IsName o (rdns_from (inside e))) same is)

-- names of the same octets are the same names
pub same_rdns : (e f : Tlv) → AreOctets e.content → are_rdns (inside e) ≡ true
    → e.content ≡ f.content → rdns_from (inside e) ≡ rdns_from (inside f)
same_rdns e f fits ok same = sym (ap
    (λ (r : Result (List (List Attr)) Fault). result_unwrap_or r []) (again e f fits ok same))
