use Rattle.std.proofs.Common.{◌≡◌, List, [], None, Ok, refl}
use Rattle.std.specs.Result.{result_unwrap_or}
use Rattle.ts_der.specs.Answer.{refusal}
use Rattle.ts_der.specs.Element.{Tlv, inside}
use Rattle.ts_der.specs.Reading.{many}
use Rattle.ts_der.specs.View.{now}
use Rattle.ts_name.specs.Canon.{Attr}
use Rattle.ts_name.specs.Names.{rdn_of, attribute_at}
use Rattle.ts_shape.proofs.Walks.{not_refused_is}
use Rattle.ts_name.proofs.Shapes.{rdn_items}
use Rattle.ts_name.proofs.name_reading.read_rdn.Goals as goal

-- a relative distinguished name that was not refused, and its attributes
read : (e : Tlv) → None ≡ refusal (rdn_of e) → (xs : List Attr) × (rdn_of e ≡ Ok xs) × (many attribute_at (inside e) ≡ Ok xs)
read e ok =
    let xs = result_unwrap_or (rdn_of e) [] in
    let r = not_refused_is (rdn_of e) [] ok in
    (xs, r, rdn_items e xs r)

pub invariant_of-result : goal.invariant_of-result
invariant_of-result c = let r = read (now c.args.element) c.in_ok-check_rdn.ensures in record { form = rw r.2 refl }

pub returns : goal.returns
returns c = let r = read (now c.args.element) c.in_ok-check_rdn.ensures in rw r.2 r.1
