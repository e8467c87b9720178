-- Extensions that are others than the one that is looked for.
use Rattle.std.proofs.Common.{◌≡◌, ℕ, Bool, true, false, not, nat_eq, ◌&&◌, List, [], ◌∷◌, Result, Ok, refl, sym, ap, subst, ◌∙◌}
use Rattle.std.specs.Str.{bytes_eq}
use Rattle.ts_der.specs.declared.fault.Fault.{Fault}
use Rattle.ts_der.specs.Answer.{◌>>=◌}
use Rattle.ts_der.specs.Element.{Place, Tlv}
use Rattle.ts_der.specs.Reading.{is_end, element_at}
use Rattle.ts_der.proofs.Laws.{bind_ok, ok_is}
use Rattle.ts_shape.specs.Fields.{within}
use Rattle.ts_shape.specs.Items.{items_at}
use Rattle.ts_shape.proofs.ItemParts.{each-tag, walk-step}
use Rattle.ts_extensions.specs.Extension.{Extension, Located, unlocated, located_of, located_in, IsExtension}
use Rattle.ts_extensions.proofs.ExtensionParts.{extension-again}

other_arc : (other arc : ℕ) → not (nat_eq other arc) ≡ true → bytes_eq (0x55 ∷ 0x1D ∷ other ∷ []) (0x55 ∷ 0x1D ∷ arc ∷ []) ≡ false
other_arc other arc is = by_test (nat_eq other arc) is
  where
    by_test : (b : Bool) → not b ≡ true → (b && true) ≡ false
    by_test true is = sym is
    by_test false is = refl

pub another : (e : Tlv) (other arc : ℕ) (critical : Bool) (value : List ℕ)
    → IsExtension e.content (record { extnID = 0x55 ∷ 0x1D ∷ other ∷ []; critical = critical; extnValue = value })
    → not (nat_eq other arc) ≡ true
    → (x : Located) × (located_of e ≡ Ok x) × (bytes_eq x.extnID (0x55 ∷ 0x1D ∷ arc ∷ []) ≡ false)
another e other arc critical value is differs =
    let y : Extension = record { extnID = 0x55 ∷ 0x1D ∷ other ∷ []; critical = critical; extnValue = value } in
    let s = bind_ok (located_of e) (λ x. Ok (unlocated x)) y (extension-again e y is) in
    let same : unlocated s.0 ≡ y = ok_is {A = Extension} {E = Fault} (unlocated s.0) y s.2 in
    (s.0, s.1, ap (λ (z : Extension). bytes_eq z.extnID (0x55 ∷ 0x1D ∷ arc ∷ [])) same ∙ other_arc other arc differs)

pub passed : (here after : Place) (e : Tlv) (x : Located) → is_end here.rest ≡ false
    → element_at 0x30 here ≡ Ok (e, after) → located_of e ≡ Ok x
    → items_at located_in here ≡ x ∷ items_at located_in after
unfolding within
passed here after e x more read is =
    walk-step located_in here x after more (each-tag 0x30 located_of here ∙ rw (read, is) refl)
