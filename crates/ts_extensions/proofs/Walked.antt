-- A walk over extensions that judges them on its way.
use Rattle.std.proofs.Common.{◌≡◌, ℕ, Bool, true, false, List, [], ◌∷◌, ◌++◌, Option, Some, None, Ok, Err, refl, sym, ap, ◌∙◌}
use Rattle.ts_der.specs.Element.{Place, Tlv}
use Rattle.ts_der.specs.Reading.{element_at, is_end, many}
use Rattle.ts_der.proofs.Many.{with_front, goes_on, breaks_off}
use Rattle.ts_der.specs.declared.fault.Fault.{Fault}
use Rattle.ts_shape.specs.declared.fault.CertFault.{CertFault}
use Rattle.ts_shape.specs.Items.{each, items_at}
use Rattle.ts_shape.specs.Fields.{within}
use Rattle.ts_shape.specs.Repeats.{first_repeated, HaveEnds, is_among}
use Rattle.ts_shape.specs.Shape.{◌or_else◌}
use Rattle.ts_shape.proofs.FirstRepeats.{seen-next}
use Rattle.ts_shape.proofs.ItemParts.{each-tag, each-consumes, walk-step}
use Rattle.ts_ext.specs.declared.known.Holder.{Holder}
use Rattle.ts_extensions.specs.Extension.{Located, located_of, located_in}
use Rattle.ts_extensions.specs.ValueRules.{value_fault, values_fault}

-- what was found up to here, of the extensions at a first place
abbrev pub Walked : Holder → Place → Place → Option CertFault → Bool → List Bool → Type 0
Walked holder first here fault own ends =
    ((front : List Located) × (with_front front (many (each located_in) here) ≡ many (each located_in) first))
    × ((fault or_else values_fault holder (items_at located_in here)) ≡ values_fault holder (items_at located_in first))
    × (own ≡ true → (keys : List (List ℕ)) × HaveEnds keys ends
    × (first_repeated (λ x. x.extnID) [] (items_at located_in first) ≡ first_repeated (λ x. x.extnID) keys (items_at located_in here)))

-- what is found of one extension more
pub record Finds (holder : Holder) (x : Located) (had has : Option CertFault) (own still : Bool) (ends others : List Bool) : Type 0 where
  pub fault : has ≡ (had or_else value_fault holder x)
  pub before : still ≡ true → own ≡ true
  pub new : (keys : List (List ℕ)) → HaveEnds keys ends → still ≡ true → is_among x.extnID keys ≡ false
  pub met : (keys : List (List ℕ)) → HaveEnds keys ends → HaveEnds (x.extnID ∷ keys) others

grouped : (a b c : Option CertFault) → ((a or_else b) or_else c) ≡ (a or_else (b or_else c))
grouped None b c = refl
grouped (Some f) b c = refl

pub walked-on : (holder : Holder) (first here after : Place) (x : Located) (fault next : Option CertFault) (own still : Bool) (ends others : List Bool) → is_end here.rest ≡ false
    → within 0x30 located_of here ≡ Ok (x, after) → Finds holder x fault next own still ends others → Walked holder first here fault own ends → Walked holder first after next still others
walked-on holder first here after x fault next own still ends others more next-is one i =
    let read = each-tag 0x30 located_of here ∙ next-is in
    let step = walk-step located_in here x after more read in
    let later = values_fault holder (items_at located_in after) in (
      (i.0.0 ++ x ∷ [], goes_on (each located_in) (each-consumes located_in) i.0.0 here x after (many (each located_in) first) more read i.0.1),
      ap (λ (o : Option CertFault). o or_else later) one.fault
          ∙ (grouped fault (value_fault holder x) later ∙ (ap (λ (xs : List Located). fault or_else values_fault holder xs) (sym step) ∙ i.1)),
      λ is.
          let before = i.2 (one.before is) in (
            x.extnID ∷ before.0,
            one.met before.0 before.1,
            before.2 ∙ seen-next (λ (y : Located). y.extnID) before.0 _ x (items_at located_in after) step (one.new before.0 before.1 is),
          ),
    )

-- what is next, of an element with the tag of an extension
pub stands : (here : Place) (e : Tlv) (after : Place) (x : Located) → element_at 0x30 here ≡ Ok (e, after) → located_of e ≡ Ok x → within 0x30 located_of here ≡ Ok (x, after)
unfolding within
stands here e after x element read = rw (element, read) refl

pub no-element : (here : Place) (f : Fault) → element_at 0x30 here ≡ Err f → within 0x30 located_of here ≡ Err f
unfolding within
no-element here f element = rw element refl

pub no-extension : (here : Place) (e : Tlv) (after : Place) (f : Fault) → element_at 0x30 here ≡ Ok (e, after) → located_of e ≡ Err f → within 0x30 located_of here ≡ Err f
unfolding within
no-extension here e after f element read = rw (element, read) refl

-- all is broken where what is next is
pub broken-off : (first here : Place) (f : Fault) (front : (front : List Located) × (with_front front (many (each located_in) here) ≡ many (each located_in) first)) → is_end here.rest ≡ false
    → within 0x30 located_of here ≡ Err f → many (each located_in) first ≡ Err f
broken-off first here f front more read =
    breaks_off (each located_in) (each-consumes located_in) front.0 here f (many (each located_in) first) more (each-tag 0x30 located_of here ∙ read) front.1
