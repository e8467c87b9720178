-- What a certificate says by an extension is the value that its octets encode.
use Rattle.std.proofs.Common.{◌≡◌, ◌↔◌, ◌∙◌, ℕ, List, Option, Some, None, Result, refl, sym, ap, subst}
use Rattle.std.specs.Option.{option_and_then}
use Rattle.std.specs.Result.{result_ok}
use Rattle.std.specs.Str.{bytes_eq}
use Rattle.std.proofs.lemmas.Slice.Eq.{bytes_eq-Decides}
use Rattle.ts_der.specs.declared.fault.Fault.{Fault}
use Rattle.ts_der.specs.Element.{Tlv, encoded_at}
use Rattle.ts_shape.specs.Fields.{Within}
use Rattle.ts_shape.specs.Items.{alone, of_tag}
use Rattle.ts_shape.specs.Shape.{Shape, ContentRules}
use Rattle.ts_shape.proofs.ItemParts.{tag-part, alone-again}
use Rattle.ts_ext.specs.declared.known.Holder.TheVariants.{Certificate as CertificateHolder}
use Rattle.ts_ext.specs.declared.known.Known.{Known}
use Rattle.ts_ext.specs.Ext.{ExtValue, IsContent, IsExt, layout_of}
use Rattle.ts_extensions.specs.Extension.{Extension}
use Rattle.ts_ext.specs.Known.{known_at, identifier_of}
use Rattle.ts_extensions.specs.Stated.{IsStated, IsValueOf}
use Rattle.ts_ext.proofs.Formats.{Format, value_of}
use Rattle.ts_cert.specs.Certificate.{Certificate, Tbs, all_extensions}
use Rattle.ts_cert.specs.Encoding.{IsCertificate}
use Rattle.ts_cert.specs.Stated.{IsEncoded, known_extension, value_of_octets, stated_value}
use Rattle.ts_cert.proofs.StatedValues.{find-sound}

-- octets that encode a value are read as it
reads : {A : Type 0} {value : Tlv → Result A Fault} {Is : List ℕ → A → Type 0} {shape : Shape} {rules : ContentRules} → Format value Is shape rules
    → (known : Known) (octets : List ℕ) (v : A) → Within (layout_of known).tag Is octets v → value_of_octets known value octets ≡ Some v
reads {A} {value} {Is} format known octets v is =
    let tag = (layout_of known).tag in
    ap (λ (r : Result A Fault). result_ok r) (alone-again (of_tag tag value) (Within tag Is) (tag-part tag value Is (value_of format tag)) (encoded_at 0 0x04 octets) v is)

-- where octets encode a value, they say that one
says_one : {A : Type 0} {value : Tlv → Result A Fault} {Is : List ℕ → A → Type 0} {shape : Shape} {rules : ContentRules} → Format value Is shape rules
    → (known : Known) (octets : List ℕ) (v : A) → Within (layout_of known).tag Is octets v → IsValueOf (Within (layout_of known).tag Is) octets (value_of_octets known value octets)
says_one {A} {value} {Is} format known octets v is =
    let says = reads format known octets v is in
    ((v, says), λ w. (λ e. subst (λ (u : A). Within (layout_of known).tag Is octets u) (some_is (sym says ∙ e)) is, λ other. reads format known octets w other))
  where
    some_is : {a b : A} → Some a ≡ Some b → a ≡ b
    some_is h = cc

pub encoded : {A : Type 0} {value : Tlv → Result A Fault} {Is : List ℕ → A → Type 0} {shape : Shape} {rules : ContentRules} → Format value Is shape rules
    → (known : Known) (form : A → ExtValue) → known_at CertificateHolder (identifier_of known) ≡ Some known → ((o : List ℕ) (x : ExtValue) → IsContent known o x → (v : A) × (x ≡ form v) × Is o v)
    → (octets : List ℕ) (c : Certificate) → IsCertificate octets c → IsEncoded known value Is c.tbsCertificate
unfolding stated_value
encoded {A} {value} {Is} format known form here unformed octets c is = by_extension (known_extension known c.tbsCertificate) refl
  where
    by_extension : (o : Option Extension) → known_extension known c.tbsCertificate ≡ o
        → IsStated (Within (layout_of known).tag Is) o (option_and_then (λ x. value_of_octets known value x.extnValue) o)
    by_extension None stands = refl
    by_extension (Some x) stands =
        let f = find-sound CertificateHolder (λ y. bytes_eq y.extnID (identifier_of known)) (all_extensions c.tbsCertificate) x is.sound stands in
        let same : x.extnID ≡ identifier_of known = (bytes_eq-Decides x.extnID (identifier_of known)).0 f.1 in
        let w : IsExt (Some known) x.extnValue f.0.0 = subst (λ (o : Option Known). IsExt o x.extnValue f.0.0) (ap (λ (id : List ℕ). known_at CertificateHolder id) same ∙ here) f.0.1 in
        let v = unformed w.content f.0.0 w.value in
        says_one format known x.extnValue v.0 (record { content = w.content; fits = w.fits; encoded = w.encoded; value = v.2 })
