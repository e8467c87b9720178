-- The names of a description are encoded so.
use Rattle.std.proofs.Common.{◌≡◌, ℕ, ◌≤◌, true, List, [], ◌∷◌, ◌++◌, length, refl, arith, length-append, None}
use Rattle.std.specs.List.{flat_map, AllByRecursion}
use Rattle.std.specs.Str.{IsUtf8}
use Rattle.std.proofs.lemmas.Str.{is_utf8-from_IsUtf8}
use Rattle.ts_der.specs.Rules.{first_broken}
use Rattle.ts_der.specs.Element.{Fits, encode}
use Rattle.ts_der.specs.ObjectIdentifier.{is_oid, series_of, subidentifier, arcs, IsOid}
use Rattle.ts_name.specs.Names.{text_rules}
use Rattle.ts_name.specs.NameEncoding.{attribute_content, rdn_content, encoded_rdn, IsRdn, IsName}
use Rattle.ts_shape.specs.Fields.{Within}
use Rattle.ts_make.specs.declared.description.AttributeType.{AttributeType}
use Rattle.ts_make.specs.declared.description.AttributeType.TheVariants.{CommonName, OrganizationName}
use Rattle.ts_make.specs.declared.description.RdnText.{RdnText}
use Rattle.ts_make.specs.Description.{kind_octets, kind_arcs, rdn_in, rdns_in}
use Rattle.ts_make.specs.Sayable.{AreTexts}
use Rattle.ts_make.specs.Made.{name_octets}
use Rattle.ts_make.proofs.StandIns.{content-short, fits-sequence}

kind-is : (kind : AttributeType) → is_oid (kind_octets kind) ≡ true
unfolding is_oid series_of subidentifier
kind-is CommonName = refl
kind-is OrganizationName = refl

-- the same in the words of X.690
pub kind-oid : (kind : AttributeType) → IsOid (kind_octets kind) (kind_arcs kind)
unfolding arcs series_of subidentifier
kind-oid CommonName = record { form = kind-is CommonName; value = refl }
kind-oid OrganizationName = record { form = kind-is OrganizationName; value = refl }

text-is : (text : List ℕ) → IsUtf8 text → first_broken (text_rules 0x0C) text ≡ None
text-is text is = rw (is_utf8-from_IsUtf8 text is) refl

-- a relative distinguished name of one attribute
rdn-is : (r : RdnText) → IsUtf8 r.text.now → length (encoded_rdn (rdn_in r)) ≤ 4194304 → IsRdn (rdn_in r) × Fits 0x31 (rdn_content (rdn_in r))
unfolding rdn_content attribute_content
rdn-is r text le =
    let kind = kind_octets r.kind in
    let value = r.text.now in
    let fields = encode 0x06 kind ++ encode 0x0C value in
    let attributes = encode 0x30 fields ++ [] in
    let set = content-short 0x31 attributes in
    let both = length-append (encode 0x30 fields) [] in
    let attribute = content-short 0x30 fields in
    let two = length-append (encode 0x06 kind) (encode 0x0C value) in
    let last = content-short 0x0C value in
    let fits-value : Fits 0x0C value = record { octet = omega arith; low = omega arith; short = omega arith } in
    let fits-fields : Fits 0x30 fields = fits-sequence fields (omega arith) in (
      record {
        some = λ none. absurd (cc);
        each = ((record { kind = kind-is r.kind; value = fits-value; text = text-is value text }, fits-fields), tt);
        ordered = refl;
      },
      record { octet = omega arith; low = omega arith; short = omega arith },
    )

each-is : (rdns : List RdnText) → AreTexts rdns → length (flat_map encoded_rdn (rdns_in rdns)) ≤ 4194304 → AllByRecursion (λ r. IsRdn r × Fits 0x31 (rdn_content r)) (rdns_in rdns)
each-is [] texts le = tt
each-is (r ∷ rdns) texts le =
    let both = length-append (encoded_rdn (rdn_in r)) (flat_map encoded_rdn (rdns_in rdns)) in
    (rdn-is r texts.0 (omega arith), each-is rdns texts.1 (omega arith))

-- a name
pub name-is : (rdns : List RdnText) → AreTexts rdns → length (name_octets rdns) ≤ 4194304 → Within 0x30 IsName (name_octets rdns) (rdns_in rdns)
unfolding name_octets
name-is rdns texts le =
    let content = flat_map encoded_rdn (rdns_in rdns) in
    let short = content-short 0x30 content in
    record {
      content = content;
      fits = fits-sequence content (omega arith);
      encoded = refl;
      value = record { each = each-is rdns texts (omega arith); whole = refl };
    }
