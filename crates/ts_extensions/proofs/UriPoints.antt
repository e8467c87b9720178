-- Distribution points that are known by one URI.
use Rattle.std.proofs.Common.{◌≡◌, ◌≢◌, ℕ, Bool, not, eqb, ◌+◌, ◌%◌, ◌<◌, ◌≤◌, true, false, List, [], ◌∷◌, ◌++◌, length, get_or, take, drop, refl, sym, ap, ◌∙◌, arith}
use Rattle.std.specs.Prelude.{None, map}
use Rattle.std.specs.List.{list_all}
use Rattle.std.proofs.lemmas.Bool.{eq-eqb, false≢true}
use Rattle.std.proofs.lemmas.List.{append-nil, length-take-le, take-append-drop}
use Rattle.ts_der.specs.Element.{length_octets}
use Rattle.ts_der.specs.Text.{is_ascii}
use Rattle.ts_der.proofs.Lengths.{length_octets-short}
use Rattle.ts_der.proofs.Standing.{encoded-out}
use Rattle.ts_shape.specs.Fields.{Within}
use Rattle.ts_shape.specs.Items.{AreItems}
use Rattle.ts_name.specs.General.{uniformResourceIdentifier, IsGeneralName}
use Rattle.ts_ext.specs.Ext.{cRLDistributionPoints}
use Rattle.ts_ext.specs.GeneralNames.{AreGeneralNames}
use Rattle.ts_ext.specs.Points.{fullName, IsPointName, IsPoint, point_of_uri}
use Rattle.ts_ext.specs.Rules.{has_addresses, broken_rule}

not-true : (b : Bool) → not b ≡ true → b ≡ false
not-true false e = refl
not-true true e = absurd cc

-- an element of few octets
pub few-within : {A : Type 0} (tag n : ℕ) (Encodes : List ℕ → A → Type 0) (content : List ℕ) (x : A)
    → tag < 256 → tag % 32 ≢ 31 → length content ≡ n → n < 128 → Encodes content x
    → Within tag Encodes (tag ∷ n ∷ content) x
few-within tag n Encodes content x octet low count few is =
    let form : length_octets (length content) ≡ n ∷ [] = ap length_octets count ∙ length_octets-short n few in
    record { content = content; fits = record { octet = octet; low = low; short = omega (arith, count) }; encoded = ap (λ (o : List ℕ). tag ∷ (o ++ content)) (sym form); value = is }

-- the octets in front of a URI
pub record UriPoint (points : List ℕ) : Type 0 where
  pub eight : 8 ≤ length points
  pub point : get_or points 0 0 ≡ 0x30
  pub outer : get_or points 1 0 ≡ get_or points 7 0 + 6
  pub named : get_or points 2 0 ≡ 0xA0
  pub inner : get_or points 3 0 ≡ get_or points 7 0 + 4
  pub full : get_or points 4 0 ≡ 0xA0
  pub names : get_or points 5 0 ≡ get_or points 7 0 + 2
  pub identifier : get_or points 6 0 ≡ 0x86
  pub few : get_or points 7 0 ≤ 121
  pub enough : get_or points 7 0 ≤ length (drop 8 points)
  pub ascii : is_ascii (take (get_or points 7 0) (drop 8 points)) ≡ true

-- names that are one URI
uri-names : (uri : List ℕ) (n : ℕ) → length uri ≡ n → n < 128 → is_ascii uri ≡ true → AreGeneralNames (0x86 ∷ n ∷ uri) (uniformResourceIdentifier uri ∷ [])
uri-names uri n count few ascii =
    let form : length_octets (length uri) ≡ n ∷ [] = ap length_octets count ∙ length_octets-short n few in
    let one : IsGeneralName (0x86 ∷ n ∷ uri) (uniformResourceIdentifier uri) = record {
      tag = 0x86;
      content = uri;
      fits = record { octet = omega arith; low = λ e. omega arith; short = omega (arith, count) };
      encoded = ap (λ (o : List ℕ). 0x86 ∷ (o ++ uri)) (sym form);
      form = (refl, (refl, ascii));
    } in
    ((λ e. absurd cc), (0x86 ∷ n ∷ uri, [], one, sym (append-nil (0x86 ∷ n ∷ uri)), refl))

-- the point that begins with them
one-point : (uri : List ℕ) (n : ℕ) → length uri ≡ n → n ≤ 121 → is_ascii uri ≡ true → Within 0x30 IsPoint (0x30 ∷ (n + 6) ∷ 0xA0 ∷ (n + 4) ∷ 0xA0 ∷ (n + 2) ∷ 0x86 ∷ n ∷ uri) (point_of_uri uri)
one-point uri n count few ascii =
    let names : List ℕ = 0x86 ∷ n ∷ uri in
    let form : length_octets (length names) ≡ (n + 2) ∷ [] = ap length_octets (omega (arith, count)) ∙ length_octets-short (n + 2) (omega arith) in
    let name : IsPointName (0xA0 ∷ (n + 2) ∷ names) (fullName (uniformResourceIdentifier uri ∷ [])) = record {
      tag = 0xA0;
      content = names;
      fits = record { octet = omega arith; low = λ e. omega arith; short = omega (arith, count) };
      encoded = ap (λ (o : List ℕ). 0xA0 ∷ (o ++ names)) (sym form);
      form = (refl, uri-names uri n count (omega arith) ascii);
    } in
    let wrapped = few-within 0xA0 (n + 4) IsPointName (0xA0 ∷ (n + 2) ∷ names) _ (omega arith) (λ e. omega arith) (omega (arith, count)) (omega arith) name in
    let point : IsPoint (0xA0 ∷ (n + 4) ∷ 0xA0 ∷ (n + 2) ∷ names) (point_of_uri uri) = record {
      named = 0xA0 ∷ (n + 4) ∷ 0xA0 ∷ (n + 2) ∷ names;
      flags = [];
      issued_by = [];
      distributionPoint = wrapped;
      reasons = refl;
      cRLIssuer = refl;
      fields = sym (append-nil (0xA0 ∷ (n + 4) ∷ 0xA0 ∷ (n + 2) ∷ names));
    } in
    few-within 0x30 (n + 6) IsPoint (0xA0 ∷ (n + 4) ∷ 0xA0 ∷ (n + 2) ∷ names) (point_of_uri uri) (omega arith) (λ e. omega arith) (omega (arith, count)) (omega arith) point

-- and what is behind it
pub uri-point : (points : List ℕ) → UriPoint points
    → (first : List ℕ) × (uri : List ℕ) × Within 0x30 IsPoint first (point_of_uri uri) × (points ≡ first ++ drop (get_or points 7 0) (drop 8 points))
uri-point points h =
    let size : ℕ = get_or points 7 0 in
    let more : List ℕ = drop 8 points in
    let uri : List ℕ = take size more in
    let here = encoded-out points 0 8 8 refl h.eight in
    let front : points ≡ 0x30 ∷ (size + 6) ∷ 0xA0 ∷ (size + 4) ∷ 0xA0 ∷ (size + 2) ∷ 0x86 ∷ size ∷ more = here ∙ rw (h.point, h.outer, h.named, h.inner, h.full, h.names, h.identifier) refl in (
      0x30 ∷ (size + 6) ∷ 0xA0 ∷ (size + 4) ∷ 0xA0 ∷ (size + 2) ∷ 0x86 ∷ size ∷ uri,
      uri,
      one-point uri size (length-take-le size more h.enough) h.few h.ascii,
      front ∙ ap (λ (o : List ℕ). 0x30 ∷ (size + 6) ∷ 0xA0 ∷ (size + 4) ∷ 0xA0 ∷ (size + 2) ∷ 0x86 ∷ size ∷ o) (sym (take-append-drop size more)),
    )

-- one such point more, at the front
pub uris-more : (points first more uri : List ℕ) (uris : List (List ℕ))
    → Within 0x30 IsPoint first (point_of_uri uri) → points ≡ first ++ more
    → AreItems (Within 0x30 IsPoint) more (map point_of_uri uris)
    → AreItems (Within 0x30 IsPoint) points (map point_of_uri (uri ∷ uris))
uris-more points first more uri uris is whole rest = (first, more, is, whole, rest)

-- octets that are not empty are one item or more
pub some-items : {A : Type 0} (Encodes : List ℕ → A → Type 0) (octets : List ℕ) (xs : List A) (empty : Bool) → empty ≡ eqb (length octets) 0 → not empty ≡ true → AreItems Encodes octets xs → xs ≢ []
some-items Encodes octets [] empty is other none = λ e. absurd (false≢true (sym (not-true empty other) ∙ (is ∙ eq-eqb (length octets) 0 (ap (λ (o : List ℕ). length o) none))))
some-items Encodes octets (x ∷ xs) empty is other all = λ e. absurd cc

-- points that are URIs break no rule
uris-in-order : (uris : List (List ℕ)) → list_all has_addresses (map point_of_uri uris) ≡ true
uris-in-order [] = refl
uris-in-order (uri ∷ uris) = uris-in-order uris

pub uris-unbroken : (uris : List (List ℕ)) → broken_rule (cRLDistributionPoints (map point_of_uri uris)) ≡ None
uris-unbroken uris = rw (uris-in-order uris) refl
