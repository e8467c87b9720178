-- A relative distinguished name of one attribute with lengths of one octet.
use Rattle.std.proofs.Common.{◌≡◌, ◌≢◌, ℕ, ◌+◌, ◌%◌, ◌<◌, ◌≤◌, Bool, true, false, cond, eqb, ◌||◌, List, [], ◌∷◌, length, drop, get_or, take, ◌++◌, None, Result, Ok, Err, refl, sym, ap, ◌∙◌, arith}
use Rattle.std.specs.Prelude.{is_ok, IsTrue, ◌↔◌}
use Rattle.std.specs.Str.{IsAscii}
use Rattle.std.proofs.lemmas.Bool.{eqb-true}
use Rattle.std.proofs.lemmas.Str.{IsUtf8-from_ascii}
use Rattle.std.proofs.lemmas.List.{append-nil, length-take-le, take-append-drop}
use Rattle.ts_der.specs.declared.fault.Fault.{Fault}
use Rattle.ts_der.specs.Octets.{AreOctets}
use Rattle.ts_der.specs.Answer.{refusal}
use Rattle.ts_der.specs.Rules.{first_broken}
use Rattle.ts_der.specs.Reading.{many}
use Rattle.ts_der.specs.Element.{Tlv, length_octets, encode, Fits}
use Rattle.ts_der.specs.Text.{is_ascii, utf8_rules, ascii_rules}
use Rattle.ts_der.proofs.FewOctets.{three_go}
use Rattle.ts_der.proofs.Lengths.{length_octets-short}
use Rattle.ts_der.proofs.Lanes.{ascii-drop, ascii-take}
use Rattle.ts_der.proofs.Standing.{encoded-out}
use Rattle.ts_der.proofs.Texts.{is_utf8_is, below-all, all-below}
use Rattle.ts_name.specs.Canon.{Attr}
use Rattle.ts_name.specs.Names.{text_rules, rdn_at, name_of}
use Rattle.ts_name.specs.NameEncoding.{attribute_content, rdn_content, encoded_rdn, IsAttribute, IsRdn, IsRdnContent, IsName}
use Rattle.ts_shape.proofs.Walks.{not_refused_is, refused_is}
use Rattle.ts_name.proofs.Shapes.{name-found, name-again}
use Rattle.ts_der.proofs.Laws.{err_not_ok}

-- octets of ASCII break no rule of text
pub ascii-text : (tag : ℕ) (octets : List ℕ) → IsAscii octets → first_broken (text_rules tag) octets ≡ None
ascii-text tag octets ascii = by_tag (eqb tag 0x0C) (eqb tag 0x13 || eqb tag 0x16)
  where
    by_tag : (utf8 ia5 : Bool) → first_broken (cond utf8 utf8_rules (cond ia5 ascii_rules [])) octets ≡ None
    by_tag true ia5 = rw (is_utf8_is octets (IsUtf8-from_ascii octets ascii)) refl
    by_tag false true = rw (below-all octets ascii) refl
    by_tag false false = refl

-- what is in front of the value
pub record Front (content : List ℕ) : Type 0 where
  pub nine : 9 ≤ length content
  pub sequence : get_or content 0 0 ≡ 0x30
  pub long : get_or content 1 0 ≡ 7 + length (drop 9 content)
  pub identifier : get_or content 2 0 ≡ 0x06
  pub three : get_or content 3 0 ≡ 3
  pub first : get_or content 4 0 < 128
  pub second : get_or content 5 0 < 128
  pub third : get_or content 6 0 < 128
  pub octet : get_or content 7 0 < 256
  pub low : get_or content 7 0 % 32 ≢ 31
  pub size : get_or content 8 0 ≡ length (drop 9 content)
  pub short : length (drop 9 content) ≤ 120

attribute-encoded : (a b c t : ℕ) (value : List ℕ) → length value ≤ 120
    → attribute_content (record { kind = a ∷ b ∷ c ∷ []; tag = t; value = value }) ≡ 0x06 ∷ 3 ∷ a ∷ b ∷ c ∷ t ∷ length value ∷ value
unfolding attribute_content
attribute-encoded a b c t value short = rw (length_octets-short 3 (omega arith), length_octets-short (length value) (omega arith)) refl

pub one-short : (content : List ℕ) → Front content → first_broken (text_rules (get_or content 7 0)) (drop 9 content) ≡ None → (x : Attr) × IsRdnContent content (x ∷ [])
unfolding rdn_content
one-short (s ∷ q ∷ o ∷ w ∷ a ∷ b ∷ c ∷ t ∷ n ∷ value) front text =
    let x : Attr = record { kind = a ∷ b ∷ c ∷ []; tag = t; value = value } in
    let short : length value ≤ 120 = front.short in
    let inner = attribute-encoded a b c t value short in
    let count : length (attribute_content x) ≡ 7 + length value = ap (λ (o : List ℕ). length o) inner ∙ omega arith in
    let form : length_octets (7 + length value) ≡ (7 + length value) ∷ [] = length_octets-short (7 + length value) (omega arith) in
    let is : IsAttribute x =
    record {
      kind = three_go (a ∷ b ∷ c ∷ []) refl front.first front.second front.third;
      value =
          record { octet = front.octet; low = front.low; short = omega arith };
      text = text;
    } in
    let fits : Fits 0x30 (attribute_content x) = record { octet = omega arith; low = omega arith; short = omega (arith, count) } in
    let whole : s ∷ q ∷ o ∷ w ∷ a ∷ b ∷ c ∷ t ∷ n ∷ value ≡ encode 0x30 (attribute_content x) = rw (count, form, inner, front.sequence, front.long, front.identifier, front.three, front.size) refl in
    (x, (whole ∙ sym (append-nil (encode 0x30 (attribute_content x))), record { some = λ none. absurd cc; each = ((is, fits), tt); ordered = refl }))
one-short [] front text = absurd (let nine = front.nine in omega arith)
one-short (s ∷ []) front text = absurd (let nine = front.nine in omega arith)
one-short (s ∷ q ∷ []) front text = absurd (let nine = front.nine in omega arith)
one-short (s ∷ q ∷ o ∷ []) front text = absurd (let nine = front.nine in omega arith)
one-short (s ∷ q ∷ o ∷ w ∷ []) front text = absurd (let nine = front.nine in omega arith)
one-short (s ∷ q ∷ o ∷ w ∷ a ∷ []) front text = absurd (let nine = front.nine in omega arith)
one-short (s ∷ q ∷ o ∷ w ∷ a ∷ b ∷ []) front text = absurd (let nine = front.nine in omega arith)
one-short (s ∷ q ∷ o ∷ w ∷ a ∷ b ∷ c ∷ []) front text = absurd (let nine = front.nine in omega arith)
one-short (s ∷ q ∷ o ∷ w ∷ a ∷ b ∷ c ∷ t ∷ []) front text = absurd (let nine = front.nine in omega arith)

-- a set at the front of ASCII, of one attribute with such lengths and a type of three octets
pub record ShortSet (octets : List ℕ) : Type 0 where
  pub eleven : 11 ≤ length octets
  pub set : get_or octets 0 0 ≡ 0x31
  pub outer : get_or octets 1 0 ≡ get_or octets 10 0 + 9
  pub sequence : get_or octets 2 0 ≡ 0x30
  pub inner : get_or octets 3 0 ≡ get_or octets 10 0 + 7
  pub identifier : get_or octets 4 0 ≡ 0x06
  pub three : get_or octets 5 0 ≡ 3
  pub low : get_or octets 9 0 % 32 ≢ 31
  pub enough : get_or octets 10 0 ≤ length (drop 11 octets)
  pub ascii : is_ascii octets ≡ true

-- a set of few octets
set-of-few : (content : List ℕ) (xs : List Attr) (n : ℕ) → content ≡ rdn_content xs → length content ≡ n → n < 128 → Fits 0x31 (rdn_content xs) × (encoded_rdn xs ≡ 0x31 ∷ n ∷ content)
set-of-few content xs n is count few =
    let form : length_octets (length content) ≡ n ∷ [] = ap length_octets count ∙ length_octets-short n few in (
      record {
        octet = omega arith;
        low = omega arith;
        short =
            omega (arith, ap (λ (o : List ℕ). length o) is);
      },
      ap (λ (o : List ℕ). encode 0x31 o)
          (sym is) ∙ ap (λ (o : List ℕ). 0x31 ∷ (o ++ content)) form,
    )

-- what is in it, and after it
pub short-set : (octets : List ℕ) → ShortSet octets
    → (x : Attr) × IsRdn (x ∷ []) × Fits 0x31 (rdn_content (x ∷ [])) × (octets ≡ encoded_rdn (x ∷ []) ++ drop (get_or octets 10 0) (drop 11 octets))
short-set octets h =
    let size : ℕ = get_or octets 10 0 in
    let more : List ℕ = drop 11 octets in
    let value : List ℕ = take size more in
    let below = all-below octets h.ascii in
    let count : length value ≡ size = length-take-le size more h.enough in
    let content : List ℕ = 0x30 ∷ (size + 7) ∷ 6 ∷ 3 ∷ get_or octets 6 0 ∷ get_or octets 7 0 ∷ get_or octets 8 0 ∷ get_or octets 9 0 ∷ size ∷ value in
    let front : Front content = record {
      nine = omega arith;
      sequence = refl;
      long = omega (arith, count);
      identifier = refl;
      three = refl;
      first = below 6;
      second = below 7;
      third = below 8;
      octet = omega (arith, below 9);
      low = h.low;
      size = sym count;
      short = omega (arith, count, below 1, h.outer);
    } in
    let text = ascii-text (get_or octets 9 0) value (all-below value (ascii-take more size (ascii-drop octets 11 h.ascii))) in
    let one = one-short content front text in
    let encoded = set-of-few content (one.0 ∷ []) (size + 9) one.1.0 (omega (arith, count)) (omega (arith, below 1, h.outer)) in
    let here = encoded-out octets 0 11 11 refl h.eleven in
    let front_is : octets ≡ 0x31 ∷ (size + 9) ∷ 0x30 ∷ (size + 7) ∷ 6 ∷ 3 ∷ get_or octets 6 0
    ∷ get_or octets 7 0 ∷ get_or octets 8 0 ∷ get_or octets 9 0 ∷ size ∷ more = here
    ∙ rw (h.set, h.outer, h.sequence, h.inner, h.identifier, h.three) refl in (
      one.0,
      one.1.1,
      encoded.0,
      front_is
          ∙ (ap (λ (o : List ℕ). 0x31 ∷ (size + 9) ∷ 0x30 ∷ (size + 7) ∷ 6 ∷ 3 ∷ get_or octets 6 0
          ∷ get_or octets 7 0 ∷ get_or octets 8 0 ∷ get_or octets 9 0 ∷ size ∷ o)
          (sym (take-append-drop size more))
          ∙ ap (λ (o : List ℕ). o ++ drop size more) (sym encoded.1)),
    )

-- one relative distinguished name more, at the front
pub name-more : (octets more : List ℕ) (xs : List Attr) (rdns : List (List Attr)) → IsRdn xs
    → Fits 0x31 (rdn_content xs) → octets ≡ encoded_rdn xs ++ more → IsName more rdns
    → IsName octets (xs ∷ rdns)
name-more octets more xs rdns is fits whole rest =
    record { each = ((is, fits), rest.each); whole = whole ∙ ap (λ (o : List ℕ). encoded_rdn xs ++ o) rest.whole }

-- no octets are the name of no relative distinguished names
pub no-name : (octets : List ℕ) → eqb (length octets) 0 ≡ true → IsName octets []
no-name [] h = record { each = tt; whole = refl }
no-name (octet ∷ octets) h = absurd (let none = eqb-true (length (octet ∷ octets)) 0 h in omega arith)

-- octets are a name where it is read without a fault
pub name-test : (content : List ℕ) → AreOctets content → (r : Result (Unit {0}) Fault) → refusal r ≡ refusal (many rdn_at (record { rest = content; at = 0 }))
    → IsTrue (is_ok r) ↔ (rdns : List (List Attr)) × IsName content rdns
unfolding name_of
name-test content octets (Ok done) same =
    let e : Tlv = record { tag = 0x30; content = content; whole = content; at = 0; start = 0 } in
    ((λ t. (_, name-found e _ octets (not_refused_is (name_of e) [] same))), (λ p. refl))
name-test content octets (Err f) same =
    let e : Tlv = record { tag = 0x30; content = content; whole = content; at = 0; start = 0 } in
    ((λ t. absurd cc), (λ p. absurd (err_not_ok (sym (refused_is (name_of e) f same) ∙ name-again e p.0 p.1))))
