-- Algorithm identifiers that are recognised by their first octets.
use Rattle.std.proofs.Common.{◌≡◌, ℕ, ◌+◌, ◌<◌, ◌≤◌, true, false, eqb, ltb, List, [], ◌∷◌, ◌++◌, length, take, drop, get_or, Some, None, refl, sym, ap, ◌∙◌, arith}
use Rattle.std.specs.List.{list_all}
use Rattle.std.proofs.lemmas.Bool.{lt-ltb, ne_eqb}
use Rattle.std.proofs.lemmas.List.{drop-drop, length-drop, length-take-le, take-append-drop}
use Rattle.ts_der.specs.Between.{lie_between}
use Rattle.ts_der.specs.Element.{encode, length_octets}
use Rattle.ts_der.specs.ObjectIdentifier.{series_of, is_subidentifier, is_oid}
use Rattle.ts_der.proofs.FewOctets.{goes, goes_all}
use Rattle.ts_der.proofs.Lengths.{length_octets-short}
use Rattle.ts_der.proofs.Standing.{encoded-out}
use Rattle.ts_shape.specs.Fields.{Within}
use Rattle.ts_der.proofs.Lanes.{between-at}
use Rattle.ts_field.specs.Algorithm.{Algorithm, IsAlgorithm}
use Rattle.ts_cert.specs.inside.Layout.{Spans}

-- an octet between two bounds that are one
same : (low high r : List ℕ) → lie_between low high r ≡ true → (i octet : ℕ) → get_or low i 0 ≡ octet → get_or high i 0 ≡ octet → i < length low → get_or r i 0 ≡ octet
same low high r h i octet least most lt = let b = between-at low high r i h lt in omega (arith, b.0, b.1, least, most)

-- a number of one octet, after others that go
goes-last : (n : ℕ) → n < 128 → goes false (n ∷ []) ≡ true
goes-last n lt =
    let other : eqb n 128 ≡ false = ne_eqb n 128 (λ e. omega arith) in
    let ends : ltb n 128 ≡ true = lt-ltb n 128 lt in
    rw (other, ends) refl

-- ---- RSA, with parameters NULL

-- 1.2.840.113549.1.1 and one number more
rsa_oid : ℕ → List ℕ
rsa_oid n = 0x2A ∷ 0x86 ∷ 0x48 ∷ 0x86 ∷ 0xF7 ∷ 0x0D ∷ 0x01 ∷ 0x01 ∷ n ∷ []

rsa-oid : (n : ℕ) → n < 128 → is_oid (rsa_oid n) ≡ true
unfolding rsa_oid is_oid
rsa-oid n lt =
    let all : list_all is_subidentifier (series_of (rsa_oid n)) ≡ true = sym (goes_all (rsa_oid n) (omega arith)) ∙ goes-last n lt in
    rw all refl

-- such an identifier, octet by octet
rsa_part : ℕ → List ℕ
rsa_part n = 0x30 ∷ 0x0D ∷ 0x06 ∷ 0x09 ∷ 0x2A ∷ 0x86 ∷ 0x48 ∷ 0x86 ∷ 0xF7 ∷ 0x0D ∷ 0x01 ∷ 0x01 ∷ n ∷ 0x05 ∷ 0x00 ∷ []

rsa_content : ℕ → List ℕ
unfolding rsa_oid
rsa_content n = 0x06 ∷ 0x09 ∷ (rsa_oid n ++ 0x05 ∷ 0x00 ∷ [])

rsa_algorithm : ℕ → Algorithm
rsa_algorithm n = record { algorithm = rsa_oid n; parameters = Some (0x05 ∷ 0x00 ∷ []); whole = encode 0x30 (rsa_content n) }

is-rsa : (n : ℕ) → n < 128 → Within 0x30 IsAlgorithm (rsa_part n) (rsa_algorithm n)
unfolding rsa_oid rsa_part rsa_content rsa_algorithm
is-rsa n lt =
    let content : List ℕ = rsa_content n in
    record {
      content = content;
      fits = record { octet = omega arith; low = λ e. omega arith; short = omega arith };
      encoded = ap (λ (o : List ℕ). 0x30 ∷ (o ++ content)) (sym (length_octets-short 13 (omega arith)));
      value = record {
        oid = 0x06 ∷ 0x09 ∷ rsa_oid n;
        algorithm = record {
          content = rsa_oid n;
          fits = record { octet = omega arith; low = λ e. omega arith; short = omega arith };
          encoded = ap (λ (o : List ℕ). 0x06 ∷ (o ++ rsa_oid n)) (sym (length_octets-short 9 (omega arith)));
          value = (refl, rsa-oid n lt);
        };
        parameters = record {
          tag = 0x05;
          content = [];
          fits = record { octet = omega arith; low = λ e. omega arith; short = omega arith };
          encoded = ap (λ (o : List ℕ). 0x05 ∷ (o ++ [])) (sym (length_octets-short 0 (omega arith)));
        };
        fields = refl;
        whole = refl;
      };
    }

-- the bounds of its octets
abbrev rsa_bound : ℕ → ℕ → List ℕ
rsa_bound n last = 0x30 ∷ 0x0D ∷ 0x06 ∷ 0x09 ∷ 0x2A ∷ 0x86 ∷ 0x48 ∷ 0x86 ∷ 0xF7 ∷ 0x0D ∷ 0x01 ∷ 0x01 ∷ n ∷ 0x05 ∷ 0x00 ∷ last ∷ []

pub rsa-spans : (octets r : List ℕ) (at : ℕ) → r ≡ drop at octets → 16 ≤ length r → lie_between (rsa_bound 0 0) (rsa_bound 0x7F 0xFF) r ≡ true → Spans (Within 0x30 IsAlgorithm) octets at (at + 15)
unfolding rsa_part
rsa-spans octets r at is long h =
    let here = same (rsa_bound 0 0) (rsa_bound 0x7F 0xFF) r h in
    let n : ℕ = get_or r 12 0 in
    let few : n < 128 = let b = between-at (rsa_bound 0 0) (rsa_bound 0x7F 0xFF) r 12 h (omega arith) in omega (arith, b.1) in
    let e0 : get_or r 0 0 ≡ 0x30 = here 0 0x30 refl refl (omega arith) in
    let e1 : get_or r 1 0 ≡ 0x0D = here 1 0x0D refl refl (omega arith) in
    let e2 : get_or r 2 0 ≡ 0x06 = here 2 0x06 refl refl (omega arith) in
    let e3 : get_or r 3 0 ≡ 0x09 = here 3 0x09 refl refl (omega arith) in
    let e4 : get_or r 4 0 ≡ 0x2A = here 4 0x2A refl refl (omega arith) in
    let e5 : get_or r 5 0 ≡ 0x86 = here 5 0x86 refl refl (omega arith) in
    let e6 : get_or r 6 0 ≡ 0x48 = here 6 0x48 refl refl (omega arith) in
    let e7 : get_or r 7 0 ≡ 0x86 = here 7 0x86 refl refl (omega arith) in
    let e8 : get_or r 8 0 ≡ 0xF7 = here 8 0xF7 refl refl (omega arith) in
    let e9 : get_or r 9 0 ≡ 0x0D = here 9 0x0D refl refl (omega arith) in
    let e10 : get_or r 10 0 ≡ 0x01 = here 10 0x01 refl refl (omega arith) in
    let e11 : get_or r 11 0 ≡ 0x01 = here 11 0x01 refl refl (omega arith) in
    let e13 : get_or r 13 0 ≡ 0x05 = here 13 0x05 refl refl (omega arith) in
    let e14 : get_or r 14 0 ≡ 0x00 = here 14 0x00 refl refl (omega arith) in
    let behind : drop 15 r ≡ drop (at + 15) octets = ap (λ (o : List ℕ). drop 15 o) is ∙ drop-drop 15 at octets in
    record {
      value = rsa_algorithm n;
      part = rsa_part n;
      here = sym is ∙ (encoded-out r 0 15 15 refl (omega arith) ∙ rw (e0, e1, e2, e3, e4, e5, e6, e7, e8, e9, e10, e11, e13, e14) (ap (λ (o : List ℕ). rsa_part n ++ o) behind));
      encoded = is-rsa n few;
      ends = omega (arith, long, ap (λ (o : List ℕ). length o) is, length-drop at octets);
    }

-- ---- ECDSA, without parameters

-- 1.2.840.10045.4.3 and one number more
ecdsa_oid : ℕ → List ℕ
ecdsa_oid n = 0x2A ∷ 0x86 ∷ 0x48 ∷ 0xCE ∷ 0x3D ∷ 0x04 ∷ 0x03 ∷ n ∷ []

ecdsa-oid : (n : ℕ) → n < 128 → is_oid (ecdsa_oid n) ≡ true
unfolding ecdsa_oid is_oid
ecdsa-oid n lt =
    let all : list_all is_subidentifier (series_of (ecdsa_oid n)) ≡ true = sym (goes_all (ecdsa_oid n) (omega arith)) ∙ goes-last n lt in
    rw all refl

ecdsa_part : ℕ → List ℕ
ecdsa_part n = 0x30 ∷ 0x0A ∷ 0x06 ∷ 0x08 ∷ 0x2A ∷ 0x86 ∷ 0x48 ∷ 0xCE ∷ 0x3D ∷ 0x04 ∷ 0x03 ∷ n ∷ []

ecdsa_content : ℕ → List ℕ
ecdsa_content n = 0x06 ∷ 0x08 ∷ ecdsa_oid n

ecdsa_algorithm : ℕ → Algorithm
ecdsa_algorithm n = record { algorithm = ecdsa_oid n; parameters = None; whole = encode 0x30 (ecdsa_content n) }

is-ecdsa : (n : ℕ) → n < 128 → Within 0x30 IsAlgorithm (ecdsa_part n) (ecdsa_algorithm n)
unfolding ecdsa_oid ecdsa_part ecdsa_content ecdsa_algorithm
is-ecdsa n lt =
    let content : List ℕ = ecdsa_content n in
    record {
      content = content;
      fits = record { octet = omega arith; low = λ e. omega arith; short = omega arith };
      encoded = ap (λ (o : List ℕ). 0x30 ∷ (o ++ content)) (sym (length_octets-short 10 (omega arith)));
      value = record {
        oid = content;
        algorithm = record {
          content = ecdsa_oid n;
          fits = record { octet = omega arith; low = λ e. omega arith; short = omega arith };
          encoded = ap (λ (o : List ℕ). 0x06 ∷ (o ++ ecdsa_oid n)) (sym (length_octets-short 8 (omega arith)));
          value = (refl, ecdsa-oid n lt);
        };
        parameters = tt;
        fields = refl;
        whole = refl;
      };
    }

-- the bounds of its octets, and of four after them
abbrev ecdsa_bound : ℕ → ℕ → List ℕ
ecdsa_bound n more = 0x30 ∷ 0x0A ∷ 0x06 ∷ 0x08 ∷ 0x2A ∷ 0x86 ∷ 0x48 ∷ 0xCE ∷ 0x3D ∷ 0x04 ∷ 0x03 ∷ n ∷ more ∷ more ∷ more ∷ more ∷ []

pub ecdsa-spans : (octets r : List ℕ) (at : ℕ) → r ≡ drop at octets → 16 ≤ length r
    → lie_between (ecdsa_bound 0 0) (ecdsa_bound 0x7F 0xFF) r ≡ true
    → Spans (Within 0x30 IsAlgorithm) octets at (at + 12)
unfolding ecdsa_part
ecdsa-spans octets r at is long h =
    let here = same (ecdsa_bound 0 0) (ecdsa_bound 0x7F 0xFF) r h in
    let n : ℕ = get_or r 11 0 in
    let few : n < 128 = let b = between-at (ecdsa_bound 0 0) (ecdsa_bound 0x7F 0xFF) r 11 h (omega arith) in omega (arith, b.1) in
    let e0 : get_or r 0 0 ≡ 0x30 = here 0 0x30 refl refl (omega arith) in
    let e1 : get_or r 1 0 ≡ 0x0A = here 1 0x0A refl refl (omega arith) in
    let e2 : get_or r 2 0 ≡ 0x06 = here 2 0x06 refl refl (omega arith) in
    let e3 : get_or r 3 0 ≡ 0x08 = here 3 0x08 refl refl (omega arith) in
    let e4 : get_or r 4 0 ≡ 0x2A = here 4 0x2A refl refl (omega arith) in
    let e5 : get_or r 5 0 ≡ 0x86 = here 5 0x86 refl refl (omega arith) in
    let e6 : get_or r 6 0 ≡ 0x48 = here 6 0x48 refl refl (omega arith) in
    let e7 : get_or r 7 0 ≡ 0xCE = here 7 0xCE refl refl (omega arith) in
    let e8 : get_or r 8 0 ≡ 0x3D = here 8 0x3D refl refl (omega arith) in
    let e9 : get_or r 9 0 ≡ 0x04 = here 9 0x04 refl refl (omega arith) in
    let e10 : get_or r 10 0 ≡ 0x03 = here 10 0x03 refl refl (omega arith) in
    let behind : drop 12 r ≡ drop (at + 12) octets = ap (λ (o : List ℕ). drop 12 o) is ∙ drop-drop 12 at octets in
    record {
      value = ecdsa_algorithm n;
      part = ecdsa_part n;
      here = sym is ∙ (encoded-out r 0 12 12 refl (omega arith) ∙ rw (e0, e1, e2, e3, e4, e5, e6, e7, e8, e9, e10) (ap (λ (o : List ℕ). ecdsa_part n ++ o) behind));
      encoded = is-ecdsa n few;
      ends = omega (arith, long, ap (λ (o : List ℕ). length o) is, length-drop at octets);
    }

-- ---- keys on a named curve

-- 1.2.840.10045.2.1
curve_oid : List ℕ
curve_oid = 0x2A ∷ 0x86 ∷ 0x48 ∷ 0xCE ∷ 0x3D ∷ 0x02 ∷ 0x01 ∷ []

curve-oid : is_oid curve_oid ≡ true
unfolding curve_oid is_oid
curve-oid =
    let all : list_all is_subidentifier (series_of curve_oid) ≡ true = sym (goes_all curve_oid (omega arith)) in
    rw all refl

-- an identifier with an element of tag 06 as parameters
curve_part : ℕ → ℕ → List ℕ → List ℕ
curve_part size m curve = 0x30 ∷ size ∷ 0x06 ∷ 0x07 ∷ 0x2A ∷ 0x86 ∷ 0x48 ∷ 0xCE ∷ 0x3D ∷ 0x02 ∷ 0x01 ∷ 0x06 ∷ m ∷ curve

curve_content : ℕ → List ℕ → List ℕ
unfolding curve_oid
curve_content m curve = 0x06 ∷ 0x07 ∷ (curve_oid ++ 0x06 ∷ m ∷ curve)

curve_algorithm : ℕ → List ℕ → Algorithm
curve_algorithm m curve = record { algorithm = curve_oid; parameters = Some (0x06 ∷ m ∷ curve); whole = encode 0x30 (curve_content m curve) }

is-curve : (size m : ℕ) (curve : List ℕ) → length curve ≡ m → m + 11 ≡ size → size < 128 → Within 0x30 IsAlgorithm (curve_part size m curve) (curve_algorithm m curve)
unfolding curve_oid curve_part curve_content curve_algorithm
is-curve size m curve count whole few =
    let content : List ℕ = curve_content m curve in
    let long : length content ≡ size = omega (arith, count, whole) in
    record {
      content = content;
      fits = record { octet = omega arith; low = λ e. omega arith; short = omega (arith, long, few) };
      encoded = ap (λ (o : List ℕ). 0x30 ∷ (o ++ content)) (sym (ap length_octets long ∙ length_octets-short size few));
      value = record {
        oid = 0x06 ∷ 0x07 ∷ curve_oid;
        algorithm = record {
          content = curve_oid;
          fits = record { octet = omega arith; low = λ e. omega arith; short = omega arith };
          encoded = ap (λ (o : List ℕ). 0x06 ∷ (o ++ curve_oid)) (sym (length_octets-short 7 (omega arith)));
          value = (refl, curve-oid);
        };
        parameters = record {
          tag = 0x06;
          content = curve;
          fits = record { octet = omega arith; low = λ e. omega arith; short = omega (arith, count, whole, few) };
          encoded = ap (λ (o : List ℕ). 0x06 ∷ (o ++ curve)) (sym (ap length_octets count ∙ length_octets-short m (omega (arith, whole, few))));
        };
        fields = refl;
        whole = refl;
      };
    }

-- the bounds of its first octets
abbrev curve_bound : ℕ → ℕ → List ℕ
curve_bound n more = 0x30 ∷ n ∷ 0x06 ∷ 0x07 ∷ 0x2A ∷ 0x86 ∷ 0x48 ∷ 0xCE ∷ 0x3D ∷ 0x02 ∷ 0x01 ∷ 0x06 ∷ more ∷ more ∷ more ∷ more ∷ []

pub curve-spans : (octets r : List ℕ) (at size : ℕ) → r ≡ drop at octets → 16 ≤ length r
    → lie_between (curve_bound 0 0) (curve_bound 0x7F 0xFF) r ≡ true → size ≡ get_or r 1 0
    → get_or r 12 0 + 11 ≡ size → size + 2 ≤ length r
    → Spans (Within 0x30 IsAlgorithm) octets at (at + 2 + size)
unfolding curve_part
curve-spans octets r at size is long h size_is whole enough =
    let here = same (curve_bound 0 0) (curve_bound 0x7F 0xFF) r h in
    let m : ℕ = get_or r 12 0 in
    let few : size < 128 = let b = between-at (curve_bound 0 0) (curve_bound 0x7F 0xFF) r 1 h (omega arith) in omega (arith, b.1, size_is) in
    let e0 : get_or r 0 0 ≡ 0x30 = here 0 0x30 refl refl (omega arith) in
    let e2 : get_or r 2 0 ≡ 0x06 = here 2 0x06 refl refl (omega arith) in
    let e3 : get_or r 3 0 ≡ 0x07 = here 3 0x07 refl refl (omega arith) in
    let e4 : get_or r 4 0 ≡ 0x2A = here 4 0x2A refl refl (omega arith) in
    let e5 : get_or r 5 0 ≡ 0x86 = here 5 0x86 refl refl (omega arith) in
    let e6 : get_or r 6 0 ≡ 0x48 = here 6 0x48 refl refl (omega arith) in
    let e7 : get_or r 7 0 ≡ 0xCE = here 7 0xCE refl refl (omega arith) in
    let e8 : get_or r 8 0 ≡ 0x3D = here 8 0x3D refl refl (omega arith) in
    let e9 : get_or r 9 0 ≡ 0x02 = here 9 0x02 refl refl (omega arith) in
    let e10 : get_or r 10 0 ≡ 0x01 = here 10 0x01 refl refl (omega arith) in
    let e11 : get_or r 11 0 ≡ 0x06 = here 11 0x06 refl refl (omega arith) in
    let curve : List ℕ = take m (drop 13 r) in
    let count : length curve ≡ m = length-take-le m (drop 13 r) (omega (arith, length-drop 13 r, whole, enough)) in
    let split : drop 13 r ≡ curve ++ drop m (drop 13 r) = sym (take-append-drop m (drop 13 r)) in
    let behind : drop m (drop 13 r) ≡ drop (at + 2 + size) octets =
    ap (λ (o : List ℕ). drop m (drop 13 o)) is ∙ (ap (λ (o : List ℕ). drop m o) (drop-drop 13 at octets) ∙ (drop-drop m (at + 13) octets ∙ ap (λ (k : ℕ). drop k octets) (omega (arith, whole)))) in
    record {
      value = curve_algorithm m curve;
      part = curve_part size m curve;
      here = sym is ∙ (encoded-out r 0 13 13 refl (omega arith)
          ∙ rw (e0, sym size_is, e2, e3, e4, e5, e6, e7, e8, e9, e10, e11)
          (ap (λ (o : List ℕ). 0x30 ∷ size ∷ 0x06 ∷ 0x07 ∷ 0x2A ∷ 0x86 ∷ 0x48 ∷ 0xCE ∷ 0x3D ∷ 0x02
          ∷ 0x01 ∷ 0x06 ∷ m ∷ o) (split ∙ ap (λ (o : List ℕ). curve ++ o) behind)));
      encoded = is-curve size m curve count whole few;
      ends = omega (arith, enough, ap (λ (o : List ℕ). length o) is, length-drop at octets);
    }
