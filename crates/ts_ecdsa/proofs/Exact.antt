-- Signatures by what reading finds, and the tests of them.
use Rattle.std.proofs.Common.{◌≡◌, ℕ, ◌+◌, ◌*◌, ◌%◌, Bool, true, false, not, ◌&&◌, ltb, eqb, List, length, get_or, Some, None, Result, Ok, Err, IsTrue, ◌↔◌, refl, sym, ap, subst, ◌∙◌}
use Rattle.std.proofs.lemmas.Bool.{eqb-true, eq-eqb, ltb-true, lt-ltb, false≢true}
use Rattle.std.proofs.lemmas.Nat.{mul-mod_first}
use Rattle.ts_ring.specs.Modular.{mul, inverse}
use Rattle.ts_digest.specs.declared.hash.Hash.{Hash}
use Rattle.ts_der.specs.declared.fault.Fault.{Fault}
use Rattle.ts_der.specs.Octets.{AreOctets}
use Rattle.ts_der.specs.Integer.{is_negative}
use Rattle.ts_der.proofs.Laws.{ok_is}
use Rattle.ts_curve.specs.Octets.{number_of}
use Rattle.ts_curve.specs.Points.{Point}
use Rattle.ts_curve.specs.Curves.{Curve, size, combination, is_on_curve}
use Rattle.ts_curve.proofs.Tests.{both, joined, on_curve_test}
use Rattle.ts_ecdsa.specs.Number.{FirstIs, checked_point, IsNumberSignature}
use Rattle.ts_ecdsa.specs.Key.{key_x, key_y, key_point, IsPublicKey}
use Rattle.ts_ecdsa.specs.Reading.{parts_of}
use Rattle.ts_ecdsa.specs.Signature.{hash_number, IsEcdsaSignature}
use Rattle.ts_ecdsa.specs.Tests.{first_is, is_number_signature_of, is_public_key, is_good, is_ecdsa_signature_of}
use Rattle.ts_ecdsa.proofs.Values.{value_found, value_only}

-- ---- the number e counts modulo the order
same_point : (c : Curve) (q : Point) (e r s : ℕ)
    → checked_point c q (e % c.order) r s ≡ checked_point c q e r s
same_point c q e r s =
    let w = inverse c.order s in
    ap (λ k. combination c k (mul c.order r w) q)
    (mul-mod_first e w c.order)

number_to : (c : Curve) (q : Point) (e r s : ℕ) → IsNumberSignature c q (e % c.order) r s
    → IsNumberSignature c q e r s
number_to c q e r s i = record {
  r_positive = i.r_positive;
  r_below = i.r_below;
  s_positive = i.s_positive;
  s_below = i.s_below;
  first = subst (λ p. FirstIs c.order p r) (same_point c q e r s) i.first;
}

number_from : (c : Curve) (q : Point) (e r s : ℕ) → IsNumberSignature c q e r s
    → IsNumberSignature c q (e % c.order) r s
number_from c q e r s i = record {
  r_positive = i.r_positive;
  r_below = i.r_below;
  s_positive = i.s_positive;
  s_below = i.s_below;
  first = subst (λ p. FirstIs c.order p r) (sym (same_point c q e r s)) i.first;
}

-- ---- a signature by its parts
abbrev pub Good : Curve → Point → ℕ → List ℕ → List ℕ → Type 0
Good c q e a b =
    (is_negative a ≡ false) × (is_negative b ≡ false)
    × IsNumberSignature c q e (number_of a) (number_of b)

good_to : (c : Curve) (hash : Hash) (key message octets a b : List ℕ) → AreOctets octets
    → IsPublicKey c key → parts_of octets ≡ Ok (a, b)
    → Good c (key_point c key) (hash_number c hash message) a b
    → IsEcdsaSignature c hash key message octets
good_to c hash key message octets a b oct k read g = record {
  key_is = k;
  r = number_of a;
  s = number_of b;
  value = value_found octets a b oct read g.0 g.1;
  number = g.2;
}

good_from : (c : Curve) (hash : Hash) (key message octets a b : List ℕ) → AreOctets octets
    → parts_of octets ≡ Ok (a, b)
    → IsEcdsaSignature c hash key message octets
    → Good c (key_point c key) (hash_number c hash message) a b
good_from c hash key message octets a b oct read i =
    let q = key_point c key in
    let e = hash_number c hash message in
    let v = value_only octets i.r i.s oct i.value in
    let same : v.0 ≡ (a, b) = ok_is {E = Fault} v.0 (a, b) (sym v.1.read ∙ read) in
    subst (λ (t : List ℕ × List ℕ). Good c q e t.0 t.1) same (
      v.1.first_sign,
      v.1.second_sign,
      subst (λ k. IsNumberSignature c q e k (number_of v.0.1)) (sym v.1.first_is)
          (subst (λ k. IsNumberSignature c q e i.r k) (sym v.1.second_is) i.number),
    )

pub signature_by_parts : (c : Curve) (hash : Hash) (key message octets a b : List ℕ) (q : Point)
    (e : ℕ) → AreOctets octets → IsPublicKey c key → q ≡ key_point c key
    → e ≡ hash_number c hash message % c.order → parts_of octets ≡ Ok (a, b)
    → Good c q e a b ↔ IsEcdsaSignature c hash key message octets
signature_by_parts c hash key message octets a b q e oct k eq ee read =
    let h = hash_number c hash message in
    let p = key_point c key in
    rw (eq, ee) (
      λ g. good_to c hash key message octets a b oct k read
          (g.0, g.1, number_to c p h (number_of a) (number_of b) g.2),
      λ i. let g = good_from c hash key message octets a b oct read i in
          (g.0, g.1, number_from c p h (number_of a) (number_of b) g.2),
    )

-- octets that are not read are no signature
pub no_signature : (c : Curve) (hash : Hash) (key message octets : List ℕ) (fault : Fault)
    → AreOctets octets → parts_of octets ≡ Err fault
    → IsEcdsaSignature c hash key message octets → ⊥
no_signature c hash key message octets fault oct read i =
    let v = value_only octets i.r i.s oct i.value in
    let e = sym v.1.read ∙ read in absurd cc

-- ---- tests
first_to : (n : ℕ) (q : Point) (r : ℕ) → first_is n q r ≡ true → FirstIs n q r
first_to n None r h = false≢true h
first_to n (Some t) r h = eqb-true (t.0 % n) r h

first_from : (n : ℕ) (q : Point) (r : ℕ) → FirstIs n q r → first_is n q r ≡ true
first_from n None r h = absurd h
first_from n (Some t) r h = eq-eqb (t.0 % n) r h

number_test : (c : Curve) (q : Point) (e r s : ℕ)
    → IsTrue (is_number_signature_of c q e r s) ↔ IsNumberSignature c q e r s
unfolding is_number_signature_of
number_test c q e r s =
    let n = c.order in
    let p = checked_point c q e r s in
    let t₃ = ltb s n && first_is n p r in
    let t₂ = ltb 0 s && t₃ in
    let t₁ = ltb r n && t₂ in (
      λ h.
          let a = both (ltb 0 r) t₁ h in
          let b = both (ltb r n) t₂ a.1 in
          let d = both (ltb 0 s) t₃ b.1 in
          let f = both (ltb s n) (first_is n p r) d.1 in
          record {
            r_positive = ltb-true 0 r a.0;
            r_below = ltb-true r n b.0;
            s_positive = ltb-true 0 s d.0;
            s_below = ltb-true s n f.0;
            first = first_to n p r f.1;
          },
      λ i.
          joined (ltb 0 r) t₁ (lt-ltb 0 r i.r_positive)
          (joined (ltb r n) t₂ (lt-ltb r n i.r_below)
          (joined (ltb 0 s) t₃ (lt-ltb 0 s i.s_positive)
          (joined (ltb s n) (first_is n p r) (lt-ltb s n i.s_below) (first_from n p r i.first)))),
    )

key_test : (c : Curve) (octets : List ℕ) → IsTrue (is_public_key c octets) ↔ IsPublicKey c octets
unfolding is_public_key
key_test c octets =
    let on = is_on_curve c (key_x c octets) (key_y c octets) in
    let long = eqb (length octets) (2 * size c + 1) in
    let first = eqb (get_or octets 0 0) 4 in
    let point = on_curve_test c (key_x c octets) (key_y c octets) in (
      λ h.
          let a = both long (first && on) h in
          let b = both first on a.1 in
          record {
            long = eqb-true _ _ a.0;
            uncompressed = eqb-true _ _ b.0;
            point = point.0 b.1;
          },
      λ k.
          joined long (first && on) (eq-eqb _ _ k.long)
          (joined first on (eq-eqb _ _ k.uncompressed) (point.1 k.point)),
    )

not_is : (b : Bool) → not b ≡ true → b ≡ false
not_is true h = absurd (false≢true h)
not_is false h = refl

good_test : (c : Curve) (q : Point) (e : ℕ) (a b : List ℕ)
    → IsTrue (is_good c q e (Ok (a, b))) ↔ Good c q e a b
good_test c q e a b =
    let last = is_number_signature_of c q e (number_of a) (number_of b) in
    let n = number_test c q e (number_of a) (number_of b) in (
      λ h.
          let x = both (not (is_negative a)) (not (is_negative b) && last) h in
          let y = both (not (is_negative b)) last x.1 in
          (not_is (is_negative a) x.0, not_is (is_negative b) y.0, n.0 y.1),
      λ g. rw (g.0, g.1) (n.1 g.2),
    )

parts_test : (c : Curve) (hash : Hash) (key message octets : List ℕ) → AreOctets octets
    → IsPublicKey c key → (parts : Result (List ℕ × List ℕ) Fault) → parts_of octets ≡ parts
    → IsTrue (is_good c (key_point c key) (hash_number c hash message) parts)
    ↔ IsEcdsaSignature c hash key message octets
parts_test c hash key message octets oct k (Err f) read =
    (λ h. absurd (false≢true h), λ i. absurd (no_signature c hash key message octets f oct read i))
parts_test c hash key message octets oct k (Ok t) read =
    let g = good_test c (key_point c key) (hash_number c hash message) t.0 t.1 in (
      λ h. good_to c hash key message octets t.0 t.1 oct k read (g.0 h),
      λ i. g.1 (good_from c hash key message octets t.0 t.1 oct read i),
    )

pub signature_test : (c : Curve) (hash : Hash) (key message octets : List ℕ) → AreOctets octets
    → IsTrue (is_ecdsa_signature_of c hash key message octets)
    ↔ IsEcdsaSignature c hash key message octets
unfolding is_ecdsa_signature_of
signature_test c hash key message octets oct =
    let good = is_good c (key_point c key) (hash_number c hash message) (parts_of octets) in
    let k = key_test c key in (
      λ h.
          let a = both (is_public_key c key) good h in
          (parts_test c hash key message octets oct (k.0 a.0) (parts_of octets) refl).0 a.1,
      λ i.
          joined (is_public_key c key) good (k.1 i.key_is)
          ((parts_test c hash key message octets oct i.key_is (parts_of octets) refl).1 i),
    )
