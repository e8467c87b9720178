-- The test of a signature says what the relation says.
use Rattle.std.proofs.Common.{◌≡◌, ℕ, true, ◌&&◌, ltb, eqb, List, length, Option, Some, None, IsTrue, ◌↔◌, refl}
use Rattle.std.proofs.lemmas.Bool.{eqb-true, eq-eqb, ltb-true, lt-ltb, false≢true}
use Rattle.ts_prime.specs.Primes.{l25519}
use Rattle.ts_curve.proofs.Tests.{both, joined}
use Rattle.ts_eddsa.specs.Field.{times}
use Rattle.ts_eddsa.specs.Points.{Point, base, sum, multiple, AreEqual}
use Rattle.ts_eddsa.specs.Decode.{decode}
use Rattle.ts_eddsa.specs.Signature.{r_octets, s_number, challenge, IsEd25519Signature}
use Rattle.ts_eddsa.specs.Tests.{are_equal, holds, is_ed25519_signature_of}

equal_test : (q r : Point) → IsTrue (are_equal q r) ↔ AreEqual q r
unfolding are_equal
equal_test q r =
    let x = eqb (times q.x r.z) (times r.x q.z) in
    let y = eqb (times q.y r.z) (times r.y q.z) in (
      λ h. let a = both x y h in (eqb-true _ _ a.0, eqb-true _ _ a.1),
      λ e. joined x y (eq-eqb _ _ e.0) (eq-eqb _ _ e.1),
    )

abbrev Held : Option Point → Option Point → ℕ → ℕ → Type 0
Held a r s k =
    (q : Point) × (t : Point) × (a ≡ Some q) × (r ≡ Some t)
    × AreEqual (multiple 256 s base) (sum t (multiple 256 k q))

held : (a r : Option Point) (s k : ℕ) → holds a r s k ≡ true → Held a r s k
held None r s k h = absurd (false≢true h)
held (Some q) None s k h = absurd (false≢true h)
held (Some q) (Some t) s k h =
    (q, t, refl, refl, (equal_test (multiple 256 s base) (sum t (multiple 256 k q))).0 h)

pub signature_test : (key message signature : List ℕ)
    → IsTrue (is_ed25519_signature_of key message signature)
    ↔ IsEd25519Signature key message signature
unfolding is_ed25519_signature_of
signature_test key message signature =
    let s = s_number signature in
    let k = challenge (r_octets signature) key message in
    let long = eqb (length signature) 64 in
    let below = ltb s l25519 in
    let last = holds (decode key) (decode (r_octets signature)) s k in (
      λ h.
          let x = both long (below && last) h in
          let y = both below last x.1 in
          let z = held (decode key) (decode (r_octets signature)) s k y.1 in
          record {
            long = eqb-true _ _ x.0;
            a = z.0;
            r = z.1;
            key_is = z.2;
            r_is = z.3;
            s_below = ltb-true s l25519 y.0;
            equation = z.4;
          },
      λ i.
          joined long (below && last) (eq-eqb _ _ i.long)
          (joined below last (lt-ltb s l25519 i.s_below)
          (rw (i.key_is, i.r_is)
          ((equal_test (multiple 256 s base) (sum i.r (multiple 256 k i.a))).1 i.equation))),
    )
