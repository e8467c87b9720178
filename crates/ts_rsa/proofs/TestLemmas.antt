-- What the tests of a key and of a signature mean.
use Rattle.std.proofs.Common.{◌≡◌, ℕ, ◌-◌, ◌%◌, ◌^◌, ◌<◌, ◌≤◌, ◌↔◌, Bool, true, false, ◌&&◌, leb, ltb, eqb, List, length, get_or, refl, sym}
use Rattle.std.proofs.lemmas.Bool.{and_parts, and_from, ltb-true, leb-true, eqb-true, lt-ltb, le-leb, eq-eqb}
use Rattle.std.proofs.lemmas.Slice.Eq.{bytes_eq-Decides}
use Rattle.ts_digest.specs.declared.hash.Hash.{Hash}
use Rattle.ts_rsa.specs.declared.key.KeyBounds.{KeyBounds}
use Rattle.ts_rsa.specs.Octets.{os2ip, i2osp}
use Rattle.ts_rsa.specs.Key.{IsKey, bit_length}
use Rattle.ts_rsa.specs.Pkcs1.{IsPkcs1Signature}
use Rattle.ts_rsa.specs.Pss.{IsPssEncoding, IsPssSignature, octets_of_bits}
use Rattle.ts_rsa.specs.Tests.{key_test, pkcs1_test, pss_encoding_test, pss_test, pkcs1_accepts, pss_accepts}

pub same_answer : (a b : Bool) {P : Type 0} → ((a ≡ true) ↔ P) → ((b ≡ true) ↔ P) → a ≡ b
same_answer true true h k = refl
same_answer true false h k = sym (k.1 (h.0 refl))
same_answer false true h k = h.1 (k.0 refl)
same_answer false false h k = refl

both : (a b : Bool) {P Q : Type 0} → ((a ≡ true) ↔ P) → ((b ≡ true) ↔ Q)
    → ((a && b) ≡ true) ↔ (P × Q)
both a b h k = (
  (λ t. let p = and_parts a b t in (h.0 p.0, k.0 p.1)),
  (λ p. and_from a b (h.1 p.0) (k.1 p.1)),
)

less : (a b : ℕ) → (ltb a b ≡ true) ↔ (a < b)
less a b = ((λ t. ltb-true a b t), (λ h. lt-ltb a b h))

most : (a b : ℕ) → (leb a b ≡ true) ↔ (a ≤ b)
most a b = ((λ t. leb-true a b t), (λ h. le-leb a b h))

same : (a b : ℕ) → (eqb a b ≡ true) ↔ (a ≡ b)
same a b = ((λ t. eqb-true a b t), (λ h. eq-eqb a b h))

pub key-means : (bounds : KeyBounds) (modulus : List ℕ) (exponent : ℕ)
    → (key_test bounds modulus exponent ≡ true) ↔ IsKey bounds modulus exponent
unfolding key_test
key-means bounds modulus exponent =
    let parts = both _ _ (both _ _ (both _ _ (both _ _ (both _ _ (both _ _ (both _ _
    (less 0 (get_or modulus 0 0))
    (most (length modulus) 1024))
    (most bounds.min_bits (bit_length modulus)))
    (most (bit_length modulus) bounds.max_bits))
    (same (os2ip modulus % 2) 1))
    (most bounds.min_exponent exponent))
    (most exponent bounds.max_exponent))
    (same (exponent % 2) 1) in (
      (λ t. let p = parts.0 t in record {
        leading = p.0.0.0.0.0.0.0;
        room = p.0.0.0.0.0.0.1;
        min_bits = p.0.0.0.0.0.1;
        max_bits = p.0.0.0.0.1;
        odd = p.0.0.0.1;
        min_exponent = p.0.0.1;
        max_exponent = p.0.1;
        odd_exponent = p.1;
      }),
      (λ k. parts.1 ((
        (
          (((((k.leading, k.room), k.min_bits), k.max_bits), k.odd), k.min_exponent),
          k.max_exponent,
        ),
        k.odd_exponent,
      )
          )),
    )

pub pkcs1-means : (n e k : ℕ) (hash : Hash) (message signature : List ℕ)
    → (pkcs1_test n e k hash message signature ≡ true) ↔ IsPkcs1Signature n e k hash message
    signature
unfolding pkcs1_test
pkcs1-means n e k hash message signature =
    let parts = both _ _ (both _ _ (both _ _ (most _ k) (same (length signature) k))
    (less (os2ip signature) n)) (bytes_eq-Decides _ _) in (
      (λ t. let p = parts.0 t in record {
        long_enough = p.0.0.0;
        whole = p.0.0.1;
        representative = p.0.1;
        opens = p.1;
      }),
      (λ s. parts.1 (((s.long_enough, s.whole), s.representative), s.opens)),
    )

pub encoding-means : (hash : Hash) (bits : ℕ) (message em : List ℕ)
    → (pss_encoding_test hash bits message em ≡ true) ↔ IsPssEncoding hash bits message em
unfolding pss_encoding_test
encoding-means hash bits message em =
    let parts = both _ _ (both _ _ (both _ _ (both _ _ (most _ (length em))
    (same (get_or em (length em - 1) 0) 0xbc)) (less (get_or em 0 0) _))
    (bytes_eq-Decides _ _)) (bytes_eq-Decides _ _) in (
      (λ t. let p = parts.0 t in record {
        long_enough = p.0.0.0.0;
        trailer = p.0.0.0.1;
        first_octet = p.0.0.1;
        block = p.0.1;
        hashed = p.1;
      }),
      (λ s. parts.1 ((((s.long_enough, s.trailer), s.first_octet), s.block), s.hashed)),
    )

pub pss-means : (n e k bits : ℕ) (hash : Hash) (message signature : List ℕ)
    → (pss_test n e k bits hash message signature ≡ true)
    ↔ IsPssSignature n e k bits hash message signature
unfolding pss_test
pss-means n e k bits hash message signature =
    let parts = both _ _ (both _ _ (both _ _ (same (length signature) k) (less (os2ip signature) n))
    (less (os2ip signature ^ e % n) _)) (encoding-means hash (bits - 1) message
    (i2osp (os2ip signature ^ e % n) (octets_of_bits (bits - 1)))) in (
      (λ t. let p = parts.0 t in record {
        whole = p.0.0.0;
        representative = p.0.0.1;
        fits = p.0.1;
        encoding = p.1;
      }),
      (λ s. parts.1 (((s.whole, s.representative), s.fits), s.encoding)),
    )

pub pkcs1-accepts : (bounds : KeyBounds) (modulus : List ℕ) (exponent : ℕ) (hash : Hash)
    (message signature : List ℕ)
    → (pkcs1_accepts bounds modulus exponent hash message signature ≡ true)
    ↔ (IsKey bounds modulus exponent
    × IsPkcs1Signature (os2ip modulus) exponent (length modulus) hash message signature)
unfolding pkcs1_accepts
pkcs1-accepts bounds modulus exponent hash message signature =
    both _ _ (key-means bounds modulus exponent)
    (pkcs1-means (os2ip modulus) exponent (length modulus) hash message signature)

pub pss-accepts : (bounds : KeyBounds) (modulus : List ℕ) (exponent : ℕ) (hash : Hash)
    (message signature : List ℕ)
    → (pss_accepts bounds modulus exponent hash message signature ≡ true)
    ↔ (IsKey bounds modulus exponent
    × IsPssSignature (os2ip modulus) exponent (length modulus)
    (bit_length modulus) hash message signature)
unfolding pss_accepts
pss-accepts bounds modulus exponent hash message signature =
    both _ _ (key-means bounds modulus exponent)
    (pss-means (os2ip modulus) exponent (length modulus)
    (bit_length modulus) hash message signature)
