-- What the tests of signatures by RSA accept.
use Rattle.std.proofs.Common.{◌≡◌, ◌⊎◌, inl, inr, ℕ, Bool, true, false, ◌&&◌, ◌||◌, List, length, Some, refl}
use Rattle.std.proofs.lemmas.Bool.{and_parts, and_from}
use Rattle.ts_der.specs.Octets.{AreOctets}
use Rattle.ts_sig.specs.Key.{Key}
use Rattle.ts_digest.specs.declared.hash.Hash.{Hash}
use Rattle.ts_rsa.specs.Octets.{os2ip}
use Rattle.ts_rsa.specs.Key.{bit_length, IsKey}
use Rattle.ts_rsa.specs.Pkcs1.{IsPkcs1Signature}
use Rattle.ts_rsa.specs.Pss.{IsPssSignature}
use Rattle.ts_rsa.specs.Tests.{pkcs1_accepts, pss_accepts}
use Rattle.ts_rsa.proofs.TestLemmas.{pkcs1-accepts, pss-accepts}
use Rattle.ts_check.specs.PublicKey.{Public, public_of}
use Rattle.ts_check.specs.Rsa.{standard, is_for_rsa, is_for_pss, holds_of_public, pkcs1_takes, pss_takes, IsByPkcs1, IsByPss}
use Rattle.ts_check.proofs.Keys.{holds-found, public-found, public-again}

either-true : (a b : Bool) → (a || b) ≡ true → (a ≡ true) ⊎ (b ≡ true)
either-true true b e = inl refl
either-true false b e = inr e

or-first : (a b : Bool) → a ≡ true → (a || b) ≡ true
or-first true b e = refl
or-first false b e = absurd cc

or-second : (a b : Bool) → b ≡ true → (a || b) ≡ true
or-second true b e = refl
or-second false b e = e

pub pkcs1-found : (hash : Hash) (key : Key) (signed signature : List ℕ) → AreOctets key.octets
    → pkcs1_takes hash key signed signature ≡ true → IsByPkcs1 hash key signed signature
unfolding pkcs1_takes holds_of_public
pkcs1-found hash key signed signature o read =
    let p = and_parts (is_for_rsa key) _ read in
    let k = holds-found (public_of key.octets) _ p.1 in
    let v = (pkcs1-accepts standard k.0.modulus k.0.exponent hash signed signature).0 k.2 in
    record {
      kind = p.0;
      public = record {
        modulus = k.0.modulus;
        exponent = k.0.exponent;
        encoded = public-found key.octets k.0 o k.1;
        valid = v.0;
      };
      opens = v.1;
    }

pub pkcs1-again : (hash : Hash) (key : Key) (signed signature : List ℕ)
    → IsByPkcs1 hash key signed signature → pkcs1_takes hash key signed signature ≡ true
unfolding pkcs1_takes holds_of_public
pkcs1-again hash key signed signature s =
    let k = s.public in
    rw (s.kind, public-again key.octets k.modulus k.exponent k.encoded)
    ((pkcs1-accepts standard k.modulus k.exponent hash signed signature).1 (k.valid, s.opens))

pub pss-found : (hash : Hash) (key : Key) (signed signature : List ℕ) → AreOctets key.octets
    → pss_takes hash key signed signature ≡ true → IsByPss hash key signed signature
unfolding pss_takes holds_of_public
pss-found hash key signed signature o read =
    let p = and_parts (is_for_rsa key || is_for_pss key) _ read in
    let k = holds-found (public_of key.octets) _ p.1 in
    let v = (pss-accepts standard k.0.modulus k.0.exponent hash signed signature).0 k.2 in
    record {
      kind = either-true (is_for_rsa key) (is_for_pss key) p.0;
      public = record {
        modulus = k.0.modulus;
        exponent = k.0.exponent;
        encoded = public-found key.octets k.0 o k.1;
        valid = v.0;
      };
      opens = v.1;
    }

for-some : (a b : Bool) → (a ≡ true) ⊎ (b ≡ true) → (a || b) ≡ true
for-some a b (inl e) = or-first a b e
for-some a b (inr e) = or-second a b e

pub pss-again : (hash : Hash) (key : Key) (signed signature : List ℕ)
    → IsByPss hash key signed signature → pss_takes hash key signed signature ≡ true
unfolding pss_takes holds_of_public
pss-again hash key signed signature s =
    let k = s.public in
    rw (for-some (is_for_rsa key) (is_for_pss key) s.kind, public-again key.octets k.modulus k.exponent k.encoded)
    ((pss-accepts standard k.modulus k.exponent hash signed signature).1 (k.valid, s.opens))
