-- What a signature is good for depends on the hash of the signed octets alone.
use Rattle.std.proofs.Common.{◌≡◌, ℕ, ◌+◌, ◌%◌, ◌^◌, ◌++◌, Bool, ◌&&◌, List, length, Option, Some, None, refl, ap, sym, subst}
use Rattle.std.specs.Prelude.{option_and_then, nat_le, nat_eq, nat_lt}
use Rattle.std.specs.Str.{bytes_eq}
use Rattle.ts_sig.specs.Key.{Key}
use Rattle.ts_digest.specs.declared.hash.Hash.{Hash}
use Rattle.ts_digest.specs.Hash.{hash_of}
use Rattle.ts_rsa.specs.Octets.{os2ip, i2osp}
use Rattle.ts_rsa.specs.Pkcs1.{prefix_of, digest_info, encoded_around}
use Rattle.ts_rsa.specs.Tests.{key_test, pkcs1_accepts, pkcs1_test, pss_accepts, pss_test, pss_encoding_test}
use Rattle.ts_ecdsa.specs.Tests.{is_ecdsa_signature_of}
use Rattle.ts_sig.specs.declared.algorithm.SignatureAlgorithm.{SignatureAlgorithm}
use Rattle.ts_sig.specs.declared.algorithm.SignatureAlgorithm.TheVariants.{Pkcs1, Pss, Ecdsa, Ed25519}
use Rattle.ts_sig.specs.Algorithm.{algorithm_named, hash_by, hash_named}
use Rattle.ts_check.specs.Elliptic.{ecdsa_takes}
use Rattle.ts_check.specs.PublicKey.{public_of}
use Rattle.ts_check.specs.Rsa.{standard, is_for_rsa, pkcs1_takes, pss_takes, holds_of_public}
use Rattle.ts_check.specs.Options.{holds_of}
use Rattle.ts_check.specs.Native.{takes, native_accepts}

module _ (hash : Hash) (key : Key) (a b signature : List ℕ) (e : hash_of hash a ≡ hash_of hash b) where
  by_pkcs1 : pkcs1_takes hash key a signature ≡ pkcs1_takes hash key b signature
  unfolding pkcs1_takes holds_of_public pkcs1_accepts pkcs1_test digest_info
  by_pkcs1 = ap
      (λ (h : List ℕ). is_for_rsa key && holds_of (public_of key.octets) (λ public.
      key_test standard public.modulus public.exponent
      && (nat_le (length (prefix_of hash ++ h) + 11) (length public.modulus)
      && nat_eq (length signature) (length public.modulus)
      && nat_lt (os2ip signature) (os2ip public.modulus)
      && bytes_eq (i2osp (os2ip signature ^ public.exponent % os2ip public.modulus) (length public.modulus))
      (encoded_around (prefix_of hash ++ h) (length public.modulus))))) e

  by_pss : pss_takes hash key a signature ≡ pss_takes hash key b signature
  unfolding pss_takes holds_of_public pss_accepts pss_test pss_encoding_test
  by_pss = rw e refl

  by_ecdsa : ecdsa_takes hash key a signature ≡ ecdsa_takes hash key b signature
  unfolding ecdsa_takes is_ecdsa_signature_of
  by_ecdsa = rw e refl

same : (h g : Hash) → Some h ≡ Some g → h ≡ g
same h g e = cc e

none_is_some : (h : Hash) → None ≡ Some h → ⊥
none_is_some h e = cc e

by_one : (algorithm : SignatureAlgorithm) (hash : Hash) (key : Key) (a b signature : List ℕ)
    → hash_by algorithm ≡ Some hash → hash_of hash a ≡ hash_of hash b
    → takes algorithm key a signature ≡ takes algorithm key b signature
by_one (Pkcs1 h) hash key a b signature is e =
    by_pkcs1 h key a b signature (subst (λ (g : Hash). hash_of g a ≡ hash_of g b) (sym (same h hash is)) e)
by_one (Pss h) hash key a b signature is e =
    by_pss h key a b signature (subst (λ (g : Hash). hash_of g a ≡ hash_of g b) (sym (same h hash is)) e)
by_one (Ecdsa h) hash key a b signature is e =
    by_ecdsa h key a b signature (subst (λ (g : Hash). hash_of g a ≡ hash_of g b) (sym (same h hash is)) e)
by_one Ed25519 hash key a b signature is e = absurd (none_is_some hash is)

pub one_hash : (identifier : List ℕ) (hash : Hash) (key : Key) (a b signature : List ℕ)
    → hash_named identifier ≡ Some hash → hash_of hash a ≡ hash_of hash b
    → native_accepts identifier key a signature ≡ native_accepts identifier key b signature
unfolding native_accepts hash_named
one_hash identifier hash key a b signature is e = by_option (algorithm_named identifier) is
  where
    by_option : (o : Option SignatureAlgorithm) → option_and_then hash_by o ≡ Some hash
        → holds_of o (λ algorithm. takes algorithm key a signature) ≡ holds_of o (λ algorithm. takes algorithm key b signature)
    by_option None is = absurd (none_is_some hash is)
    by_option (Some algorithm) is = by_one algorithm hash key a b signature is e
