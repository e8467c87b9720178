-- RFC 8017 8.2.2 and 9.2: signatures of RSASSA-PKCS1-v1_5.
use Rattle.std.specs.Prelude.{◌≡◌, ℕ, ◌+◌, ◌-◌, ◌%◌, ◌^◌, ◌<◌, ◌≤◌, List, [], ◌∷◌, ◌++◌, length}
use Rattle.std.specs.Prelude.{replicate}
use Rattle.ts_digest.specs.declared.hash.Hash.{Hash}
use Rattle.ts_digest.specs.declared.hash.Hash.TheVariants.{Sha256, Sha384, Sha512}
use Rattle.ts_rsa.specs.Octets.{os2ip, i2osp}
use Rattle.ts_digest.specs.Hash.{hash_of}

-- what the DER encoding of a DigestInfo has before the hash (9.2, note 1)
abbrev pub prefix_of : Hash → List ℕ
prefix_of Sha256 =
    0x30 ∷ 0x31 ∷ 0x30 ∷ 0x0d ∷ 0x06 ∷ 0x09 ∷ 0x60 ∷ 0x86 ∷ 0x48 ∷ 0x01 ∷ 0x65 ∷ 0x03 ∷ 0x04 ∷ 0x02
    ∷ 0x01 ∷ 0x05 ∷ 0x00 ∷ 0x04 ∷ 0x20 ∷ []
prefix_of Sha384 =
    0x30 ∷ 0x41 ∷ 0x30 ∷ 0x0d ∷ 0x06 ∷ 0x09 ∷ 0x60 ∷ 0x86 ∷ 0x48 ∷ 0x01 ∷ 0x65 ∷ 0x03 ∷ 0x04 ∷ 0x02
    ∷ 0x02 ∷ 0x05 ∷ 0x00 ∷ 0x04 ∷ 0x30 ∷ []
prefix_of Sha512 =
    0x30 ∷ 0x51 ∷ 0x30 ∷ 0x0d ∷ 0x06 ∷ 0x09 ∷ 0x60 ∷ 0x86 ∷ 0x48 ∷ 0x01 ∷ 0x65 ∷ 0x03 ∷ 0x04 ∷ 0x02
    ∷ 0x03 ∷ 0x05 ∷ 0x00 ∷ 0x04 ∷ 0x40 ∷ []

-- T: the DER encoding of the message's DigestInfo (9.2, step 2)
unfoldable pub digest_info : Hash → List ℕ → List ℕ
digest_info hash message = prefix_of hash ++ hash_of hash message

-- EM = 00 01 FF .. FF 00 T, of k octets (9.2, steps 4 and 5)
unfoldable pub encoded_around : List ℕ → ℕ → List ℕ
encoded_around info k = (0 ∷ 1 ∷ replicate (k - length info - 3) 255) ++ 0 ∷ info

-- the signature is one of the message under the key of n and e, where k octets hold n (8.2.2):
-- it has k octets (step 1), is a representative (step 2 b), and opens to EM (steps 3 and 4),
-- for which k is large enough (9.2, step 3)
pub record IsPkcs1Signature (n e k : ℕ) (hash : Hash) (message signature : List ℕ) : Type 0 where
  pub long_enough : length (digest_info hash message) + 11 ≤ k
  pub whole : length signature ≡ k
  pub representative : os2ip signature < n
  pub opens : i2osp (os2ip signature ^ e % n) k ≡ encoded_around (digest_info hash message) k
