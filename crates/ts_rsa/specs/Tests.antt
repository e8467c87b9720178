-- The relations of a key and of signatures as tests that compute.
use Rattle.std.specs.Prelude.{ℕ, ◌+◌, ◌-◌, ◌*◌, ◌%◌, ◌^◌, Bool, ◌&&◌, nat_eq, nat_lt, nat_le, List}
use Rattle.std.specs.Prelude.{◌∷◌, ◌++◌, length, replicate, slice_index}
use Rattle.std.specs.Str.{bytes_eq}
use Rattle.ts_digest.specs.declared.hash.Hash.{Hash}
use Rattle.ts_rsa.specs.declared.key.KeyBounds.{KeyBounds}
use Rattle.ts_rsa.specs.Octets.{os2ip, i2osp}
use Rattle.ts_digest.specs.Hash.{hash_size, hash_of}
use Rattle.ts_rsa.specs.Key.{bit_length}
use Rattle.ts_rsa.specs.Pkcs1.{digest_info, encoded_around}
use Rattle.ts_rsa.specs.Pss.{first_octet_limit, hash_in, data_block, zeros_in, salt_in}
use Rattle.ts_rsa.specs.Pss.{octets_of_bits}

-- IsKey
unfoldable pub key_test : KeyBounds → List ℕ → ℕ → Bool
key_test bounds modulus exponent =
    nat_lt 0 (slice_index modulus 0)
    && nat_le (length modulus) 1024
    && nat_le bounds.min_bits (bit_length modulus)
    && nat_le (bit_length modulus) bounds.max_bits
    && nat_eq (os2ip modulus % 2) 1
    && nat_le bounds.min_exponent exponent
    && nat_le exponent bounds.max_exponent
    && nat_eq (exponent % 2) 1

-- IsPkcs1Signature
unfoldable pub pkcs1_test : ℕ → ℕ → ℕ → Hash → List ℕ → List ℕ → Bool
pkcs1_test n e k hash message signature =
    nat_le (length (digest_info hash message) + 11) k
    && nat_eq (length signature) k
    && nat_lt (os2ip signature) n
    && bytes_eq (i2osp (os2ip signature ^ e % n) k) (encoded_around (digest_info hash message) k)

-- IsPssEncoding
unfoldable pub pss_encoding_test : Hash → ℕ → List ℕ → List ℕ → Bool
pss_encoding_test hash bits message em =
    nat_le (2 * hash_size hash + 2) (length em)
    && nat_eq (slice_index em (length em - 1)) 0xbc
    && nat_lt (slice_index em 0) (first_octet_limit bits em)
    && bytes_eq (data_block hash bits em)
    (replicate (zeros_in hash em) 0 ++ 1 ∷ salt_in hash bits em)
    && bytes_eq (hash_in hash em)
    (hash_of hash (replicate 8 0 ++ hash_of hash message ++ salt_in hash bits em))

-- IsPssSignature
unfoldable pub pss_test : ℕ → ℕ → ℕ → ℕ → Hash → List ℕ → List ℕ → Bool
pss_test n e k bits hash message signature =
    nat_eq (length signature) k
    && nat_lt (os2ip signature) n
    && nat_lt (os2ip signature ^ e % n) (256 ^ octets_of_bits (bits - 1))
    && pss_encoding_test hash (bits - 1) message
    (i2osp (os2ip signature ^ e % n) (octets_of_bits (bits - 1)))

-- a key, and a signature of RSASSA-PKCS1-v1_5 under it
unfoldable pub pkcs1_accepts : KeyBounds → List ℕ → ℕ → Hash → List ℕ → List ℕ → Bool
pkcs1_accepts bounds modulus exponent hash message signature =
    key_test bounds modulus exponent
    && pkcs1_test (os2ip modulus) exponent (length modulus) hash message signature

-- a key, and a signature of RSASSA-PSS under it
unfoldable pub pss_accepts : KeyBounds → List ℕ → ℕ → Hash → List ℕ → List ℕ → Bool
pss_accepts bounds modulus exponent hash message signature =
    key_test bounds modulus exponent
    && pss_test (os2ip modulus) exponent (length modulus)
    (bit_length modulus) hash message signature
