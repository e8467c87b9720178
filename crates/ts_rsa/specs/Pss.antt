-- RFC 8017 8.1.2, 9.1.2 and B.2.1: signatures of RSASSA-PSS. MGF1 has the same hash function as the
-- message, and the salt is as long as the hash.
use Rattle.std.specs.Prelude.{◌≡◌, ℕ, ◌+◌, ◌-◌, ◌*◌, ◌/◌, ◌%◌, ◌^◌, ◌<◌, ◌≤◌, List, [], ◌∷◌, ◌++◌}
use Rattle.std.specs.Prelude.{length, take, drop, replicate, slice_index, bit_xor}
use Rattle.ts_digest.specs.declared.hash.Hash.{Hash}
use Rattle.ts_rsa.specs.Octets.{os2ip, i2osp}
use Rattle.ts_digest.specs.Hash.{hash_size, hash_of}

-- MGF1 (B.2.1): the hashes of the seed with 0, 1, 2 and so on in four octets, one after another;
-- this is octet i of them
unfoldable pub mask_octet : Hash → List ℕ → ℕ → ℕ
mask_octet hash seed i =
    slice_index (hash_of hash (seed ++ i2osp (i / hash_size hash) 4)) (i % hash_size hash)

-- octets from octet i on, each xored with that of the mask
unfoldable pub unmasked_from : Hash → List ℕ → ℕ → List ℕ → List ℕ
unmasked_from hash seed i [] = []
unmasked_from hash seed i (x ∷ xs) =
    bit_xor x (mask_octet hash seed i) ∷ unmasked_from hash seed (i + 1) xs

-- how many values the first octet of em has, if em has so many bits: the leftmost
-- 8 emLen - emBits bits are 0
abbrev pub first_octet_limit : ℕ → List ℕ → ℕ
first_octet_limit bits em = 2 ^ (8 - (8 * length em - bits))

-- the leftmost bits of the first octet set to 0
abbrev pub with_first_octet_below : ℕ → List ℕ → List ℕ
with_first_octet_below limit [] = []
with_first_octet_below limit (x ∷ xs) = x % limit ∷ xs

-- H: the hash before the trailer (9.1.2, step 5)
unfoldable pub hash_in : Hash → List ℕ → List ℕ
hash_in hash em = take (hash_size hash) (drop (length em - hash_size hash - 1) em)

-- DB: the first octets, unmasked, with the leftmost bits set to 0 (steps 5, 7, 8 and 9)
unfoldable pub data_block : Hash → ℕ → List ℕ → List ℕ
data_block hash bits em =
    with_first_octet_below (first_octet_limit bits em)
    (unmasked_from hash (hash_in hash em) 0 (take (length em - hash_size hash - 1) em))

-- how many zeros DB begins with: emLen - hLen - sLen - 2
abbrev pub zeros_in : Hash → List ℕ → ℕ
zeros_in hash em = length em - 2 * hash_size hash - 2

-- the salt: what DB has after its zeros and the 1 (step 11)
unfoldable pub salt_in : Hash → ℕ → List ℕ → List ℕ
salt_in hash bits em = drop (zeros_in hash em + 1) (data_block hash bits em)

-- the octets encode the message in so many bits (9.1.2, by the step)
pub record IsPssEncoding (hash : Hash) (bits : ℕ) (message em : List ℕ) : Type 0 where
  -- 3: there is room for hash, salt and two octets
  pub long_enough : 2 * hash_size hash + 2 ≤ length em
  -- 4: the trailer
  pub trailer : slice_index em (length em - 1) ≡ 0xbc
  -- 6: the leftmost bits are 0
  pub first_octet : slice_index em 0 < first_octet_limit bits em
  -- 10: DB is zeros, 1 and the salt
  pub block : data_block hash bits em ≡ replicate (zeros_in hash em) 0 ++ 1 ∷ salt_in hash bits em
  -- 12 to 14: H is the hash of eight zeros, the message's hash and the salt
  pub hashed : hash_in hash em
      ≡ hash_of hash (replicate 8 0 ++ hash_of hash message ++ salt_in hash bits em)

-- how many octets so many bits have (8.1.2, step 2 c)
abbrev pub octets_of_bits : ℕ → ℕ
octets_of_bits bits = (bits + 7) / 8

-- the signature is one of the message under the key of n and e, where n has so many bits in k
-- octets (8.1.2): it has k octets (step 1), is a representative (2 b), and opens to a number that
-- fits the encoded message's octets (2 c), which encode the message (3)
pub record IsPssSignature (n e k bits : ℕ) (hash : Hash) (message signature : List ℕ) : Type 0 where
  pub whole : length signature ≡ k
  pub representative : os2ip signature < n
  pub fits : os2ip signature ^ e % n < 256 ^ octets_of_bits (bits - 1)
  pub encoding : IsPssEncoding hash (bits - 1) message
      (i2osp (os2ip signature ^ e % n) (octets_of_bits (bits - 1)))
