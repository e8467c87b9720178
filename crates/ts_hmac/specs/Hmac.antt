-- HMAC (RFC 2104, FIPS 198-1) with SHA-256, whose block has B = 64 octets and whose output has 32.
use Rattle.std.specs.Prelude.{ℕ, ◌-◌, List, ◌++◌, length, map, replicate, nat_le, bit_xor}
use Rattle.std.specs.Prelude.{if◌then◌else◌}
use Rattle.sha2.specs.Sha256.{sha256}

-- a key that is longer than a block is hashed first (RFC 2104, 3)
abbrev pub short_key : List ℕ → List ℕ
short_key key = if nat_le (length key) 64 then key else sha256 key

-- 'append zeros to the end of K to create a B byte string' (RFC 2104, 2, step 1)
abbrev pub block_key : List ℕ → List ℕ
block_key key = short_key key ++ replicate (64 - length (short_key key)) 0

-- each octet of a block with the same pad (RFC 2104, 2, steps 2 and 5)
abbrev pub xor_with : ℕ → List ℕ → List ℕ
xor_with pad block = map (λ octet. bit_xor octet pad) block

-- K XOR ipad and K XOR opad, with the octets 36 and 5c (RFC 2104, 2)
abbrev pub inner_key : List ℕ → List ℕ
inner_key key = xor_with 0x36 (block_key key)

abbrev pub outer_key : List ℕ → List ℕ
outer_key key = xor_with 0x5c (block_key key)

-- H(K XOR opad, H(K XOR ipad, text)) (RFC 2104, 2)
unfoldable pub hmac_sha256 : List ℕ → List ℕ → List ℕ
hmac_sha256 key text = sha256 (outer_key key ++ sha256 (inner_key key ++ text))
