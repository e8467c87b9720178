-- The hash functions of FIPS 180-4 that signatures name.
use Rattle.std.specs.Prelude.{ℕ, List}
use Rattle.sha2.specs.Sha256.{sha256}
use Rattle.sha2.specs.Sha512.{sha384, sha512}
use Rattle.ts_digest.specs.declared.hash.Hash.{Hash}
use Rattle.ts_digest.specs.declared.hash.Hash.TheVariants.{Sha256, Sha384, Sha512}

-- how many octets a hash has
abbrev pub hash_size : Hash → ℕ
hash_size Sha256 = 32
hash_size Sha384 = 48
hash_size Sha512 = 64

-- the hash of a message
abbrev pub hash_of : Hash → List ℕ → List ℕ
hash_of Sha256 message = sha256 message
hash_of Sha384 message = sha384 message
hash_of Sha512 message = sha512 message
