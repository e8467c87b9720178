-- A hash, and what it is of.
use Rattle.std.specs.Prelude.{◌≡◌, ℕ, List}
use Rattle.arrayvec.specs.ArrayVec.{array_vec_len}
use Rattle.ts_digest.specs.declared.message.Digest.{Digest}
use Rattle.ts_digest.specs.Hash.{hash_of, hash_size}

-- a digest is the hash of these octets by its function
pub record IsDigestOf (digest : Digest) (octets : List ℕ) : Type 0 where
  pub items : digest.octets.items ≡ hash_of digest.hash octets
  pub len : array_vec_len digest.octets ≡ hash_size digest.hash
