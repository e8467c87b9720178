-- How long a tag is, for the crates above.
use Rattle.std.proofs.Common.{◌≡◌, List, ℕ, length, refl}
use Rattle.sha2.specs.Sha256.{digest_bytes, sha256}
use Rattle.ts_hmac.specs.Hmac.{hmac_sha256}

pub length-hmac_sha256 : (key text : List ℕ) → length (hmac_sha256 key text) ≡ 32
unfolding hmac_sha256 sha256 digest_bytes
length-hmac_sha256 key text = refl
