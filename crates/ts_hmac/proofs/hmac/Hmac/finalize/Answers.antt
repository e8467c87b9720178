-- The outer hash takes the digest of the inner one.
use Rattle.std.proofs.Common.{◌∙◌, ◌++◌, ap}
use Rattle.sha2.specs.Sha256.{sha256}
use Rattle.ts_hmac.specs.Hmac.{hmac_sha256, inner_key, outer_key}
use Rattle.ts_hmac.proofs.hmac.Hmac.finalize.Goals as goal

pub returns : goal.returns
unfolding hmac_sha256
returns c key text holds =
    c.finalize-2.ensures _ (c.update.ensures (outer_key key) holds.outer)
    ∙ ap (λ inner. sha256 (outer_key key ++ inner))
    (c.finalize.ensures (inner_key key ++ text) holds.inner)
