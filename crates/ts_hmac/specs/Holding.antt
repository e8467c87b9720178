-- An HMAC under way.
use Rattle.std.specs.Prelude.{ℕ, List, ◌++◌}
use Rattle.sha2.specs.Hashers.{Holds256}
use Rattle.ts_hmac.specs.Hmac.{inner_key, outer_key}
use Rattle.ts_hmac.specs.declared.hmac.Hmac.{Hmac}

-- of this key, so much of the text was taken: the inner hash took the inner key and it, the outer
-- hash its key
pub record Holds (state : Hmac) (key text : List ℕ) : Type 0 where
  pub inner : Holds256 state.inner (inner_key key ++ text)
  pub outer : Holds256 state.outer (outer_key key)
