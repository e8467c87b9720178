-- What the tags on a connection speak for: whose key it is, which connection, and in which
-- direction.
use Rattle.std.specs.Prelude.{◌≡◌, ◌<◌, ◌^◌, ℕ, List, [], ◌∷◌, ◌++◌, length, codes}
use Rattle.std.specs.Int.{to_be_bytes, w32}
use Rattle.ts_guard.specs.declared.session.Direction.{Direction}
use Rattle.ts_guard.specs.declared.session.Direction.TheVariants.{FromClient, FromServer}
use Rattle.ts_guard.specs.declared.session.Session.{Session}

abbrev pub direction_octet : Direction → ℕ
direction_octet FromClient = 0
direction_octet FromServer = 1

-- the name of the protocol, the key's number, the server's challenge, the client's nonce, and the
-- direction
abbrev pub context : Session → Direction → List ℕ
context session direction =
    codes "lehoratu 3" ++ to_be_bytes w32 session.key_id ++ session.challenge ++ session.nonce ++
    direction_octet direction ∷ []

-- a session as code has it: a key's number of four octets, a challenge and a nonce of 32
pub record Fits (session : Session) : Type 0 where
  pub key_id : session.key_id < 2 ^ 32
  pub challenge : length session.challenge ≡ 32
  pub nonce : length session.nonce ≡ 32
