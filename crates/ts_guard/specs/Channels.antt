-- A connection as each side has it, once both hellos were said.
use Rattle.std.specs.Prelude.{ℕ, List}
use Rattle.ts_guard.specs.Session.{context}
use Rattle.ts_guard.specs.Opening.{IsNewOpener}
use Rattle.ts_guard.specs.Sealing.{IsNewSealer}
use Rattle.ts_guard.specs.declared.challenger.Challenger.{Challenger}
use Rattle.ts_guard.specs.declared.channel.Channel.{Channel}
use Rattle.ts_guard.specs.declared.greeter.Greeter.{Greeter}
use Rattle.ts_guard.specs.declared.hello.Greeting.{Greeting}
use Rattle.ts_guard.specs.declared.session.Direction.{Direction}
use Rattle.ts_guard.specs.declared.session.Session.{Session}

-- a session is the server's own challenge and what the client has said; or what the server has said
-- and the client's own greeting
abbrev pub server_session : Challenger → Greeting → Session
server_session server greeting = record {
  key_id = greeting.key_id;
  challenge =
      server.challenge;
  nonce = greeting.nonce;
}

abbrev pub client_session : Greeter → List ℕ → Session
client_session client challenge = record {
  key_id = client.greeting.key_id;
  challenge =
      challenge;
  nonce = client.greeting.nonce;
}

-- what comes is opened in one direction and what leaves is sealed in the other, with one key and in
-- one session, both from the number 0 on
pub record IsChannel (key : List ℕ) (session : Session) (comes leaves : Direction) (held : List ℕ)
    (channel : Channel) : Type 0 where
  pub opens : IsNewOpener key (context session comes) held channel.opener
  pub seals : IsNewSealer key (context session leaves) channel.sealer
