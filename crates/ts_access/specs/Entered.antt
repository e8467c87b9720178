-- What a server's side of a connection has handed on of what came.
use Rattle.std.specs.Prelude.{◌≡◌, ◌⊎◌, ℕ, List, [], ◌++◌, length, Some}
use Rattle.std.specs.List.{AllByRecursion, concat}
use Rattle.ts_guard.specs.Hello.{greeting_octets}
use Rattle.ts_guard.specs.Opening.{IsOpenerFor}
use Rattle.ts_guard.specs.Sealed.{IsContent, stream}
use Rattle.ts_guard.specs.Session.{context}
use Rattle.ts_guard.specs.declared.hello.Greeting.{Greeting}
use Rattle.ts_guard.specs.declared.session.Direction.TheVariants.{FromClient}
use Rattle.ts_guard.specs.declared.session.Session.{Session}
use Rattle.ts_access.specs.Keys.{key_found}
use Rattle.ts_access.specs.Sifted.{Admits, IsSieve}
use Rattle.ts_access.specs.declared.entrance.Entrance.{Entrance}
use Rattle.ts_access.specs.declared.entrance.Stage.{Stage}
use Rattle.ts_access.specs.declared.entrance.Stage.TheVariants as stages
use Rattle.ts_access.specs.declared.key.Key.{Key}
use Rattle.ts_access.specs.declared.line.Line.{Line}
use Rattle.ts_access.specs.declared.sieve.Phase.{Phase}

-- the session of a challenge and a greeting
abbrev pub session_of : List ℕ → Greeting → Session
session_of challenge greeting = record {
  key_id = greeting.key_id;
  challenge = challenge;
  nonce = greeting.nonce;
}

-- the context of what comes on it
abbrev pub comes : List ℕ → Greeting → List ℕ
comes challenge greeting = context (session_of challenge greeting) FromClient

-- What came is a greeting that names a key, the records that were sealed with this key on this
-- connection, of these contents, and a rest.
pub record Tells (keys : List Key) (challenge : List ℕ) (key : Key) (greeting : Greeting)
    (contents : List (List ℕ)) (rest came : List ℕ) : Type 0 where
  pub found : key_found keys greeting.key_id ≡ Some key
  pub each : AllByRecursion IsContent contents
  pub came_is : came ≡ greeting_octets greeting.key_id greeting.nonce ++
      (stream key.secret (comes challenge greeting) 0 contents ++ rest)

-- what was handed on is what the key's role may ask of the first of these contents
pub record Vouches (keys : List Key) (node : ℕ) (challenge came handed : List ℕ) : Type 0 where
  pub key : Key
  pub greeting : Greeting
  pub contents : List (List ℕ)
  pub rest : List ℕ
  pub tells : Tells keys challenge key greeting contents rest came
  pub phase : Phase
  pub seen : List ℕ
  pub unseen : List ℕ
  pub contents_are : concat contents ≡ seen ++ unseen
  pub admits : Admits key.role node phase seen handed

-- a connection whose key was found
pub record Talks (keys : List Key) (node : ℕ) (challenge : List ℕ) (line : Line)
    (came handed : List ℕ) : Type 0 where
  pub key : Key
  pub greeting : Greeting
  pub contents : List (List ℕ)
  pub tells : Tells keys challenge key greeting contents line.channel.opener.held came
  pub for : IsOpenerFor key.secret (comes challenge greeting) line.channel.opener
  pub number : line.channel.opener.number ≡ length contents
  pub sieve : IsSieve line.sieve (concat contents) handed
  pub role : line.sieve.role ≡ key.role
  pub node_is : line.sieve.node ≡ node

-- nothing was handed on, or what a key vouches for
abbrev pub IsVouched : List Key → ℕ → List ℕ → List ℕ → List ℕ → Type 0
IsVouched keys node challenge came handed = (handed ≡ []) ⊎ Vouches keys node challenge came handed

abbrev pub IsAt : List Key → ℕ → List ℕ → Stage → List ℕ → List ℕ → Type 0
IsAt keys node challenge (stages.Waits challenger) came handed = (handed ≡ [])
    × (challenger.held ≡ came) × (challenger.challenge ≡ challenge)
IsAt keys node challenge (stages.Open line) came handed =
    Talks keys node challenge line came handed
IsAt keys node challenge stages.Closed came handed = IsVouched keys node challenge came handed

-- a connection on which this came, and that has handed on these octets
abbrev pub HasHandedOn : List Key → Entrance → List ℕ → List ℕ → Type 0
HasHandedOn keys entrance came handed =
    IsAt keys entrance.node entrance.challenge entrance.stage came handed

-- what was handed on is what a key's role may ask of a front of what was sealed
pub record IsFromHolder (keys : List Key) (node : ℕ) (key : Key) (greeting : Greeting)
    (sent : List (List ℕ)) (handed : List ℕ) : Type 0 where
  pub named : key_found keys greeting.key_id ≡ Some key
  pub phase : Phase
  pub seen : List ℕ
  pub unseen : List ℕ
  pub sent_is : concat sent ≡ seen ++ unseen
  pub admits : Admits key.role node phase seen handed
