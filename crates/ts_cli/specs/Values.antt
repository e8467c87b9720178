-- What words write: addresses, peers and object identifiers.
use Rattle.std.specs.Prelude.{◌≡◌, ◌≢◌, ◌==◌, ◌⊎◌, ℕ, List, [], Option, Some, None}
use Rattle.std.specs.List.{before_first, after_first}
use Rattle.std.specs.Net.Grammar.{IsSocketV6Text}
use Rattle.std.specs.declared.net.SocketAddrV6.{SocketAddrV6}
use Rattle.ts_der.specs.ObjectIdentifier.{arcs}
use Rattle.ts_der.specs.Dotted.{dotted_text}
use Rattle.ts_literal.specs.Literals.{IsNumberIn}

-- a host, which is not empty and has no colon, a colon, and a port
pub record IsAddress (text host : List ℕ) (port : ℕ) : Type 0 where
  pub before : host ≡ before_first (λ octet. octet == 58) text
  pub some : host ≢ []
  pub behind : IsNumberIn 0 65535 (after_first (λ octet. octet == 58) text) port

-- an address: a host and a port, or an IPv6 address in brackets, a colon and a port (RFC 3986
-- 3.2.2), as `std` reads it
unfoldable pub IsAddressed : List ℕ → Type 0
IsAddressed text = ((host : List ℕ) × (port : ℕ) × IsAddress text host port)
    ⊎ ((address : SocketAddrV6) × IsSocketV6Text text address)

-- the number of a node, 1 to 9, an equals sign, and an address
pub record IsPeer (text : List ℕ) (node : ℕ) (address : List ℕ) : Type 0 where
  pub before : IsNumberIn 1 9 (before_first (λ octet. octet == 61) text) node
  pub behind : address ≡ after_first (λ octet. octet == 61) text
  pub addressed : IsAddressed address

abbrev pub NamesPeer : List ℕ → Type 0
NamesPeer text = (node : ℕ) × (address : List ℕ) × IsPeer text node address

-- the dotted form of contents octets
abbrev pub written : List ℕ → List ℕ
written content = dotted_text (arcs content)

-- the contents octets of the object identifier of a dotted form
abbrev pub IsDotted : List ℕ → List ℕ → Type 0
IsDotted text content = text ≡ written content

-- what a text writes, where there is one
abbrev pub AsWritten : {X : Type 0} → (List ℕ → X → Type 0) → Option (List ℕ) → Option X → Type 0
AsWritten writes None None = Unit {0}
AsWritten writes None (Some x) = ⊥
AsWritten writes (Some text) None = ⊥
AsWritten writes (Some text) (Some x) = writes text x
