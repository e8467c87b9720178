-- The rows of a page, and their one encoding: a trust anchor or a CRL of a store, or a command that
-- it took.
use Rattle.std.specs.Prelude.{◌≡◌, ◌<◌, ◌^◌, ℕ, ℤ, List, ◌∷◌, ◌++◌, length}
use Rattle.std.specs.Int.{to_be_bytes, w32, w64, cast_unsigned}
use Rattle.std.specs.Int.RustNames.{FitsSigned}
use Rattle.ts_codec.specs.Parts.{blob16}

-- the SHA-256 of its certificate, the content of its subject, and its purposes
pub record AnchorLine : Type 0 where
  pub id : List ℕ
  pub subject : List ℕ
  pub purposes : List ℕ

-- its SHA-256, the content of its issuer, those of its CRL number and of its base CRL number, and
-- the value of its issuingDistributionPoint, each none where it has none; thisUpdate and
-- nextUpdate; how many entries and how many octets it has
pub record CrlLine : Type 0 where
  pub id : List ℕ
  pub issuer : List ℕ
  pub number : List ℕ
  pub base : List ℕ
  pub scope : List ℕ
  pub this_update : ℤ
  pub next_update : ℤ
  pub entries : ℕ
  pub size : ℕ

-- its id; its kind; how many octets its certificate or its CRL has; the id of the anchor or of the
-- CRL that it is about, and the purposes that it sets, each none where it has none; its outcome: 0
-- applied, 1 repeated, 2 refused, and the position of the first command of its id, or the code of
-- the refusal
pub record CommandLine : Type 0 where
  pub id : List ℕ
  pub kind : ℕ
  pub size : ℕ
  pub about : List ℕ
  pub purposes : List ℕ
  pub outcome : ℕ
  pub detail : ℕ

-- ---- encoding

-- the seconds since 1970-01-01T00:00:00Z, in two's complement
unfoldable pub moment_encoding : ℤ → List ℕ
moment_encoding moment = to_be_bytes w64 (cast_unsigned w64 moment)

-- 1, 32 octets of the id, and the others after two octets of their length each
abbrev pub anchor_encoding : AnchorLine → List ℕ
anchor_encoding l = 1 ∷ (l.id ++ (blob16 l.subject ++ blob16 l.purposes))

-- 2, 32 octets of the id, four after two octets of their length each, and the numbers
abbrev pub crl_encoding : CrlLine → List ℕ
crl_encoding l = 2
    ∷ (l.id
    ++ (blob16 l.issuer
    ++ (blob16 l.number
    ++ (blob16 l.base
    ++ (blob16 l.scope
    ++ (moment_encoding l.this_update
    ++ (moment_encoding l.next_update
    ++ (to_be_bytes w32 l.entries
    ++ to_be_bytes w32 l.size))))))))

-- 3, 16 octets of the id, the kind, the size, what it is about and the purposes, each after two
-- octets of its length, and the outcome
abbrev pub command_encoding : CommandLine → List ℕ
command_encoding l = 3
    ∷ (l.id
    ++ (l.kind
    ∷ (to_be_bytes w32 l.size
    ++ (blob16 l.about
    ++ (blob16 l.purposes
    ++ (l.outcome
    ∷ to_be_bytes w32 l.detail))))))

-- ---- which have an encoding

pub record AnchorFits (l : AnchorLine) : Type 0 where
  pub id : length l.id ≡ 32
  pub subject : length l.subject < 2 ^ 16
  pub purposes : length l.purposes < 2 ^ 16

pub record CrlFits (l : CrlLine) : Type 0 where
  pub id : length l.id ≡ 32
  pub issuer : length l.issuer < 2 ^ 16
  pub number : length l.number < 2 ^ 16
  pub base : length l.base < 2 ^ 16
  pub scope : length l.scope < 2 ^ 16
  pub this_update : FitsSigned w64 l.this_update
  pub next_update : FitsSigned w64 l.next_update
  pub entries : l.entries < 2 ^ 32
  pub size : l.size < 2 ^ 32

pub record CommandFits (l : CommandLine) : Type 0 where
  pub id : length l.id ≡ 16
  pub kind : l.kind < 2 ^ 8
  pub size : l.size < 2 ^ 32
  pub about : length l.about < 2 ^ 16
  pub purposes : length l.purposes < 2 ^ 16
  pub outcome : l.outcome < 2 ^ 8
  pub detail : l.detail < 2 ^ 32
