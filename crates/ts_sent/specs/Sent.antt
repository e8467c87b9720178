-- The chain that was sent. Where a search finds no valid chain, the certificates are looked at as
-- they were sent: the leaf first, and each certified by the next one (RFC 5246 7.4.2), up to the
-- first whose issuer is a trust anchor.
use Rattle.std.specs.Prelude.{◌≡◌, ◌+◌, ℕ, List, [], ◌∷◌, take, reverse, if◌then◌else◌, nat_lt}
use Rattle.std.specs.Prelude.{Option, Some, None, Result, Ok, Err, option_map}
use Rattle.ts_der.specs.declared.fault.Fault.{Fault}
use Rattle.ts_shape.specs.declared.fault.CertFault.{CertFault}
use Rattle.ts_name.specs.Canon.{Attr}
use Rattle.ts_name.specs.Names.{name_of}
use Rattle.ts_name.specs.Sameness.{is_same_name}
use Rattle.ts_cert.specs.Certificate.{Certificate}
use Rattle.ts_cert.specs.Reading.{certificate_of}
use Rattle.ts_question.specs.Question.{StoreQuestion, is_within}
use Rattle.ts_question.specs.Rows.{AnchorLine, AnchorFits, anchor_encoding}
use Rattle.ts_question.specs.declared.question.Target.{Target}
use Rattle.ts_question.specs.declared.question.Target.TheVariants.{Chain, Search}
use Rattle.ts_sent.specs.declared.above.AnchorAbove.{AnchorAbove}

-- ---- what was sent

-- the certificates of a search, the leaf first
abbrev pub sent_in : Target → List (List ℕ)
sent_in (Search certificates) = certificates
sent_in other = []

abbrev pub Names : Type 0
Names = List (List (List Attr))

-- the issuer of a certificate, before those of the ones behind it
abbrev pub with_issuer : Result Certificate CertFault → Names → Names
with_issuer (Ok c) issuers = c.tbsCertificate.issuer ∷ issuers
with_issuer (Err fault) issuers = []

-- the issuers of certificates, up to the first octets that are no certificate
abbrev pub issuers_of : List (List ℕ) → Names
issuers_of [] = []
issuers_of (octets ∷ others) = with_issuer (certificate_of octets) (issuers_of others)

-- ---- the anchor above it

-- the name of which these are the contents octets
abbrev pub name_alone : List ℕ → Result (List (List Attr)) Fault
name_alone content =
    name_of (record { tag = 0x30; content = content; whole = content; at = 0; start = 0 })

-- the place of the first of these issuers that has a name (RFC 5280 6.1.3 (a) (4)), where n stand
-- before them
abbrev pub place_in : Names → List (List Attr) → ℕ → Option ℕ
place_in [] name n = None
place_in (issuer ∷ issuers) name n =
    if is_same_name issuer name then Some n else place_in issuers name (n + 1)

-- of all, where it is a name
abbrev pub place_of : Names → Result (List (List Attr)) Fault → Option ℕ
place_of issuers (Ok name) = place_in issuers name 0
place_of issuers (Err fault) = None

-- an anchor above the first certificate whose issuer it is
abbrev pub above_by : Names → AnchorLine → Option AnchorAbove
above_by issuers line = option_map (λ place. record { place = place; anchor = line.id })
    (place_of issuers (name_alone line.subject))

-- the anchor of a row; a row of another kind has none
pub record IsAbove (issuers : Names) (row : List ℕ) (above : Option AnchorAbove)
    : Type 0 where
  pub anchor : (line : AnchorLine) → AnchorFits line → row ≡ anchor_encoding line
      → above ≡ above_by issuers line
  pub other : ((line : AnchorLine) → AnchorFits line → row ≡ anchor_encoding line → ⊥)
      → above ≡ None

-- octets are the row of an anchor
abbrev pub IsAnchorRow : List ℕ → Type 0
IsAnchorRow row = (line : AnchorLine) × AnchorFits line × (row ≡ anchor_encoding line)

-- of two the one that is nearer to the leaf; where they are equally near, the first
abbrev pub nearer : Option AnchorAbove → Option AnchorAbove → Option AnchorAbove
nearer None b = b
nearer (Some a) None = Some a
nearer (Some a) (Some b) = if nat_lt b.place a.place then Some b else Some a

-- of one that was found before and those of these rows, the nearest
abbrev pub IsNearest : Names → Option AnchorAbove → List (List ℕ)
    → Option AnchorAbove → Type 0
IsNearest issuers found [] nearest = nearest ≡ found
IsNearest issuers found (row ∷ rows) nearest = (above : Option AnchorAbove)
    × IsAbove issuers row above × IsNearest issuers (nearer found above) rows nearest

-- ---- the question about it

-- the certificates up to that one, from the anchor's side, under the anchor, after k commands, on
-- the terms of the search
abbrev pub chain_question : StoreQuestion → ℕ → AnchorAbove → StoreQuestion
chain_question q k above = record {
  terms = record q.terms { k = Some k };
  target = Chain above.anchor (reverse (take (above.place + 1) (sent_in q.target)));
}

-- that question, where it is within the limits of questions
abbrev pub chain_under : StoreQuestion → ℕ → AnchorAbove → Option StoreQuestion
chain_under q k above =
    if is_within (chain_question q k above) then Some (chain_question q k above) else None
