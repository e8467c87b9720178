-- Textual encodings (RFC 7468): the blocks of certificates and of CRLs in a text, line by line.
use Rattle.std.specs.Prelude.{ℕ, ◌+◌, ◌==◌, ◌&&◌, ◌||◌, nat_le, nat_eq, Bool}
use Rattle.std.specs.Prelude.{if◌then◌else◌, List, [], ◌∷◌, ◌++◌, codes, Option, Some, None}
use Rattle.std.specs.Prelude.{Result, Ok, Err}
use Rattle.std.specs.List.{ends_with, slice_split, starts_with, list_all}
use Rattle.std.specs.Str.{bytes_eq}
use Rattle.base64.specs.GeneralPurpose.{decoded_of}
use Rattle.base64.specs.Engines.{standard}
use Rattle.ts_pem.specs.declared.block.Label.{Label}
use Rattle.ts_pem.specs.declared.block.Label.TheVariants.{Certificate, Crl}
use Rattle.ts_pem.specs.declared.fault.PemFault.{PemFault}
use Rattle.ts_pem.specs.declared.fault.PemFault.TheVariants.{NoEnd, NoBegin, OtherEnd, NotBase64}

-- ---- lines

-- a line feed, which is between two lines
abbrev pub is_line_feed : ℕ → Bool
is_line_feed octet = octet == 10

-- the lines of a text; what follows the last line feed is one, empty or not
abbrev pub lines : List ℕ → List (List ℕ)
lines text = slice_split is_line_feed text

-- a space or a control character
abbrev pub is_blank : ℕ → Bool
is_blank octet = nat_le octet 32

-- an octet in front of a line without the blanks at its end
abbrev pub in_front : ℕ → List ℕ → List ℕ
in_front octet [] = if is_blank octet then [] else octet ∷ []
in_front octet (other ∷ rest) = octet ∷ other ∷ rest

-- a line without the blanks at its end, a carriage return among them
unfoldable pub without_blanks : List ℕ → List ℕ
without_blanks [] = []
without_blanks (octet ∷ rest) = in_front octet (without_blanks rest)

-- ---- boundaries (RFC 7468 2)

-- the line before the base64 of a block, and the line after it
abbrev pub begin_line : Label → List ℕ
begin_line Certificate = codes "-----BEGIN CERTIFICATE-----"
begin_line Crl = codes "-----BEGIN X509 CRL-----"

abbrev pub end_line : Label → List ℕ
end_line Certificate = codes "-----END CERTIFICATE-----"
end_line Crl = codes "-----END X509 CRL-----"

-- the label of the block that a line begins, if it begins one that is read
abbrev pub label_of : List ℕ → Option Label
label_of line =
    if bytes_eq line (begin_line Certificate) then Some Certificate
    else if bytes_eq line (begin_line Crl) then Some Crl else None

-- a line begins or ends a block of whatever label
abbrev pub is_begin : List ℕ → Bool
is_begin line = starts_with nat_eq line (codes "-----BEGIN ")

abbrev pub is_end : List ℕ → Bool
is_end line = starts_with nat_eq line (codes "-----END ")

-- a line ends with the end of a block that is read, whatever stands before it
abbrev pub is_stray : List ℕ → Bool
is_stray line = ends_with nat_eq line (end_line Certificate) || ends_with nat_eq line (end_line Crl)

-- ---- base64 (RFC 4648 4)

-- a letter, a digit, a plus sign, a solidus or the sign of padding
abbrev pub is_symbol : ℕ → Bool
is_symbol octet =
    (nat_le 65 octet && nat_le octet 90) || (nat_le 97 octet && nat_le octet 122)
    || (nat_le 47 octet && nat_le octet 57) || (octet == 43) || (octet == 61)

-- the octets of which a text is the base64, with padding, if there are some
unfoldable pub decode : List ℕ → Option (List ℕ)
decode text = decoded_of standard text

-- ---- blocks

-- a block: its label, and the octets that its lines encode
pub record PemBlock : Type 0 where
  pub label : Label
  pub octets : List ℕ

-- a block whose end has not come: its label, the number of the line that begins it, and the base64
-- of the lines since
pub record Open : Type 0 where
  pub label : Label
  pub line : ℕ
  pub body : List ℕ

-- what the lines so far say: the blocks that have ended, in order, and the block that is open
pub record Reading : Type 0 where
  pub blocks : List PemBlock
  pub open_block : Option Open

abbrev pub at_start : Reading
at_start = record { blocks = []; open_block = None }

-- at the end of a block its lines have to be the base64 of some octets
abbrev pub end_block : ℕ → List PemBlock → Label → Option (List ℕ) → Result Reading PemFault
end_block n blocks label None = Err (NotBase64 n)
end_block n blocks label (Some octets) = Ok (record {
  blocks = blocks ++ record { label = label; octets = octets } ∷ [];
  open_block = None;
})

-- line n within a block: its end, or the end of another, or the begin of another, or base64
abbrev pub inside : ℕ → List PemBlock → Open → List ℕ → Result Reading PemFault
inside n blocks o line =
    if bytes_eq line (end_line o.label) then end_block n blocks o.label (decode o.body)
    else if is_end line then Err (OtherEnd n)
    else if is_begin line then Err (NoEnd o.line)
    else if list_all is_symbol line then Ok (record {
      blocks = blocks;
      open_block = Some (record o { body = o.body ++ line });
    })
    else Err (NotBase64 n)

-- Line n outside of all blocks begins the one of this label; or it does not count, unless it ends
-- one that began nowhere: its begin was written otherwise, or is not there, and the certificate
-- would be missed.
abbrev pub outside : ℕ → List PemBlock → List ℕ → Option Label → Result Reading PemFault
outside n blocks line (Some label) = Ok (record {
  blocks = blocks;
  open_block = Some (record { label = label; line = n; body = [] });
})
outside n blocks line None = if is_stray line then Err (NoBegin n)
    else Ok (record { blocks = blocks; open_block = None })

-- line n
abbrev pub step : ℕ → List ℕ → List PemBlock → Option Open → Result Reading PemFault
step n line blocks None = outside n blocks line (label_of line)
step n line blocks (Some o) = inside n blocks o line

-- at the end of the text no block may be open
abbrev pub at_end : List PemBlock → Option Open → Result (List PemBlock) PemFault
at_end blocks None = Ok blocks
at_end blocks (Some o) = Err (NoEnd o.line)

abbrev pub and_then : Result Reading PemFault → (Reading → Result (List PemBlock) PemFault)
    → Result (List PemBlock) PemFault
and_then (Ok r) next = next r
and_then (Err fault) next = Err fault

-- the blocks of lines, of which the first has number n, after those before
unfoldable pub blocks_from : ℕ → List (List ℕ) → Reading → Result (List PemBlock) PemFault
blocks_from n [] r = at_end r.blocks r.open_block
blocks_from n (line ∷ rest) r =
    and_then (step n (without_blanks line) r.blocks r.open_block) (blocks_from (n + 1) rest)

-- the blocks of a text in order, or the first fault; lines are counted from 1
abbrev pub blocks_of : List ℕ → Result (List PemBlock) PemFault
blocks_of text = blocks_from 1 (lines text) at_start
