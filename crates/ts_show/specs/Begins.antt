-- The lines that are shown of octets: how they begin.
use Rattle.std.specs.Prelude.{◌≡◌, ℕ, true, List, [], ◌∷◌, ◌++◌, codes, Option, Some, None}
use Rattle.std.specs.List.{list_all}
use Rattle.std.specs.Fmt.{decimal}
use Rattle.sha2.specs.Sha256.{sha256}
use Rattle.ts_shape.specs.declared.fault.CertFault.{CertFault}
use Rattle.ts_shape.specs.Printed.{rule_name}
use Rattle.ts_cert.specs.Table.{certificate_fault}
use Rattle.ts_crl.specs.Fault.{ListFault, fault_text}
use Rattle.ts_crl.specs.Table.{crl_fault}
use Rattle.ts_show.specs.declared.kind.Kind.{Kind}
use Rattle.ts_show.specs.declared.kind.Kind.TheVariants as kind
use Rattle.ts_show.specs.Kind.{IsKind, word_of}
use Rattle.ts_line.specs.Lines.{is_printable, hex, text_of}

-- the first line is the word for the kind
abbrev pub HeadedBy : Kind → List (List ℕ) → Type 0
HeadedBy kind lines = (rest : List (List ℕ)) × (lines ≡ word_of kind ∷ rest)

-- the line of the digest by which octets are known as a trust anchor or a list
abbrev pub id_line : List ℕ → List ℕ
id_line octets = codes "id " ++ hex (sha256 octets)

-- the same, and the second line has the digest
abbrev pub HeadedById : Kind → List ℕ → List (List ℕ) → Type 0
HeadedById kind octets lines = (rest : List (List ℕ))
    × (lines ≡ word_of kind ∷ id_line octets ∷ rest)

-- the line that says why octets are no certificate: the rule and its place
abbrev pub certificate_fault_line : Option CertFault → List ℕ
certificate_fault_line (Some fault) =
    codes "no certificate: " ++ (rule_name fault.kind ++ (codes " at " ++ decimal fault.at))
certificate_fault_line None = []

-- the line that says why octets are no list: the rule, and its place where it has one
abbrev pub list_fault_line : Option ListFault → List ℕ
list_fault_line (Some fault) = codes "no list: " ++ fault_text fault
list_fault_line None = []

-- how the lines of a kind begin: with its word, and with the digest of a certificate and of a list;
-- of what is neither they are the two faults, and of what is unknown its word alone
abbrev pub Begin : List ℕ → Kind → List (List ℕ) → Type 0
Begin octets kind.Record lines = HeadedBy kind.Record lines
Begin octets kind.Certificate lines = HeadedById kind.Certificate octets lines
Begin octets kind.List lines = HeadedById kind.List octets lines
Begin octets kind.Command lines = HeadedBy kind.Command lines
Begin octets kind.Question lines = HeadedBy kind.Question lines
Begin octets kind.Broken lines = lines
    ≡ certificate_fault_line (certificate_fault octets) ∷ list_fault_line (crl_fault octets) ∷ []
Begin octets kind.Unknown lines = lines ≡ word_of kind.Unknown ∷ []

-- the text is lines of printable characters, each ended by a line feed, that begin as those of what
-- the octets hold
pub record IsShown (octets text : List ℕ) : Type 0 where
  pub kind : Kind
  pub lines : List (List ℕ)
  pub holds : IsKind octets kind
  pub begins : Begin octets kind lines
  pub printable : list_all (list_all is_printable) lines ≡ true
  pub ended : text ≡ text_of lines
