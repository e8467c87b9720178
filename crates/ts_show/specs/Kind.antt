-- What octets hold. The order decides where they are more than one thing.
use Rattle.std.specs.Prelude.{◌≡◌, ℕ, List, ◌∷◌, codes}
use Rattle.ts_cert.specs.Certificate.{Certificate}
use Rattle.ts_cert.specs.Encoding.{IsCertificate}
use Rattle.ts_crl.specs.List.{CertificateList}
use Rattle.ts_crl.specs.Encoding.{IsCertificateList}
use Rattle.ts_command.specs.declared.command.Command.{Command}
use Rattle.ts_command.specs.Commands.{command_encoding, CommandFits}
use Rattle.ts_question.specs.Question.{StoreQuestion, question_encoding, QuestionFits}
use Rattle.ts_show.specs.declared.kind.Kind.{Kind}
use Rattle.ts_show.specs.declared.kind.Kind.TheVariants as kind

-- they begin with the five letters of a record, TSREC
abbrev pub BeginsRecord : List ℕ → Type 0
BeginsRecord octets = (rest : List ℕ) × (octets ≡ 0x54 ∷ 0x53 ∷ 0x52 ∷ 0x45 ∷ 0x43 ∷ rest)

-- they are a certificate
abbrev pub AreCertificate : List ℕ → Type 0
AreCertificate octets = (c : Certificate) × IsCertificate octets c

-- they are a CRL
abbrev pub AreList : List ℕ → Type 0
AreList octets = (c : CertificateList) × IsCertificateList octets c

-- they are a command of a trust store
abbrev pub AreCommand : List ℕ → Type 0
AreCommand octets = (command : Command) × CommandFits command × (octets ≡ command_encoding command)

-- they are a question
abbrev pub AreQuestion : List ℕ → Type 0
AreQuestion octets = (q : StoreQuestion) × QuestionFits q × (octets ≡ question_encoding q)

-- they begin with the tag of a SEQUENCE
abbrev pub BeginSequence : List ℕ → Type 0
BeginSequence octets = (rest : List ℕ) × (octets ≡ 0x30 ∷ rest)

-- they are none of the first one, two, three, four and five things
abbrev pub NoRecord : List ℕ → Type 0
NoRecord octets = BeginsRecord octets → ⊥

abbrev pub NoCertificate : List ℕ → Type 0
NoCertificate octets = NoRecord octets × (AreCertificate octets → ⊥)

abbrev pub NoList : List ℕ → Type 0
NoList octets = NoCertificate octets × (AreList octets → ⊥)

abbrev pub NoCommand : List ℕ → Type 0
NoCommand octets = NoList octets × (AreCommand octets → ⊥)

abbrev pub NoQuestion : List ℕ → Type 0
NoQuestion octets = NoCommand octets × (AreQuestion octets → ⊥)

-- what octets hold: the first of a record, a certificate, a list, a command and a question that
-- they are; else something that begins as a certificate or a list does, or something unknown
abbrev pub IsKind : List ℕ → Kind → Type 0
IsKind octets kind.Record = BeginsRecord octets
IsKind octets kind.Certificate = NoRecord octets × AreCertificate octets
IsKind octets kind.List = NoCertificate octets × AreList octets
IsKind octets kind.Command = NoList octets × AreCommand octets
IsKind octets kind.Question = NoCommand octets × AreQuestion octets
IsKind octets kind.Broken = NoQuestion octets × BeginSequence octets
IsKind octets kind.Unknown = NoQuestion octets × (BeginSequence octets → ⊥)

-- the word for a kind
abbrev pub word_of : Kind → List ℕ
word_of kind.Record = codes "record"
word_of kind.Certificate = codes "certificate"
word_of kind.List = codes "list"
word_of kind.Command = codes "command"
word_of kind.Question = codes "question"
word_of kind.Broken = codes "broken"
word_of kind.Unknown = codes "unknown"
