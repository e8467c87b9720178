-- The lines whose words describe a certificate or a CRL: what each of them prints and makes known, or
-- why it is refused.
use Rattle.std.specs.Prelude.{◌≡◌, ◌≢◌, ℕ, ◌<◌, ◌≤◌, List, [], ◌∷◌, ◌++◌, length, true, false, Err}
use Rattle.std.specs.Prelude.{is_ok, None, codes}
use Rattle.std.specs.Fmt.{decimal}
use Rattle.ts_shape.specs.declared.fault.CertFault.{CertFault}
use Rattle.ts_cert.specs.Reading.{certificate_of}
use Rattle.ts_crl.specs.Fault.{broken}
use Rattle.ts_crl.specs.Table.{crl_of}
use Rattle.ts_make.specs.CrlMaking.{IsTaken}
use Rattle.ts_script.specs.declared.cert_line.CertWords.{CertWords}
use Rattle.ts_script.specs.declared.crl_line.CrlWords.{CrlWords}
use Rattle.ts_script.specs.declared.script.LineFault.{LineFault}
use Rattle.ts_script.specs.declared.script.LineFault.TheVariants.{Unknown, Form, Name, Limit}
use Rattle.ts_script.specs.declared.script.LineFault.TheVariants.{Message, Memory}
use Rattle.ts_script.specs.Words.{words_of, IsName}
use Rattle.ts_script.specs.Known.{Entry, Thing, certificate, revocation_list, thing_named}
use Rattle.ts_script.specs.CertLine.{cert_line, IsMade as IsCertMade}
use Rattle.ts_script.specs.CrlLine.{crl_line, IsCrlMade}

-- what a line describes
pub data Object : Type 0 where
  a_certificate : Object
  a_crl : Object

-- ---- each of the two

-- the words of its line; those that its line has, in their places; and the name among them
abbrev pub WordsOf : Object → Type 0
WordsOf a_certificate = CertWords
WordsOf a_crl = CrlWords

abbrev pub line_of : (o : Object) → WordsOf o → List (List ℕ)
line_of a_certificate c = cert_line c
line_of a_crl c = crl_line c

abbrev pub name_in : (o : Object) → WordsOf o → List ℕ
name_in a_certificate c = c.name.now
name_in a_crl c = c.name.now

-- the octets are those of what the words describe
abbrev pub IsMade : (o : Object) → WordsOf o → List ℕ → Type 0
IsMade a_certificate c octets = IsCertMade c octets
IsMade a_crl c octets = IsCrlMade c octets

-- the most octets that it may have
abbrev pub most : Object → ℕ
most a_certificate = 65536
most a_crl = 4194304

-- reading takes the octets; or it refuses them, a CRL's for a rule that has a place
abbrev pub Reads : Object → List ℕ → Type 0
Reads a_certificate octets = is_ok (certificate_of octets) ≡ true
Reads a_crl octets = IsTaken (crl_of octets)

abbrev pub IsRefused : Object → List ℕ → Type 0
IsRefused a_certificate octets = is_ok (certificate_of octets) ≡ false
IsRefused a_crl octets = (fault : CertFault) × (crl_of octets ≡ Err (broken fault))

-- what the name stands for then, and the first word of the line and of its answer
abbrev pub thing : Object → List ℕ → Thing
thing a_certificate octets = certificate octets
thing a_crl octets = revocation_list octets

abbrev pub keyword : Object → List ℕ
keyword a_certificate = codes "cert"
keyword a_crl = codes "crl"

-- ---- what both are

-- the answer to a line: its first word, the name, and how many octets there are
abbrev pub kept_text : List ℕ → List ℕ → ℕ → List ℕ
kept_text word name count =
    word ++ (codes " " ++ (name ++ (codes " " ++ (decimal count ++ codes "\n"))))

-- the words describe something that is not too long, whose number of octets is printed, and which is
-- known by its name from then on; before, nothing was
abbrev pub IsKept : (o : Object) → List Entry → WordsOf o → List ℕ → List Entry → Type 0
IsKept o known c text after =
    (octets : List ℕ) × IsMade o c octets × (length octets ≤ most o) × Reads o octets
    × (thing_named known (name_in o c) ≡ None)
    × (after ≡ known ++ (name_in o c, thing o octets) ∷ [])
    × (text ≡ kept_text (keyword o) (name_in o c) (length octets))

-- the words are in their places, and the name is one
abbrev pub IsLine : (o : Object) → List ℕ → WordsOf o → Type 0
IsLine o line c = (words_of line ≡ line_of o c) × IsName (name_in o c)

-- a line prints and makes known what its words say
abbrev pub IsSaid : Object → List Entry → List ℕ → List ℕ → List Entry → Type 0
IsSaid o known line text after = (c : WordsOf o) × IsLine o line c × IsKept o known c text after

-- octets that are not too long, and no such object
abbrev pub IsUnreadable : Object → List ℕ → Type 0
IsUnreadable o octets = (length octets ≤ most o) × IsRefused o octets

-- why words are refused: they describe nothing, or what they describe can't be read; they describe
-- something, but the name is taken; it is not, but there are too many octets
abbrev pub RefusesWords : (o : Object) → List Entry → WordsOf o → LineFault → Type 0
RefusesWords o known c Form = (octets : List ℕ) → IsMade o c octets → IsUnreadable o octets
RefusesWords o known c Name = (octets : List ℕ) × IsMade o c octets × ¬ (IsUnreadable o octets)
    × (thing_named known (name_in o c) ≢ None)
RefusesWords o known c Limit = (octets : List ℕ) × IsMade o c octets
    × (thing_named known (name_in o c) ≡ None) × (most o < length octets)
RefusesWords o known c Memory = Unit {0}
RefusesWords o known c Message = ⊥
RefusesWords o known c Unknown = ⊥

-- why a line is: it has no words in their places that describe anything; it has, but they are
-- refused
abbrev pub Refuses : Object → List Entry → List ℕ → LineFault → Type 0
Refuses o known line Form = (c : WordsOf o) → IsLine o line c → RefusesWords o known c Form
Refuses o known line Name = (c : WordsOf o) × IsLine o line c × RefusesWords o known c Name
Refuses o known line Limit = (c : WordsOf o) × IsLine o line c × RefusesWords o known c Limit
Refuses o known line Memory = Unit {0}
Refuses o known line Message = ⊥
Refuses o known line Unknown = ⊥
