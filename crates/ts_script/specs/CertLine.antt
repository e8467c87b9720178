-- The words of a `cert` line, and the certificate that they describe.
use Rattle.std.specs.Prelude.{◌≡◌, ℕ, List, ◌∷◌, map, option_map, codes}
use Rattle.ts_time.specs.Text.{IsGeneral}
use Rattle.ts_make.specs.declared.description.CertText.{CertText}
use Rattle.ts_make.specs.Times.{IsTimeOf}
use Rattle.ts_make.specs.Made.{made_certificate}
use Rattle.ts_script.specs.declared.cert_line.CertWords.{CertWords}
use Rattle.ts_script.specs.Pieces.{pieces_behind}
use Rattle.ts_literal.specs.Literals.{IsNumber}
use Rattle.ts_script.specs.Words.{IsHex, IsDn}
use Rattle.ts_script.specs.Parts.{part_in}
use Rattle.ts_script.specs.ExtensionWords.{AreParts}

-- the words after the signer
abbrev pub extension_words : CertWords → List (List ℕ)
extension_words c = pieces_behind 32 (option_map (λ rest. rest.now) c.others)

-- the words of a `cert` line, in their places
unfoldable pub cert_line : CertWords → List (List ℕ)
cert_line c =
    codes "cert" ∷ c.name.now ∷ codes "serial" ∷ c.serial.now ∷ codes "issuer" ∷ c.issuer.now
    ∷ codes "subject" ∷ c.subject.now
    ∷ codes "from" ∷ c.from.now ∷ codes "to" ∷ c.to.now ∷ codes "key" ∷ c.key.now ∷ codes "signer"
    ∷ c.signer.now
    ∷ extension_words c

-- the words are those of the description
pub record IsSaid (c : CertWords) (text : CertText) : Type 0 where
  pub serial : IsNumber c.serial.now text.serial
  pub issuer : IsDn c.issuer.now text.issuer.now
  pub subject : IsDn c.subject.now text.subject.now
  pub not_before : IsGeneral c.from.now text.from
  pub not_after : IsGeneral c.to.now text.to
  pub key : IsHex c.key.now text.key.now
  pub signer : IsHex c.signer.now text.signer.now
  pub extensions : AreParts (extension_words c) (map part_in text.extensions.now)

-- the octets are those of the certificate that the words describe
abbrev pub IsMade : CertWords → List ℕ → Type 0
IsMade c octets =
    (text : CertText) × IsSaid c text × (before : List ℕ) × (after : List ℕ)
    × IsTimeOf before text.from × IsTimeOf after text.to
    × (octets ≡ made_certificate before after text)
