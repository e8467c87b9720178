-- The words of a `crl` line, and the CRL that they describe.
use Rattle.std.specs.Prelude.{◌≡◌, ℕ, List, ◌∷◌, option_map, codes}
use Rattle.ts_time.specs.Text.{IsGeneral}
use Rattle.ts_make.specs.declared.crl_description.CrlText.{CrlText}
use Rattle.ts_make.specs.Times.{IsTimeOf}
use Rattle.ts_make.specs.CrlMade.{made_crl}
use Rattle.ts_script.specs.declared.crl_line.CrlWords.{CrlWords}
use Rattle.ts_script.specs.Pieces.{pieces_behind}
use Rattle.ts_script.specs.Words.{IsHex, IsDn}
use Rattle.ts_script.specs.CrlLineWords.{AreFields, fields_of}

-- the words after the signer
abbrev pub crl_words : CrlWords → List (List ℕ)
crl_words c = pieces_behind 32 (option_map (λ rest. rest.now) c.others)

-- the words of a `crl` line, in their places
unfoldable pub crl_line : CrlWords → List (List ℕ)
crl_line c =
    codes "crl" ∷ c.name.now ∷ codes "issuer" ∷ c.issuer.now ∷ codes "this" ∷ c.this_update.now
    ∷ codes "next" ∷ c.next_update.now
    ∷ codes "signer" ∷ c.signer.now ∷ crl_words c

-- the words are those of the description
pub record IsListSaid (c : CrlWords) (text : CrlText) : Type 0 where
  pub issuer : IsDn c.issuer.now text.issuer.now
  pub this_update : IsGeneral c.this_update.now text.this_update
  pub next_update : IsGeneral c.next_update.now text.next_update
  pub signer : IsHex c.signer.now text.signer.now
  pub fields : AreFields (crl_words c) (fields_of text)

-- the octets are those of the list that the words describe
abbrev pub IsCrlMade : CrlWords → List ℕ → Type 0
IsCrlMade c octets =
    (text : CrlText) × IsListSaid c text × (this : List ℕ) × (next : List ℕ)
    × IsTimeOf this text.this_update × IsTimeOf next text.next_update
    × (octets ≡ made_crl this next text)
