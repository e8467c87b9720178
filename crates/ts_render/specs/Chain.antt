-- The certificates of a question, and which of them is not good.
use Rattle.std.specs.Prelude.{◌≡◌, ◌+◌, ◌==◌, ℕ, Bool, false, List, [], ◌∷◌, Option, Some, None}
use Rattle.std.specs.Prelude.{option_map, string_bytes}
use Rattle.ts_cert.specs.Certificate.{Certificate}
use Rattle.ts_cert.specs.Encoding.{IsCertificate}
use Rattle.ts_line.specs.Names.{name_text}
use Rattle.ts_question.specs.Question.{StoreQuestion}
use Rattle.ts_question.specs.declared.question.Target.{Target}
use Rattle.ts_question.specs.declared.question.Target.TheVariants as target
use Rattle.ts_question.specs.declared.reply.Reply.{Reply}
use Rattle.ts_question.specs.declared.reply.Reply.TheVariants.{Invalid, Malformed}
use Rattle.ts_render.specs.Texts.{TellsMoment}
use Rattle.ts_render.specs.declared.chain.CertificateFields.{CertificateFields}

abbrev pub of_target : Target → List (List ℕ)
of_target (target.Chain anchor certificates) = certificates
of_target (target.Search certificates) = certificates
of_target other = []

abbrev pub certificates_in : StoreQuestion → List (List ℕ)
certificates_in asked = of_target asked.target

-- the place that a reply names as not good, counted from 1
abbrev pub failing_in : Reply → Option ℕ
failing_in (Invalid position reason) = Some position
failing_in (Malformed index fault place) = Some index
failing_in other = None

abbrev pub is_place : ℕ → Option ℕ → Bool
is_place place (Some failing) = place == failing
is_place place None = false

-- what is shown of a certificate, by its octets: its subject and its validity; of octets that are
-- no certificate's nothing
pub record IsShown (octets : List ℕ) (fields : CertificateFields) : Type 0 where
  pub subject : (c : Certificate) → IsCertificate octets c
      → string_bytes fields.subject ≡ name_text c.tbsCertificate.subject
  pub not_before : (c : Certificate) → IsCertificate octets c
      → TellsMoment c.tbsCertificate.validity.not_before.moment
      (option_map string_bytes fields.not_before)
  pub not_after : (c : Certificate) → IsCertificate octets c
      → TellsMoment c.tbsCertificate.validity.not_after.moment
      (option_map string_bytes fields.not_after)
  pub nothing : ((c : Certificate) → ¬ (IsCertificate octets c))
      → (string_bytes fields.subject ≡ []) × (fields.not_before ≡ None) × (fields.not_after ≡ None)

-- what is shown of certificates, of which the first is at this place, and whether each is the one
-- that is not good
abbrev pub AreShown : List CertificateFields → ℕ → List (List ℕ) → Option ℕ → Type 0
AreShown [] place [] failing = Unit {0}
AreShown (f ∷ fs) place (c ∷ cs) failing =
    IsShown c f × (f.fails ≡ is_place place failing) × AreShown fs (place + 1) cs failing
AreShown fields place certificates failing = ⊥
