-- The certificate that a description says, and the forms of its times.
use Rattle.std.proofs.Common.{ℕ, ◌≤◌, ℤ, inl, inr, List, ◌++◌, length, None, refl, arith}
use Rattle.ts_field.specs.declared.time.TimeForm.TheVariants.{Utc, General}
use Rattle.ts_field.specs.declared.time.Time.{Time}
use Rattle.ts_field.specs.Time.{IsTime}
use Rattle.sha2.specs.Sha256.{sha256}
use Rattle.ts_time.specs.Civil.{IsInYears}
use Rattle.ts_cert.specs.declared.version.Version.TheVariants.{V3}
use Rattle.ts_cert.specs.Certificate.{Tbs, Certificate}
use Rattle.ts_make.specs.declared.description.CertText.{CertText}
use Rattle.ts_make.specs.Serial.{serial_content}
use Rattle.ts_make.specs.Description.{rdns_in, stand_in, Says}
use Rattle.ts_make.specs.Extensions.{described_extensions, field_of}
use Rattle.ts_make.specs.Times.{IsTimeOf}
use Rattle.ts_make.specs.Made.{tbs_octets}
use Rattle.ts_make.proofs.StandIns.{content-short}
use Rattle.ts_make.proofs.OneTime.{in_years_or_not}

abbrev pub tbs_said : Time → Time → CertText → Tbs
tbs_said before after text =
    record {
      version = V3;
      serialNumber = serial_content text.serial;
      signature = stand_in;
      issuer = rdns_in text.issuer.now;
      validity = record { not_before = before; not_after = after };
      subject = rdns_in text.subject.now;
      subjectPublicKeyInfo = record { algorithm = stand_in; subjectPublicKey = text.key.now };
      issuerUniqueID = None;
      subjectUniqueID = None;
      extensions = field_of (described_extensions text.extensions.now);
    }

abbrev pub said : List ℕ → List ℕ → Time → Time → CertText → Certificate
said b a before after text =
    record {
      tbs = tbs_octets b a text;
      tbsCertificate = tbs_said before after text;
      signatureAlgorithm = stand_in;
      signatureValue = sha256 (text.signer.now ++ tbs_octets b a text);
    }

-- the time that octets are, of a moment in the years 0 to 9999
pub record IsSaidAt (octets : List ℕ) (moment : ℤ) : Type 0 where
  pub time : Time
  pub is : IsTime octets time
  pub says : Says time moment

pub time-said : (octets : List ℕ) (moment : ℤ) → IsTimeOf octets moment → IsInYears 0 9999 moment → length octets ≤ 4194304 → IsSaidAt octets moment
time-said octets moment is years le =
    elim (in_years_or_not 1950 2049 moment) [
      | inl utc ↦
          let t = is.utc utc in
          let short : length t.0 ≤ length octets = rw t.2 (content-short 0x17 t.0) in
          record {
            time = record { form = Utc; moment = moment };
            is = record { content = t.0; fits = record { octet = omega arith; low = omega arith; short = omega arith }; encoded = t.2; value = t.1 };
            says = record { at = refl; utc = λ _. refl; general = λ no. absurd (no utc) };
          }
      | inr not_utc ↦
          let t = is.general not_utc years in
          let short : length t.0 ≤ length octets = rw t.2 (content-short 0x18 t.0) in
          record {
            time = record { form = General; moment = moment };
            is = record { content = t.0; fits = record { octet = omega arith; low = omega arith; short = omega arith }; encoded = t.2; value = t.1 };
            says = record { at = refl; utc = λ yes. absurd (not_utc yes); general = λ _. refl };
          }
    ]
