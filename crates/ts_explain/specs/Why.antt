-- Why a certificate of a chain is not good, in words.
use Rattle.std.specs.Prelude.{◌≡◌, ◌==◌, ℕ, ℤ, List, [], ◌∷◌, ◌++◌, Option, Some, None, codes}
use Rattle.std.specs.Prelude.{if◌then◌else◌, slice_index_or}
use Rattle.ts_der.specs.declared.oid.OidRef.{OidRef}
use Rattle.ts_sig.specs.declared.algorithm.SignatureAlgorithm.{SignatureAlgorithm}
use Rattle.ts_sig.specs.Algorithm.{algorithm_named}
use Rattle.ts_time.specs.Text.{IsGeneral}
use Rattle.ts_cert.specs.Certificate.{Certificate}
use Rattle.ts_reason.specs.declared.reason.Reason.{Reason}
use Rattle.ts_reason.specs.declared.reason.Reason.TheVariants.{AnchorPurpose, Signature, TooEarly}
use Rattle.ts_reason.specs.declared.reason.Reason.TheVariants.{Expired, Revoked, Undetermined}
use Rattle.ts_reason.specs.declared.reason.Reason.TheVariants.{IssuerName, UnsupportedConstraint}
use Rattle.ts_reason.specs.declared.reason.Reason.TheVariants.{NotPermitted, Excluded}
use Rattle.ts_reason.specs.declared.reason.Reason.TheVariants.{PolicyRequired, MapsAny, NotCa}
use Rattle.ts_reason.specs.declared.reason.Reason.TheVariants.{PathLength, KeyUsage}
use Rattle.ts_reason.specs.declared.reason.Reason.TheVariants.{CriticalExtension, FinalPolicy}
use Rattle.ts_reason.specs.declared.reason.Reason.TheVariants.{Purpose}
use Rattle.ts_line.specs.Lines.{printable}
use Rattle.ts_line.specs.Names.{name_text, oid_text}

-- an octet of a text
abbrev at : List ℕ → ℕ → ℕ
at text place = slice_index_or text place 0

-- the year, month, day, hour, minute and second of a GeneralizedTime (RFC 5280 4.1.2.5.2) apart
abbrev pub apart : List ℕ → List ℕ
apart t = at t 0 ∷ at t 1 ∷ at t 2 ∷ at t 3 ∷ 45 ∷ at t 4 ∷ at t 5 ∷ 45 ∷ at t 6 ∷ at t 7
    ∷ 32 ∷ at t 8 ∷ at t 9 ∷ 58 ∷ at t 10 ∷ at t 11 ∷ 58 ∷ at t 12 ∷ at t 13 ∷ codes " UTC"

-- a moment as it is shown
abbrev pub IsShownMoment : ℤ → List ℕ → Type 0
IsShownMoment moment shown =
    (general : List ℕ) → IsGeneral general moment → shown ≡ printable (apart general)

-- words and a moment
abbrev pub IsOfMoment : List ℕ → ℤ → List ℕ → Type 0
IsOfMoment words moment text =
    (shown : List ℕ) × IsShownMoment moment shown × (text ≡ words ++ shown)

-- the reason of a revocation, by its number (RFC 5280 5.3.1)
abbrev pub revocation_words : ℕ → List ℕ
revocation_words code =
    if code == 1 then codes "the key was compromised"
    else (if code == 2 then codes "the key of its CA was compromised"
    else (if code == 3 then codes "what it says has changed"
    else (if code == 4 then codes "another has replaced it"
    else (if code == 5 then codes "it is no longer needed"
    else (if code == 6 then codes "it is on hold"
    else (if code == 9 then codes "a privilege was withdrawn"
    else (if code == 10 then codes "the authority of its attributes was compromised"
    else codes "no reason is given")))))))

-- that the key above it, of the certificate before it or of the anchor, did not sign it, or is of a
-- kind or size that is not checked; or that its algorithm is not
abbrev pub signature_words : Option SignatureAlgorithm → Certificate → List ℕ
signature_words None c = codes "is signed by an algorithm that is not checked here"
signature_words (Some algorithm) c =
    codes "is not signed by the key above it, or that key is of a kind not checked here; its issuer is "
    ++ name_text c.tbsCertificate.issuer

-- that the certificate's issuer is not the subject above it
abbrev pub issuer_words : Certificate → List ℕ
issuer_words c = codes "has the issuer " ++ (name_text c.tbsCertificate.issuer
    ++ codes ", which is not the subject above it")

-- that an extension is not processed, by the content octets of its object identifier
abbrev pub extension_words : List ℕ → List ℕ
extension_words content = codes "has the critical extension " ++ (oid_text content
    ++ codes ", which is not processed")

-- ---- by the reason

-- the words of a reason that says nothing of the certificate beside itself
abbrev pub plain_words : {O : Type 0} → Reason O → List ℕ
plain_words AnchorPurpose = codes "is under a trust anchor that is not trusted for this purpose"
plain_words Undetermined =
    codes "may be revoked: the CRL that would tell is missing, or not of this moment"
plain_words UnsupportedConstraint =
    codes "has a name whose form is constrained and not processed"
plain_words NotPermitted = codes "has a name that lies in no permitted subtree"
plain_words Excluded = codes "has a name that lies in an excluded subtree"
plain_words PolicyRequired = codes "has no valid policy, and one is required"
plain_words MapsAny = codes "maps anyPolicy to a policy or back"
plain_words NotCa = codes "issued another one and is not of a CA"
plain_words PathLength = codes "is followed by more certificates than a path length allows"
plain_words KeyUsage = codes "issued another one and its key is not for that"
plain_words FinalPolicy = codes "has none of the policies that are asked for"
plain_words Purpose = codes "is not for the purpose that is asked for"
plain_words other = []

-- the words say this reason of this certificate
abbrev pub IsWhy : Certificate → Reason OidRef → List ℕ → Type 0
IsWhy c Signature words =
    words ≡ signature_words (algorithm_named c.signatureAlgorithm.whole) c
IsWhy c TooEarly words =
    IsOfMoment (codes "is not valid before ") c.tbsCertificate.validity.not_before.moment words
IsWhy c Expired words =
    IsOfMoment (codes "expired after ") c.tbsCertificate.validity.not_after.moment words
IsWhy c (Revoked code) words = words ≡ codes "is revoked: " ++ revocation_words code
IsWhy c IssuerName words = words ≡ issuer_words c
IsWhy c (CriticalExtension oid) words = words ≡ extension_words oid.content.now
IsWhy c other words = words ≡ plain_words other
