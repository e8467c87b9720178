-- The words of a `cert` line are those of one certificate.
use Rattle.std.proofs.Common.{◌≡◌, ◌∙◌, refl, sym, ap, subst, ℕ, ◌<◌, List, [], ◌∷◌, ◌++◌, map, get_or, lit<, arith}
use Rattle.ts_time.proofs.TextLemmas.{IsGeneral-one_moment}
use Rattle.ts_make.specs.declared.description.AttributeType.{AttributeType}
use Rattle.ts_make.specs.declared.description.AttributeType.TheVariants.{CommonName, OrganizationName}
use Rattle.ts_make.specs.declared.description.RdnText.{RdnText}
use Rattle.ts_make.specs.declared.description.CertText.{CertText}
use Rattle.ts_make.specs.Description.{kind_octets, rdn_in, rdns_in}
use Rattle.ts_make.specs.Times.{IsTimeOf}
use Rattle.ts_make.specs.Made.{made_certificate, tbs_octets, tbs_content, name_octets, key_octets}
use Rattle.ts_make.proofs.OneTime.{one-time}
use Rattle.ts_script.specs.declared.cert_line.CertWords.{CertWords}
use Rattle.ts_script.specs.Words.{IsDn, kind_word, rdn_word}
use Rattle.ts_script.specs.Parts.{part_in}
use Rattle.ts_script.specs.CertLine.{IsMade, extension_words}
use Rattle.ts_make.specs.Extensions.{described_extensions}
use Rattle.ts_script.proofs.SameParts.{extensions_same}
use Rattle.ts_script.proofs.OneParts.{one_number, one_hex, one_parts}

abbrev first_octet : List ℕ → ℕ
first_octet xs = get_or xs 0 0

apart : (m n : ℕ) → m ≡ n → m < n → ⊥
apart m n e less = omega arith

-- how a type is written ends where the text begins
one_kind : (k l : AttributeType) (t u : List ℕ) → kind_word k ++ t ≡ kind_word l ++ u → (kind_octets k ≡ kind_octets l) × (t ≡ u)
one_kind CommonName CommonName t u e = (refl, cc)
one_kind CommonName OrganizationName t u e = absurd (apart 67 79 (ap first_octet e) (lit< tt))
one_kind OrganizationName CommonName t u e = absurd (apart 67 79 (sym (ap first_octet e)) (lit< tt))
one_kind OrganizationName OrganizationName t u e = (refl, cc)

one_rdn : (a b : RdnText) → rdn_word a ≡ rdn_word b → rdn_in a ≡ rdn_in b
one_rdn a b e = let same = one_kind a.kind b.kind a.text.now b.text.now e in rw (same.0, same.1) refl

one_list : (xs ys : List RdnText) → map rdn_word xs ≡ map rdn_word ys → rdns_in xs ≡ rdns_in ys
one_list [] [] e = refl
one_list [] (y ∷ ys) e = absurd cc
one_list (x ∷ xs) [] e = absurd cc
one_list (x ∷ xs) (y ∷ ys) e =
    let first = one_rdn x y (cc) in
    let rest = one_list xs ys (cc) in
    cc

pub one_dn : (word : List ℕ) (xs ys : List RdnText) → IsDn word xs → IsDn word ys → rdns_in xs ≡ rdns_in ys
one_dn word xs ys is other = one_list xs ys (sym is.pieces ∙ other.pieces)

-- what is made depends on what is described
made_same : (before after before' after' : List ℕ) (t u : CertText) → before ≡ before' → after ≡ after' → t.serial ≡ u.serial
    → rdns_in t.issuer.now ≡ rdns_in u.issuer.now → rdns_in t.subject.now ≡ rdns_in u.subject.now → t.key.now ≡ u.key.now → t.signer.now ≡ u.signer.now
    → described_extensions t.extensions.now ≡ described_extensions u.extensions.now → made_certificate before after t ≡ made_certificate before' after' u
unfolding made_certificate tbs_octets tbs_content name_octets key_octets
made_same before after before' after' t u e f serial issuer subject key signer extensions = rw (e, f, serial, issuer, subject, key, signer, extensions) refl

-- one list of octets is the certificate that the words describe
pub one_made : (c : CertWords) (octets others : List ℕ) → IsMade c octets → IsMade c others → octets ≡ others
one_made c octets others is also =
    let t = is.0 in
    let u = also.0 in
    let said = is.1 in
    let again = also.1 in
    let from = IsGeneral-one_moment c.from.now t.from u.from said.not_before again.not_before in
    let to = IsGeneral-one_moment c.to.now t.to u.to said.not_after again.not_after in
    let before = one-time is.2 also.2 u.from (subst (IsTimeOf is.2) from is.4) also.4 in
    let after = one-time is.3 also.3 u.to (subst (IsTimeOf is.3) to is.5) also.5 in
    let same = made_same is.2 is.3 also.2 also.3 t u before after (one_number c.serial.now t.serial u.serial said.serial again.serial)
    (one_dn c.issuer.now t.issuer.now u.issuer.now said.issuer again.issuer) (one_dn c.subject.now t.subject.now u.subject.now said.subject again.subject)
    (one_hex c.key.now t.key.now u.key.now said.key again.key) (one_hex c.signer.now t.signer.now u.signer.now said.signer again.signer)
    (extensions_same t.extensions.now u.extensions.now (one_parts (extension_words c) (map part_in t.extensions.now) (map part_in u.extensions.now) said.extensions again.extensions)) in
    is.6 ∙ (same ∙ sym also.6)
