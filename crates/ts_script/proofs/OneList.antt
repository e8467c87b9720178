-- The words of a `crl` line are those of one list, and it is answered, or refused with one word.
use Rattle.std.proofs.Common.{◌≡◌, ◌∙◌, refl, sym, ap, subst, ℕ, List}
use Rattle.ts_time.specs.Text.{IsGeneral}
use Rattle.ts_time.proofs.TextLemmas.{IsGeneral-one_moment}
use Rattle.ts_make.specs.declared.crl_description.CrlText.{CrlText}
use Rattle.ts_make.specs.Times.{IsTimeOf}
use Rattle.ts_make.specs.CrlMade.{made_crl}
use Rattle.ts_make.proofs.OneTime.{one-time}
use Rattle.ts_make.proofs.SameCrl.{made_crl-same}
use Rattle.ts_script.specs.declared.crl_line.CrlWords.{CrlWords}
use Rattle.ts_script.specs.declared.script.LineFault.{LineFault}
use Rattle.ts_script.specs.declared.script.LineFault.TheVariants.{Unknown, Form, Name, Limit, Message, Memory}
use Rattle.ts_script.specs.Words.{IsHex, IsDn, RefusesWord}
use Rattle.ts_script.specs.CrlLineWords.{Fields, AreFields, fields_of}
use Rattle.ts_script.specs.Known.{Entry}
use Rattle.ts_script.specs.CrlLine.{crl_line, crl_words, IsListSaid, IsCrlMade}
use Rattle.ts_script.specs.Objects.{a_crl, IsUnreadable, RefusesWords}
use Rattle.ts_script.proofs.OneParts.{one_hex}
use Rattle.ts_script.proofs.OneCertificate.{one_dn}
use Rattle.ts_script.proofs.CrlReading.{one_fields}

-- two lists of words in the places of a `crl` line say the same
crl_said_again : (v w : CrlWords) (text : CrlText) → crl_line v ≡ crl_line w → IsListSaid v text → IsListSaid w text
unfolding crl_line
crl_said_again v w text same said =
    let issuer : v.issuer.now ≡ w.issuer.now = cc in
    let this : v.this_update.now ≡ w.this_update.now = cc in
    let next : v.next_update.now ≡ w.next_update.now = cc in
    let signer : v.signer.now ≡ w.signer.now = cc in
    let others : crl_words v ≡ crl_words w = cc in
    record {
      issuer = subst (λ x. IsDn x text.issuer.now) issuer said.issuer;
      this_update = subst (λ x. IsGeneral x text.this_update) this said.this_update;
      next_update = subst (λ x. IsGeneral x text.next_update) next said.next_update;
      signer = subst (λ x. IsHex x text.signer.now) signer said.signer;
      fields = subst (λ (words : List (List ℕ)). AreFields words (fields_of text)) others said.fields;
    }

-- what the one words describe, the others do
pub crl_made_again : (v w : CrlWords) (octets : List ℕ) → crl_line v ≡ crl_line w → IsCrlMade v octets → IsCrlMade w octets
crl_made_again v w octets same is = (is.0, crl_said_again v w is.0 same is.1, is.2, is.3, is.4, is.5, is.6)

-- words that gather in no fields describe nothing
pub refuses_crl : {P : Type 0} (known : List Entry) (c : CrlWords) (fault : LineFault) → RefusesWord P fault
    → (P → (octets : List ℕ) → IsCrlMade c octets → IsUnreadable a_crl octets) → RefusesWords a_crl known c fault
refuses_crl known c Form refused none = none refused
refuses_crl known c Name refused none = absurd refused
refuses_crl known c Limit refused none = absurd refused
refuses_crl known c Memory refused none = tt
refuses_crl known c Message refused none = refused
refuses_crl known c Unknown refused none = refused

-- what is made depends on what is described
crl_same : (this next this' next' : List ℕ) (t u : CrlText) → this ≡ this' → next ≡ next' → made_crl this next t ≡ made_crl this next u → made_crl this next t ≡ made_crl this' next' u
crl_same this next this' next' t u e f same = same ∙ rw (e, f) refl

-- one list of octets is the list that the words describe
pub one_crl_made : (c : CrlWords) (octets others : List ℕ) → IsCrlMade c octets → IsCrlMade c others → octets ≡ others
one_crl_made c octets others is also =
    let t = is.0 in
    let u = also.0 in
    let said = is.1 in
    let again = also.1 in
    let from = IsGeneral-one_moment c.this_update.now t.this_update u.this_update said.this_update again.this_update in
    let to = IsGeneral-one_moment c.next_update.now t.next_update u.next_update said.next_update again.next_update in
    let this = one-time is.2 also.2 u.this_update (subst (IsTimeOf is.2) from is.4) also.4 in
    let next = one-time is.3 also.3 u.next_update (subst (IsTimeOf is.3) to is.5) also.5 in
    let fields = one_fields (crl_words c) (fields_of t) (fields_of u) said.fields again.fields in
    let same = made_crl-same is.2 is.3 t u (one_dn c.issuer.now t.issuer.now u.issuer.now said.issuer again.issuer) from to
    (one_hex c.signer.now t.signer.now u.signer.now said.signer again.signer)
    (ap (λ (f : Fields). f.entries) fields) (ap (λ (f : Fields). f.number) fields) (ap (λ (f : Fields). f.base) fields) (ap (λ (f : Fields). f.reasons) fields)
    (ap (λ (f : Fields). f.uris) fields) (ap (λ (f : Fields). f.critical) fields) in
    is.6 ∙ (crl_same is.2 is.3 also.2 also.3 t u this next same ∙ sym also.6)
