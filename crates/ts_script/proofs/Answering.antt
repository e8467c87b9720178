-- What answers a line, or refuses it.
use Rattle.std.proofs.Common.{◌≡◌, ◌≢◌, ◌∙◌, sym, ap, subst, ℕ, List, map, Option, None, Some, is_some, option_map, MatchOption, ok_or, true, false, Ok, Err}
use Rattle.ts_time.specs.Text.{IsGeneral}
use Rattle.ts_make.specs.declared.description.CertText.{CertText}
use Rattle.ts_script.specs.declared.cert_line.CertWords.{CertWords}
use Rattle.ts_script.specs.declared.script.LineFault.{LineFault}
use Rattle.ts_script.specs.declared.script.LineFault.TheVariants.{Form}
use Rattle.ts_literal.specs.Literals.{IsNumber}
use Rattle.ts_script.specs.Words.{IsHex, IsDn}
use Rattle.ts_script.specs.Parts.{part_in}
use Rattle.ts_script.specs.ExtensionWords.{AreParts}
use Rattle.ts_script.specs.CertLine.{cert_line, extension_words, IsMade, IsSaid}

-- two lists of words in the places of a `cert` line say the same
pub said_again : (v w : CertWords) (text : CertText) → cert_line v ≡ cert_line w → IsSaid v text → IsSaid w text
unfolding cert_line
said_again v w text same said =
    let serial : v.serial.now ≡ w.serial.now = cc in
    let issuer : v.issuer.now ≡ w.issuer.now = cc in
    let subject : v.subject.now ≡ w.subject.now = cc in
    let from : v.from.now ≡ w.from.now = cc in
    let to : v.to.now ≡ w.to.now = cc in
    let key : v.key.now ≡ w.key.now = cc in
    let signer : v.signer.now ≡ w.signer.now = cc in
    let others : extension_words v ≡ extension_words w = cc in
    record {
      serial = subst (λ x. IsNumber x text.serial) serial said.serial;
      issuer = subst (λ x. IsDn x text.issuer.now) issuer said.issuer;
      subject = subst (λ x. IsDn x text.subject.now) subject said.subject;
      not_before = subst (λ x. IsGeneral x text.from) from said.not_before;
      not_after = subst (λ x. IsGeneral x text.to) to said.not_after;
      key = subst (λ x. IsHex x text.key.now) key said.key;
      signer = subst (λ x. IsHex x text.signer.now) signer said.signer;
      extensions = subst (λ (words : List (List ℕ)). AreParts words (map part_in text.extensions.now)) others said.extensions;
    }

-- what the one words describe, the others do
pub made_again : (v w : CertWords) (octets : List ℕ) → cert_line v ≡ cert_line w → IsMade v octets → IsMade w octets
made_again v w octets same is = (is.0, said_again v w is.0 same is.1, is.2, is.3, is.4, is.5, is.6)

-- a reader that answered nothing is refused for its form
pub form_of_none : {T : Type 0} (P : Type 0) (Q : T → Type 0) (o : Option T) (fault : LineFault) → Err fault ≡ ok_or o Form → MatchOption o P Q → (fault ≡ Form) × P
form_of_none P Q None fault is h = (cc is, h)
form_of_none P Q (Some x) fault is h = cc is

pub some_of_ok : {T : Type 0} (P : Type 0) (Q : T → Type 0) (o : Option T) (x : T) → Ok x ≡ ok_or o Form → MatchOption o P Q → Q x
some_of_ok P Q None x is h = cc is
some_of_ok P Q (Some y) x is h = let same : y ≡ x = cc is in subst Q same h

-- what was found is there
pub found_some : {T U : Type 0} (f : T → U) (o : Option T) (q : Option U) → is_some o ≡ true → option_map f o ≡ q → q ≢ None
found_some f None q is same = cc is
found_some f (Some x) q is same = λ none. cc (same ∙ none)

pub found_none : {T U : Type 0} (f : T → U) (o : Option T) (q : Option U) → is_some o ≡ false → option_map f o ≡ q → q ≡ None
found_none f None q is same = sym same
found_none f (Some x) q is same = absurd cc

-- so an answer that is taken for one is there
pub ok_some : {T : Type 0} (o : Option T) (x : T) → Ok x ≡ ok_or o Form → o ≡ Some x
ok_some None x is = absurd cc
ok_some (Some y) x is = let same : y ≡ x = cc is in ap Some same
