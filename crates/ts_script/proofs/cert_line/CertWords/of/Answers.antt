-- The words are read in their places, or they do not stand there.
use Rattle.std.proofs.Common.{◌≡◌, ◌∷◌, List, ℕ, codes, sym, subst, true, arith}
use Rattle.ts_script.specs.declared.cert_line.CertWords.{CertWords}
use Rattle.ts_script.specs.Words.{IsName}
use Rattle.ts_script.specs.CertLine.{cert_line, extension_words}
use Rattle.ts_script.proofs.Cutting.{behind_two, second_word}
use Rattle.ts_script.proofs.cert_line.CertWords.of.Goals as goal

abbrev from_signer : CertWords → List (List ℕ)
from_signer w = codes "signer" ∷ w.signer.now ∷ extension_words w

abbrev from_key : CertWords → List (List ℕ)
from_key w = codes "key" ∷ w.key.now ∷ from_signer w

abbrev from_to : CertWords → List (List ℕ)
from_to w = codes "to" ∷ w.to.now ∷ from_key w

abbrev from_from : CertWords → List (List ℕ)
from_from w = codes "from" ∷ w.from.now ∷ from_to w

abbrev from_subject : CertWords → List (List ℕ)
from_subject w = codes "subject" ∷ w.subject.now ∷ from_from w

pub returns-in_err-issuer : goal.returns-in_err-issuer
unfolding cert_line
returns-in_err-issuer c =
    rw c.from_residual-in_err-issuer.ensures (λ w is.
    let serial = behind_two c.in_ok-name.ensures is.0 in
    c.in_err-issuer.ensures w.issuer.now (from_subject w) (behind_two c.in_ok-serial.ensures serial))

pub returns-in_err-subject : goal.returns-in_err-subject
unfolding cert_line
returns-in_err-subject c =
    rw c.from_residual-in_err-subject.ensures (λ w is.
    let serial = behind_two c.in_ok-name.ensures is.0 in
    let issuer = behind_two c.in_ok-serial.ensures serial in
    c.in_err-subject.ensures w.subject.now (from_from w) (behind_two c.in_ok-issuer.ensures issuer))

pub returns-in_err-from : goal.returns-in_err-from
unfolding cert_line
returns-in_err-from c =
    rw c.from_residual-in_err-from.ensures (λ w is.
    let serial = behind_two c.in_ok-name.ensures is.0 in
    let issuer = behind_two c.in_ok-serial.ensures serial in
    let subject = behind_two c.in_ok-issuer.ensures issuer in
    c.in_err-from.ensures w.from.now (from_to w) (behind_two c.in_ok-subject.ensures subject))

pub returns-in_err-to : goal.returns-in_err-to
unfolding cert_line
returns-in_err-to c =
    rw c.from_residual-in_err-to.ensures (λ w is.
    let serial = behind_two c.in_ok-name.ensures is.0 in
    let issuer = behind_two c.in_ok-serial.ensures serial in
    let subject = behind_two c.in_ok-issuer.ensures issuer in
    let from = behind_two c.in_ok-subject.ensures subject in
    c.in_err-to.ensures w.to.now (from_key w) (behind_two c.in_ok-from.ensures from))

pub returns-then-not-is_name : goal.returns-then-not-is_name
unfolding cert_line
returns-then-not-is_name c = λ w is.
    let name = subst IsName (sym (second_word c.in_ok-name.ensures is.0)) is.1 in
    let yes : c.is_name.result ≡ true = c.is_name.ensures.1 name in
    first_of (cc, grind arith)
