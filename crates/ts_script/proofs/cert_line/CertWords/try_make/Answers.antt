-- What the words describe is made, or they describe nothing.
use Rattle.std.proofs.Common.{refl, ℕ, ℤ, List}
use Rattle.std.proofs.lemmas.Result.{err_from_is_err_and}
use Rattle.ts_time.specs.Text.{IsGeneral}
use Rattle.ts_make.specs.declared.description.CertText.{CertText}
use Rattle.ts_make.specs.Made.{made_certificate as made_octets}
use Rattle.ts_literal.specs.Literals.{IsNumber}
use Rattle.ts_script.specs.CertLine.{IsSaid}
use Rattle.ts_script.proofs.Answering.{form_of_none, some_of_ok}
use Rattle.ts_script.proofs.cert_line.CertWords.try_make.Goals as goal

abbrev NoTime : List ℕ → Type 0
NoTime word = (m : ℤ) → ¬ (IsGeneral word m)

abbrev NoNumber : List ℕ → Type 0
NoNumber word = (n : ℕ) → ¬ (IsNumber word n)

pub returns-in_err-from-clause-fault : goal.returns-in_err-from-clause-fault
returns-in_err-from-clause-fault c known =
    let word = c.args.self.now.from.now in
    let p = err_from_is_err_and c.from_residual-in_err-from.result c.from_residual-in_err-from.ensures.1 in
    let none = form_of_none (NoTime word) (IsGeneral word) c.moment_of.result c.in_err-from.field-0.0 c.in_err-from.ensures.value c.moment_of.ensures in
    rw (p.1, p.2, none.0) (λ octets made. absurd (none.1 made.0.from made.1.not_before))

pub returns-in_err-to-clause-fault : goal.returns-in_err-to-clause-fault
returns-in_err-to-clause-fault c known =
    let word = c.args.self.now.to.now in
    let p = err_from_is_err_and c.from_residual-in_err-to.result c.from_residual-in_err-to.ensures.1 in
    let none = form_of_none (NoTime word) (IsGeneral word) c.moment_of-2.result c.in_err-to.field-0.0 c.in_err-to.ensures.value c.moment_of-2.ensures in
    rw (p.1, p.2, none.0) (λ octets made. absurd (none.1 made.0.to made.1.not_after))

pub returns-clause-made : goal.returns-clause-made
returns-clause-made c =
    let words = c.args.self.now in
    let serial = some_of_ok (NoNumber words.serial.now) (IsNumber words.serial.now) c.number_of_octets.result c.in_ok-serial.serial c.in_ok-serial.ensures.value c.number_of_octets.ensures in
    let from = some_of_ok (NoTime words.from.now) (IsGeneral words.from.now) c.moment_of.result c.in_ok-from.from c.in_ok-from.ensures.value c.moment_of.ensures in
    let to = some_of_ok (NoTime words.to.now) (IsGeneral words.to.now) c.moment_of-2.result c.in_ok-to.to c.in_ok-to.ensures.value c.moment_of-2.ensures in
    let text : CertText = record {
      serial = c.in_ok-serial.serial;
      issuer = c.deref-2.result;
      subject = c.deref-3.result;
      from = c.in_ok-from.from;
      to = c.in_ok-to.to;
      key = c.deref-4.result;
      signer = c.deref-5.result;
      extensions = c.deref-6.result;
    } in
    let said : IsSaid words text = record {
      serial = serial;
      issuer = rw c.deref-2.ensures.value c.in_ok-issuer.ensures.found;
      subject = rw c.deref-3.ensures.value c.in_ok-subject.ensures.found;
      not_before = from;
      not_after = to;
      key = rw c.deref-4.ensures.value c.in_ok-key.ensures.found;
      signer = rw c.deref-5.ensures.value c.in_ok-signer.ensures.found;
      extensions = rw (c.deref-6.ensures.value, c.in_ok-extensions.ensures, c.deref.ensures.value) c.in_ok-words.ensures.found;
    } in
    let made = c.make_cert.ensures.made in
    (made_octets made.0 made.1 text, (text, said, made.0, made.1, made.2, made.3, refl), made.4)
