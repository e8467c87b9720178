-- What the words describe is made, or they describe nothing.
use Rattle.std.proofs.Common.{◌∙◌, refl, subst, ap, ℤ, ℕ, List, sym}
use Rattle.std.proofs.lemmas.Result.{err_from_is_err_and}
use Rattle.ts_time.specs.Text.{IsGeneral}
use Rattle.ts_make.specs.declared.crl_description.CrlText.{CrlText}
use Rattle.ts_make.specs.CrlMade.{made_crl}
use Rattle.ts_script.specs.CrlLineWords.{CrlPart, Gather, AreFields, fields_of}
use Rattle.ts_script.specs.inside.CrlParts.{crl_parts}
use Rattle.ts_script.specs.CrlLine.{crl_words, IsListSaid}
use Rattle.ts_script.proofs.Answering.{form_of_none, some_of_ok}
use Rattle.ts_script.proofs.CrlReading.{one_crl_words}
use Rattle.ts_script.proofs.OneList.{refuses_crl}
use Rattle.ts_script.proofs.crl_line.CrlWords.try_make.Goals as goal

abbrev NoTime : List ℕ → Type 0
NoTime word = (m : ℤ) → ¬ (IsGeneral word m)

pub returns-in_err-this_update-clause-fault : goal.returns-in_err-this_update-clause-fault
returns-in_err-this_update-clause-fault c known =
    let word = c.args.self.now.this_update.now in
    let p = err_from_is_err_and c.from_residual.result c.from_residual.ensures.1 in
    let none = form_of_none (NoTime word) (IsGeneral word) c.moment_of.result c.in_err-this_update.field-0.0 c.in_err-this_update.ensures.value c.moment_of.ensures in
    rw (p.1, p.2, none.0) (λ octets made. absurd (none.1 made.0.this_update made.1.this_update))

pub returns-in_err-next_update-clause-fault : goal.returns-in_err-next_update-clause-fault
returns-in_err-next_update-clause-fault c known =
    let word = c.args.self.now.next_update.now in
    let p = err_from_is_err_and c.from_residual-in_err-next_update.result c.from_residual-in_err-next_update.ensures.1 in
    let none = form_of_none (NoTime word) (IsGeneral word) c.moment_of-2.result c.in_err-next_update.field-0.0 c.in_err-next_update.ensures.value c.moment_of-2.ensures in
    rw (p.1, p.2, none.0) (λ octets made. absurd (none.1 made.0.next_update made.1.next_update))

pub returns-in_err-fields-clause-fault : goal.returns-in_err-fields-clause-fault
returns-in_err-fields-clause-fault c known =
    let words = c.args.self.now in
    let p = err_from_is_err_and c.from_residual-in_err-fields.result c.from_residual-in_err-fields.ensures.1 in
    rw (p.1, p.2) (refuses_crl known words c.in_err-fields.field-0.0 c.in_err-fields.ensures.fault (λ none octets made.
    let fields = made.1.fields in
    let parts = one_crl_words (crl_words words) fields.parts (crl_parts c.in_ok-words.words.items) fields.said c.in_ok-words.ensures.found in
    absurd (none (fields_of made.0) (subst (λ (ps : List CrlPart). Gather ps (fields_of made.0)) (parts ∙ ap crl_parts (sym c.deref.ensures.value)) fields.gather))))

pub returns-clause-made : goal.returns-clause-made
returns-clause-made c =
    let words = c.args.self.now in
    let from = some_of_ok (NoTime words.this_update.now) (IsGeneral words.this_update.now) c.moment_of.result c.in_ok-this_update.this_update c.in_ok-this_update.ensures.value c.moment_of.ensures in
    let to = some_of_ok (NoTime words.next_update.now) (IsGeneral words.next_update.now) c.moment_of-2.result c.in_ok-next_update.next_update c.in_ok-next_update.ensures.value c.moment_of-2.ensures in
    let text : CrlText = record {
      issuer = c.deref-2.result;
      this_update = c.in_ok-this_update.this_update;
      next_update = c.in_ok-next_update.next_update;
      signer = c.deref-3.result;
      entries = c.deref-4.result;
      number = c.in_ok-fields.fields.number;
      base = c.in_ok-fields.fields.base;
      reasons = c.deref-5.result;
      uris = c.deref-6.result;
      critical = c.deref-7.result;
    } in
    let fields : AreFields (crl_words words) (fields_of text) = record {
      parts = crl_parts c.deref.result.now;
      said = rw c.deref.ensures.value c.in_ok-words.ensures.found;
      gather = rw (c.deref-4.ensures.value, c.deref-5.ensures.value, c.deref-6.ensures.value, c.deref-7.ensures.value) c.in_ok-fields.ensures.found;
    } in
    let said : IsListSaid words text = record {
      issuer = rw c.deref-2.ensures.value c.in_ok-issuer.ensures.found;
      this_update = from;
      next_update = to;
      signer = rw c.deref-3.ensures.value c.in_ok-signer.ensures.found;
      fields = fields;
    } in
    let made = c.make_crl.ensures.made in
    (made_crl made.0 made.1 text, (text, said, made.0, made.1, made.2, made.3, refl), made.4)
