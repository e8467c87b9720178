use Rattle.std.proofs.Common.{◌≡◌, ◌++◌, refl, sym, ◌∙◌, append_assoc}
use Rattle.std.proofs.lemmas.Result.{err_from_is_err_and}
use Rattle.ts_sig.specs.StandIn.{algorithm_identifier}
use Rattle.ts_cert.specs.declared.version.Version.TheVariants.{V3}
use Rattle.ts_cert.specs.Encoding.{version_octets}
use Rattle.ts_make.specs.inside.TimeView.{time_octets}
use Rattle.ts_make.specs.Made.{name_octets, key_octets}
use Rattle.ts_make.specs.Extensions.{described_extensions, field_octets}
use Rattle.ts_make.proofs.TooLong.{longer}
use Rattle.ts_make.proofs.Fields.{version-3, content, front, behind}
use Rattle.ts_make.proofs.tbs.write_fields.Goals as goal

pub returns-clause-exact : goal.returns-clause-exact
returns-clause-exact c =
    let version : c.append.new.octets.items ≡ version_octets V3 = c.in_ok-append.ensures ∙ rw (c.new-fields.ensures.items, c.as_slice.ensures) version-3 in
    let algorithm : c.append-2.new.octets.items ≡ c.append_number.new.octets.items ++ algorithm_identifier = c.in_ok-append-2.ensures ∙ rw c.as_slice-2.ensures refl in
    let all = content c.args.text.now (time_octets c.args.before.now) (time_octets c.args.after.now) _ _ _ _ version c.in_ok-append_number.ensures algorithm c.in_ok-append_name.ensures.exact in
    rw (c.in_ok-append_extensions.ensures, c.in_ok-append_key.ensures, c.in_ok-append_name-2.ensures.exact, c.in_ok-append_validity.ensures) all

pub returns-in_err-append_extensions-clause-exact : goal.returns-in_err-append_extensions-clause-exact
returns-in_err-append_extensions-clause-exact c =
    let version : c.append.new.octets.items ≡ version_octets V3 = c.in_ok-append.ensures ∙ rw (c.new-fields.ensures.items, c.as_slice.ensures) version-3 in
    let algorithm : c.append-2.new.octets.items ≡ c.append_number.new.octets.items ++ algorithm_identifier = c.in_ok-append-2.ensures ∙ rw c.as_slice-2.ensures refl in
    let all = content c.args.text.now (time_octets c.args.before.now) (time_octets c.args.after.now) _ _ _ _ version c.in_ok-append_number.ensures algorithm c.in_ok-append_name.ensures.exact in
    let p = err_from_is_err_and c.from_residual-in_err-append_extensions.result c.from_residual-in_err-append_extensions.ensures.1 in
    let e = c.in_err-append_extensions.field-0.0 in
    let h = rw (c.in_ok-append_key.ensures, c.in_ok-append_name-2.ensures.exact, c.in_ok-append_validity.ensures) at c.in_err-append_extensions.ensures in
    rw (p.1, p.2, ← all) h

pub returns-in_err-append_key-clause-exact : goal.returns-in_err-append_key-clause-exact
returns-in_err-append_key-clause-exact c =
    let version : c.append.new.octets.items ≡ version_octets V3 = c.in_ok-append.ensures ∙ rw (c.new-fields.ensures.items, c.as_slice.ensures) version-3 in
    let algorithm : c.append-2.new.octets.items ≡ c.append_number.new.octets.items ++ algorithm_identifier = c.in_ok-append-2.ensures ∙ rw c.as_slice-2.ensures refl in
    let last = field_octets (described_extensions c.args.text.now.extensions.now) in
    let all = content c.args.text.now (time_octets c.args.before.now) (time_octets c.args.after.now) _ _ _ _ version c.in_ok-append_number.ensures algorithm c.in_ok-append_name.ensures.exact in
    let p = err_from_is_err_and c.from_residual-in_err-append_key.result c.from_residual-in_err-append_key.ensures.1 in
    let e = c.in_err-append_key.field-0.0 in
    let h = rw (c.in_ok-append_name-2.ensures.exact, c.in_ok-append_validity.ensures) at c.in_err-append_key.ensures in
    rw (p.1, p.2) (longer e _ _ h (front _ last _ all))

pub returns-in_err-append_name-2-clause-exact : goal.returns-in_err-append_name-2-clause-exact
returns-in_err-append_name-2-clause-exact c =
    let version : c.append.new.octets.items ≡ version_octets V3 = c.in_ok-append.ensures ∙ rw (c.new-fields.ensures.items, c.as_slice.ensures) version-3 in
    let algorithm : c.append-2.new.octets.items ≡ c.append_number.new.octets.items ++ algorithm_identifier = c.in_ok-append-2.ensures ∙ rw c.as_slice-2.ensures refl in
    let key = key_octets c.args.text.now.key.now in
    let last = field_octets (described_extensions c.args.text.now.extensions.now) in
    let all = content c.args.text.now (time_octets c.args.before.now) (time_octets c.args.after.now) _ _ _ _ version c.in_ok-append_number.ensures algorithm c.in_ok-append_name.ensures.exact in
    let p = err_from_is_err_and c.from_residual-in_err-append_name-2.result c.from_residual-in_err-append_name-2.ensures.1 in
    let e = c.in_err-append_name-2.field-0.0 in
    let h = rw (c.in_ok-append_validity.ensures) at c.in_err-append_name-2.ensures.exact in
    rw (p.1, p.2) (longer e _ _ h (front _ (key ++ last) _ (sym (append_assoc _ key last) ∙ all)))

pub returns-in_err-append_validity-clause-exact : goal.returns-in_err-append_validity-clause-exact
returns-in_err-append_validity-clause-exact c =
    let version : c.append.new.octets.items ≡ version_octets V3 = c.in_ok-append.ensures ∙ rw (c.new-fields.ensures.items, c.as_slice.ensures) version-3 in
    let algorithm : c.append-2.new.octets.items ≡ c.append_number.new.octets.items ++ algorithm_identifier = c.in_ok-append-2.ensures ∙ rw c.as_slice-2.ensures refl in
    let subject = name_octets c.args.text.now.subject.now in
    let key = key_octets c.args.text.now.key.now in
    let last = field_octets (described_extensions c.args.text.now.extensions.now) in
    let all = content c.args.text.now (time_octets c.args.before.now) (time_octets c.args.after.now) _ _ _ _ version c.in_ok-append_number.ensures algorithm c.in_ok-append_name.ensures.exact in
    let p = err_from_is_err_and c.from_residual-in_err-append_validity.result c.from_residual-in_err-append_validity.ensures.1 in
    let e = c.in_err-append_validity.field-0.0 in
    let h = c.in_err-append_validity.ensures in
    rw (p.1, p.2) (longer e _ _ h (front _ (subject ++ (key ++ last)) _ (behind _ subject key last ∙ all)))
