use Rattle.std.proofs.Common.{◌≡◌, List, ℕ, ◌++◌, refl, subst, ◌∙◌, append_assoc}
use Rattle.std.proofs.lemmas.Result.{err_from_is_err_and}
use Rattle.ts_sig.specs.StandIn.{algorithm_identifier}
use Rattle.ts_crl.specs.declared.version.ListVersion.TheVariants.{V2}
use Rattle.ts_crl.specs.Encoding.{crl_version_octets}
use Rattle.ts_make.specs.Made.{name_octets}
use Rattle.ts_make.specs.inside.Writing.{IsTooLong}
use Rattle.ts_make.proofs.CrlPieces.{version-2}
use Rattle.ts_make.proofs.crl_tbs.write_head.Goals as goal

pub returns-clause-exact : goal.returns-clause-exact
returns-clause-exact c =
    let version : c.append.new.octets.items ≡ crl_version_octets V2 = c.in_ok-append.ensures ∙ rw (c.new-fields.ensures.items, c.as_slice.ensures) version-2 in
    let algorithm : c.append-2.new.octets.items ≡ c.append.new.octets.items ++ algorithm_identifier = c.in_ok-append-2.ensures ∙ rw c.as_slice-2.ensures refl in
    c.in_ok-append_name.ensures.exact ∙ rw (algorithm, version) (append_assoc (crl_version_octets V2) algorithm_identifier (name_octets c.args.issuer.now))

pub returns-in_err-append_name-clause-exact : goal.returns-in_err-append_name-clause-exact
returns-in_err-append_name-clause-exact c =
    let version : c.append.new.octets.items ≡ crl_version_octets V2 = c.in_ok-append.ensures ∙ rw (c.new-fields.ensures.items, c.as_slice.ensures) version-2 in
    let algorithm : c.append-2.new.octets.items ≡ c.append.new.octets.items ++ algorithm_identifier = c.in_ok-append-2.ensures ∙ rw c.as_slice-2.ensures refl in
    let p = err_from_is_err_and c.from_residual-in_err-append_name.result c.from_residual-in_err-append_name.ensures.1 in
    let h = rw (algorithm, version) at c.in_err-append_name.ensures.exact in
    rw (p.1, p.2) (subst (λ (o : List ℕ). IsTooLong c.in_err-append_name.field-0.0 o) (append_assoc (crl_version_octets V2) algorithm_identifier (name_octets c.args.issuer.now)) h)
