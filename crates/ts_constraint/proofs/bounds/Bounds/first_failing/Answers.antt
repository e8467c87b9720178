use Rattle.std.proofs.Common.{◌≡◌, List, ◌++◌, Option, Some, None, sym, ap, subst, ◌∙◌}
use Rattle.ts_name.specs.Canon.{Attr}
use Rattle.ts_name.specs.General.{GeneralName}
use Rattle.ts_name.specs.NameView.{rdns_in}
use Rattle.ts_ext.specs.declared.known.Known.TheVariants.{SubjectAltName}
use Rattle.ts_ext.specs.GeneralNames.{general_names_of}
use Rattle.ts_ext.specs.NameViews.{alternatives_in}
use Rattle.ts_cert.specs.CertView.{cert_in}
use Rattle.ts_cert.specs.Stated.{stated_value}
use Rattle.ts_constraint.specs.Conditions.{IsFirstForm}
use Rattle.ts_constraint.specs.Names.{addresses_of, alternatives, subject_names}
use Rattle.ts_constraint.proofs.Lists.{first-after}
use Rattle.ts_constraint.proofs.Shown.{joined}
use Rattle.ts_constraint.proofs.bounds.Bounds.first_failing.Goals as goal

pub returns-in-Some-subject_alt_name : goal.returns-in-Some-subject_alt_name
returns-in-Some-subject_alt_name c =
    let t = (cert_in c.args.cert.now).tbsCertificate in
    let names = alternatives_in c.in-Some-subject_alt_name.names in
    let r = c.first_of_names.result in
    subst (λ (o : Option (List GeneralName)). IsFirstForm c.args.condition c.args.self.now (subject_names t.subject ++ alternatives t.subject o) r) c.in-Some-subject_alt_name.ensures
    (subst (λ (s : List (List Attr)). IsFirstForm c.args.condition c.args.self.now (subject_names s ++ names) r) c.subject-subject.ensures
    (first-after c.args.condition c.args.self.now (subject_names (rdns_in c.subject-subject.result)) names r c.in_default.ensures c.first_of_names.ensures))

pub returns-in-None : goal.returns-in-None
returns-in-None c =
    let t = (cert_in c.args.cert.now).tbsCertificate in
    let r = c.first_of_addresses.result in
    subst (λ (o : Option (List GeneralName)). IsFirstForm c.args.condition c.args.self.now (subject_names t.subject ++ alternatives t.subject o) r) c.in-None.ensures
    (subst (λ (s : List (List Attr)). IsFirstForm c.args.condition c.args.self.now (subject_names s ++ addresses_of (joined s)) r) c.subject-subject.ensures
    (first-after c.args.condition c.args.self.now (subject_names (rdns_in c.subject-subject.result))
    (addresses_of (joined (rdns_in c.subject-subject.result))) r c.in_default.ensures
    c.first_of_addresses.ensures))
