use Rattle.std.proofs.Common.{◌≡◌, List, ap, ◌∙◌}
use Rattle.std.specs.Cmp.Lexicographic.{slice_cmp}
use Rattle.ts_name.specs.Canon.{CanonAttr}
use Rattle.ts_name.specs.CanonView.{rdns_in as canon_in}
use Rattle.ts_name.specs.NameView.{rdns_in}
use Rattle.ts_name.specs.Sameness.{canon_name}
use Rattle.ts_constraint.specs.inside.Directory.{compare_rdns}
use Rattle.ts_constraint.proofs.DirectoryForms.{canon-order}
use Rattle.ts_constraint.proofs.directory.Directory.order.Goals as goal

pub returns : goal.returns
returns c =
    let a = c.args.self.now in
    let b = c.args.other.now in
    c.cmp.ensures
    ∙ canon-order a.canon b.canon
    ∙ ap (λ (xs : List (List CanonAttr)). slice_cmp compare_rdns xs (canon_in b.canon)) a.form
    ∙ ap (slice_cmp compare_rdns (canon_name (rdns_in a.name))) b.form
