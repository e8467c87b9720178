use Rattle.std.proofs.Common.{◌≡◌, [], refl, sym, ap, ◌∙◌}
use Rattle.ts_name.specs.General.{directoryName}
use Rattle.ts_name.specs.NameView.{attributes_in, rdns_in}
use Rattle.ts_constraint.specs.Names.{subject_names}
use Rattle.ts_constraint.proofs.Lists.{first-here}
use Rattle.ts_constraint.proofs.Shown.{shown, not-empty}
use Rattle.ts_constraint.proofs.bounds.Bounds.first_of_subject.Goals as goal

pub returns-then-fails : goal.returns-then-fails
returns-then-fails c =
    let rdns = rdns_in c.args.subject in
    let some = not-empty attributes_in c.rdns.result c.next.new.self c.next.result c.next.ensures.steps c.if-is_none.ensures in
    first-here c.args.condition c.args.self.now (subject_names rdns) [] [] (directoryName rdns) (shown rdns (λ e. some (c.rdns.ensures ∙ e))) tt (c.if-fails.ensures.0 refl)
