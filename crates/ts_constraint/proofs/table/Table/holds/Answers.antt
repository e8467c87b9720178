use Rattle.std.proofs.Common.{◌≡◌, ap, sym, refl, ◌∙◌}
use Rattle.ts_name.specs.General.{directoryName}
use Rattle.ts_name.specs.GeneralView.{general_in}
use Rattle.ts_name.specs.NameView.{rdns_in}
use Rattle.ts_constraint.specs.inside.Sought.{name_in}
use Rattle.ts_constraint.specs.View.{bases_in}
use Rattle.ts_constraint.proofs.Tables.{held}
use Rattle.ts_constraint.proofs.table.Table.holds.Goals as goal

pub returns-in-Directory : goal.returns-in-Directory
returns-in-Directory c =
    held (name_in c.args.name.now) (directoryName (rdns_in c.in-Directory.name.name))
    (bases_in c.self.inside.subtrees.items) c.args.self.now c.has.result _ c.has.ensures
    (ap name_in (sym c.in-Directory.is)) c.self.view_is
    (c.self.invariant.directories_are (rdns_in c.in-Directory.name.name))

pub returns-in-Other : goal.returns-in-Other
returns-in-Other c =
    held (name_in c.args.name.now) (general_in c.in-Other.name) c.args.self.now c.args.self.now
    c.holds_other.result c.holds_other.result refl (ap name_in (sym c.in-Other.is)) refl
    c.holds_other.ensures
