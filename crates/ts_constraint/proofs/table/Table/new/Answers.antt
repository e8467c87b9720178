use Rattle.std.proofs.Common.{◌≡◌, List, ap, subst}
use Rattle.ts_name.specs.General.{GeneralName}
use Rattle.ts_constraint.specs.inside.RangeTable.{AreRanges}
use Rattle.ts_constraint.specs.inside.Table.{AreForms, AreHosts, AreDirectories}
use Rattle.ts_constraint.specs.View.{bases_in}
use Rattle.ts_constraint.proofs.table.Table.new.Goals as goal

pub invariant_of-result : goal.invariant_of-result
invariant_of-result c =
    record {
      forms_are = subst (λ (bs : List GeneralName). AreForms c.in_ok-forms.forms.items bs) (ap bases_in c.as_slice.ensures.value) c.in_ok-forms.ensures;
      hosts_are = subst (λ (bs : List GeneralName). AreHosts c.in_ok-hosts.hosts bs) (ap bases_in c.as_slice-2.ensures.value) c.in_ok-hosts.ensures;
      directories_are = subst (λ (bs : List GeneralName). AreDirectories c.in_ok-directories.directories.entries.items bs) (ap bases_in c.as_slice-3.ensures.value) c.in_ok-directories.ensures;
      ranges_are = subst (λ (bs : List GeneralName). AreRanges c.in_ok-ranges.ranges bs) (ap bases_in c.as_slice-4.ensures.value) c.in_ok-ranges.ensures;
    }
