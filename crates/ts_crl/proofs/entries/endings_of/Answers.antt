use Rattle.std.proofs.Common.{[], Option, refl, subst, ap, sym, ◌∙◌}
use Rattle.std.specs.Prelude.{option_map, unwrap_or}
use Rattle.ts_der.specs.View.{now}
use Rattle.ts_crl.specs.declared.revoked.RevokedEntries.{RevokedEntries}
use Rattle.ts_crl.specs.EntryView.{entries_in}
use Rattle.ts_crl.specs.inside.Endings.{AreListed}
use Rattle.ts_crl.proofs.Ends.{listed}
use Rattle.ts_crl.proofs.entries.endings_of.Goals.{in-Some+in_ok-sorted-in-Some, in-None}
use Rattle.ts_crl.proofs.entries.endings_of.Goals as goal

pub returns : goal.returns
returns c = elim c.match-revoked.branch [
  | in-Some+in_ok-sorted-in-Some w ↦ subst (λ (o : Option RevokedEntries). AreListed c.sort_unstable.new.self.items (unwrap_or (option_map entries_in o) [])) (sym w.in-Some.is)
      (listed (now w.in-Some.revoked.element) c.match-revoked.sorted.items c.sort_unstable.new.self.items (sym w.in-Some.revoked.read)
      (ap (λ s. s.items) w.sorted-is ∙ w.in_ok-sorted-in-Some.ensures) c.sort_unstable.ensures.permutation)
  | in-None w ↦ subst (λ (o : Option RevokedEntries). AreListed c.sort_unstable.new.self.items (unwrap_or (option_map entries_in o) [])) (sym w.in-None.is) (λ s none. refl)
]
