use Rattle.std.proofs.Common.{◌≡◌, ◌++◌, take}
use Rattle.std.specs.List.{flat_map}
use Rattle.ts_make.specs.inside.TimeView.{time_octets}
use Rattle.ts_make.specs.CrlMade.{entry_octets}
use Rattle.ts_make.specs.CrlMaking.{AreSerials}
use Rattle.ts_make.proofs.crl_tbs.append_entries.Given as goal

-- the entries that stand are those so far, and their serial numbers are u32s
abbrev pub invariant-loop-entry : goal.invariant-loop-entry
invariant-loop-entry l =
    record {
      written : l.octets.items ≡ l.initial.octets.items ++ flat_map (entry_octets (time_octets l.date)) (take l.entry-index l.entries);
      small : AreSerials (take l.entry-index l.entries);
    }
