use Rattle.std.proofs.Common.{◌≡◌, ◌++◌, take}
use Rattle.std.specs.Prelude.{map}
use Rattle.std.specs.List.{flat_map}
use Rattle.ts_make.specs.Extensions.{extension_octets}
use Rattle.ts_make.specs.CrlExtensions.{null_extension}
use Rattle.ts_make.proofs.crl_extensions.append_nulls.Given as goal

-- the extensions that stand are those so far
abbrev pub invariant-loop-oid : goal.invariant-loop-oid
invariant-loop-oid l = l.octets.items ≡ l.initial.octets.items ++ flat_map extension_octets (map null_extension (take l.oid-index l.critical))
