use Rattle.std.proofs.Common.{◌≡◌, ◌++◌, take}
use Rattle.std.specs.List.{flat_map}
use Rattle.ts_make.specs.Extensions.{extension_octets, part_extensions}
use Rattle.ts_make.proofs.extensions.append_each.Given as goal

-- the extensions that stand are those of the parts so far
abbrev pub invariant-loop-part : goal.invariant-loop-part
invariant-loop-part l = l.octets.items ≡ l.initial.octets.items ++ flat_map (λ part. flat_map extension_octets (part_extensions l.fn.kind part)) (take l.part-index l.fn.parts)
