use Rattle.std.proofs.Common.{◌≡◌, ◌++◌, take}
use Rattle.std.specs.List.{flat_map}
use Rattle.ts_make.specs.Extensions.{extension_octets, of_kind, kinds}
use Rattle.ts_make.proofs.extensions.append_all.Given as goal

-- the extensions that stand are those of the kinds so far
abbrev pub invariant-loop-kind : goal.invariant-loop-kind
invariant-loop-kind l = l.octets.items ≡ l.initial.octets.items ++ flat_map (λ k. flat_map extension_octets (of_kind k l.fn.parts)) (take l.kind-index kinds)
