use Rattle.std.proofs.Common.{◌≡◌, ◌++◌, take}
use Rattle.std.specs.List.{flat_map}
use Rattle.ts_make.specs.CrlExtensions.{uri_octets}
use Rattle.ts_make.proofs.crl_extensions.append_uris.Given as goal

-- the names that stand are those so far
abbrev pub invariant-loop-uri : goal.invariant-loop-uri
invariant-loop-uri l = l.octets.items ≡ l.initial.octets.items ++ flat_map uri_octets (take l.uri-index l.uris)
