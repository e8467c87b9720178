use Rattle.std.proofs.Common.{◌≡◌, ◌++◌, map}
use Rattle.ts_shape.specs.Items.{items_at}
use Rattle.ts_ext.specs.Reading.{policy_mapping_in}
use Rattle.ts_ext.specs.View.{mappings_in}
use Rattle.ts_policy.specs.Certificates.{mapping_in}
use Rattle.ts_policy.specs.Stated.{pairs}
use Rattle.ts_policy.proofs.from_cert.pairs_of.Given as goal

abbrev pub invariant-loop-mapping : goal.invariant-loop-mapping
invariant-loop-mapping l = map mapping_in l.pairs.items ++ pairs (items_at policy_mapping_in l.mapping-iterator.rest) ≡ pairs (mappings_in l.fn.mappings)
