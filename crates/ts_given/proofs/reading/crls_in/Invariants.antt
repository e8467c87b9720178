use Rattle.std.proofs.Common.{◌≡◌, ◌+◌, ◌++◌, map, drop}
use Rattle.ts_crl.specs.ListView.{crl_in}
use Rattle.ts_given.specs.Given.{deltas_of, first_crl, lists_of, octets_of}
use Rattle.ts_given.proofs.reading.crls_in.Given as goal

abbrev pub invariant-loop-i : goal.invariant-loop-i
invariant-loop-i l = record {
  left : first_crl 1 (octets_of l.all) ≡ first_crl (l.i + 1) (octets_of (drop l.i l.all));
  lists : map crl_in l.lists.items ++ lists_of (octets_of (drop l.i l.all)) ≡ lists_of (octets_of l.all);
  deltas : map crl_in l.deltas.items ++ deltas_of (octets_of (drop l.i l.all)) ≡ deltas_of (octets_of l.all);
}
