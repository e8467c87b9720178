-- The place among the issuers that are left is that among all.
use Rattle.std.proofs.Common.{◌≡◌, drop, map}
use Rattle.ts_name.specs.NameView.{rdns_in}
use Rattle.ts_sent.specs.Sent.{place_in}
use Rattle.ts_sent.proofs.above.place_in.Given as goal

abbrev pub invariant-loop-place : goal.invariant-loop-place
invariant-loop-place l = place_in (map rdns_in (drop l.place l.issuers)) (rdns_in l.fn.name) l.place
    ≡ place_in (map rdns_in l.issuers) (rdns_in l.fn.name) 0
