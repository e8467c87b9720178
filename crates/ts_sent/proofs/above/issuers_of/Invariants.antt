-- The issuers so far are before those of the certificates that are left.
use Rattle.std.proofs.Common.{◌≡◌, ◌++◌, drop, map}
use Rattle.ts_name.specs.NameView.{rdns_in}
use Rattle.ts_sent.specs.Sent.{issuers_of}
use Rattle.ts_sent.proofs.above.issuers_of.Given as goal

abbrev pub invariant-loop-octets : goal.invariant-loop-octets
invariant-loop-octets l = map rdns_in l.issuers.items
    ++ issuers_of (map (λ octets. octets.items) (drop l.octets-index l.sent))
    ≡ issuers_of (map (λ octets. octets.items) l.sent)
