-- the chain is valid under none of the anchors before
use Rattle.std.proofs.Common.{◌≡◌, ◌++◌, List, length, map, drop}
use Rattle.ts_cert.specs.CertView.{cert_in}
use Rattle.ts_path.specs.Asked.{TrustAnchor}
use Rattle.ts_path.specs.View.{anchor_in, asked_under}
use Rattle.ts_search.specs.inside.Dead.{AreDeadUnder, fronts_in}
use Rattle.ts_search.specs.Search.{NoneUnder}
use Rattle.ts_search.proofs.trial.Trial.first_anchor.Given as goal

abbrev pub invariant-loop-number : goal.invariant-loop-number
invariant-loop-number g l = record {
  passed : (earlier : List TrustAnchor)
      × (map anchor_in l.self.anchors.now ≡ earlier ++ map anchor_in (drop l.number l.self.anchors.now))
      × (l.number ≡ length earlier)
      × NoneUnder (asked_under l.self.inputs.now l.self.crls.now (g.S.SignatureCheck.accepts l.self.check.now)) (map cert_in l.chain) earlier;
  rows : length l.fronts.items ≡ length l.self.anchors.now;
  dead : AreDeadUnder (asked_under l.self.inputs.now l.self.crls.now (g.S.SignatureCheck.accepts l.self.check.now)) (map cert_in l.self.certificates.now)
      (map anchor_in l.self.anchors.now) (fronts_in l.fronts.items);
}
