-- none of the chains before is valid
use Rattle.std.proofs.Common.{◌≡◌, ◌++◌, List, ℕ, length, map, drop}
use Rattle.ts_cert.specs.CertView.{cert_in}
use Rattle.ts_path.specs.View.{anchor_in, asked_under}
use Rattle.ts_search.specs.inside.Dead.{AreDeadUnder, fronts_in}
use Rattle.ts_search.specs.Search.{NoneOf}
use Rattle.ts_search.specs.View.{search_among}
use Rattle.ts_search.proofs.trial.Trial.first_valid.Given as goal

abbrev pub invariant-loop-chain : goal.invariant-loop-chain
invariant-loop-chain g l = record {
  passed : (before : List (List ℕ))
      × (map (λ c. c.items) l.chains ≡ before ++ map (λ c. c.items) (drop l.chain-index l.chains))
      × NoneOf (search_among l.self.certificates.now l.self.anchors.now l.self.inputs.now l.self.crls.now (g.S.SignatureCheck.accepts l.self.check.now)) before;
  rows : length l.fronts.items ≡ length l.self.anchors.now;
  dead : AreDeadUnder (asked_under l.self.inputs.now l.self.crls.now (g.S.SignatureCheck.accepts l.self.check.now)) (map cert_in l.self.certificates.now)
      (map anchor_in l.self.anchors.now) (fronts_in l.fronts.items);
}
