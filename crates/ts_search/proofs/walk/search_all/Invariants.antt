-- none of the shorter chains is valid, and the chains at hand are those of one length, cut where more would be tried than may be; each front that is kept is dead
use Rattle.std.proofs.Common.{◌≡◌, ◌+◌, length, map, take}
use Rattle.ts_cert.specs.CertView.{cert_in}
use Rattle.ts_path.specs.View.{anchor_in, asked_under}
use Rattle.ts_search.specs.inside.Dead.{AreDeadUnder, fronts_in}
use Rattle.ts_search.specs.inside.Levels.{chains, level}
use Rattle.ts_search.specs.Search.{NoneOf}
use Rattle.ts_search.specs.View.{search_among}
use Rattle.ts_search.proofs.walk.search_all.Given as goal

abbrev pub invariant-loop-above : goal.invariant-loop-above
invariant-loop-above g l =
    let rows = map (λ row. row.items) l.rows.items in
    record {
      at_hand : map (λ c. c.items) l.chains.items ≡ take (l.left + 1) (level rows l._above);
      left_is : l.left + length (chains rows l._above) ≡ 4096;
      none : NoneOf (search_among l.fn.certificates l.fn.anchors l.fn.inputs l.fn.crls (g.S.SignatureCheck.accepts l.fn.check)) (chains rows l._above);
      count : length l.fronts.items ≡ length l.fn.anchors;
      dead : AreDeadUnder (asked_under l.fn.inputs l.fn.crls (g.S.SignatureCheck.accepts l.fn.check)) (map cert_in l.fn.certificates) (map anchor_in l.fn.anchors) (fronts_in l.fronts.items);
    }
