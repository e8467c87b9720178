-- The issuers are looked at one by one.
use Rattle.std.proofs.Common.{◌∙◌, sym}
use Rattle.ts_name.specs.NameView.{rdns_in}
use Rattle.ts_sent.proofs.Named.{found, passed}
use Rattle.ts_sent.proofs.above.place_in.Goals as goal

pub returns-then-is_named : goal.returns-then-is_named
returns-then-is_named c =
    found c.args.issuers.now (rdns_in c.args.name) c.loop-place.place c.index-issuers-place.result _
    c.loop-place-test.true c.index-issuers-place.is (sym c.is_named.ensures ∙ c.if-is_named.true) c.loop-place.invariant

pub loop-place-preserved : goal.loop-place-preserved
loop-place-preserved c =
    passed c.args.issuers.now (rdns_in c.args.name) c.loop-place.place c.index-issuers-place.result _
    c.loop-place-test.true c.index-issuers-place.is (sym c.is_named.ensures ∙ c.if-is_named.false) c.loop-place.invariant
