use Rattle.std.proofs.Common.{◌∙◌}
use Rattle.std.specs.List.{flat_map}
use Rattle.ts_make.specs.Extensions.{extension_octets, of_kind, kinds}
use Rattle.ts_make.proofs.Pieces.{pieces-more}
use Rattle.ts_make.proofs.extensions.append_all.Goals as goal

pub loop-kind-preserved : goal.loop-kind-preserved
loop-kind-preserved c =
    let h = rw c.loop-kind.invariant at c.in_ok-append_kind.ensures in
    h ∙ pieces-more (λ k. flat_map extension_octets (of_kind k c.args.parts.now)) c.args.octets.now.items kinds c.loop-kind.kind-index _ c.loop-kind-test.true
