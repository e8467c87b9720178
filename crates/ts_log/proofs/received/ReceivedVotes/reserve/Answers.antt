use Rattle.std.proofs.Common.{◌∙◌}
use Rattle.ts_log.specs.Maps.{received_in}
use Rattle.ts_log.proofs.Places.{put_own, replaced}
use Rattle.ts_log.proofs.received.ReceivedVotes.reserve.Goals as goal

pub returns-clause-same : goal.returns-clause-same
returns-clause-same g c =
    let opened = c.open_position.new.votes in
    let p = c.args.position in
    replaced opened c.replace_at-votes.new.map c.put_at.new.map p c.new.result
    c.replace_at-votes.result c.reserve_in-result.new.votes c.replace_at-votes.ensures.put
    c.replace_at-votes.ensures.old c.put_at.ensures c.reserve_in-result.ensures.same
    ∙ put_own (received_in opened) p
    ∙ c.open_position.ensures.same
