use Rattle.std.proofs.Common.{◌≡◌, false, sym, subst}
use Rattle.ts_synod.specs.Majority.{is_majority}
use Rattle.ts_synod.specs.Log.{is_vote_in, with_vote}
use Rattle.ts_log.specs.Log.{config_of, learned_of, received_of}
use Rattle.ts_log.specs.Steps.{Makes}
use Rattle.ts_log.proofs.Votes.{no_majority}
use Rattle.ts_log.proofs.log.Log.count_vote.Goals as goal

pub returns-clause-step : goal.returns-clause-step
returns-clause-step g c =
    let a = c.args.self.now in
    let b = c.args.ballot in
    let votes = with_vote (received_of a c.args.position) c.args.from (record { ballot = b; command = c.args.command.now }) in
    let few : is_majority a.nodes (λ n. is_vote_in b (votes n)) ≡ false = cc in
    subst (Makes a c.in_ok-step-2.step) (sym (no_majority (config_of a) (learned_of a) (received_of a) c.args.position b c.args.command.now votes few)) c.in_ok-step-2.ensures.step
