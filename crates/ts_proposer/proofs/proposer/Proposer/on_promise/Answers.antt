use Rattle.std.proofs.Common.{◌≡◌, ◌∙◌, Some, Bool, false, is_some, if◌then◌else◌, refl, sym, ap, subst, arith}
use Rattle.ts_synod.specs.Ballot.{ballot}
use Rattle.ts_synod.specs.Config.{Config}
use Rattle.ts_synod.specs.Proposer.{Accepting, Preparing, on_promise}
use Rattle.ts_proposer.specs.Promises.{promises_in}
use Rattle.ts_proposer.specs.Proposer.{config_of, round_with, state_of}
use Rattle.ts_proposer.specs.Steps.{Makes}
use Rattle.ts_proposer.proofs.Rules.{counted}
use Rattle.ts_proposer.proofs.proposer.Proposer.on_promise.Goals as goal

pub returns-clause-step : goal.returns-clause-step
returns-clause-step g c =
    let a = c.args.self.now in
    let b = c.reserve.new.self in
    let r = c.in-Some.round in
    let from = c.args.from in
    let promises = promises_in b.promises in
    let phase = Preparing promises in
    let kept = c.reserve.ensures in
    let here = ap (round_with promises) (kept.round ∙ c.in-Some.is)
    ∙ ap (λ (t : Bool). Some
    (record {
      number = r.number;
      position = r.position;
      phase =
          (if t then Accepting else phase);
    })) c.if-round.false in
    let at : c.args.position ≡ r.position = omega arith in
    let own = c.if-ballot-ballot_of.false ∙ c.ballot_of.ensures ∙ ap (λ (k : Config). ballot k.me r.number) (sym kept.same.config) in
    let new : is_some (promises_in a.promises from) ≡ false = cc in
    let rule = counted (config_of b) (state_of b)
    (record { number = r.number; position = r.position; phase = phase }) from c.args.position
    c.args.ballot c.args.taken promises here at own refl
    (subst (λ f. is_some (f from) ≡ false) (sym kept.promises) new) in
    let old = ap (λ k. on_promise k (state_of a) from c.args.position c.args.ballot c.args.taken)
    (sym kept.same.config)
    ∙ ap (λ s. on_promise (config_of b) s from c.args.position c.args.ballot c.args.taken)
    (sym kept.same.state) in
    subst (Makes b c.in_ok-step.step) (sym (old ∙ rule)) (c.in_ok-step.ensures.step phase)
