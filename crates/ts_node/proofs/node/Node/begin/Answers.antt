-- The first step of a turn is made in memory.
use Rattle.std.proofs.Common.{◌∙◌, ◌≤◌, ◌++◌, ◌+◌, length, ap, refl, sym, subst, arith}
use Rattle.ts_record.specs.Facts.{AllFit, encodings}
use Rattle.ts_node.specs.Machine.{store_of}
use Rattle.ts_node.specs.Roles.{volatile_of}
use Rattle.ts_node.specs.inside.Roles.{facts_in, volatile_after}
use Rattle.ts_node.specs.Staged.{IsStaged}
use Rattle.ts_node.proofs.Breaks.{ok_after}
use Rattle.ts_node.proofs.Coming.{begun, one_step, stages_from}
use Rattle.ts_node.proofs.Stages.{staged_more}
use Rattle.ts_node.proofs.node.Node.begin.Goals as goal

pub returns-in-Err-clause-begun : goal.returns-in-Err-clause-begun
returns-in-Err-clause-begun g c =
    let old = c.args.self.now in
    let plan = c.args.plan in
    record {
      looked = 0;
      made = plan.messages.items;
      more = facts_in plan.change;
      then' = volatile_after old.roles plan.change;
      so = λ fs sent event stand makes. one_step (store_of g.row.M-Question.Denot g.M.Machine.client_id g.M.Machine.outcome) fs sent event old.roles plan plan.messages.items makes;
      comes = (refl, record { kept = refl; volatile = ap volatile_of c.in-Err.ensures.refused; ahead = refl });
      few = omega arith;
      ends = tt;
    }

pub returns-in-Err-clause-staged : goal.returns-in-Err-clause-staged
returns-in-Err-clause-staged g c = λ up.
    subst (λ r. IsStaged g.D.Disk.state g.C.Codec.octets g.M.Machine.commands (record c.args.self.now { roles = r }) c.args.staged.now.facts.items) (sym c.in-Err.ensures.refused) c.requires.staged

pub take_rest-requires-clause-staged : goal.take_rest-requires-clause-staged
take_rest-requires-clause-staged g c =
    let more = facts_in c.args.plan.change in
    staged_more g.D.Disk.state g.C.Codec.octets g.M.Machine.commands c.args.self.now
    c.args.staged.now.facts.items more c.advance.new.self c.requires.staged c.advance.ensures.config
    c.in-Ok.ensures.stand c.advance.new.turn.facts.items
    (c.in-Ok.ensures.facts ∙ ap (λ fs. fs ++ more) c.behind-turn.ensures.facts)

pub take_rest-requires-clause-held : goal.take_rest-requires-clause-held
take_rest-requires-clause-held g c =
    let octets = g.C.Codec.octets in
    let more = facts_in c.args.plan.change in
    let is = c.in-Ok.ensures.facts ∙ ap (λ fs. fs ++ more) c.behind-turn.ensures.facts in
    let none = c.advance.ensures.looked ∙ c.behind-turn.ensures.looked in
    let before = c.advance.ensures.before ∙ c.behind-turn.ensures.before in
    let so_long = c.in-Ok.ensures.size ∙ c.requires.size in
    record {
      fit = subst (AllFit octets) (sym is) c.requires.fit;
      size = so_long ∙ ap (λ fs. c.args.staged.now.size + length (encodings octets fs)) (sym is) ∙ ap (λ n. n + length (encodings octets c.advance.new.turn.facts.items)) (sym before);
      short = subst (λ n. n ≤ 4194500) (sym c.in-Ok.ensures.size) c.requires.short;
      looked = subst (λ n. n ≤ length c.advance.new.turn.messages.items) (sym none) (omega arith);
    }

pub returns-in-Ok-clause-begun : goal.returns-in-Ok-clause-begun
returns-in-Ok-clause-begun g c =
    let old = c.args.self.now in
    let plan = c.args.plan in
    let store = store_of g.row.M-Question.Denot g.M.Machine.client_id g.M.Machine.outcome in
    let rest = c.take_rest.ensures.rest in
    let roles = c.advance.new.self in
    let facts = c.in-Ok.ensures.facts ∙ ap (λ fs. fs ++ facts_in plan.change) c.behind-turn.ensures.facts in
    let messages = c.in-Ok.ensures.messages ∙ ap (λ ms. ms ++ plan.messages.items) c.behind-turn.ensures.messages in
    let looked = c.advance.ensures.looked ∙ c.behind-turn.ensures.looked in
    record {
      looked = rest.looked;
      made = rest.made;
      more = rest.more;
      then' = rest.then';
      so = λ fs sent event stand makes. rest.so _ fs _ sent event
          (begun store fs sent event old.roles roles plan c.advance.new.turn stand makes
          c.in-Ok.ensures.stand c.in-Ok.ensures.volatile c.advance.ensures.config facts messages
          looked);
      comes = stages_from c.args.reply rest.looked rest.made rest.more rest.then'
          c.args.staged.now.facts.items c.take_rest.new.staged.facts.items old c.take_rest.new.self
          roles old.machine c.advance.ensures.config c.take_rest.result rest.only rest.comes;
      few = rest.few;
      ends = ok_after c.take_rest.result
          (λ h fs sent event stand makes. h _ fs _ sent event
          (begun store fs sent event old.roles roles plan c.advance.new.turn stand makes
          c.in-Ok.ensures.stand c.in-Ok.ensures.volatile c.advance.ensures.config facts messages
          looked)) rest.ends;
    }
