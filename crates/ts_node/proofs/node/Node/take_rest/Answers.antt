-- The messages of the node to itself were taken, and the turn ends.
use Rattle.std.proofs.Common.{◌∙◌, ◌++◌, ap, refl, sym, subst, arith}
use Rattle.ts_node.specs.Growing.{IsPart}
use Rattle.ts_node.specs.Machine.{store_of}
use Rattle.ts_node.specs.Node.{volatile}
use Rattle.ts_node.specs.Roles.{volatile_of}
use Rattle.ts_node.specs.Turn.{given_out}
use Rattle.ts_node.proofs.Coming.{ends_of}
use Rattle.ts_node.proofs.Stages.{broken, staged_on}
use Rattle.ts_node.proofs.node.Node.take_rest.Goals as goal

pub take_own-requires-clause-stand : goal.take_own-requires-clause-stand
take_own-requires-clause-stand g c = (c.args.self.now.kept.facts ++ (c.args.staged.now.facts.items ++ c.args.turn.facts.items), c.requires.staged.stand)

pub take_own-requires-clause-part : goal.take_own-requires-clause-part
take_own-requires-clause-part g c = subst (IsPart (g.M.Machine.commands c.args.self.now.machine)) (sym c.requires.staged.stand.log) c.requires.staged.part

pub returns-in_default-clause-rest : goal.returns-in_default-clause-rest
returns-in_default-clause-rest g c =
    let old = c.args.self.now in
    let t = c.args.turn in
    let e = c.give_up.ensures in
    record {
      looked = t.looked;
      made = t.messages.items;
      more = t.facts.items;
      then' = volatile old;
      so = λ k kept v sent event was. was.effect;
      comes = broken c.args.reply t old c.args.staged.now.facts.items c.args.staged.now.facts.items c.give_up.new.self c.give_up.result e.fault (ap (λ n. n.ahead) e.ahead);
      only = e.fault;
      few = omega (arith, c.requires.none);
      ends = tt;
    }

pub returns-in-Err-clause-rest : goal.returns-in-Err-clause-rest
returns-in-Err-clause-rest g c =
    let old = c.args.self.now in
    let t = c.args.turn in
    let e = c.give_up-in-Err.ensures in
    record {
      looked = t.looked;
      made = t.messages.items;
      more = t.facts.items;
      then' = volatile old;
      so = λ k kept v sent event was. was.effect;
      comes = broken c.args.reply t old c.args.staged.now.facts.items c.put.new.self.facts.items c.give_up-in-Err.new.self c.give_up-in-Err.result e.fault (ap (λ n. n.ahead) e.ahead);
      only = e.fault;
      few = omega (arith, c.requires.none);
      ends = tt;
    }

pub returns-in-Ok-put-clause-rest : goal.returns-in-Ok-put-clause-rest
returns-in-Ok-put-clause-rest g c =
    let octets = g.C.Codec.octets in
    let store = store_of g.row.M-Question.Denot g.M.Machine.client_id g.M.Machine.outcome in
    let t = c.take_own.new.turn in
    let roles = c.take_own.new.self in
    let before = c.args.staged.now.facts.items in
    let so_long = c.take_own.ensures.before ∙ c.requires.before ∙ c.requires.ready.size in
    record {
      looked = t.looked;
      made = t.messages.items;
      more = t.facts.items;
      then' = volatile_of roles;
      so = λ k kept v sent event was. (c.in-Ok.ensures.so_far k kept v sent event was).effect;
      comes = (c.in-Ok-put.ensures.facts, refl, refl, c.in-Ok-put.ensures.given ∙ ap (λ k. given_out k.me t.looked t.messages.items) c.take_own.ensures.config);
      only = tt;
      few = c.in-Ok.ensures.few;
      ends = λ k kept v sent event was. ends_of octets store k kept v sent event roles t (c.in-Ok.ensures.so_far k kept v sent event was) before so_long (c.in-Ok.ensures.ends k kept v sent event was);
    }

pub returns-in-Ok-put-clause-staged : goal.returns-in-Ok-put-clause-staged
returns-in-Ok-put-clause-staged g c = λ up.
    let w = c.requires.staged in
    let old = c.args.self.now in
    let t = c.take_own.new.turn in
    staged_on g.D.Disk.state g.C.Codec.octets g.M.Machine.commands old c.args.staged.now.facts.items
    c.args.turn.facts.items t.facts.items c.take_own.new.self c.take_own.new.machine w
    c.take_own.ensures.config c.in-Ok.ensures.on c.in-Ok.ensures.part c.put.new.self.facts.items
    c.in-Ok-put.ensures.facts
