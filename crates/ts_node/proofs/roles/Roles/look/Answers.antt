-- The next message of a turn was looked at.
use Rattle.std.proofs.Common.{◌≡◌, ◌∙◌, ◌≤◌, ◌+◌, ◌++◌, length, ap, sym, subst, arith, length-append, append_assoc}
use Rattle.ts_record.specs.Facts.{AllFit, encodings}
use Rattle.ts_node.specs.Machine.{store_of}
use Rattle.ts_node.specs.Roles.{StandFor}
use Rattle.ts_node.specs.inside.Roles.{facts_in}
use Rattle.ts_node.proofs.Staging.{held_more, look_full, look_none, look_other, look_own, part_more}
use Rattle.ts_node.proofs.roles.Roles.look.Goals as goal

pub returns-then-message-self-clause-so_far : goal.returns-then-message-self-clause-so_far
returns-then-message-self-clause-so_far g c = λ config kept volatile sent event was.
    look_other (store_of g.row.M-Question.Denot g.M.Machine.client_id g.M.Machine.outcome) config
    kept volatile sent event c.args.self.now c.args.turn.now c.index-message.result.now
    c.requires.more c.index-message.ensures was c.if-message-self.true

pub returns-in_default-clause-so_far : goal.returns-in_default-clause-so_far
returns-in_default-clause-so_far g c = λ config kept volatile sent event was.
    look_none (store_of g.row.M-Question.Denot g.M.Machine.client_id g.M.Machine.outcome) config
    kept volatile sent event c.args.self.now c.args.turn.now c.index-message.result.now
    c.requires.more c.index-message.ensures was
    c.plan_message.new.self c.in_ok-plan.plan c.plan_message.ensures.same c.in_ok-plan.ensures.plan

pub returns-in_default-clause-full : goal.returns-in_default-clause-full
returns-in_default-clause-full g c = λ went config kept volatile sent event was.
    look_full (store_of g.row.M-Question.Denot g.M.Machine.client_id g.M.Machine.outcome) config
    kept volatile sent event c.args.self.now c.args.turn.now c.index-message.result.now
    c.requires.more c.index-message.ensures was
    c.plan_message.new.self c.in_ok-plan.plan c.plan_message.ensures.same c.in_ok-plan.ensures.plan
    g.C.Codec.octets c.args.turn.now.size c.if-message-self.false c.requires.held.size
    (subst (λ fs. AllFit g.C.Codec.octets fs → c.args.turn.now.size + length (encodings g.C.Codec.octets fs) ≤ 4194500 → ⊥) c.facts.ensures (rw c.in_default.is at c.in_ok-size.ensures.none))

pub returns-in_default-clause-stand : goal.returns-in_default-clause-stand
returns-in_default-clause-stand g c = (c.requires.stand.0, c.plan_message.ensures.same.stand c.requires.stand.0 c.requires.stand.1)

pub returns-clause-so_far : goal.returns-clause-so_far
returns-clause-so_far g c = λ config kept volatile sent event was.
    look_own (store_of g.row.M-Question.Denot g.M.Machine.client_id g.M.Machine.outcome) config kept
    volatile sent event c.args.self.now c.args.turn.now c.index-message.result.now c.requires.more
    c.index-message.ensures was
    c.plan_message.new.self c.in_ok-plan.plan c.plan_message.ensures.same c.in_ok-plan.ensures.plan
    c.if-message-self.false c.advance.new.self c.advance.new.turn c.in_ok-advance.ensures.stand
    c.in_ok-advance.ensures.volatile c.advance.ensures.config c.in_ok-advance.ensures.facts
    c.in_ok-advance.ensures.messages c.advance.ensures.looked

pub returns-clause-held : goal.returns-clause-held
returns-clause-held g c =
    let octets = g.C.Codec.octets in
    let now = c.args.turn.now in
    let plan = c.in_ok-plan.plan in
    let found = subst (λ fs. AllFit octets fs
    × (c.in-Some.size ≡ now.size + length (encodings octets fs)) × (c.in-Some.size ≤ 4194500))
    c.facts.ensures (rw c.in-Some.is at c.in_ok-size.ensures.some) in
    let e = ap length c.in_ok-advance.ensures.messages in
    let f = length-append now.messages.items plan.messages.items in
    held_more octets now c.advance.new.turn (facts_in plan.change) c.in-Some.size c.requires.held
    found.0 found.1 found.2 c.in_ok-advance.ensures.facts c.in_ok-advance.ensures.size
    c.advance.ensures.before
    (omega (arith, e, f, c.requires.more, c.advance.ensures.looked))

pub returns-clause-stand : goal.returns-clause-stand
returns-clause-stand g c = (
  c.requires.stand.0 ++ facts_in c.in_ok-plan.plan.change,
  c.in_ok-advance.ensures.stand
      c.requires.stand.0 (c.plan_message.ensures.same.stand c.requires.stand.0 c.requires.stand.1),
)

pub returns-clause-part : goal.returns-clause-part
returns-clause-part g c =
    let a = c.plan_message.ensures.same.stand c.requires.stand.0 c.requires.stand.1 in
    part_more (g.M.Machine.commands c.plan_message.new.machine) c.plan_message.new.self
    c.advance.new.self c.requires.stand.0 (facts_in c.in_ok-plan.plan.change) a
    (c.in_ok-advance.ensures.stand c.requires.stand.0 a) c.plan_message.ensures.part

pub returns-in_default-clause-on : goal.returns-in_default-clause-on
returns-in_default-clause-on g c = λ kept stand. c.plan_message.ensures.same.stand (kept ++ c.args.turn.now.facts.items) stand

pub returns-clause-on : goal.returns-clause-on
returns-clause-on g c = λ kept stand.
    let now = c.args.turn.now.facts.items in
    subst (StandFor c.advance.new.self) (append_assoc kept now (facts_in c.in_ok-plan.plan.change)
    ∙ ap (λ fs. kept ++ fs) (sym c.in_ok-advance.ensures.facts))
    (c.in_ok-advance.ensures.stand (kept ++ now)
    (c.plan_message.ensures.same.stand (kept ++ now) stand))
