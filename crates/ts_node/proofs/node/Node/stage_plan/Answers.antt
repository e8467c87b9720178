-- A plan has no room, or no memory.
use Rattle.std.proofs.Common.{◌≤◌, ◌+◌, length, refl, subst, arith}
use Rattle.ts_record.specs.Facts.{AllFit, encodings}
use Rattle.ts_node.specs.Machine.{store_of}
use Rattle.ts_node.specs.inside.Roles.{facts_in, volatile_after}
use Rattle.ts_node.proofs.Coming.{fit_behind, one_step}
use Rattle.ts_node.proofs.node.Node.stage_plan.Goals as goal

pub returns-in-Ok-None-clause-planned : goal.returns-in-Ok-None-clause-planned
returns-in-Ok-None-clause-planned g c = (
  refl,
  refl,
  λ together.
      let octets = g.C.Codec.octets in
      let staged = c.args.staged.now in
      let behind = fit_behind octets staged.facts.items (facts_in c.args.plan.change) staged.size c.requires.ready.size together in
      (subst (λ fs. AllFit octets fs → staged.size + length (encodings octets fs) ≤ 4194500 → ⊥) c.facts.ensures (rw c.in-Ok-None.field-0-is at c.in-Ok-None.ensures.none)) behind.0 behind.1,
)

pub returns-in-Err-clause-planned : goal.returns-in-Err-clause-planned
returns-in-Err-clause-planned g c =
    let old = c.args.self.now in
    let plan = c.args.plan in
    record {
      looked = 0;
      made = plan.messages.items;
      more = facts_in plan.change;
      then' = volatile_after old.roles plan.change;
      so = λ fs sent event stand makes. one_step (store_of g.row.M-Question.Denot g.M.Machine.client_id g.M.Machine.outcome) fs sent event old.roles plan plan.messages.items makes;
      comes = (refl, record { kept = refl; volatile = refl; ahead = refl });
      few = omega arith;
      ends = tt;
    }
