-- A plan without messages to the node itself is kept as in a call of its own.
use Rattle.std.proofs.Common.{◌≡◌, ◌∙◌, Err, false, inl, ap, refl, sym, subst, arith, ⊎_elim}
use Rattle.ts_synod.specs.declared.fault.NodeFault.{NodeFault}
use Rattle.ts_synod.specs.declared.fault.NodeFault.TheVariants as faults
use Rattle.ts_node.specs.Machine.{store_of}
use Rattle.ts_node.specs.Roles.{volatile_of}
use Rattle.ts_node.specs.inside.Roles.{facts_in, volatile_after}
use Rattle.ts_node.specs.inside.Staged.{Comes}
use Rattle.ts_node.specs.Turn.{has_own}
use Rattle.ts_node.proofs.Coming.{one_step}
use Rattle.ts_node.proofs.node.Node.go_on.Goals as goal

pub returns-in-Ok-clause-come : goal.returns-in-Ok-clause-come
returns-in-Ok-clause-come g c =
    let old = c.args.self.now in
    let plan = c.args.plan in
    record {
      looked = 0;
      made = plan.messages.items;
      more = facts_in plan.change;
      then' = volatile_after old.roles plan.change;
      so = λ fs sent event stand makes. one_step (store_of g.row.M-Question.Denot g.M.Machine.client_id g.M.Machine.outcome) fs sent event old.roles plan plan.messages.items makes;
      comes = (c.in-Ok.ensures.facts, c.in-Ok.ensures.volatile, refl, c.in-Ok.ensures.messages);
      few = omega arith;
      alone = λ none. (refl, λ is. absurd (cc));
      moments = c.commit.ensures.moments;
      ends = λ fs sent event stand makes. inl (subst (λ ms. has_own old.roles.me ms ≡ false) c.deref.ensures.value (sym c.has_own.ensures ∙ c.if-has_own.false));
    }

pub returns-in-Err-clause-come : goal.returns-in-Err-clause-come
returns-in-Err-clause-come g c =
    let old = c.args.self.now in
    let plan = c.args.plan in
    let fault = c.in-Err.fault in
    let comes : NodeFault
    → Type 0 = λ f. Comes {O = g.row.M-Outcome.Denot} {A = g.row.M-Answer.Denot} g.D.Disk.state
    old c.args.reply 0 plan.messages.items (facts_in plan.change)
    (volatile_after old.roles plan.change) (Err f) c.commit.new.self in
    record {
      looked = 0;
      made = plan.messages.items;
      more = facts_in plan.change;
      then' = volatile_after old.roles plan.change;
      so = λ fs sent event stand makes. one_step (store_of g.row.M-Question.Denot g.M.Machine.client_id g.M.Machine.outcome) fs sent event old.roles plan plan.messages.items makes;
      comes = ⊎_elim
          (λ m. subst comes (sym m) (let e = c.commit.ensures.memory (c.in-Err.is ∙ ap Err m) in record { kept = e.0; volatile = ap volatile_of e.1; ahead = c.commit.ensures.ahead }))
          (λ d. subst comes (sym d) (c.commit.ensures.failed (c.in-Err.is ∙ ap Err d)))
          c.in-Err.ensures.fault;
      few = omega arith;
      alone = λ none. (refl, λ is. ⊎_elim (λ (m : fault ≡ faults.Memory). absurd (cc)) (λ (d : fault ≡ faults.DiskFailed). absurd (cc)) c.in-Err.ensures.fault);
      moments = c.commit.ensures.moments;
      ends = tt;
    }
