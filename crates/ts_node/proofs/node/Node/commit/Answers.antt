use Rattle.std.proofs.Common.{◌≡◌, ◌∙◌, ◌++◌, Err, inl, inr, true≢false, ap, refl, sym, subst}
use Rattle.ts_synod.specs.Force.{log_of}
use Rattle.ts_record.specs.Record.{ToBeforeOrAfter}
use Rattle.ts_node.specs.Growing.{IsPart}
use Rattle.ts_record.specs.Kept.{member}
use Rattle.ts_node.specs.Node.{IsWhole, ToEither, fault_as, member_as}
use Rattle.ts_node.specs.Roles.{StandFor}
use Rattle.ts_node.specs.inside.Roles.{facts_in}
use Rattle.ts_node.proofs.Breaks.{both_not, first_not}
use Rattle.ts_node.proofs.Images.{cause, log_extends, part_extends, to_either}
use Rattle.ts_node.proofs.node.Node.commit.Goals as goal

pub returns-in-Ok-clause-moments : goal.returns-in-Ok-clause-moments
returns-in-Ok-clause-moments g c = λ ca cb a b.
    let kept = c.args.self.now.kept in
    let more = facts_in c.args.plan.change in
    let run = subst (λ fs. ToBeforeOrAfter g.C.Codec.octets (member kept) kept.swapped kept.facts fs ca cb) c.facts.ensures (c.append.ensures.moments c.requires.whole ca cb a b) in
    subst (λ m. ToEither g.C.Codec.octets m kept.facts more ca cb)
    (c.requires.sound (both_not _ _ c.requires.whole c.requires.still)).whose
    (to_either g.C.Codec.octets (member kept) kept.swapped kept.facts more ca cb run)

pub returns-in-Err-clause-moments : goal.returns-in-Err-clause-moments
returns-in-Err-clause-moments g c = λ ca cb a b.
    let kept = c.args.self.now.kept in
    let more = facts_in c.args.plan.change in
    let run = subst (λ fs. ToBeforeOrAfter g.C.Codec.octets (member kept) kept.swapped kept.facts fs ca cb) c.facts.ensures (c.append.ensures.moments c.requires.whole ca cb a b) in
    subst (λ m. ToEither g.C.Codec.octets m kept.facts more ca cb)
    (c.requires.sound (both_not _ _ c.requires.whole c.requires.still)).whose
    (to_either g.C.Codec.octets (member kept) kept.swapped kept.facts more ca cb run)

pub returns-in-Ok-clause-sound : goal.returns-in-Ok-clause-sound
returns-in-Ok-clause-sound g c = λ whole.
    let old = c.args.self.now in
    let more = facts_in c.args.plan.change in
    let w = c.requires.sound (both_not _ _ c.requires.whole c.requires.still) in
    let e = c.in-Ok.ensures.kept ∙ ap (λ xs. old.kept.facts ++ xs) c.facts.ensures in
    let commands = g.M.Machine.commands old.machine in
    record {
      opens = c.in-Ok.ensures.opens;
      whose = c.append.ensures.owner ∙ w.whose ∙ ap member_as (sym c.keep.ensures.config);
      stand = subst (StandFor c.keep.new.self) (sym e) (c.keep.ensures.stand old.kept.facts w.stand);
      part = subst (λ fs. IsPart commands (log_of fs)) (sym e) (part_extends (log_of old.kept.facts) (log_of (old.kept.facts ++ more)) commands (log_extends old.kept.facts more) w.part);
    }

pub returns-in-Err-clause-sound : goal.returns-in-Err-clause-sound
returns-in-Err-clause-sound g c = λ whole.
    let old = c.args.self.now in
    let e = c.append.ensures in
    let same : c.append.new.self ≡ old.kept = elim (cause c.append.result c.in-Err.fault c.in-Err.is e.fault) [
      | inl m ↦ e.memory (c.in-Err.is ∙ ap Err m)
      | inr (inl d) ↦ absurd (let f = (e.failed (c.in-Err.is ∙ ap Err d)).0 in true≢false (sym f ∙ first_not _ _ whole))
      | inr (inr b) ↦ absurd (let f = (e.broken (c.in-Err.is ∙ ap Err b)).0 in true≢false (sym f ∙ c.requires.whole))
    ] in
    subst (λ k. IsWhole g.D.Disk.state g.C.Codec.octets g.M.Machine.commands (record old { kept = k })) (sym same) (c.requires.sound (both_not _ _ c.requires.whole c.requires.still))

pub returns-in-Err-clause-fault : goal.returns-in-Err-clause-fault
returns-in-Err-clause-fault g c =
    let e = c.append.ensures in
    elim (cause c.append.result c.in-Err.fault c.in-Err.is e.fault) [
      | inl m ↦ inl (c.fault_of.ensures ∙ ap fault_as m)
      | inr (inl d) ↦ inr (c.fault_of.ensures ∙ ap fault_as d)
      | inr (inr b) ↦ absurd (let f = (e.broken (c.in-Err.is ∙ ap Err b)).0 in true≢false (sym f ∙ c.requires.whole))
    ]

pub returns-in-Err-clause-memory : goal.returns-in-Err-clause-memory
returns-in-Err-clause-memory g c = λ is.
    let e = c.append.ensures in
    elim (cause c.append.result c.in-Err.fault c.in-Err.is e.fault) [
      | inl m ↦ (e.memory (c.in-Err.is ∙ ap Err m), refl)
      | inr (inl d) ↦ absurd (let f = c.fault_of.ensures ∙ ap fault_as d in cc)
      | inr (inr b) ↦ absurd (let f = (e.broken (c.in-Err.is ∙ ap Err b)).0 in true≢false (sym f ∙ c.requires.whole))
    ]

pub returns-in-Err-clause-failed : goal.returns-in-Err-clause-failed
returns-in-Err-clause-failed g c = λ is.
    let e = c.append.ensures in
    elim (cause c.append.result c.in-Err.fault c.in-Err.is e.fault) [
      | inl m ↦ absurd (let f = c.fault_of.ensures ∙ ap fault_as m in cc)
      | inr (inl d) ↦ (let f = e.failed (c.in-Err.is ∙ ap Err d) in (f.0, f.2))
      | inr (inr b) ↦ absurd (let f = (e.broken (c.in-Err.is ∙ ap Err b)).0 in true≢false (sym f ∙ c.requires.whole))
    ]
