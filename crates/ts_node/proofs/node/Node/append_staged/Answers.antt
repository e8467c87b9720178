-- The facts of turns are kept at once, or the node is broken.
use Rattle.std.proofs.Common.{◌≡◌, ◌∙◌, ◌++◌, Err, inl, inr, true≢false, false, ap, refl, sym, subst}
use Rattle.std.proofs.lemmas.List.{append-nil}
use Rattle.ts_synod.specs.Force.{log_of}
use Rattle.ts_record.specs.Kept.{member}
use Rattle.ts_record.specs.Record.{ToBeforeOrAfter}
use Rattle.ts_journal.specs.Images.{EveryPair}
use Rattle.ts_node.specs.Growing.{IsPart}
use Rattle.ts_node.specs.Node.{ToEither, is_broken, owner}
use Rattle.ts_node.specs.Roles.{StandFor}
use Rattle.ts_node.proofs.Breaks.{first_not, second_yes}
use Rattle.ts_node.proofs.Images.{cause, rests, to_either}
use Rattle.ts_node.proofs.Stages.{staged_whole}
use Rattle.ts_node.proofs.node.Node.append_staged.Goals as goal

pub returns-then-are_none-clause-keeps : goal.returns-then-are_none-clause-keeps
returns-then-are_none-clause-keeps g c =
    let fs = c.args.self.now.kept.facts in
    let none = sym c.deref.ensures.value ∙ c.are_none.ensures.none c.if-are_none.true in
    (sym (append-nil fs) ∙ ap (λ more. fs ++ more) (sym none), refl)

pub returns-then-are_none-clause-moments : goal.returns-then-are_none-clause-moments
returns-then-are_none-clause-moments g c =
    let old = c.args.self.now in
    let kept = old.kept in
    let w = c.requires.staged in
    rests g.C.Codec.octets (member kept) (owner old) kept.swapped kept.facts _ (g.D.Disk.state kept.a) (g.D.Disk.state kept.b) w.whose (g.D.Disk.lawful kept.a) (g.D.Disk.lawful kept.b) w.opens

pub returns-then-are_none-clause-sound : goal.returns-then-are_none-clause-sound
returns-then-are_none-clause-sound g c = λ up.
    staged_whole g.D.Disk.state g.C.Codec.octets g.M.Machine.commands c.args.self.now
    c.args.staged.facts.items
    (sym c.deref.ensures.value ∙ c.are_none.ensures.none c.if-are_none.true) c.requires.staged

pub returns-in-Ok-clause-moments : goal.returns-in-Ok-clause-moments
returns-in-Ok-clause-moments g c = λ ca cb a b.
    let kept = c.args.self.now.kept in
    let more = c.args.staged.facts.items in
    subst (λ m. ToEither g.C.Codec.octets m kept.facts more ca cb) c.requires.staged.whose
    (to_either g.C.Codec.octets (member kept) kept.swapped kept.facts more ca cb
    (subst (λ fs. ToBeforeOrAfter g.C.Codec.octets (member kept) kept.swapped kept.facts fs ca cb)
    c.deref-2.ensures.value (c.append.ensures.moments c.requires.whole ca cb a b)))

pub returns-in-Ok-clause-sound : goal.returns-in-Ok-clause-sound
returns-in-Ok-clause-sound g c = λ up.
    let old = c.args.self.now in
    let w = c.requires.staged in
    let kept = c.in-Ok.ensures.kept ∙ ap (λ fs. old.kept.facts ++ fs) c.deref-2.ensures.value in
    record {
      opens = c.in-Ok.ensures.opens;
      whose = c.append.ensures.owner ∙ w.whose;
      stand = subst (StandFor old.roles) (sym kept) w.stand;
      part = subst (λ fs. IsPart (g.M.Machine.commands old.machine) (log_of fs)) (sym kept) w.part;
    }

pub returns-in-Ok-clause-none : goal.returns-in-Ok-clause-none
returns-in-Ok-clause-none g c = λ none. absurd (c.are_none.ensures.some c.if-are_none.false (c.deref.ensures.value ∙ none))

pub returns-clause-moments : goal.returns-clause-moments
returns-clause-moments g c =
    let old = c.args.self.now in
    let kept = old.kept in
    let more = c.args.staged.facts.items in
    let state = g.D.Disk.state in
    subst (λ k. EveryPair (ToEither g.C.Codec.octets (owner old) kept.facts more) (state kept.a) (state kept.b) (state k.a) (state k.b)) (sym (ap (λ n. n.kept) c.stop.ensures.same))
    (λ ca cb a b. subst (λ m. ToEither g.C.Codec.octets m kept.facts more ca cb)
    c.requires.staged.whose
    (to_either g.C.Codec.octets (member kept) kept.swapped kept.facts more ca cb
    (subst (λ fs. ToBeforeOrAfter g.C.Codec.octets (member kept) kept.swapped kept.facts fs ca cb)
    c.deref-2.ensures.value (c.append.ensures.moments c.requires.whole ca cb a b))))

pub returns-clause-sound : goal.returns-clause-sound
returns-clause-sound g c = λ up.
    let e = c.append.ensures in
    elim (cause c.append.result c.in-Err.fault c.in-Err.is e.fault) [
      | inl m ↦ absurd (let s = c.stop.ensures.other (λ d. absurd (let x = sym m ∙ d in cc)) in second_yes _ (subst (λ n. is_broken n ≡ false) s.1 up))
      | inr (inl d) ↦ absurd (let s = c.stop.ensures.failed d in let f = e.failed (c.in-Err.is ∙ ap Err d) in true≢false (sym f.0 ∙ first_not _ _ (subst (λ n. is_broken n ≡ false) s.1 up)))
      | inr (inr b) ↦ absurd (true≢false (sym (e.broken (c.in-Err.is ∙ ap Err b)).0 ∙ c.requires.whole))
    ]
