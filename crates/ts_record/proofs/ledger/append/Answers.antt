use Rattle.std.proofs.Common.{rules, ◌≡◌, ◌++◌, ◌∷◌, [], ◌∙◌, ap, refl, sym, subst}
use Rattle.ts_record.specs.Facts.{encodings, AreFacts}
use Rattle.ts_record.specs.Rewrite.{with_more, rewrite_at, IsUnderWay}
use Rattle.ts_record.proofs.Ledgers.{rest_moves, moves_facts, keeps_as, more_under_way, is_facts_body}
use Rattle.ts_record.proofs.Walk.{are_more}
use Rattle.ts_record.proofs.ledger.append.Goals as goal

pub returns-in_err-octets-clause-moments : goal.returns-in_err-octets-clause-moments
returns-in_err-octets-clause-moments g c = rest_moves g.D.Disk.state g.D.Disk.lawful g.C.Codec.octets c.args.c.now c.args.facts.now c.requires.keeps

pub returns-in_err-more-clause-moments : goal.returns-in_err-more-clause-moments
returns-in_err-more-clause-moments g c = rest_moves g.D.Disk.state g.D.Disk.lawful g.C.Codec.octets c.args.c.now c.args.facts.now c.requires.keeps

pub returns-in_err-again-clause-moments : goal.returns-in_err-again-clause-moments
returns-in_err-again-clause-moments g c = rest_moves g.D.Disk.state g.D.Disk.lawful g.C.Codec.octets c.args.c.now c.args.facts.now c.requires.keeps

pub returns-in_err-reserve-clause-moments : goal.returns-in_err-reserve-clause-moments
returns-in_err-reserve-clause-moments g c = rest_moves g.D.Disk.state g.D.Disk.lawful g.C.Codec.octets c.args.c.now c.args.facts.now c.requires.keeps

pub returns-in_err-reserve-2-clause-moments : goal.returns-in_err-reserve-2-clause-moments
returns-in_err-reserve-2-clause-moments g c = rest_moves g.D.Disk.state g.D.Disk.lawful g.C.Codec.octets c.args.c.now c.args.facts.now c.requires.keeps

pub returns-in_err-append-clause-moments : goal.returns-in_err-append-clause-moments
returns-in_err-append-clause-moments g c =
    let old = c.args.c.now in
    let k = c.requires.keeps in
    let body = is_facts_body g.D.Disk.state g.D.Disk.lawful g.C.Codec.octets c.args.facts.now c.requires.some c.requires.short in
    moves_facts g.D.Disk.state g.D.Disk.lawful g.C.Codec.octets old.journal c.append.new.self
    old.facts.items c.args.facts.now k.0 k.1 c.deref.result.now k.3 k.2 c.requires.fit body
    (c.deref.ensures.value ∙ c.in_ok-octets.ensures) c.append.ensures.moments

pub returns-clause-moments : goal.returns-clause-moments
returns-clause-moments g c =
    let old = c.args.c.now in
    let k = c.requires.keeps in
    let body = is_facts_body g.D.Disk.state g.D.Disk.lawful g.C.Codec.octets c.args.facts.now c.requires.some c.requires.short in
    moves_facts g.D.Disk.state g.D.Disk.lawful g.C.Codec.octets old.journal c.append.new.self
    old.facts.items c.args.facts.now k.0 k.1 c.deref.result.now k.3 k.2 c.requires.fit body
    (c.deref.ensures.value ∙ c.in_ok-octets.ensures) c.append.ensures.moments

pub returns-clause-keeps : goal.returns-clause-keeps
returns-clause-keeps g c =
    let old = c.args.c.now in
    let k = c.requires.keeps in
    let octets = g.C.Codec.octets in
    let more = c.args.facts.now in
    let body = is_facts_body g.D.Disk.state g.D.Disk.lawful octets more c.requires.some c.requires.short in
    let later : c.move_behind.new.facts.items ≡ old.facts.items ++ more = c.move_behind.ensures
    ∙ ap (λ l. l ++ c.in_ok-more.more.items) c.reserve.ensures.items
    ∙ ap (λ l. old.facts.items ++ l) c.in_ok-more.ensures in
    let kept : rewrite_at c.append.new.self.stage c.move_behind-2.new.facts.items old.done ≡ with_more (rewrite_at old.journal.stage old.copy.items old.done) more = search rules in
    keeps_as g.D.Disk.state g.D.Disk.lawful octets c.append.new.self c.move_behind.new.facts.items
    (rewrite_at c.append.new.self.stage c.move_behind-2.new.facts.items old.done)
    (k.0 ++ encodings octets more ∷ []) k.1
    (with_more (rewrite_at old.journal.stage old.copy.items old.done) more)
    (c.in_ok-append.ensures.holds k.0 k.1 (encodings octets more) body (c.deref.ensures.value ∙ c.in_ok-octets.ensures) k.2)
    (subst (AreFacts octets (k.0 ++ encodings octets more ∷ [])) (sym later) (are_more octets k.0 old.facts.items more (encodings octets more) k.3 c.requires.fit refl))
    kept
    (subst (λ fs. IsUnderWay octets fs k.1 (with_more (rewrite_at old.journal.stage old.copy.items old.done) more)) (sym later)
    (more_under_way g.D.Disk.state g.D.Disk.lawful octets old.facts.items more k.1 (rewrite_at old.journal.stage old.copy.items old.done) c.requires.fit c.requires.short k.4))
