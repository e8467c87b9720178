use Rattle.std.proofs.Common.{◌∙◌, ap, length, subst, refl}
use Rattle.std.proofs.lemmas.Result.{err_from_is_err_and}
use Rattle.ts_journal.specs.Images.{bodies_in}
use Rattle.ts_journal.proofs.Filling.{none_yet}
use Rattle.ts_record.specs.Blocks.{version_1, IsRead}
use Rattle.ts_record.specs.Old.{IsOldOf}
use Rattle.ts_record.proofs.Migration.{no_fault, no_device, text_of, holds, migrated, all_or_none}
use Rattle.ts_record.proofs.Reopened.{stays, untouched}
use Rattle.ts_record.proofs.record.Record.migrate.Goals as goal

pub returns-in_err-record-clause-opens : goal.returns-in_err-record-clause-opens
returns-in_err-record-clause-opens g c = λ owner facts opens.
    let p = err_from_is_err_and c.from_residual-in_err-record.result c.from_residual-in_err-record.ensures.1 in
    let image = (g.D.Disk.state c.args.old.now).read in
    rw (p.1, p.2) (no_fault g.C.Codec.octets owner facts image ⊥ c.in_err-record.field-0.0
    (no_device g.C.Codec.octets c.deref.result.now image ⊥ c.in_err-record.field-0.0
    (c.deref.ensures.value ∙ c.in_ok-octets.ensures.octets) c.in_err-record.ensures.fault.1) opens)

pub returns-in_err-record-clause-fault : goal.returns-in_err-record-clause-fault
returns-in_err-record-clause-fault g c =
    let p = err_from_is_err_and c.from_residual-in_err-record.result c.from_residual-in_err-record.ensures.1 in
    let image = (g.D.Disk.state c.args.old.now).read in
    rw (p.1, p.2) (no_device g.C.Codec.octets c.deref.result.now image _ c.in_err-record.field-0.0 (c.deref.ensures.value ∙ c.in_ok-octets.ensures.octets) c.in_err-record.ensures.fault.1)

pub returns-in_err-facts-clause-moments : goal.returns-in_err-facts-clause-moments
returns-in_err-facts-clause-moments g c = λ owner facts opens first second.
    let state = g.D.Disk.state in
    let image = (state c.args.old.now).read in
    let r = c.in_ok-record.record in
    let same = c.deref.ensures.value ∙ c.in_ok-octets.ensures.octets in
    let read = subst (λ l. IsRead g.C.Codec.octets version_1 l r.contents.facts.items r.contents.end) same c.in_ok-record.ensures.read in
    let begun = subst (IsOldOf (record { node = r.node; nodes = r.nodes })) same c.in_ok-record.ensures.owner in
    all_or_none g.C.Codec.octets c.one_encoding.ensures image _ owner r.contents.facts.items facts
    r.contents.end read begun opens (state c.args.a.now) (state c.args.b.now) (state c.args.a.now)
    (state c.args.b.now)
    (none_yet (bodies_in read.0.blocks) (state c.args.a.now) (state c.args.b.now) (g.D.Disk.lawful c.args.a.now) (g.D.Disk.lawful c.args.b.now) first second)

pub returns-in_err-format_with-clause-moments : goal.returns-in_err-format_with-clause-moments
returns-in_err-format_with-clause-moments g c = λ owner facts opens first second.
    let state = g.D.Disk.state in
    let image = (state c.args.old.now).read in
    let r = c.in_ok-record.record in
    let same = c.deref.ensures.value ∙ c.in_ok-octets.ensures.octets in
    let read = subst (λ l. IsRead g.C.Codec.octets version_1 l r.contents.facts.items r.contents.end) same c.in_ok-record.ensures.read in
    let begun = subst (IsOldOf (record { node = r.node; nodes = r.nodes })) same c.in_ok-record.ensures.owner in
    all_or_none g.C.Codec.octets c.one_encoding.ensures image _ owner r.contents.facts.items facts
    r.contents.end read begun opens (state c.args.a.now) (state c.args.b.now)
    (state c.format_with.new.a) (state c.format_with.new.b)
    (c.format_with.ensures.moments first second read.0.blocks
    (text_of g.C.Codec.octets image c.deref-3.result.now _ r.contents.facts.items r.contents.end
    (c.deref-3.ensures.value ∙ c.in_ok-octets.ensures.octets) refl read))

pub returns-clause-moments : goal.returns-clause-moments
returns-clause-moments g c = λ owner facts opens first second.
    let state = g.D.Disk.state in
    let image = (state c.args.old.now).read in
    let r = c.in_ok-record.record in
    let same = c.deref.ensures.value ∙ c.in_ok-octets.ensures.octets in
    let read = subst (λ l. IsRead g.C.Codec.octets version_1 l r.contents.facts.items r.contents.end) same c.in_ok-record.ensures.read in
    let begun = subst (IsOldOf (record { node = r.node; nodes = r.nodes })) same c.in_ok-record.ensures.owner in
    all_or_none g.C.Codec.octets c.one_encoding.ensures image _ owner r.contents.facts.items facts
    r.contents.end read begun opens (state c.args.a.now) (state c.args.b.now)
    (state c.format_with.new.a) (state c.format_with.new.b)
    (c.format_with.ensures.moments first second read.0.blocks
    (text_of g.C.Codec.octets image c.deref-3.result.now _ r.contents.facts.items r.contents.end
    (c.deref-3.ensures.value ∙ c.in_ok-octets.ensures.octets) refl read))

pub returns-clause-opens : goal.returns-clause-opens
returns-clause-opens g c = λ owner facts opens.
    let state = g.D.Disk.state in
    let image = (state c.args.old.now).read in
    let r = c.in_ok-record.record in
    let same = c.deref.ensures.value ∙ c.in_ok-octets.ensures.octets in
    let read = subst (λ l. IsRead g.C.Codec.octets version_1 l r.contents.facts.items r.contents.end) same c.in_ok-record.ensures.read in
    let begun = subst (IsOldOf (record { node = r.node; nodes = r.nodes })) same c.in_ok-record.ensures.owner in
    migrated g.C.Codec.octets c.one_encoding.ensures image _ owner r.contents.facts.items facts
    r.contents.end read begun opens _ c.in_ok-facts.facts (state c.format_with.new.a)
    (state c.format_with.new.b)
    (text_of g.C.Codec.octets image c.deref-3.result.now _ r.contents.facts.items r.contents.end (c.deref-3.ensures.value ∙ c.in_ok-octets.ensures.octets) refl read)
    (c.in_ok-facts.ensures.value ∙ ap length c.deref-2.ensures.value) c.in_ok-format_with.ensures.opens

pub returns-clause-old : goal.returns-clause-old
returns-clause-old g c =
    let state = g.D.Disk.state in
    let image = (state c.args.old.now).read in
    let r = c.in_ok-record.record in
    let same = c.deref.ensures.value ∙ c.in_ok-octets.ensures.octets in
    let read = subst (λ l. IsRead g.C.Codec.octets version_1 l r.contents.facts.items r.contents.end) same c.in_ok-record.ensures.read in (
      record { node = r.node; nodes = r.nodes },
      r.contents.facts.items,
      (
        subst (IsOldOf (record { node = r.node; nodes = r.nodes })) same
            c.in_ok-record.ensures.owner,
        holds g.C.Codec.octets image r.contents.facts.items
            r.contents.end read,
      ),
    )

pub returns-in_err-facts-clause-unwritten : goal.returns-in_err-facts-clause-unwritten
returns-in_err-facts-clause-unwritten g c =
    let state = g.D.Disk.state in
    let old = c.args.old.now in
    stays (state old) (state old) (state c.read.new.self) (g.D.Disk.lawful old) (untouched (state old) (g.D.Disk.lawful old)) c.read.ensures.call

pub returns-in_err-format_with-clause-unwritten : goal.returns-in_err-format_with-clause-unwritten
returns-in_err-format_with-clause-unwritten g c =
    let state = g.D.Disk.state in
    let old = c.args.old.now in
    stays (state old) (state old) (state c.read.new.self) (g.D.Disk.lawful old) (untouched (state old) (g.D.Disk.lawful old)) c.read.ensures.call

pub returns-clause-unwritten : goal.returns-clause-unwritten
returns-clause-unwritten g c =
    let state = g.D.Disk.state in
    let old = c.args.old.now in
    stays (state old) (state old) (state c.read.new.self) (g.D.Disk.lawful old) (untouched (state old) (g.D.Disk.lawful old)) c.read.ensures.call
