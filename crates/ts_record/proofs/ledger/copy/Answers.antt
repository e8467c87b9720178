use Rattle.ts_journal.specs.Settled.{member_in}
use Rattle.std.proofs.Common.{◌++◌, ◌∷◌, ◌+◌, [], ◌∙◌, ap}
use Rattle.ts_record.specs.Facts.{fact_encoding}
use Rattle.ts_record.specs.Rewrite.{copying, rewrite_at}
use Rattle.ts_record.proofs.Ledgers.{from_bodies, rest_from, under, keeps_as, one_copied, is_ready, is_one_body}
use Rattle.ts_record.proofs.ledger.copy.Goals as goal

pub returns-in_err-octets-clause-moments : goal.returns-in_err-octets-clause-moments
returns-in_err-octets-clause-moments g c = rest_from g.D.Disk.state g.D.Disk.lawful g.C.Codec.octets c.args.c.now c.requires.keeps

pub copy-requires-clause-body : goal.copy-requires-clause-body
copy-requires-clause-body g c =
    let old = c.args.c.now in
    let k = c.requires.keeps in
    let list = old.copy.items in
    let fact = c.index.result.now in
    let way = under g.D.Disk.state g.D.Disk.lawful g.C.Codec.octets old k (copying list old.done) (ap (λ s. rewrite_at s list old.done) c.requires.copying) in
    let ready = is_ready g.D.Disk.state g.D.Disk.lawful g.C.Codec.octets old.facts.items list fact old.done k.1 way c.requires.left c.index.ensures in
    (fact_encoding g.C.Codec.octets fact, is_one_body g.D.Disk.state g.D.Disk.lawful g.C.Codec.octets fact ready, c.deref.ensures.value ∙ c.in_ok-octets.ensures)

pub entry_of_one-requires : goal.entry_of_one-requires
entry_of_one-requires g c =
    let old = c.args.c.now in
    let k = c.requires.keeps in
    let list = old.copy.items in
    let fact = c.index.result.now in
    let way = under g.D.Disk.state g.D.Disk.lawful g.C.Codec.octets old k (copying list old.done) (ap (λ s. rewrite_at s list old.done) c.requires.copying) in
    (is_ready g.D.Disk.state g.D.Disk.lawful g.C.Codec.octets old.facts.items list fact old.done k.1 way c.requires.left c.index.ensures).1

pub returns-in_err-copy-clause-moments : goal.returns-in_err-copy-clause-moments
returns-in_err-copy-clause-moments g c =
    let old = c.args.c.now in
    let k = c.requires.keeps in
    from_bodies g.D.Disk.state g.D.Disk.lawful g.C.Codec.octets old.journal c.copy.new.self (member_in old.journal) old.journal.swapped k.0 old.facts.items k.3 (c.copy.ensures.moments k.0 k.1 k.2)

pub returns-clause-keeps : goal.returns-clause-keeps
returns-clause-keeps g c =
    let old = c.args.c.now in
    let k = c.requires.keeps in
    let list = old.copy.items in
    let fact = c.index.result.now in
    let octets = g.C.Codec.octets in
    let way = under g.D.Disk.state g.D.Disk.lawful octets old k (copying list old.done) (ap (λ s. rewrite_at s list old.done) c.requires.copying) in
    let ready = is_ready g.D.Disk.state g.D.Disk.lawful octets old.facts.items list fact old.done k.1 way c.requires.left c.index.ensures in
    keeps_as g.D.Disk.state g.D.Disk.lawful octets c.copy.new.self old.facts.items
    (rewrite_at c.copy.new.self.stage list (old.done + 1)) k.0
    (k.1 ++ fact_encoding octets fact ∷ []) (copying list (old.done + 1))
    (c.in_ok-copy.ensures.holds k.0 k.1 (fact_encoding octets fact) (is_one_body g.D.Disk.state g.D.Disk.lawful octets fact ready) (c.deref.ensures.value ∙ c.in_ok-octets.ensures) k.2) k.3
    (ap (λ s. rewrite_at s list (old.done + 1)) (c.in_ok-copy.ensures.stage ∙ c.requires.copying))
    (one_copied g.D.Disk.state g.D.Disk.lawful octets old.facts.items list fact old.done k.1 way c.requires.left c.index.ensures)

pub returns-clause-moments : goal.returns-clause-moments
returns-clause-moments g c =
    let old = c.args.c.now in
    let k = c.requires.keeps in
    from_bodies g.D.Disk.state g.D.Disk.lawful g.C.Codec.octets old.journal c.copy.new.self (member_in old.journal) old.journal.swapped k.0 old.facts.items k.3 (c.copy.ensures.moments k.0 k.1 k.2)
