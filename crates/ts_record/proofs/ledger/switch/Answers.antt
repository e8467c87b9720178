use Rattle.ts_journal.specs.Settled.{member_in}
use Rattle.std.proofs.Common.{[], ap, sym, subst}
use Rattle.ts_record.specs.Facts.{AreFacts}
use Rattle.ts_record.specs.Rewrite.{idle, copying, rewrite_at}
use Rattle.ts_record.proofs.Ledgers.{switches, under, keeps_as, all_copied}
use Rattle.ts_record.proofs.ledger.switch.Goals as goal

pub returns-in_err-switch-clause-moments : goal.returns-in_err-switch-clause-moments
returns-in_err-switch-clause-moments g c =
    let old = c.args.c.now in
    let k = c.requires.keeps in
    let list = old.copy.items in
    let way = under g.D.Disk.state g.D.Disk.lawful g.C.Codec.octets old k (copying list old.done) (ap (λ s. rewrite_at s list old.done) c.requires.copying) in
    switches g.D.Disk.state g.D.Disk.lawful g.C.Codec.octets old.journal c.switch.new.self (member_in old.journal) old.facts.items list k.0 k.1 k.3
    (all_copied g.D.Disk.state g.D.Disk.lawful g.C.Codec.octets old.facts.items list old.done k.1 way c.requires.none_left) way.0 (c.switch.ensures.moments k.0 k.1 k.2)

pub returns-clause-keeps : goal.returns-clause-keeps
returns-clause-keeps g c =
    let old = c.args.c.now in
    let k = c.requires.keeps in
    let list = old.copy.items in
    let way = under g.D.Disk.state g.D.Disk.lawful g.C.Codec.octets old k (copying list old.done) (ap (λ s. rewrite_at s list old.done) c.requires.copying) in
    let are = all_copied g.D.Disk.state g.D.Disk.lawful g.C.Codec.octets old.facts.items list old.done k.1 way c.requires.none_left in
    keeps_as g.D.Disk.state g.D.Disk.lawful g.C.Codec.octets c.switch.new.self
    c.replace.result.items (rewrite_at c.switch.new.self.stage c.replace.new.dest.items old.done)
    k.1 [] idle (c.in_ok-switch.ensures.holds k.0 k.1 k.2)
    (subst (λ v. AreFacts g.C.Codec.octets k.1 v.items) (sym c.replace.ensures.value) are)
    (ap (λ s. rewrite_at s c.replace.new.dest.items old.done) c.in_ok-switch.ensures.stage) tt

pub returns-clause-moments : goal.returns-clause-moments
returns-clause-moments g c =
    let old = c.args.c.now in
    let k = c.requires.keeps in
    let list = old.copy.items in
    let way = under g.D.Disk.state g.D.Disk.lawful g.C.Codec.octets old k (copying list old.done) (ap (λ s. rewrite_at s list old.done) c.requires.copying) in
    switches g.D.Disk.state g.D.Disk.lawful g.C.Codec.octets old.journal c.switch.new.self (member_in old.journal) old.facts.items list k.0 k.1 k.3
    (all_copied g.D.Disk.state g.D.Disk.lawful g.C.Codec.octets old.facts.items list old.done k.1 way c.requires.none_left) way.0 (c.switch.ensures.moments k.0 k.1 k.2)
