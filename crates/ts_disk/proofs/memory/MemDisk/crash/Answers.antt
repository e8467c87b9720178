use Rattle.std.proofs.Common.{rules, ◌≡◌, IfOk, refl, sym, ◌∙◌, ap}
use Rattle.std.proofs.lemmas.Result.{IfOk-weaker}
use Rattle.ts_disk.specs.declared.crash.Torn.TheVariants.{New}
use Rattle.ts_disk.specs.Past.{start, history}
use Rattle.ts_disk.specs.Memory.{left_by}
use Rattle.ts_disk.proofs.Crashes.{is_left, all_left}
use Rattle.ts_disk.proofs.memory.MemDisk.crash.Goals as goal

pub returns-clause-left : goal.returns-clause-left
returns-clause-left c =
    let m = c.args.self.now in
    let left : (history m.first.items m.calls.items).may_leave (left_by c.args.torn m) = is_left c.args.torn (start m.first.items) m.first.items m.calls.items refl in
    let image : IfOk c.new.result (λ disk. left_by c.args.torn m ≡ disk.octets.items) = search rules in
    search rules

pub returns-clause-new : goal.returns-clause-new
returns-clause-new c = λ is.
    let m = c.args.self.now in
    let all : left_by New m ≡ m.octets.items = all_left (start m.first.items) m.calls.items ∙ sym m.replayed in
    let torn : left_by c.args.torn m ≡ left_by New m = ap (λ t. left_by t m) is in
    let image : IfOk c.new.result (λ disk. disk.octets.items ≡ left_by c.args.torn m) = search rules in
    IfOk-weaker c.new.result (λ disk. disk.octets.items ≡ left_by c.args.torn m) (λ disk. disk.octets.items ≡ m.octets.items) (λ disk e. e ∙ torn ∙ all) image
