use Rattle.std.proofs.Common.{◌∙◌}
use Rattle.ts_store.specs.Store.{StoreState}
use Rattle.ts_store.specs.declared.ids.FirstCommand.{FirstCommand}
use Rattle.ts_command.specs.declared.outcome.Outcome.TheVariants.{Applied, Refused}
use Rattle.ts_store.proofs.Changing.{undone, has-room, settled, applied, refused}
use Rattle.ts_store.proofs.store.Store.apply.Goals as goal

pub returns-in-Err-clause-memory : goal.returns-in-Err-clause-memory
returns-in-Err-clause-memory c =
    let first : FirstCommand = record { position = c.args.position; outcome = Applied } in
    let ids = undone c.id-id.result first c.self.inside.ids c.hold.new.self c.forget.new.self c.in_default.ensures c.in_ok-hold.ensures.held c.forget.ensures in
    (λ i. record { tables = c.in-Err.ensures.memory i; ids = ids i; taken = c.self.inside.taken }) ∙ c.self.view_is

pub settle-requires : goal.settle-requires
settle-requires c = has-room c.id-id.result (record { position = c.args.position; outcome = Applied }) c.self.inside.ids c.hold.new.self c.in_ok-hold.ensures.held

pub returns-in-None-clause-done : goal.returns-in-None-clause-done
returns-in-None-clause-done c =
    let state : StoreState = record { tables = c.self.inside.tables; ids = c.self.inside.ids; taken = c.self.inside.taken } in
    applied c.args.position c.args.command.now state c.args.self.now c.in-Ok.refusal c.change.new.self c.id-id.result c.hold.new.self c.self.view_is c.requires c.id-id.ensures c.in_default.ensures
    c.in-None.is c.in-Ok.ensures.done c.in_ok-hold.ensures.held

pub returns-in-Some-refusal-clause-done : goal.returns-in-Some-refusal-clause-done
returns-in-Some-refusal-clause-done c =
    let state : StoreState = record { tables = c.self.inside.tables; ids = c.self.inside.ids; taken = c.self.inside.taken } in
    let first : FirstCommand = record { position = c.args.position; outcome = Applied } in
    let second : FirstCommand = record { position = c.args.position; outcome = Refused c.in-Some-refusal.refusal } in
    refused c.args.position c.args.command.now state c.args.self.now c.in-Ok.refusal
    c.in-Some-refusal.refusal c.change.new.self c.id-id.result c.settle.new.self c.self.view_is
    c.requires c.id-id.ensures c.in_default.ensures
    c.in-Some-refusal.is c.in-Ok.ensures.done
    (settled c.id-id.result first second c.self.inside.ids c.hold.new.self c.settle.new.self c.in_default.ensures c.in_ok-hold.ensures.held c.settle.ensures)
