use Rattle.std.proofs.Common.{ℕ, Some, Ok, Err, ap, sym, ◌∙◌}
use Rattle.std.specs.Prelude.{option_map}
use Rattle.ts_der.specs.View.{now}
use Rattle.ts_shape.specs.declared.fault.CertFault.{CertFault}
use Rattle.ts_shape.specs.Fault.{breaks}
use Rattle.ts_ext.specs.Known.{known_at}
use Rattle.ts_extensions.specs.ValueRules.{rule_place}
use Rattle.ts_extensions.proofs.ValueFaults.{value-checked}
use Rattle.ts_extensions.proofs.extension.Extension.first_fault.Goals as goal

pub returns-in_err-kind-in-Ok : goal.returns-in_err-kind-in-Ok
returns-in_err-kind-in-Ok c =
    let x = c.args.self in
    c.from_residual.ensures
    ∙ (ap (option_map (breaks (rule_place c.args.holder x.at))) (sym (c.in_err-kind-in-Ok.was))
    ∙ value-checked c.at.result (known_at c.args.holder x.id.content.now) (now x.value)
    (rule_place c.args.holder x.at) (Ok c.in-Ok.rule) c.at.ensures c.in-Ok.ensures)

pub returns-in_ok-kind-in-Ok : goal.returns-in_ok-kind-in-Ok
returns-in_ok-kind-in-Ok c =
    let x = c.args.self in
    ap (λ (at : ℕ). Some (breaks at c.in_ok-kind-in-Ok.kind)) c.place_of.ensures
    ∙ (ap (option_map (breaks (rule_place c.args.holder x.at))) (sym (c.in_ok-kind-in-Ok.was))
    ∙ value-checked c.at.result (known_at c.args.holder x.id.content.now) (now x.value)
    (rule_place c.args.holder x.at) (Ok c.in-Ok.rule) c.at.ensures c.in-Ok.ensures)

pub returns-in-Err : goal.returns-in-Err
returns-in-Err c =
    let x = c.args.self in
    ap (λ (f : CertFault). Some f) c.into.ensures
    ∙ value-checked c.at.result (known_at c.args.holder x.id.content.now) (now x.value)
    (rule_place c.args.holder x.at) (Err c.in-Err.fault) c.at.ensures c.in-Err.ensures
