use Rattle.std.proofs.Common.{◌<◌, ℕ, List, length, arith, subst}
use Rattle.std.proofs.lemmas.Grind.{common_steps}
use Rattle.std.proofs.lemmas.Result.{err_from_is_err_and}
use Rattle.ts_make.specs.KeyUsage.{usage_numbers}
use Rattle.ts_make.proofs.TooLong.{longer}
use Rattle.ts_make.proofs.BitFlags.{usage-value, usage-within}
use Rattle.ts_make.proofs.key_usage.append_key_usage.Goals as goal

pub returns-in_err-content : goal.returns-in_err-content
returns-in_err-content c =
    let p = err_from_is_err_and c.from_residual-in_err-content.result c.from_residual-in_err-content.ensures.1 in
    let some : 0 < length c.in_ok-numbers.numbers.items = grind (arith, common_steps) in
    let within = usage-within c.args.octets.now.items (usage_numbers c.args.parts.now) (subst (λ (n : List ℕ). 0 < length n) c.in_ok-numbers.ensures some) in
    let h = rw (c.deref.ensures.value, c.in_ok-numbers.ensures) at c.in_err-content.ensures in
    rw (p.1, p.2) (longer c.in_err-content.field-0.0 _ _ h within)

pub returns-in_err-value : goal.returns-in_err-value
returns-in_err-value c =
    let p = err_from_is_err_and c.from_residual-in_err-value.result c.from_residual-in_err-value.ensures.1 in
    let some : 0 < length c.in_ok-numbers.numbers.items = grind (arith, common_steps) in
    let within = usage-value c.args.octets.now.items (usage_numbers c.args.parts.now) (subst (λ (n : List ℕ). 0 < length n) c.in_ok-numbers.ensures some) in
    let h = rw (c.deref-2.ensures.value, c.in_ok-content.ensures, c.deref.ensures.value, c.in_ok-numbers.ensures) at c.in_err-value.ensures in
    rw (p.1, p.2) (longer c.in_err-value.field-0.0 _ _ h within)
