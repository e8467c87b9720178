-- A text that is refused names no moment.
use Rattle.std.proofs.Common.{◌≡◌, rules, subst, sym, ℕ, List}
use Rattle.ts_time.specs.Text.{IsGeneral}
use Rattle.ts_form.proofs.values.moment_of.Goals as goal

pub returns-in-Err : goal.returns-in-Err
returns-in-Err c = λ m is.
    let same : c.as_bytes.result.now ≡ c.args.text.now = search rules in
    c.in-Err.ensures.fault.1 m (subst (λ (t : List ℕ). IsGeneral t m) (sym same) is)
