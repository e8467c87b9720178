use Rattle.std.proofs.Common.{refl}
use Rattle.ts_time.proofs.TextLemmas.{IsGeneral-text, IsGeneral-in_years}
use Rattle.ts_time.proofs.general.print_general.Goals as goal

pub returns-in_err-time-clause-only : goal.returns-in_err-time-clause-only
returns-in_err-time-clause-only c = λ text h.
    cc (c.in_err-time.ensures.none.1 (IsGeneral-in_years text _ h))

pub returns-clause-only : goal.returns-clause-only
returns-clause-only c = λ text h.
    let time = c.in_ok-time.ensures.found in
    let same = IsGeneral-text text _ _ h time.0 time.1 in
    rw (same, c.print_two.ensures, c.print_two-2.ensures, c.print_in_year.ensures) refl
