use Rattle.std.proofs.Common.{refl}
use Rattle.ts_time.proofs.TextLemmas.{IsUtc-text, IsUtc-in_years}
use Rattle.ts_time.proofs.utc.print_utc.Goals as goal

pub returns-in_err-time-clause-only : goal.returns-in_err-time-clause-only
returns-in_err-time-clause-only c = λ text h.
    cc (c.in_err-time.ensures.none.1 (IsUtc-in_years text _ h))

pub returns-clause-only : goal.returns-clause-only
returns-clause-only c = λ text h.
    let time = c.in_ok-time.ensures.found in
    let same = IsUtc-text text _ _ h time.0 time.1 in
    rw (same, c.print_two.ensures, c.print_in_year.ensures) refl
