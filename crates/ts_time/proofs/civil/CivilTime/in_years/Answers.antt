use Rattle.std.proofs.Common.{refl, arith}
use Rattle.ts_time.proofs.CivilLemmas.{IsInYears-wider, moment_in_years, year_in_years}
use Rattle.ts_time.proofs.civil.CivilTime.in_years.Goals as goal
use Rattle.ts_time.proofs.civil.CivilTime.in_years.Goals.{then-time-first-via-then-time-first, then-time-first-via-else-time-first+then-time-last}

pub returns-in_err-time-clause-none : goal.returns-in_err-time-clause-none
returns-in_err-time-clause-none c =
    rw c.from_residual.ensures (λ some. cc, λ within. cc (c.in_err-time.ensures.none.1 (IsInYears-wider _ _ _ c.requires within)))

pub returns-then-time-first-clause-none : goal.returns-then-time-first-clause-none
returns-then-time-first-clause-none c =
    let time = c.in_ok-time.ensures.found in (
      λ some. cc,
      λ within.
          let year = year_in_years _ _ _ time.0 (rw (← time.1) at within) in
          absurd (elim c.then-time-first.branch [
            | then-time-first-via-then-time-first w ↦ omega (arith, year)
            | then-time-first-via-else-time-first+then-time-last w ↦ omega (arith, year)
          ]),
    )

pub returns-clause-none : goal.returns-clause-none
returns-clause-none c =
    let time = c.in_ok-time.ensures.found in
    (λ some. rw (← time.1) (moment_in_years _ _ _ time.0 (omega arith) (omega arith)), λ within. refl)
