use Rattle.std.proofs.Common.{sym, ◌∙◌, arith, inl, inr}
use Rattle.std.proofs.lemmas.Bool.{leb-true, le-leb, false≢true}
use Rattle.ts_time.specs.Text.{year_of_two}
use Rattle.ts_time.proofs.FastTimes.{utc-between, utc-told, twenty-eight, bound-at}
use Rattle.ts_time.proofs.fast.begins_with_utc.Goals as goal

pub number_of-hour-requires-clause-ones : goal.number_of-hour-requires-clause-ones
number_of-hour-requires-clause-ones c = bound-at c.args.octets.now 7 (sym c.lie_between.ensures ∙ c.if-not-lie_between.false) (omega arith)

pub returns-then-not-lie_between : goal.returns-then-not-lie_between
returns-then-not-lie_between c = (
  (λ h. absurd (false≢true h)),
  (λ h. sym (sym c.lie_between.ensures ∙ c.if-not-lie_between.true) ∙ (utc-told c.args.octets.now h.1.0 h.0 (λ i. omega (arith, c.type_inv.octets i)) h.1.1).between),
)

pub returns-then-month-lt1 : goal.returns-then-month-lt1
returns-then-month-lt1 c = (
  (λ h. absurd (false≢true h)),
  (λ h.
      let told = utc-told c.args.octets.now h.1.0 h.0 (λ i. omega (arith, c.type_inv.octets i)) h.1.1 in
      absurd (elim c.then-month-lt1.either [
        | inl w ↦ omega (arith, told.some, c.number_of-month.ensures, w)
        | inr w ↦ elim w [
          | inl x ↦ omega (arith, told.few, c.number_of-month.ensures, x.1)
          | inr x ↦ elim x [
            | inl y ↦ omega (arith, told.first_day, c.number_of-day.ensures, y)
            | inr y ↦ omega (arith, told.hours, c.number_of-hour.ensures, y)
          ]
        ]
      ])),
)

pub returns-then-day-le28 : goal.returns-then-day-le28
returns-then-day-le28 c = (
  (λ h. (
    c.if-octets-lt16.false,
    utc-between c.args.octets.now c.number_of-month.result c.number_of-day.result
        c.number_of-hour.result (sym c.lie_between.ensures ∙ c.if-not-lie_between.false)
        c.number_of-month.ensures c.number_of-day.ensures c.number_of-hour.ensures
        c.if-month-lt1.false c.if-month-gt12.false c.if-day-lt1.false
        (λ yy is. let days = twenty-eight (year_of_two yy) c.number_of-month.result in let few =
        c.if-day-le28.true in omega arith) c.if-hour-gt23.false,
  )),
  (λ h. le-leb c.number_of-day.result 28 c.if-day-le28.true),
)

pub returns-else-day-le28 : goal.returns-else-day-le28
returns-else-day-le28 c = (
  (λ h. (
    c.if-octets-lt16.false,
    utc-between c.args.octets.now c.number_of-month.result c.number_of-day.result
        c.number_of-hour.result (sym c.lie_between.ensures ∙ c.if-not-lie_between.false)
        c.number_of-month.ensures c.number_of-day.ensures c.number_of-hour.ensures
        c.if-month-lt1.false c.if-month-gt12.false c.if-day-lt1.false
        (λ yy is. rw (is ∙ sym c.number_of.ensures, ← c.days_of.ensures)
        (leb-true c.number_of-day.result c.days_of.result h)) c.if-hour-gt23.false,
  )),
  (λ h.
      let told = utc-told c.args.octets.now h.1.0 h.0 (λ i. omega (arith, c.type_inv.octets i)) h.1.1 in
      le-leb c.number_of-day.result c.days_of.result (rw (c.days_of.ensures, c.number_of.ensures, c.number_of-month.ensures, c.number_of-day.ensures) told.last_day)),
)
