use Rattle.ts_make.proofs.CrlAnswered.{answers-signed, answers-years}
use Rattle.ts_make.proofs.CrlRules.{answers-made, answers-described, answers-refused}
use Rattle.ts_make.proofs.list.make_crl.Goals as goal

pub returns-clause-made : goal.returns-clause-made
returns-clause-made c = (
  _,
  _,
  c.of.ensures,
  c.of-2.ensures,
  answers-made c.write_whole_crl.result _ _ c.args.text.now
      c.write_whole_crl.ensures.sayable c.of.ensures c.of-2.ensures c.write_whole_crl.ensures.exact,
)

pub returns-clause-described : goal.returns-clause-described
returns-clause-described c = answers-described c.write_whole_crl.result _ _ c.args.text.now c.write_whole_crl.ensures.sayable c.of.ensures c.of-2.ensures c.write_whole_crl.ensures.exact

pub returns-clause-signed : goal.returns-clause-signed
returns-clause-signed c = answers-signed c.write_whole_crl.result _ _ c.args.text.now c.write_whole_crl.ensures.sayable c.of.ensures c.of-2.ensures c.write_whole_crl.ensures.exact

pub returns-clause-years : goal.returns-clause-years
returns-clause-years c = answers-years c.write_whole_crl.result _ _ c.args.text.now c.write_whole_crl.ensures.sayable c.of.ensures c.of-2.ensures c.write_whole_crl.ensures.exact

pub returns-clause-refused : goal.returns-clause-refused
returns-clause-refused c = answers-refused c.write_whole_crl.result _ _ c.args.text.now c.write_whole_crl.ensures.sayable c.of.ensures c.of-2.ensures c.write_whole_crl.ensures.exact
