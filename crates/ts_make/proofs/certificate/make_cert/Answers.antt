use Rattle.ts_make.proofs.Answered.{answers-described, answers-signed, answers-years, answers-refused}
use Rattle.ts_make.proofs.certificate.make_cert.Goals as goal

pub returns-clause-described : goal.returns-clause-described
returns-clause-described c = answers-described c.write_readable.result _ _ c.args.text.now c.write_readable.ensures.sayable c.of.ensures c.of-2.ensures c.write_readable.ensures.exact

pub returns-clause-signed : goal.returns-clause-signed
returns-clause-signed c = answers-signed c.write_readable.result _ _ c.args.text.now c.write_readable.ensures.sayable c.of.ensures c.of-2.ensures c.write_readable.ensures.exact

pub returns-clause-years : goal.returns-clause-years
returns-clause-years c = answers-years c.write_readable.result _ _ c.args.text.now c.write_readable.ensures.sayable c.of.ensures c.of-2.ensures c.write_readable.ensures.exact

pub returns-clause-refused : goal.returns-clause-refused
returns-clause-refused c = answers-refused c.write_readable.result _ _ c.args.text.now c.write_readable.ensures.sayable c.of.ensures c.of-2.ensures c.write_readable.ensures.exact
