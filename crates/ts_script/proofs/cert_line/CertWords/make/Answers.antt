-- The words are answered as what is made of them.
use Rattle.std.proofs.Common.{◌∙◌, sym}
use Rattle.std.proofs.lemmas.Result.{err_from_is_err_and}
use Rattle.ts_script.specs.Known.{known_in, thing_in, thing_named}
use Rattle.ts_script.specs.Objects.{a_certificate}
use Rattle.ts_script.proofs.Answering.{found_some, found_none}
use Rattle.ts_script.proofs.Objects.{words_answered}
use Rattle.ts_script.proofs.cert_line.CertWords.make.Goals as goal

pub returns-in_err-made : goal.returns-in_err-made
returns-in_err-made c =
    let p = err_from_is_err_and c.from_residual.result c.from_residual.ensures.1 in
    rw (p.1, p.2) (c.in_err-made.ensures.fault (known_in c.args.known.now))

pub returns : goal.returns
returns c =
    let known = known_in c.args.known.now in
    let named = thing_named known c.args.self.now.name.now in
    let made = c.in_ok-made.ensures.made in
    let taken = sym c.is_some-is_taken.ensures in
    rw c.unless_taken.ensures (words_answered a_certificate known c.args.self.now made.0 c.in_ok-made.made c.is_some-is_taken.result made.1 made.2
    (λ is. found_some (λ one. thing_in one.now) c.find.result named (taken ∙ is) c.find.ensures)
    (λ is. found_none (λ one. thing_in one.now) c.find.result named (taken ∙ is) c.find.ensures))
