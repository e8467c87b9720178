use Rattle.std.proofs.Common.{sym, ◌∙◌}
use Rattle.std.proofs.lemmas.Slice.Eq.{bytes_eq-Decides}
use Rattle.ts_der.specs.View.{now}
use Rattle.ts_name.proofs.SameOctets.{same_rdns}
use Rattle.ts_name.proofs.fast_names.have_one_encoding.Goals as goal

pub returns : goal.returns
returns c = λ is.
    let a = c.args.first.element in
    let b = c.args.second.element in
    same_rdns (now a) (now b) a.octets c.args.first.form
    ((bytes_eq-Decides a.content.now b.content.now).0 (sym c.eq.ensures ∙ is))
