use Rattle.std.proofs.Common.{◌≡◌, [], List, Result, Ok, sym, ap, ◌∙◌}
use Rattle.std.specs.Prelude.{is_ok}
use Rattle.std.specs.Result.{result_unwrap_or}
use Rattle.std.proofs.lemmas.Slice.Eq.{bytes_eq-Decides}
use Rattle.ts_der.specs.declared.fault.Fault.{Fault}
use Rattle.ts_der.specs.View.{now}
use Rattle.ts_name.specs.Canon.{Attr}
use Rattle.ts_name.specs.Names.{name_of}
use Rattle.ts_name.proofs.SameOctets.{again}
use Rattle.ts_name.proofs.name.Name.read_beside.Goals as goal

pub invariant_of-result : goal.invariant_of-result
invariant_of-result c =
    let name = c.args.self.element in
    let same = (bytes_eq-Decides name.content.now c.args.element.content.now).0 (sym c.eq.ensures ∙ c.if-eq.true) in
    record { form = ap is_ok (again (now name) (now c.args.element) name.octets c.args.self.form same) }

pub returns-then-eq : goal.returns-then-eq
unfolding name_of
returns-then-eq c =
    let name = c.args.self.element in
    let same = (bytes_eq-Decides name.content.now c.args.element.content.now).0 (sym c.eq.ensures ∙ c.if-eq.true) in
    let read = again (now name) (now c.args.element) name.octets c.args.self.form same in
    record { exact = read ∙ ap (λ (r : Result (List (List Attr)) Fault). Ok (result_unwrap_or r [])) (sym read) }
