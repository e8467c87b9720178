use Rattle.std.proofs.Common.{◌∙◌, ◌++◌, sym, ap}
use Rattle.ts_name.specs.NameView.{rdns_in}
use Rattle.ts_name.specs.Sameness.{canon_name}
use Rattle.ts_name.proofs.NameLists.{ends-there}
use Rattle.ts_name.proofs.name.Name.same.Goals as goal

pub returns-in-Some : goal.returns-in-Some
returns-in-Some c =
    ends-there (rdns_in c.args.self) (rdns_in c.args.other) c.in-Some.rest c.next.new.self c.next.result c.is_none.result
    (ap canon_name (sym c.rdns.ensures) ∙ (c.in-Some.ensures ∙ ap (λ xs. canon_name xs ++ canon_name c.in-Some.rest) c.rdns-2.ensures))
    c.next.ensures.steps c.is_none.ensures
