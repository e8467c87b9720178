use Rattle.std.proofs.Common.{Result, ap, sym, ◌∙◌}
use Rattle.std.specs.Prelude.{List, option_map}
use Rattle.ts_der.specs.declared.fault.Fault.{Fault}
use Rattle.ts_der.specs.Answer.{refusal}
use Rattle.ts_der.specs.View.{now}
use Rattle.ts_crl.specs.Findings.{Findings}
use Rattle.ts_crl.specs.List.{LocatedEntry}
use Rattle.ts_crl.proofs.Borrowing.{entries-kept, entries-again}
use Rattle.ts_crl.proofs.kept.next_revoked_if_any.Goals as goal

pub invariant_of-result-clause-read : goal.invariant_of-result-clause-read
invariant_of-result-clause-read c =
    ap (λ (r : Result (List LocatedEntry) Fault). refusal r)
    (entries-kept c.args.first c.args.fields.now (option_map now c.in_ok-element.field-0)
    (now c.in-Some.element) c.optional.new.self c.in_ok-element.ensures.exact
    (ap (option_map now) c.in-Some.is) c.requires).0

pub invariant_of-result-clause-found : goal.invariant_of-result-clause-found
invariant_of-result-clause-found c =
    ap (λ (f : Findings). record f { old_version = c.args.first }) c.none.ensures
    ∙ sym (entries-kept c.args.first c.args.fields.now (option_map now c.in_ok-element.field-0)
    (now c.in-Some.element) c.optional.new.self c.in_ok-element.ensures.exact
    (ap (option_map now) c.in-Some.is) c.requires).1

pub returns-in-Some : goal.returns-in-Some
returns-in-Some c =
    entries-again c.args.first c.args.fields.now (option_map now c.in_ok-element.field-0)
    (now c.in-Some.element) c.optional.new.self c.in_ok-element.ensures.exact
    (ap (option_map now) c.in-Some.is) c.requires
