use Rattle.std.proofs.Common.{true}
use Rattle.std.proofs.lemmas.Result.{err_from_is_err_and}
use Rattle.ts_make.specs.declared.kind.Kind.TheVariants as kind
use Rattle.ts_make.specs.Extensions.{extension_octets, constraints_content, policy_constraints_content, part_extensions}
use Rattle.ts_make.proofs.Pieces.{nested}
use Rattle.ts_make.proofs.TooLong.{longer, sequence-within}
use Rattle.ts_make.proofs.extensions.append_kind.Goals as goal

pub returns-in_err-content-in-NameConstraints : goal.returns-in_err-content-in-NameConstraints
returns-in_err-content-in-NameConstraints c =
    let p = err_from_is_err_and c.from_residual.result c.from_residual.ensures.1 in
    let within = sequence-within c.args.octets.now.items 30 true (constraints_content c.args.parts.now) in
    rw (p.1, p.2, c.in-NameConstraints.is) (longer c.in_err-content-in-NameConstraints.field-0.0 _ _ c.in_err-content-in-NameConstraints.ensures within)

pub returns-in_err-content-in-PolicyConstraints : goal.returns-in_err-content-in-PolicyConstraints
returns-in_err-content-in-PolicyConstraints c =
    let p = err_from_is_err_and c.from_residual-in_err-content-in-PolicyConstraints.result c.from_residual-in_err-content-in-PolicyConstraints.ensures.1 in
    let within = sequence-within c.args.octets.now.items 36 true (policy_constraints_content c.args.parts.now) in
    rw (p.1, p.2, c.in-PolicyConstraints.is) (longer c.in_err-content-in-PolicyConstraints.field-0.0 _ _ c.in_err-content-in-PolicyConstraints.ensures within)

pub returns-in-BasicConstraints : goal.returns-in-BasicConstraints
returns-in-BasicConstraints c =
    let h = rw c.in-BasicConstraints.is at c.append_each.ensures in
    rw (c.in-BasicConstraints.is, nested extension_octets (part_extensions kind.BasicConstraints) c.args.parts.now) h

pub returns-in-InhibitAnyPolicy : goal.returns-in-InhibitAnyPolicy
returns-in-InhibitAnyPolicy c =
    let h = rw c.in-InhibitAnyPolicy.is at c.append_each-in-InhibitAnyPolicy.ensures in
    rw (c.in-InhibitAnyPolicy.is, nested extension_octets (part_extensions kind.InhibitAnyPolicy) c.args.parts.now) h

pub returns-in-Critical : goal.returns-in-Critical
returns-in-Critical c =
    let h = rw c.in-Critical.is at c.append_each-in-Critical.ensures in
    rw (c.in-Critical.is, nested extension_octets (part_extensions kind.Critical) c.args.parts.now) h
