use Rattle.std.proofs.Common.{◌≡◌, List, [], ◌∷◌, ◌++◌, Some, sym, ap, subst, ◌∙◌, append-nil}
use Rattle.ts_name.specs.Canon.{Attr}
use Rattle.ts_name.specs.General.{GeneralName}
use Rattle.ts_name.specs.NameView.{attributes_in, rdns_in}
use Rattle.ts_constraint.specs.Conditions.{NameFails, EachNameMeets, FirstNameFails}
use Rattle.ts_constraint.specs.Names.{addresses_of}
use Rattle.ts_constraint.proofs.Lists.{first-after, first-before, none-append}
use Rattle.ts_constraint.proofs.Shown.{joined, goes, addresses-at}
use Rattle.ts_constraint.proofs.bounds.Bounds.first_of_addresses.Goals as goal

pub returns-in-Some-first_of_rdn : goal.returns-in-Some-first_of_rdn
returns-in-Some-first_of_rdn c =
    let i = c.loop-rdn.invariant in
    let r = attributes_in c.in-Some.rdn in
    let rest = c.next.new.self in
    let form = c.in-Some-first_of_rdn.form in
    let all = i.3 ∙ ap (λ (xs : List (List Attr)). i.2 ++ xs) c.in-Some.ensures.steps in
    let names : addresses_of (joined (rdns_in c.args.subject)) ≡ addresses_of (joined i.2) ++ (addresses_of r ++ addresses_of (joined rest)) =
    ap (λ (xs : List (List Attr)). addresses_of (joined xs)) all ∙ addresses-at i.2 rest r in
    subst (λ (xs : List GeneralName). FirstNameFails c.args.condition c.args.self.now xs form) (sym names)
    (first-after c.args.condition c.args.self.now (addresses_of (joined i.2)) (addresses_of r ++ addresses_of (joined rest)) (Some form) i.4
    (first-before c.args.condition c.args.self.now (addresses_of r) (addresses_of (joined rest)) form c.in-Some-first_of_rdn.ensures))

pub loop-rdn-preserved : goal.loop-rdn-preserved
loop-rdn-preserved c =
    let i = c.loop-rdn.invariant in
    let r = attributes_in c.in-Some.rdn in
    let all = i.3 ∙ ap (λ (xs : List (List Attr)). i.2 ++ xs) c.in-Some.ensures.steps in
    let names : addresses_of (joined (i.2 ++ r ∷ [])) ≡ addresses_of (joined i.2) ++ addresses_of r =
    addresses-at i.2 [] r ∙ ap (λ (xs : List GeneralName). addresses_of (joined i.2) ++ xs) (append-nil (addresses_of r)) in (
      tt,
      tt,
      i.2 ++ r ∷ [],
      goes (rdns_in c.args.subject) i.2 _ r all,
      subst (λ (xs : List GeneralName). EachNameMeets c.args.condition c.args.self.now xs) (sym names)
          (none-append (NameFails c.args.condition c.args.self.now) (addresses_of (joined i.2)) (addresses_of r) i.4 c.in_default.ensures),
    )
