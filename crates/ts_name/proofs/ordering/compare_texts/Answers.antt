use Rattle.std.proofs.Common.{◌≡◌, ℕ, refl, ap, ◌∙◌}
use Rattle.std.specs.Ordering.{nat_cmp}
use Rattle.std.proofs.lemmas.Iterator.Consumers.{YieldsList-from_first}
use Rattle.std.proofs.lemmas.Iterator.Search.{cmp_from_yields_List}
use Rattle.ts_name.specs.Canon.{canonical_text}
use Rattle.ts_name.specs.inside.Folding.{octets_left}
use Rattle.ts_name.proofs.ordering.compare_texts.Goals as goal

pub returns : goal.returns
returns c =
    cmp_from_yields_List (λ x y. y ≡ x) _ nat_cmp _ c.cmp.ensures.ran (YieldsList-from_first (λ (x : ℕ). x) octets_left (canonical_text c.args.a.now) c.new.ensures)
    (λ it e. YieldsList-from_first (λ (x : ℕ). x) octets_left (canonical_text c.args.b.now) (ap octets_left e ∙ c.new-2.ensures)) (λ x y. refl)
