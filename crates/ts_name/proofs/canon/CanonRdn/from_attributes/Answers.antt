use Rattle.std.proofs.Common.{refl}
use Rattle.std.specs.Cmp.Lexicographic.{slice_cmp}
use Rattle.std.specs.Ordering.{nat_cmp, ordering_then}
use Rattle.ts_name.specs.declared.canon.CanonAttribute.{CanonAttribute}
use Rattle.ts_name.specs.Canon.{compare_attrs}
use Rattle.ts_name.specs.CanonView.{attr_in}
use Rattle.ts_name.proofs.CanonOrder.{sorted-form}
use Rattle.ts_name.proofs.canon.CanonRdn.from_attributes.Goals as goal

pub returns : goal.returns
unfolding compare_attrs
returns c =
    sorted-form attr_in
    (λ (x y : CanonAttribute). ordering_then (slice_cmp nat_cmp x.kind.items y.kind.items) (ordering_then (nat_cmp x.tag y.tag) (slice_cmp nat_cmp x.value.items y.value.items)))
    (λ x y. refl) c.args.attributes.items _ c.sort_unstable.ensures.permutation c.sort_unstable.ensures.sorted
