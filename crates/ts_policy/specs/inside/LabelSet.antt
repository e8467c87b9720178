-- What a sorted set of labels keeps: its labels, strictly ascending.
use Rattle.std.specs.Prelude.{List, map}
use Rattle.std.specs.Ordering.{nat_cmp}
use Rattle.std.specs.Cmp.Lexicographic.{slice_cmp}
use Rattle.std.specs.List.Sorted.{IsStrictlySortedBy}
use Rattle.ts_policy.specs.declared.labels.Labels.TheInside.{Inside}
use Rattle.ts_policy.specs.Labels.{Label}

-- the labels
abbrev pub labels_in : Inside → List Label
labels_in a = map (λ x. x.content.now) a.sorted.items

-- each comes before the next
abbrev pub AreSorted : Inside → Type 0
AreSorted a = IsStrictlySortedBy
    (λ x y. slice_cmp nat_cmp x.content.now y.content.now) a.sorted.items
