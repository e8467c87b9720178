use Rattle.std.proofs.Common.{◌≡◌, ◌++◌, take}
use Rattle.ts_make.specs.Items.{items_of}
use Rattle.ts_make.proofs.items.append_items.Given as goal

-- what stands is what the parts so far put there
abbrev pub invariant-loop-part : goal.invariant-loop-part
invariant-loop-part l = l.octets.items ≡ l.initial.octets.items ++ items_of l.fn.list (take l.part-index l.fn.parts)
