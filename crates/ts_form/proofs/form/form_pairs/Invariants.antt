-- The pairs so far, and those that are left.
use Rattle.std.proofs.Common.{◌≡◌, ◌≤◌, ◌++◌, length, map}
use Rattle.form_urlencoded.specs.Form.{raw_pairs}
use Rattle.ts_form.specs.Pairs.{decode_pair, pair_in}
use Rattle.ts_form.proofs.form.form_pairs.Given as goal

abbrev pub invariant-loop-name : goal.invariant-loop-name
invariant-loop-name l = (map pair_in l.pairs.items ++ map decode_pair (raw_pairs l.name-iterator.input.now) ≡ map decode_pair (raw_pairs l.octets))
    × (length l.pairs.items ≤ 256)
