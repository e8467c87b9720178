use Rattle.std.proofs.Common.{ℕ, ◌*◌, ◌+◌, ◌-◌, ◌/◌, ◌%◌, List, ◌∷◌, length, arith, sym, ap, ◌∙◌}
use Rattle.std.specs.Prelude.{map}
use Rattle.std.specs.List.{range_with_len}
use Rattle.std.proofs.lemmas.List.FromFn.{length-map-range_with_len, map-range_with_len_more}
use Rattle.ts_make.specs.KeyUsage.{is_set, octet_from}
use Rattle.ts_make.proofs.BitFlags.{octet-is}
use Rattle.ts_make.proofs.key_usage.content.Goals as goal

pub octet-requires : goal.octet-requires
octet-requires c =
    let count = ap length (c.deref.ensures.value ∙ c.in_ok-flags.ensures) ∙ length-map-range_with_len (is_set c.args.numbers.now) 0 (8 * (c.args.last / 8 + 1)) in
    omega (arith, count)

pub loop-i-preserved : goal.loop-i-preserved
loop-i-preserved c =
    let flags = c.deref.ensures.value ∙ c.in_ok-flags.ensures in
    let octet = c.octet.ensures ∙ octet-is c.args.numbers.now c.deref.result.now (c.args.last / 8 + 1) c.loop-i.i flags c.loop-i-test.true in
    let more = map-range_with_len_more (λ i. octet_from c.args.numbers.now (8 * i)) 0 c.loop-i.i c.loop-i.i (omega arith) in
    let front = map (λ i. octet_from c.args.numbers.now (8 * i)) (range_with_len 0 c.loop-i.i) in
    c.in_ok-push-2.ensures.items ∙ (rw (c.loop-i.invariant, octet) (ap (λ (o : List ℕ). (7 - c.args.last % 8) ∷ o) (sym more)))
