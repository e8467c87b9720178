use Rattle.std.proofs.Common.{◌≡◌, take, map, bit_xor, length}
use Rattle.ts_hmac.proofs.key.xor_with.Given as goal

abbrev pub invariant-loop-i : goal.invariant-loop-i
invariant-loop-i l = record {
  so : take l.i l.out
      ≡ map (λ octet. bit_xor octet l.pad) (take l.i l.block);
  long : length l.out ≡ 64;
}
