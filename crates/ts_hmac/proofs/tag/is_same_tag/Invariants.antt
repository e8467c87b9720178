use Rattle.std.proofs.Common.{◌≡◌, take, true}
use Rattle.ts_hmac.proofs.tag.is_same_tag.Given as goal

abbrev pub invariant-loop-i : goal.invariant-loop-i
invariant-loop-i l = record {
  same : l.same ≡ true → take l.i l.a
      ≡ take l.i l.b;
  differ : take l.i l.a ≡ take l.i l.b → l.same ≡ true;
}
