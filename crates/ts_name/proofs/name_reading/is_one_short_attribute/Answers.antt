use Rattle.std.proofs.Common.{◌-◌, length, drop, arith}
use Rattle.std.proofs.lemmas.List.{length-drop, take_all}
use Rattle.ts_name.proofs.ShortNames.{Front, one-short}
use Rattle.ts_name.proofs.name_reading.is_one_short_attribute.Goals as goal

pub returns : goal.returns
returns c = λ e.
    let behind = length-drop 9 c.args.content.now in
    let whole = take_all (length c.args.content.now - 9) (drop 9 c.args.content.now) (omega (arith, behind)) in
    let front : Front c.args.content.now = record {
      nine = c.in-len9-up.len_at_least;
      sequence = c.if-sequence-ne-SEQUENCE.false;
      long = omega (arith, behind, c.if-length-count.false);
      identifier = c.if-identifier-ne-OBJECT_IDENTIFIER.false;
      three = c.if-three-ne3.false;
      first = c.if-a-ge128.false;
      second = c.if-b-ge128.false;
      third = c.if-c-ge128.false;
      octet = omega (arith, c.type_inv.content 7);
      low = c.if-tag-eq31.false;
      size = omega (arith, behind, c.if-size-count.false);
      short = omega (arith, behind, c.if-count-gt120.false);
    } in
    one-short c.args.content.now front (rw whole at (c.are_in_character_set.ensures e))
