use Rattle.std.proofs.Common.{get_or, drop}
use Rattle.std.proofs.lemmas.List.{take_rest}
use Rattle.ts_der.proofs.Lanes.{ascii-drop}
use Rattle.ts_name.proofs.ShortNames.{ShortSet, short-set}
use Rattle.ts_name.proofs.fast_names.behind_short_rdn.Goals as goal

pub returns-clause-stands : goal.returns-clause-stands
returns-clause-stands c =
    let octets = c.args.octets.now in
    let behind = take_rest octets 11 in
    let set : ShortSet octets = record {
      eleven = c.in-len11-up.len_at_least;
      set = c.if-set-ne-SET.false;
      outer = c.if-length-size.false;
      sequence = c.if-sequence-ne-SEQUENCE.false;
      inner = c.if-inner-size.false;
      identifier = c.if-identifier-ne-OBJECT_IDENTIFIER.false;
      three = c.if-three-ne3.false;
      low = c.if-tag-eq31.false;
      enough = rw behind at c.if-more-size.false;
      ascii = c.requires;
    } in
    let x = short-set octets set in
    rw (c.split_at.ensures.back, behind) x

pub returns-clause-ascii : goal.returns-clause-ascii
returns-clause-ascii c = rw (c.split_at.ensures.back, take_rest c.args.octets.now 11)
    (ascii-drop (drop 11 c.args.octets.now) (get_or c.args.octets.now 10 0)
    (ascii-drop c.args.octets.now 11 c.requires))
