use Rattle.std.proofs.Common.{◌∷◌, ◌++◌, get_or, drop, ◌∙◌, ap, arith}
use Rattle.ts_journal.specs.Choice.{header_of_owner}
use Rattle.ts_journal.proofs.Choices.{split_at_gate, at_gate, shut_gate, not_header}
use Rattle.ts_journal.proofs.choice.look_at.Goals as goal

pub returns-then-octets-eq0 : goal.returns-then-octets-eq0
returns-then-octets-eq0 c = split_at_gate c.args.octets.now c.if-octets-lt25.false c.if-octets-eq0.true

pub returns-then-not-is_same : goal.returns-then-not-is_same
returns-then-not-is_same c =
    let image = c.args.octets.now in (
      c.if-octets-lt25.false,
      not_header image c.head_octets-header.result (header_of_owner c.owner_at-owner.result) c.owner_at-owner.ensures c.head_octets-header.ensures (c.is_same.ensures.different c.if-not-is_same.true),
      (λ shut. c.if-octets-eq0.false (shut_gate image shut)),
    )

pub returns : goal.returns
returns c =
    let image = c.args.octets.now in
    record {
      right = record { node_from = c.if-owner-lt1.false; node_to = c.if-owner.false; nodes_to = c.if-owner-gt9.false; group_to = grind arith; generation_to = grind arith };
      live = get_or image 24 0;
      wide = c.if-octets-eq0.false;
      rest = drop 25 image;
      is = at_gate image c.if-octets-lt25.false ∙ ap (λ l. l ++ (get_or image 24 0 ∷ drop 25 image)) (c.is_same.ensures.equal c.if-not-is_same.false ∙ c.head_octets-header.ensures);
    }
