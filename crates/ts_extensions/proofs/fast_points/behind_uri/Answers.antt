use Rattle.std.proofs.Common.{◌∙◌, ap, sym}
use Rattle.std.proofs.lemmas.List.{take_rest}
use Rattle.ts_der.specs.Text.{is_ascii}
use Rattle.ts_extensions.proofs.UriPoints.{UriPoint, uri-point}
use Rattle.ts_extensions.proofs.fast_points.behind_uri.Goals as goal

pub returns : goal.returns
returns c =
    let points = c.args.points.now in
    let behind = take_rest points 8 in
    let uri = rw behind at c.split_at.ensures.front in
    let front : UriPoint points = record {
      eight = c.in-len8-up.len_at_least;
      point = c.if-point-ne-SEQUENCE.false;
      outer = c.if-length-size.false;
      named = c.if-named.false;
      inner = c.if-inner-size.false;
      full = c.if-full.false;
      names = c.if-names-size.false;
      identifier = c.if-identifier.false;
      few = c.if-size-gt121.false;
      enough = rw behind at c.if-more-size.false;
      ascii = ap is_ascii (sym uri) ∙ (sym c.are_ascii.ensures ∙ c.if-not-are_ascii.false);
    } in
    rw (c.split_at.ensures.back, behind) (uri-point points front)
