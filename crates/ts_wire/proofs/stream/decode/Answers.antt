use Rattle.std.proofs.Common.{◌++◌, ap, sym, ◌∙◌}
use Rattle.std.specs.List.{flat_map}
use Rattle.ts_wire.specs.Stream.{Splits}
use Rattle.ts_wire.proofs.Draining.{one_piece, stops, all_pieces, rest_of}
use Rattle.ts_wire.proofs.Streams.{one_reading}
use Rattle.ts_wire.proofs.stream.decode.Goals as goal

pub returns-then-is_some-clause-splits : goal.returns-then-is_some-clause-splits
returns-then-is_some-clause-splits c =
    rest_of c.args.pieces.now c.loop-piece.piece-index c.piece-item.result c.loop-piece-test.true c.piece-item.is _ _
    (stops _ _ _ _ _ (one_piece _ _ _ _ _ _ _ _ c.loop-piece.invariant
    (c.in_ok-push.ensures.pushed ∙ ap (λ l. c.loop-piece.feed ++ l) c.as_slice.ensures.value)
    c.in_ok-fault.ensures) (sym c.is_some.ensures ∙ c.if-is_some.true))

pub returns-then-is_some-clause-only : goal.returns-then-is_some-clause-only
returns-then-is_some-clause-only c =
    let s : Splits (flat_map (λ piece. piece.items) c.args.pieces.now) c.drain.new.frames.items c.in_ok-fault.fault =
    rest_of c.args.pieces.now c.loop-piece.piece-index c.piece-item.result c.loop-piece-test.true c.piece-item.is _ _
    (stops _ _ _ _ _ (one_piece _ _ _ _ _ _ _ _ c.loop-piece.invariant
    (c.in_ok-push.ensures.pushed ∙ ap (λ l. c.loop-piece.feed ++ l) c.as_slice.ensures.value)
    c.in_ok-fault.ensures) (sym c.is_some.ensures ∙ c.if-is_some.true)) in
    λ others other t. (let r = one_reading _ _ _ _ _ s t in (r.same_frames, r.same_fault))

pub returns-clause-only : goal.returns-clause-only
returns-clause-only c =
    let s = all_pieces c.args.pieces.now c.loop-piece.piece-index c.loop-piece.frames.items c.loop-piece.feed c.loop-piece-test.false c.loop-piece.invariant in
    λ others other t. (let r = one_reading _ _ _ _ _ s t in (r.same_frames, r.same_fault))
