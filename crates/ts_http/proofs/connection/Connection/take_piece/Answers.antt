-- The request with the longer body.
use Rattle.std.proofs.Common.{arith, inl, refl}
use Rattle.ts_http.proofs.connection.Connection.take_piece.Goals as goal

pub returns-clause-read : goal.returns-clause-read
returns-clause-read c =
    inl (
      record {
        method = c.args.request.method;
        target = c.args.request.target;
        fields = c.args.request.fields;
        body = c.extend_from_slice.new.self;
      },
      record { method_is = refl; target_is = refl; fields_are = refl; body_is = c.in_ok-extend_from_slice.ensures.items },
      record { server_is = refl; stage_is = refl; input_is = refl; out_is = refl },
      omega (arith, c.if-len-piece-gt-MAX_BODY.false),
    )
