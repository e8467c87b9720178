-- A piece was read, and stands behind the body.
use Rattle.std.proofs.Common.{OnOk, inl, refl, rules}
use Rattle.std.proofs.lemmas.Result.{on_ok_weaker}
use Rattle.ts_http.specs.Moves.{HasAdded}
use Rattle.ts_http.specs.declared.connection.Stage.TheVariants.{Body}
use Rattle.ts_http.proofs.Behind.{told}
use Rattle.ts_http.proofs.connection.Connection.read_body.Goals as goal

pub returns-in-Came-clause-read : goal.returns-in-Came-clause-read
returns-in-Came-clause-read c =
    on_ok_weaker c.take_piece.result
    (λ takes. inl (
      c.deref.result.now,
      c.look_for_body.new.server,
      c.in-Came.count,
      search rules,
      record (c.args.self.now) { server = c.look_for_body.new.server; input = c.skip.new.self },
      record { server_is = refl; input_is = c.skip.ensures; out_is = refl },
      takes,
    ))
    c.take_piece.ensures.read

pub returns-in-Came-clause-told : goal.returns-in-Came-clause-told
returns-in-Came-clause-told c =
    let added : OnOk c.take_piece.result (HasAdded c.args.request c.args.self.now c.take_piece.new.self) =
    on_ok_weaker c.take_piece.result
    (λ takes. (
      c.deref.result.now,
      c.look_for_body.new.server,
      c.in-Came.count,
      search rules,
      record (c.args.self.now) { server = c.look_for_body.new.server; input = c.skip.new.self },
      record { server_is = refl; input_is = c.skip.ensures; out_is = refl },
      takes,
    ))
    c.take_piece.ensures.read in
    told c.take_piece.result (Body c.args.request) c.args.self.now c.take_piece.new.self added c.take_piece.ensures.told
