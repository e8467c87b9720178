-- A head was read, and its body begins.
use Rattle.std.proofs.Common.{OnOk, inl, refl, rules}
use Rattle.std.proofs.lemmas.Result.{on_ok_weaker}
use Rattle.ts_http.specs.Moves.{HasBegun}
use Rattle.ts_http.specs.declared.connection.Stage.TheVariants.{Head}
use Rattle.ts_http.proofs.Behind.{told}
use Rattle.ts_http.proofs.connection.Connection.read_head.Goals as goal

pub returns-in-Came-clause-read : goal.returns-in-Came-clause-read
returns-in-Came-clause-read c =
    on_ok_weaker c.take_head.result
    (λ begins. inl (
      c.in-Came.request,
      c.look_for_head.new.server,
      c.in-Came.count,
      search rules,
      record (c.args.self.now) { server = c.look_for_head.new.server; input = c.skip.new.self },
      record { server_is = refl; input_is = c.skip.ensures; out_is = refl },
      begins,
    ))
    c.take_head.ensures.read

pub returns-in-Came-clause-told : goal.returns-in-Came-clause-told
returns-in-Came-clause-told c =
    let begun : OnOk c.take_head.result (HasBegun c.args.self.now c.take_head.new.self) =
    on_ok_weaker c.take_head.result
    (λ begins. (
      c.in-Came.request,
      c.look_for_head.new.server,
      c.in-Came.count,
      search rules,
      record (c.args.self.now) { server = c.look_for_head.new.server; input = c.skip.new.self },
      record { server_is = refl; input_is = c.skip.ensures; out_is = refl },
      begins,
    ))
    c.take_head.ensures.read in
    told c.take_head.result Head c.args.self.now c.take_head.new.self begun c.take_head.ensures.told
