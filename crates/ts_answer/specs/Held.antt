-- What a store under a node holds: the check of signatures, and the commands that it took.
use Rattle.std.specs.Prelude.{List}
use Rattle.ts_command.specs.declared.command.Command.{Command}

pub record TrustStore (S : Type 0) : Type 0 where
  pub check : S
  pub commands : List Command
