-- as many messages were looked at as there were rounds, and the turn has come to what it is
use Rattle.std.proofs.Common.{◌≡◌, ◌++◌, List}
use Rattle.ts_synod.specs.declared.message.Fact.{Fact}
use Rattle.ts_synod.specs.declared.message.Message.{Message}
use Rattle.ts_synod.specs.Config.{Config}
use Rattle.ts_synod.specs.Node as world
use Rattle.ts_log.specs.Log.{learned_of}
use Rattle.ts_node.specs.Growing.{IsPart}
use Rattle.ts_node.specs.Machine.{store_of}
use Rattle.ts_node.specs.Roles.{StandFor, config_of}
use Rattle.ts_node.specs.inside.Staged.{IsHeld, IsSoFar}
use Rattle.ts_node.proofs.roles.Roles.take_own.Given as goal

abbrev pub invariant-loop-look : goal.invariant-loop-look
invariant-loop-look g l = record {
  looked : l.turn.looked ≡ l._look;
  so_far : (config : Config) (kept : List (Fact g.row.C.Denot))
      (volatile : world.Volatile g.row.C.Denot) (sent : List (Message g.row.C.Denot))
      (event : world.Input g.row.C.Denot g.row.M-Question.Denot)
      → IsSoFar (store_of g.row.M-Question.Denot g.M.Machine.client_id g.M.Machine.outcome) config kept volatile sent event l.initial.self l.initial.turn
      → IsSoFar (store_of g.row.M-Question.Denot g.M.Machine.client_id g.M.Machine.outcome) config kept volatile sent event l.self l.turn;
  on : (kept : List (Fact g.row.C.Denot)) → StandFor l.initial.self (kept ++ l.initial.turn.facts.items) → StandFor l.self (kept ++ l.turn.facts.items);
  held : IsHeld g.C.Codec.octets l.turn;
  before : l.turn.before ≡ l.initial.turn.before;
  stand : (facts : List (Fact g.row.C.Denot)) × StandFor l.self facts;
  part : IsPart (g.M.Machine.commands l.machine) (learned_of l.self.log);
  config : config_of l.self ≡ config_of l.initial.self;
  basis : g.M.Machine.basis l.machine ≡ g.M.Machine.basis l.initial.machine;
}
