-- A read, and the time of it.
use Rattle.ts_http.proofs.Same.{same_read, same_told}
use Rattle.ts_http.proofs.connection.Connection.read.Goals as goal

pub returns-clause-read : goal.returns-clause-read
returns-clause-read c = same_read c.args.self.now c.read_on.new.self c.look.new.self c.in_ok-progress.ensures.read c.look.ensures.same

pub returns-clause-told : goal.returns-clause-told
returns-clause-told c = same_told c.args.self.now.stage c.args.self.now c.read_on.new.self c.look.new.self c.in_ok-progress.progress c.in_ok-progress.ensures.told c.look.ensures.same
