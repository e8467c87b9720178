use Rattle.std.proofs.Common.{sym}
use Rattle.ts_extensions.proofs.ValidLists.{one-less, all-sound}
use Rattle.ts_extensions.proofs.fast_list.have_ends_of_their_own.Goals as goal

pub loop-rest-preserved : goal.loop-rest-preserved
loop-rest-preserved c = rw c.split_at.ensures.back (one-less c.args.content.now c.loop-rest.ends c.next_size.new.ends c.loop-rest.rest.now c.in-Some.size c.in-Some.ensures.sound c.loop-rest.invariant)

pub returns : goal.returns
returns c = λ e. all-sound c.args.content.now c.loop-rest.ends c.loop-rest.rest.now c.is_empty-2.result c.loop-rest.invariant (sym c.loop-rest-test.ensures) c.is_empty-2.ensures e
