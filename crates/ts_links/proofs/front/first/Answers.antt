-- The frame of the octets that its length counts is at the front of all.
use Rattle.std.proofs.Common.{◌+◌}
use Rattle.ts_links.proofs.Sizes.{wrong_first}
use Rattle.ts_links.proofs.front.first.Goals as goal

pub returns-in-Err-whole_frame : goal.returns-in-Err-whole_frame
returns-in-Err-whole_frame c = wrong_first c.args.octets.now (4 + c.in-Ok-Some.size) c.in-Err-whole_frame.fault c.in-Err-whole_frame.ensures
