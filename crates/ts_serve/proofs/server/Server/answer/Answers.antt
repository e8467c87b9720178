-- A frame was answered.
use Rattle.ts_serve.proofs.Inputs.{message_fits}
use Rattle.ts_serve.proofs.server.Server.answer.Goals as goal

pub respond-requires-clause-fits : goal.respond-requires-clause-fits
respond-requires-clause-fits g c = message_fits c.in-Peer.message (rw c.in-Peer.is at c.requires.fits)
