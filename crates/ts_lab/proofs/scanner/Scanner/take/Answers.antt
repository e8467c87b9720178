-- An octet of a line was taken, or there was no memory for it.
use Rattle.ts_lab.proofs.Scanning.{scans_pushed}
use Rattle.ts_lab.proofs.scanner.Scanner.take.Goals as goal

pub returns-else-octet-eq-LINE_FEED-clause-scans : goal.returns-else-octet-eq-LINE_FEED-clause-scans
returns-else-octet-eq-LINE_FEED-clause-scans g c =
    scans_pushed (Unit {0}) c.push.result c.args.self.now c.push.new.self c.args.octet
    (g.W.Write.contents c.args.writer.now) c.if-octet-eq-LINE_FEED.false c.push.ensures.number
    c.push.ensures.known c.push.ensures.ok c.push.ensures.err
