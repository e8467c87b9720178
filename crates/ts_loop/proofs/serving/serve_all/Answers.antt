-- No move was made.
use Rattle.ts_links.proofs.Reached.{reached_none}
use Rattle.ts_loop.proofs.serving.serve_all.Goals as goal

pub returns-in_err-edge-clause-served : goal.returns-in_err-edge-clause-served
returns-in_err-edge-clause-served g c = record {
  links = c.in_ok-table.table.links.items;
  others = c.in_ok-table.table.links.items;
  unused = c.in_ok-table.ensures.unused;
  reached = reached_none _ _ _ _;
}
