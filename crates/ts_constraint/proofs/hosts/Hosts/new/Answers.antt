use Rattle.std.proofs.Common.{refl}
use Rattle.ts_constraint.specs.inside.Ending.{octets}
use Rattle.ts_constraint.specs.inside.Hosts.{domain_endings, dotted_endings}
use Rattle.ts_constraint.specs.View.{bases_in}
use Rattle.ts_constraint.proofs.DomainEnds.{table, by-tables}
use Rattle.ts_constraint.proofs.hosts.Hosts.new.Goals as goal

pub returns : goal.returns
returns c =
    let bases = bases_in c.args.subtrees.now in
    let domains = c.new.result.items.items in
    let dotted = c.new-2.result.items.items in
    by-tables octets domains dotted bases
    (table octets domains c.in_ok-domains.domains.items (domain_endings bases) c.new.ensures c.in_ok-domains.ensures)
    (table octets dotted c.in_ok-dotted.dotted.items (dotted_endings bases) c.new-2.ensures c.in_ok-dotted.ensures)
