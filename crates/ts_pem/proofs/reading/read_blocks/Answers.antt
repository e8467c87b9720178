-- The blocks that are read are those of the relation.
use Rattle.std.proofs.Common.{map}
use Rattle.std.specs.Prelude.{Vec}
use Rattle.std.specs.declared.alloc.Global.{Global}
use Rattle.ts_pem.specs.declared.block.Block.{Block}
use Rattle.ts_pem.specs.Files.{block_in}
use Rattle.ts_pem.proofs.Blocks.{found_of, only_of}
use Rattle.ts_pem.proofs.reading.read_blocks.Goals as goal

pub returns-clause-found : goal.returns-clause-found
returns-clause-found c = found_of (λ (v : Vec Block Global). map block_in v.items)
    c.read_lines-blocks.result c.args.text.now c.read_lines-blocks.ensures

pub returns-clause-only : goal.returns-clause-only
returns-clause-only c = only_of (λ (v : Vec Block Global). map block_in v.items)
    c.read_lines-blocks.result c.args.text.now c.read_lines-blocks.ensures
