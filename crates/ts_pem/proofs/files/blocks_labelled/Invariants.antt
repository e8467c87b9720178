use Rattle.std.proofs.Common.{◌≡◌, map}
use Rattle.ts_pem.specs.Files.{labelled_of, block_in}
use Rattle.ts_pem.proofs.files.blocks_labelled.Given as goal

abbrev pub invariant-loop-block : goal.invariant-loop-block
invariant-loop-block l =
    map (λ x. x.items) l.found.items ≡ labelled_of l.label (map block_in l.yielded)
