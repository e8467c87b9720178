use Rattle.std.proofs.Common.{◌≡◌, take, map}
use Rattle.ts_cli.proofs.encoding.copy_files.Given as goal

abbrev pub invariant-loop-file : goal.invariant-loop-file
invariant-loop-file l = map (λ file. file.items) l.copies.items ≡ map (λ file. file.items) (take l.file-index l.files)
