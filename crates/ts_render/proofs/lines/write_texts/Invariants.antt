-- What is written behind the first text: each of the others so far, behind a comma.
use Rattle.std.proofs.Common.{◌≡◌, ◌++◌, codes, map, string_bytes, take}
use Rattle.std.specs.List.{flat_map}
use Rattle.ts_line.specs.Lines.{kept}
use Rattle.ts_render.proofs.lines.write_texts.Given as goal

abbrev pub invariant-loop-text : goal.invariant-loop-text
invariant-loop-text l = l.line ≡ l.initial.line ++ kept (flat_map (λ text. codes "," ++ text) (map string_bytes (take l.text-index l.others)))
