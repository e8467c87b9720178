-- None of the keywords before is written so.
use Rattle.std.proofs.Common.{◌≡◌, drop}
use Rattle.ts_script.specs.ExtensionWords.{keyword_named}
use Rattle.ts_script.proofs.keyword.keyword_named.Given as goal

abbrev pub invariant-loop-keyword : goal.invariant-loop-keyword
invariant-loop-keyword l = keyword_named l.keywords l.text ≡ keyword_named (drop l.keyword-index l.keywords) l.text
