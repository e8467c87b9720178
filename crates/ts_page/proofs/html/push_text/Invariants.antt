-- The octets so far are escaped.
use Rattle.std.proofs.Common.{◌≡◌, ◌++◌, take}
use Rattle.ts_page.specs.Escaped.{escape}
use Rattle.ts_page.proofs.html.push_text.Given as goal

abbrev pub invariant-loop-octet : goal.invariant-loop-octet
invariant-loop-octet l = l.octets.items ≡ l.initial.octets.items ++ escape (take l.octet-index l.text)
