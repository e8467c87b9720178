-- All octets before are letters and digits.
use Rattle.std.proofs.Common.{◌≡◌, drop}
use Rattle.std.specs.List.{list_all}
use Rattle.std.specs.Char.{is_ascii_alphanumeric}
use Rattle.ts_script.proofs.words.is_name.Given as goal

abbrev pub invariant-loop-octet : goal.invariant-loop-octet
invariant-loop-octet l = list_all is_ascii_alphanumeric l.word ≡ list_all is_ascii_alphanumeric (drop l.octet-index l.word)
