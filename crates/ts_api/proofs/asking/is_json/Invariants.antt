-- What is left begins as the body does.
use Rattle.std.proofs.Common.{◌≡◌, drop}
use Rattle.ts_api.specs.Asking.{is_json}
use Rattle.ts_api.proofs.asking.is_json.Given as goal

abbrev pub invariant-loop-octet : goal.invariant-loop-octet
invariant-loop-octet l = is_json (drop l.octet-index l.body) ≡ is_json l.body
