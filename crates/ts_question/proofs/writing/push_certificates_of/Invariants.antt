use Rattle.std.proofs.Common.{◌≡◌, ◌++◌, take, map}
use Rattle.std.specs.List.{flat_map}
use Rattle.ts_codec.specs.Parts.{blob32}
use Rattle.ts_question.proofs.writing.push_certificates_of.Given as goal

abbrev pub invariant-loop-certificate : goal.invariant-loop-certificate
invariant-loop-certificate l = l.out.items ≡ l.fn.out.items ++ flat_map blob32 (map (λ s. s.items) (take l.certificate-index l.certificates))
