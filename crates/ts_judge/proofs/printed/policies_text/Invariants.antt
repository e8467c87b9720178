-- The text so far is that of the policies so far.
use Rattle.std.proofs.Common.{◌≡◌, map, take, string_bytes}
use Rattle.ts_judge.specs.Text.{policies_text}
use Rattle.ts_judge.proofs.printed.policies_text.Given as goal

abbrev pub invariant-loop-policy : goal.invariant-loop-policy
invariant-loop-policy l = string_bytes l.text ≡ policies_text (map (λ p. p.content.now) (take l.policy-index l.policies))
