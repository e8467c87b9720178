-- The text so far has the words so far.
use Rattle.std.proofs.Common.{◌≡◌, take, string_bytes}
use Rattle.ts_show.specs.Words.{policies_words}
use Rattle.ts_show.proofs.reply.policies_text.Given as goal

abbrev pub invariant-loop-policy : goal.invariant-loop-policy
invariant-loop-policy l = string_bytes l.text ≡ policies_words (take l.policy-index l.policies)
