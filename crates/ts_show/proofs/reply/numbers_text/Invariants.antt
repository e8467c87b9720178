-- The text so far has the words so far.
use Rattle.std.proofs.Common.{◌≡◌, take, string_bytes}
use Rattle.ts_show.specs.Words.{places_words}
use Rattle.ts_show.proofs.reply.numbers_text.Given as goal

abbrev pub invariant-loop-number : goal.invariant-loop-number
invariant-loop-number l = string_bytes l.text ≡ places_words (take l.number-index l.numbers)
