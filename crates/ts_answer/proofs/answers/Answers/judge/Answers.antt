use Rattle.std.proofs.lemmas.Bool.{le-leb}
use Rattle.ts_codec.proofs.Truths.{both_true}
use Rattle.ts_answer.proofs.answers.Answers.judge.Goals as goal

pub answer_of-requires : goal.answer_of-requires
answer_of-requires g c = both_true _ _ (le-leb c.args.k 1000000 c.requires.few) (c.in_ok-reply.ensures.within c.args.k)
