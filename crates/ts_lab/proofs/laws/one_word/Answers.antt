-- A line has one kind, and each kind its own reasons.
use Rattle.ts_lab.proofs.OneWord.{answered_as, refused_as}
use Rattle.ts_lab.specs.Says.{kind_of}
use Rattle.ts_lab.proofs.laws.one_word.Goals as goal

pub returns-clause-answered : goal.returns-clause-answered
returns-clause-answered c = λ known after line text fault other_kind no_node says refuses. answered_as (kind_of line) known after line text fault other_kind no_node says refuses

pub returns-clause-refused : goal.returns-clause-refused
returns-clause-refused c = λ known line fault other other_kind no_node refuses again some more. refused_as (kind_of line) known line fault other other_kind no_node refuses again some more
