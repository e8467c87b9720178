use Rattle.ts_guard.proofs.Texts.{one_text}
use Rattle.ts_guard.proofs.laws.one_text.Goals as goal

pub returns : goal.returns
returns c a b fits fit small less same = one_text a b fits fit small less same
