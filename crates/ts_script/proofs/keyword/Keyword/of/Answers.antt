-- Each keyword is among the keywords.
use Rattle.ts_script.proofs.Keywords.{named_or_none}
use Rattle.ts_script.proofs.keyword.Keyword.of.Goals as goal

pub returns : goal.returns
returns c = named_or_none c.args.text.now c.keyword_named.result c.keyword_named.ensures
