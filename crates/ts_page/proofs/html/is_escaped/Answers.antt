use Rattle.ts_page.proofs.Escaping as lemmas
use Rattle.ts_page.proofs.html.is_escaped.Goals as goal

pub returns : goal.returns
returns c = lemmas.is_escaped
