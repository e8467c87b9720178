-- Words of which one must not stand say nothing, and others what they say one after another.
use Rattle.std.proofs.Common.{rules, ◌≡◌, ℕ, List, Bor, option_map, true, arith}
use Rattle.std.specs.List.{flat_map}
use Rattle.std.proofs.lemmas.Result.{IfOk-weaker, IfErr-weaker}
use Rattle.ts_script.specs.Pieces.{pieces_behind}
use Rattle.ts_script.specs.Words.{RefusesWord}
use Rattle.ts_script.specs.Parts.{Part}
use Rattle.ts_script.specs.ExtensionWords.{AreWords, AreParts}
use Rattle.ts_script.specs.inside.OwnedParts.{parts_of}
use Rattle.ts_script.proofs.Decoding.{refused_more}
use Rattle.ts_script.proofs.extension_words.extension_words.Goals as goal

abbrev here : Bor (List ℕ) → List ℕ
here rest = rest.now

pub returns-then-not-stand_once-clause-fault : goal.returns-then-not-stand_once-clause-fault
returns-then-not-stand_once-clause-fault c = λ parts is.
    let yes : c.stand_once.result ≡ true = c.stand_once.ensures.1 is.alone in
    first_of (cc, grind arith)

pub returns-clause-found : goal.returns-clause-found
returns-clause-found c =
    let words = pieces_behind 32 (option_map here c.args.words) in
    let yes : c.stand_once.result ≡ true = first_of (search rules, grind arith) in
    IfOk-weaker c.words_in.result (λ said. AreWords words (flat_map parts_of said.items)) (λ said. AreParts words (flat_map parts_of said.items))
    (λ said are. record { said = are; alone = c.stand_once.ensures.0 yes }) c.words_in.ensures.found

pub returns-clause-fault : goal.returns-clause-fault
returns-clause-fault c =
    let words = pieces_behind 32 (option_map here c.args.words) in
    IfErr-weaker c.words_in.result (RefusesWord ((parts : List Part) → ¬ (AreWords words parts))) (RefusesWord ((parts : List Part) → ¬ (AreParts words parts)))
    (λ fault refused. refused_more fault (λ none parts is. none parts is.said) refused) c.words_in.ensures.fault
