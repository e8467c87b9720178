-- A word is cut after its keyword, and says what its value does.
use Rattle.std.proofs.Common.{◌≡◌, ◌≢◌, ◌∷◌, ℕ, List, Bor, Option, Some, None, option_map, subst}
use Rattle.std.proofs.lemmas.Result.{IfOk-weaker, IfErr-weaker, err_from_is_err_and}
use Rattle.ts_script.specs.declared.keyword.Keyword.{Keyword}
use Rattle.ts_script.specs.Pieces.{pieces_of, pieces_behind}
use Rattle.ts_script.specs.Words.{RefusesWord}
use Rattle.ts_script.specs.Parts.{Part}
use Rattle.ts_script.specs.ExtensionWords.{keyword_text, SaysValue, SaysWith, IsWord}
use Rattle.ts_script.specs.inside.OwnedParts.{parts_of}
use Rattle.ts_script.proofs.Answering.{form_of_none, some_of_ok}
use Rattle.ts_script.proofs.Decoding.{refused_more}
use Rattle.ts_script.proofs.Keywords.{word_said, word_says, no_word}
use Rattle.ts_script.proofs.extension_words.ExtensionWord.read.Goals as goal

abbrev NoKeyword : List ℕ → Type 0
NoKeyword name = (k : Keyword) → name ≢ keyword_text k

abbrev here : Bor (List ℕ) → List ℕ
here rest = rest.now

-- the cut of a word with a value, or without one
cut_some : (word name : List ℕ) (o : Option (Bor (List ℕ))) (v : Bor (List ℕ)) → o ≡ Some v → pieces_of 61 word ≡ name ∷ pieces_behind 61 (option_map here o)
    → pieces_of 61 word ≡ name ∷ pieces_behind 61 (Some v.now)
cut_some word name o v is cut = subst (λ (p : Option (Bor (List ℕ))). pieces_of 61 word ≡ name ∷ pieces_behind 61 (option_map here p)) is cut

cut_none : (word name : List ℕ) (o : Option (Bor (List ℕ))) → o ≡ None → pieces_of 61 word ≡ name ∷ pieces_behind 61 (option_map here o)
    → pieces_of 61 word ≡ name ∷ pieces_behind 61 None
cut_none word name o is cut = subst (λ (p : Option (Bor (List ℕ))). pieces_of 61 word ≡ name ∷ pieces_behind 61 (option_map here p)) is cut

pub returns-in_err-keyword-clause-fault : goal.returns-in_err-keyword-clause-fault
returns-in_err-keyword-clause-fault c =
    let word = c.args.word.now in
    let name = c.first_piece.result.0.now in
    let p = err_from_is_err_and c.from_residual.result c.from_residual.ensures.1 in
    let none = form_of_none (NoKeyword name) (λ k. name ≡ keyword_text k) c.of.result c.in_err-keyword.field-0.0 c.in_err-keyword.ensures.value c.of.ensures in
    rw (p.1, p.2, none.0) (λ parts said. no_word word name (option_map here c.first_piece.result.1) parts c.first_piece.ensures none.1 said)

pub returns-in-Some-clause-found : goal.returns-in-Some-clause-found
returns-in-Some-clause-found c =
    let word = c.args.word.now in
    let name = c.first_piece.result.0.now in
    let k = c.in_ok-keyword.keyword in
    let named = some_of_ok (NoKeyword name) (λ l. name ≡ keyword_text l) c.of.result k c.in_ok-keyword.ensures.value c.of.ensures in
    let cut = cut_some word name c.first_piece.result.1 c.in-Some.value c.in-Some.is c.first_piece.ensures in
    IfOk-weaker c.read_value.result (λ said. SaysValue k c.in-Some.value.now (parts_of said)) (λ said. IsWord word (parts_of said))
    (λ said says. word_said word name k (Some c.in-Some.value.now) (parts_of said) cut named says) c.read_value.ensures.found

pub returns-in-Some-clause-fault : goal.returns-in-Some-clause-fault
returns-in-Some-clause-fault c =
    let word = c.args.word.now in
    let name = c.first_piece.result.0.now in
    let k = c.in_ok-keyword.keyword in
    let named = some_of_ok (NoKeyword name) (λ l. name ≡ keyword_text l) c.of.result k c.in_ok-keyword.ensures.value c.of.ensures in
    let cut = cut_some word name c.first_piece.result.1 c.in-Some.value c.in-Some.is c.first_piece.ensures in
    IfErr-weaker c.read_value.result (RefusesWord ((parts : List Part) → ¬ (SaysValue k c.in-Some.value.now parts))) (RefusesWord ((parts : List Part) → ¬ (IsWord word parts)))
    (λ fault refused. refused_more fault (λ none parts said. none parts (word_says word name k (Some c.in-Some.value.now) parts cut named said)) refused) c.read_value.ensures.fault

pub returns-in-None-clause-found : goal.returns-in-None-clause-found
returns-in-None-clause-found c =
    let word = c.args.word.now in
    let name = c.first_piece.result.0.now in
    let k = c.in_ok-keyword.keyword in
    let named = some_of_ok (NoKeyword name) (λ l. name ≡ keyword_text l) c.of.result k c.in_ok-keyword.ensures.value c.of.ensures in
    let cut = cut_none word name c.first_piece.result.1 c.in-None.is c.first_piece.ensures in
    IfOk-weaker c.read_alone.result (λ said. SaysWith k None (parts_of said)) (λ said. IsWord word (parts_of said))
    (λ said says. word_said word name k None (parts_of said) cut named says) c.read_alone.ensures.found

pub returns-in-None-clause-fault : goal.returns-in-None-clause-fault
returns-in-None-clause-fault c =
    let word = c.args.word.now in
    let name = c.first_piece.result.0.now in
    let k = c.in_ok-keyword.keyword in
    let named = some_of_ok (NoKeyword name) (λ l. name ≡ keyword_text l) c.of.result k c.in_ok-keyword.ensures.value c.of.ensures in
    let cut = cut_none word name c.first_piece.result.1 c.in-None.is c.first_piece.ensures in
    IfErr-weaker c.read_alone.result (RefusesWord ((parts : List Part) → ¬ (SaysWith k None parts))) (RefusesWord ((parts : List Part) → ¬ (IsWord word parts)))
    (λ fault refused. refused_more fault (λ none parts said. none parts (word_says word name k None parts cut named said)) refused) c.read_alone.ensures.fault
