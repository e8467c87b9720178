-- Each word is read after those that were.
use Rattle.std.proofs.Common.{◌≡◌, ◌∷◌, ◌∙◌, ◌++◌, [], ℕ, List, Bor, option_map, subst, sym, ap, refl, rules}
use Rattle.std.proofs.lemmas.Result.{err_from_is_err_and}
use Rattle.std.proofs.lemmas.List.{append-nil, map-append}
use Rattle.ts_script.specs.Pieces.{pieces_behind}
use Rattle.ts_script.specs.CrlLineWords.{CrlPart, AreCrlWords}
use Rattle.ts_script.specs.inside.CrlParts.{crl_part, crl_parts}
use Rattle.ts_script.proofs.Decoding.{refused_more}
use Rattle.ts_script.proofs.CrlReading.{CrlReadsOn, CrlReadsOn-next, CrlReadsOn-stops}
use Rattle.ts_script.proofs.crl_words.crl_words.Goals as goal

abbrev here : Bor (List ℕ) → List ℕ
here rest = rest.now

pub returns-in_err-read-clause-fault : goal.returns-in_err-read-clause-fault
returns-in_err-read-clause-fault c =
    let words = pieces_behind 32 (option_map here c.args.words) in
    let left = pieces_behind 32 (option_map here c.loop-rest.rest) in
    let behind = pieces_behind 32 (option_map here c.first_piece.result.1) in
    let word = c.first_piece.result.0.now in
    let split : left ≡ word ∷ behind = rw c.in-Some.is c.first_piece.ensures in
    let p = err_from_is_err_and c.from_residual.result c.from_residual.ensures.1 in
    rw (p.1, p.2) (refused_more c.in_err-read.field-0.0
    (λ none. CrlReadsOn-stops words left behind word (crl_parts c.loop-rest.said.items) split none
    c.loop-rest.invariant) c.in_err-read.ensures.fault)

pub loop-rest-preserved : goal.loop-rest-preserved
loop-rest-preserved c =
    let words = pieces_behind 32 (option_map here c.args.words) in
    let left = pieces_behind 32 (option_map here c.loop-rest.rest) in
    let behind = pieces_behind 32 (option_map here c.first_piece.result.1) in
    let word = c.first_piece.result.0.now in
    let split : left ≡ word ∷ behind = rw c.in-Some.is c.first_piece.ensures in
    let before = c.loop-rest.said.items in
    let next = CrlReadsOn-next words left behind word (crl_parts before) (crl_part c.in_ok-read.field-0) split c.in_ok-read.ensures.found c.loop-rest.invariant in
    let items : c.push.new.self.items ≡ before ++ c.in_ok-read.field-0 ∷ [] = search rules in
    let parts : crl_parts c.push.new.self.items ≡ crl_parts before ++ crl_part c.in_ok-read.field-0 ∷ [] = ap crl_parts items ∙ map-append crl_part before (c.in_ok-read.field-0 ∷ []) in
    subst (λ (ps : List CrlPart). CrlReadsOn words ps behind) (sym parts) next

pub returns-clause-found : goal.returns-clause-found
returns-clause-found c =
    let words = pieces_behind 32 (option_map here c.args.words) in
    let said = crl_parts c.loop-rest.said.items in
    let none : pieces_behind 32 (option_map here c.loop-rest.rest) ≡ [] = rw c.in_default.is refl in
    subst (AreCrlWords words) (append-nil said) (c.loop-rest.invariant.back [] (subst (λ (ws : List (List ℕ)). AreCrlWords ws []) (sym none) refl))
