-- What a command came to: the octets that stand for a refusal, and the words.
use Rattle.std.specs.Prelude.{ℕ, List, [], ◌∷◌, ◌++◌, Option, codes}
use Rattle.std.specs.Fmt.{decimal}
use Rattle.ts_codec.specs.Reading.{lookup}
use Rattle.ts_command.specs.declared.outcome.Outcome.{Outcome}
use Rattle.ts_command.specs.declared.outcome.Outcome.TheVariants.{Applied, Repeated, Refused}
use Rattle.ts_command.specs.declared.outcome.Refusal.{Refusal}
use Rattle.ts_command.specs.declared.outcome.Refusal.TheVariants.{AnchorThere, NoAnchor, Malformed}
use Rattle.ts_command.specs.declared.outcome.Refusal.TheVariants.{OlderCrl, CriticalCrlExtension}
use Rattle.ts_command.specs.declared.outcome.Refusal.TheVariants.{StoreFull, DeltaCrl, NoCrl}
use Rattle.ts_command.specs.declared.outcome.Refusal.TheVariants.{RelativeName, Indirect}

-- in frames and in rows
abbrev pub refusal_code : Refusal → ℕ
refusal_code AnchorThere = 1
refusal_code NoAnchor = 2
refusal_code Malformed = 3
refusal_code OlderCrl = 4
refusal_code CriticalCrlExtension = 5
refusal_code StoreFull = 6
refusal_code DeltaCrl = 7
refusal_code NoCrl = 8
refusal_code RelativeName = 9
refusal_code Indirect = 10

-- each code with its refusal
abbrev pub refusals : List (ℕ × Refusal)
refusals = (1, AnchorThere) ∷ (2, NoAnchor) ∷ (3, Malformed) ∷ (4, OlderCrl)
    ∷ (5, CriticalCrlExtension) ∷ (6, StoreFull) ∷ (7, DeltaCrl) ∷ (8, NoCrl) ∷ (9, RelativeName)
    ∷ (10, Indirect) ∷ []

abbrev pub refusal_of_code : ℕ → Option Refusal
refusal_of_code code = lookup code refusals

abbrev pub refusal_word : Refusal → List ℕ
refusal_word AnchorThere = codes "AnchorThere"
refusal_word NoAnchor = codes "NoAnchor"
refusal_word Malformed = codes "Malformed"
refusal_word OlderCrl = codes "OlderCrl"
refusal_word CriticalCrlExtension = codes "CriticalCrlExtension"
refusal_word StoreFull = codes "StoreFull"
refusal_word DeltaCrl = codes "DeltaCrl"
refusal_word NoCrl = codes "NoCrl"
refusal_word RelativeName = codes "RelativeName"
refusal_word Indirect = codes "Indirect"

abbrev pub outcome_words : Outcome → List ℕ
outcome_words Applied = codes "applied"
outcome_words (Repeated position) = codes "repeated " ++ decimal position
outcome_words (Refused refusal) = codes "refused " ++ refusal_word refusal
