-- Words that are decoded one after another.
use Rattle.std.proofs.Common.{◌≡◌, ◌∙◌, refl, sym, ap, subst, ℕ, ◌<◌, ◌^◌, List, [], ◌∷◌, ◌++◌, map, append_assoc}
use Rattle.std.specs.List.{AllByRecursion}
use Rattle.std.specs.Fmt.{decimal}
use Rattle.ts_script.specs.declared.script.LineFault.{LineFault}
use Rattle.ts_script.specs.declared.script.LineFault.TheVariants.{Unknown, Form, Name, Limit, Message, Memory}
use Rattle.ts_script.specs.Pieces.{pieces_of}
use Rattle.ts_literal.specs.Literals.{IsNumber}
use Rattle.ts_script.specs.Words.{RefusesWord}
use Rattle.ts_script.specs.Parts.{Part}
use Rattle.ts_script.specs.ExtensionWords.{IsNumbers, IsWord, AreWords}
use Rattle.ts_script.proofs.OneParts.{one_word_said}

-- what is refused as one thing is refused as another that would be one
pub refused_more : {P Q : Type 0} (fault : LineFault) → (P → Q) → RefusesWord P fault → RefusesWord Q fault
refused_more Message more r = r
refused_more Unknown more r = r
refused_more Form more r = more r
refused_more Name more r = r
refused_more Limit more r = r
refused_more Memory more r = tt

-- words say the parts that were read of the first ones, and those that the words say that are left
pub record ReadsOn (words : List (List ℕ)) (parts : List Part) (left : List (List ℕ)) : Type 0 where
  pub back : (more : List Part) → AreWords left more → AreWords words (parts ++ more)
  pub on : (all : List Part) → AreWords words all → (more : List Part) × AreWords left more × (all ≡ parts ++ more)

pub ReadsOn-start : (words : List (List ℕ)) → ReadsOn words [] words
ReadsOn-start words = record { back = λ more are. are; on = λ all are. (all, are, refl) }

pub ReadsOn-next : (words left behind : List (List ℕ)) (word : List ℕ) (parts first : List Part) → left ≡ word ∷ behind → IsWord word first
    → ReadsOn words parts left → ReadsOn words (parts ++ first) behind
ReadsOn-next words left behind word parts first is says reads = record {
  back = λ more are. subst (AreWords words) (sym (append_assoc parts first more))
      (reads.back (first ++ more)
      (subst (λ (ws : List (List ℕ)). AreWords ws (first ++ more)) (sym is)
      (first, more, says, are, refl)));
  on = λ all are.
      let found = reads.on all are in
      let here = subst (λ (ws : List (List ℕ)). AreWords ws found.0) is found.1 in
      let same = one_word_said word here.0 first here.2 says in
      (here.1, here.3, found.2 ∙ (ap (λ (ps : List Part). parts ++ ps) here.4 ∙ (ap (λ (ps : List Part). parts ++ (ps ++ here.1)) same ∙ sym (append_assoc parts first here.1))));
}

pub ReadsOn-stops : (words left behind : List (List ℕ)) (word : List ℕ) (parts : List Part) → left ≡ word ∷ behind
    → ((said : List Part) → ¬ (IsWord word said)) → ReadsOn words parts left → (all : List Part) → ¬ (AreWords words all)
ReadsOn-stops words left behind word parts is none reads all are =
    let found = reads.on all are in
    let here = subst (λ (ws : List (List ℕ)). AreWords ws found.0) is found.1 in
    none here.0 here.2

-- each piece of numbers is one
pub piece_number : (xs : List (List ℕ)) (piece : List ℕ) (more : List (List ℕ)) (numbers : List ℕ) → xs ++ piece ∷ more ≡ map decimal numbers
    → AllByRecursion (λ n. n < 2 ^ 32) numbers → (n : ℕ) × IsNumber piece n
piece_number [] piece more [] e ranges = absurd cc
piece_number [] piece more (n ∷ ns) e ranges = (n, record { written = cc; range = ranges.0 })
piece_number (x ∷ xs) piece more [] e ranges = absurd cc
piece_number (x ∷ xs) piece more (n ∷ ns) e ranges = piece_number xs piece more ns (cc) ranges.1

pub no_numbers : (value : List ℕ) (xs left behind : List (List ℕ)) (piece : List ℕ) → pieces_of 44 value ≡ xs ++ left → left ≡ piece ∷ behind
    → ((n : ℕ) → ¬ (IsNumber piece n)) → (numbers : List ℕ) → ¬ (IsNumbers value numbers)
no_numbers value xs left behind piece whole split none numbers is =
    let found = piece_number xs piece behind numbers (ap (λ (l : List (List ℕ)). xs ++ l) (sym split) ∙ (sym whole ∙ is.pieces)) is.ranges in
    none found.0 found.1
