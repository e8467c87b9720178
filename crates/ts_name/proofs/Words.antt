-- A text's words, octet by octet.
use Rattle.std.proofs.Common.{◌≡◌, ◌≢◌, ◌<◌, ◌≤◌, ℕ, get_or, length, Bool, true, false, cond, eqb, ◌||◌, List, [], ◌∷◌, ◌++◌, refl, sym, ap, ◌∙◌, append-nil, arith}
use Rattle.std.proofs.lemmas.Bool.{eqb-true, false_from_ne_true}
use Rattle.std.specs.Prelude.{not, map, filter}
use Rattle.std.specs.List.{join_with_byte}
use Rattle.ts_name.specs.Canon.{begin_with, parts, is_word, words, fold_case, canonical_text}
use Rattle.ts_name.specs.inside.Gaps.{at_word, without_gaps}

-- the octets before the first octet 20, and the parts after it
abbrev front : List ℕ → List ℕ
front [] = []
front (octet ∷ rest) = cond (eqb octet 0x20) [] (octet ∷ front rest)

abbrev back : List ℕ → List (List ℕ)
back [] = []
back (octet ∷ rest) = cond (eqb octet 0x20) (front rest ∷ back rest) (back rest)

parts-is : (text : List ℕ) → parts text ≡ front text ∷ back text
parts-is [] = refl
parts-is (octet ∷ rest) =
    ap (λ ps. cond (eqb octet 0x20) ([] ∷ ps) (begin_with octet ps)) (parts-is rest)
    ∙ (elim (eqb octet 0x20) as (λ b. cond b ([] ∷ front rest ∷ back rest)
    ((octet ∷ front rest) ∷ back rest) ≡ cond b [] (octet ∷ front rest)
    ∷ cond b (front rest ∷ back rest) (back rest)) [ true ↦ refl | false ↦ refl ])

-- the words that follow, each after an octet 20
abbrev spaced : List (List ℕ) → List ℕ
spaced [] = []
spaced (word ∷ words) = 0x20 ∷ join_with_byte 0x20 (word ∷ words)

join-first : (word : List ℕ) (others : List (List ℕ)) → join_with_byte 0x20 (word ∷ others) ≡ word ++ spaced others
join-first word [] = sym (append-nil word)
join-first word (next ∷ others) = refl

-- an octet 20 with what is behind it
gap : (octet : ℕ) (part : List ℕ) (others : List (List ℕ)) → octet ≡ 0x20
    → cond (is_word part) (octet ∷ (part ++ spaced (filter is_word others)))
    (part ++ spaced (filter is_word others)) ≡ spaced (filter is_word (part ∷ others))
gap octet [] others e = refl
gap octet (next ∷ part) others e =
    ap (λ (o : ℕ). o ∷ ((next ∷ part) ++ spaced (filter is_word others))) e
    ∙ ap (λ (s : List ℕ). 0x20 ∷ s) (sym (join-first (next ∷ part) (filter is_word others)))

at_word-is : (text : List ℕ) → at_word text ≡ is_word (front text)
at_word-is [] = refl
at_word-is (octet ∷ rest) = elim (eqb octet 0x20) as (λ b. not b ≡ is_word (cond b [] (octet ∷ front rest))) [ true ↦ refl | false ↦ refl ]

without_gaps-is : (text : List ℕ) → without_gaps text ≡ front text ++ spaced (filter is_word (back text))
without_gaps-is [] = refl
without_gaps-is (octet ∷ rest) = by_octet (without_gaps-is rest) (eqb octet 0x20) refl
  where
    by_octet : without_gaps rest ≡ front rest ++ spaced (filter is_word (back rest)) → (b : Bool) → eqb octet 0x20 ≡ b
        → cond (not b || at_word rest) (octet ∷ without_gaps rest) (without_gaps rest) ≡ cond b [] (octet ∷ front rest) ++ spaced (filter is_word (cond b (front rest ∷ back rest) (back rest)))
    by_octet more true e = rw (at_word-is rest, more) (gap octet (front rest) (back rest) (eqb-true octet 0x20 e))
    by_octet more false e = ap (λ (s : List ℕ). octet ∷ s) more

-- at the first octet of a word, the words are what is read
pub read_at_word : (octet : ℕ) (rest : List ℕ) → eqb octet 0x20 ≡ false → without_gaps (octet ∷ rest) ≡ join_with_byte 0x20 (words (octet ∷ rest))
read_at_word octet rest e =
    without_gaps-is (octet ∷ rest)
    ∙ rw (parts-is (octet ∷ rest), e) (sym (join-first (octet ∷ front rest) (filter is_word (back rest))))

-- without an octet 20 at the front, the text is read in canonical form
pub read_at_end : (text : List ℕ) → length text < 1 → map fold_case (without_gaps text) ≡ canonical_text text
unfolding canonical_text
read_at_end [] h = refl
read_at_end (octet ∷ rest) h = absurd (omega arith)

pub read_from_word : (text : List ℕ) → 1 ≤ length text → get_or text 0 0 ≢ 0x20 → map fold_case (without_gaps text) ≡ canonical_text text
unfolding canonical_text
read_from_word [] h ne = absurd (omega arith)
read_from_word (octet ∷ rest) h ne = ap (map fold_case) (read_at_word octet rest (false_from_ne_true (eqb octet 0x20) (λ t. ne (eqb-true octet 0x20 t))))
