-- Items that stand behind commas, with a comma between each two.
use Rattle.std.proofs.Common.{◌≡◌, ◌≤◌, ℕ, true, List, [], ◌∷◌, ◌++◌, refl, ap, sym, ◌∙◌, append_assoc, arith, drop, length, take, ◌-◌}
use Rattle.std.specs.Prelude.{codes}
use Rattle.std.specs.List.{list_all}
use Rattle.std.proofs.lemmas.Bool.{and_parts}
use Rattle.std.proofs.lemmas.Grind.{flat_map-append}
use Rattle.std.proofs.lemmas.List.{take_all, length-drop}
use Rattle.ts_line.specs.Lines.{is_printable, kept}
use Rattle.ts_line.specs.Scopes.{behind_commas, listed}
use Rattle.ts_line.proofs.Plain.{kept_printable}

behind-first : (list : List (List ℕ)) (xs : List ℕ) → 1 ≤ length xs → list_all is_printable xs ≡ true → xs ≡ behind_commas list → kept (drop 1 xs) ≡ listed list
behind-first list [] some all is = absurd (omega arith)
behind-first [] (x ∷ xs) some all is = absurd (cc is)
behind-first (i ∷ others) (x ∷ xs) some all is =
    kept_printable xs (and_parts (is_printable x) (list_all is_printable xs) all).1 ∙ ap (drop 1) is

pub some_listed : (list : List (List ℕ)) (xs : List ℕ) → 1 ≤ length xs → list_all is_printable xs ≡ true → xs ≡ behind_commas list → kept (take (length xs - 1) (drop 1 xs)) ≡ listed list
some_listed list xs some all is =
    ap kept (take_all (length xs - 1) (drop 1 xs) (omega (arith, length-drop 1 xs))) ∙ behind-first list xs some all is

pub none_listed : (list : List (List ℕ)) → [] ≡ behind_commas list → codes "-" ≡ listed list
none_listed [] is = refl
none_listed (i ∷ others) is = absurd (cc is)

-- what is written behind commas, in two steps
pub two_behind : (before between after : List ℕ) (some others : List (List ℕ))
    → between ≡ before ++ behind_commas some → after ≡ between ++ behind_commas others
    → after ≡ before ++ behind_commas (some ++ others)
two_behind before between after some others first second =
    second ∙ (ap (λ (t : List ℕ). t ++ behind_commas others) first
    ∙ (append_assoc before (behind_commas some) (behind_commas others)
    ∙ ap (λ (t : List ℕ). before ++ t) (sym (flat_map-append (λ (item : List ℕ). codes "," ++ item) some others))))
