-- Facts that a record can keep at once, one after another.
use Rattle.std.proofs.Common.{◌≡◌, ◌∙◌, ◌≤◌, ◌<◌, ◌+◌, ◌++◌, ◌∷◌, ℕ, List, [], length, take, subst, sym, ap, arith, length-append}
use Rattle.std.proofs.lemmas.List.{take_more}
use Rattle.std.proofs.lemmas.List.Elements.{All-from_recursion, All-get_or}
use Rattle.std.proofs.lemmas.List.Folds.{length-flat_map-take}
use Rattle.std.proofs.lemmas.Grind.{flat_map-append}
use Rattle.std.specs.Prelude.{slice_index_or}
use Rattle.std.specs.List.{AllByRecursion}
use Rattle.ts_synod.specs.declared.message.Fact.{Fact}
use Rattle.ts_record.specs.Facts.{AllFit, FactFits, fact_encoding, encodings}
use Rattle.ts_node.proofs.Fits.{all_more}

pub all_second : {X : Type 0} (P : X → Type 0) (xs ys : List X) → AllByRecursion P (xs ++ ys) → AllByRecursion P ys
all_second P [] ys h = h
all_second P (x ∷ xs) ys h = all_second P xs ys h.1

module _ {C : Type 0} (octets : C → List ℕ) (facts : List (Fact C)) (i : ℕ) (fact : Fact C) (within : i < length facts) (is : fact ≡ slice_index_or facts i fact) where
  upto : take (i + 1) facts ≡ take i facts ++ fact ∷ []
  upto = take_more facts i fact within ∙ ap (λ (f : Fact C). take i facts ++ f ∷ []) (sym is)

  pub fit_more : AllFit octets (take i facts) → FactFits octets fact → AllFit octets (take (i + 1) facts)
  fit_more before fits = subst (AllFit octets) (sym upto) (all_more (FactFits octets) (take i facts) (fact ∷ []) before (fits, tt))

  pub size_more : (before size more : ℕ) → size ≡ before + length (encodings octets (take i facts))
      → more ≡ length (fact_encoding octets fact)
      → size + more ≡ before + length (encodings octets (take (i + 1) facts))
  size_more before size more e f =
      let all = ap (λ fs. length (encodings octets fs)) upto in
      let two = ap length (flat_map-append (fact_encoding octets) (take i facts) (fact ∷ [])) in
      let three = length-append (encodings octets (take i facts)) (encodings octets (fact ∷ [])) in
      let four = length-append (fact_encoding octets fact) [] in
      omega arith

  pub fit_here : AllFit octets facts → FactFits octets fact
  fit_here all = subst (FactFits octets) (sym is) (All-get_or (FactFits octets) facts i fact within (All-from_recursion (FactFits octets) facts all))

  pub no_less : length (encodings octets (take i facts)) + length (fact_encoding octets fact) ≤ length (encodings octets facts)
  no_less = subst (λ (f : Fact C). length (encodings octets (take i facts)) + length
      (fact_encoding octets f) ≤ length (encodings octets facts)) (sym is)
      (length-flat_map-take (fact_encoding octets) facts i fact within)
