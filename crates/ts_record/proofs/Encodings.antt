-- Encodings grow part by part.
use Rattle.std.proofs.Common.{◌≡◌, ◌≤◌, ◌<◌, ℕ, zero, suc, List, [], ◌∷◌, ◌++◌, length, get_or, ◌∙◌, ap, arith, append_assoc, length-append}
use Rattle.ts_synod.specs.declared.message.Fact.{Fact}
use Rattle.ts_synod.specs.declared.message.Fact.TheVariants.{Used, Promised, Took, Chosen}
use Rattle.ts_record.specs.Facts.{fact_encoding, encodings}

-- a part after a kind and a number
pub two : (out mid last a b : List ℕ) (kind : ℕ) → mid ≡ out ++ kind ∷ a → last ≡ mid ++ b → last ≡ out ++ (kind ∷ (a ++ b))
two out mid last a b kind first second = second ∙ ap (λ l. l ++ b) first ∙ append_assoc out (kind ∷ a) b

-- and one more
pub three : (out mid next last a b d : List ℕ) (kind : ℕ) → mid ≡ out ++ kind ∷ a → next ≡ mid ++ b → last ≡ next ++ d → last ≡ out ++ (kind ∷ (a ++ (b ++ d)))
three out mid next last a b d kind first second third =
    third ∙ ap (λ l. l ++ d) (two out mid next a b kind first second) ∙ append_assoc out (kind ∷ (a ++ b)) d ∙ ap (λ l. out ++ (kind ∷ l)) (append_assoc a b d)

-- no fact is longer than all
pub no_longer : {C : Type 0} (octets : C → List ℕ) (facts : List (Fact C)) (i : ℕ) (fact : Fact C)
    → i < length facts → fact ≡ get_or facts i fact
    → length (fact_encoding octets fact) ≤ length (encodings octets facts)
no_longer octets [] i fact le is = absurd (omega (arith, le))
no_longer {C} octets (f ∷ facts) zero fact le is = omega (arith, ap (λ (x : Fact C). length (fact_encoding octets x)) is, length-append (fact_encoding octets f) (encodings octets facts))
no_longer octets (f ∷ facts) (suc i) fact le is = omega (arith, no_longer octets facts i fact (omega (arith, le)) is, length-append (fact_encoding octets f) (encodings octets facts))

pub one_octet : {C : Type 0} (octets : C → List ℕ) (f : Fact C) → 1 ≤ length (fact_encoding octets f)
one_octet octets (Used r) = omega arith
one_octet octets (Promised p b) = omega arith
one_octet octets (Took p b c) = omega arith
one_octet octets (Chosen p c) = omega arith

-- each fact has an octet at least
pub some : {C : Type 0} (octets : C → List ℕ) (facts : List (Fact C)) → 0 < length facts → 1 ≤ length (encodings octets facts)
some octets [] more = absurd (omega (arith, more))
some octets (fact ∷ facts) more = omega (arith, one_octet octets fact, length-append (fact_encoding octets fact) (encodings octets facts))
