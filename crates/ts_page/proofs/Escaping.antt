-- What stands for a text has no markup.
use Rattle.std.proofs.Common.{◌≡◌, ◌∙◌, refl, ap, sym, ℕ, Bool, true, false, List, [], ◌∷◌, ◌++◌, inl, inr, ◌==◌, ◌||◌, codes}
use Rattle.std.specs.List.{flat_map, AllByRecursion}
use Rattle.ts_page.specs.Escaped.{escape, escaped_octet, is_special, IsEscaped, IsPiece}

pieces_of : List ℕ → List (List ℕ)
pieces_of [] = []
pieces_of (octet ∷ text) = escaped_octet octet ∷ pieces_of text

-- by the tests of the table
by_tests : (octet : ℕ) (amp lt gt quote tick : Bool) → octet == 38 ≡ amp → octet == 60 ≡ lt → octet == 62 ≡ gt → octet == 34 ≡ quote → octet == 39 ≡ tick → IsPiece (escaped_octet octet)
by_tests octet true lt gt quote tick a b c d e = rw a (inr (inl refl))
by_tests octet false true gt quote tick a b c d e = rw (a, b) (inr (inr (inl refl)))
by_tests octet false false true quote tick a b c d e = rw (a, b, c) (inr (inr (inr (inl refl))))
by_tests octet false false false true tick a b c d e = rw (a, b, c, d) (inr (inr (inr (inr (inl refl)))))
by_tests octet false false false false true a b c d e = rw (a, b, c, d, e) (inr (inr (inr (inr (inr refl)))))
by_tests octet false false false false false a b c d e =
    let plain : is_special octet ≡ false = rw (a, b, c, d, e) refl in
    rw (a, b, c, d, e) (inl (octet, refl, plain))

is_piece : (octet : ℕ) → IsPiece (escaped_octet octet)
is_piece octet = by_tests octet (octet == 38) (octet == 60) (octet == 62) (octet == 34) (octet == 39) refl refl refl refl refl

joined : (text : List ℕ) → escape text ≡ flat_map (λ piece. piece) (pieces_of text)
unfolding pieces_of
joined [] = refl
joined (octet ∷ text) = ap (λ rest. escaped_octet octet ++ rest) (joined text)

each : (text : List ℕ) → AllByRecursion IsPiece (pieces_of text)
unfolding pieces_of
each [] = tt
each (octet ∷ text) = (is_piece octet, each text)

pub is_escaped : (text : List ℕ) → IsEscaped (escape text)
is_escaped text = record { pieces = pieces_of text; is = joined text; each = each text }
