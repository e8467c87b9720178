-- Texts in HTML (HTML Standard 13.1.4, 13.2.5.1): what an octet of a text is written as, and when
-- nothing in a text is markup.
use Rattle.std.specs.Prelude.{◌≡◌, ◌⊎◌, ◌||◌, ◌==◌, ℕ, Bool, true, false, List, [], ◌∷◌, codes}
use Rattle.std.specs.Prelude.{if◌then◌else◌}
use Rattle.std.specs.List.{flat_map, AllByRecursion}

-- & < > " '
abbrev pub is_special : ℕ → Bool
is_special octet = octet == 38 || (octet == 60 || (octet == 62 || (octet == 34 || octet == 39)))

abbrev pub escaped_octet : ℕ → List ℕ
escaped_octet octet =
    if octet == 38 then codes "&amp;"
    else (if octet == 60 then codes "&lt;"
    else (if octet == 62 then codes "&gt;"
    else (if octet == 34 then codes "&quot;"
    else (if octet == 39 then codes "&#39;" else octet ∷ []))))

abbrev pub escape : List ℕ → List ℕ
escape text = flat_map escaped_octet text

-- an octet that is none of the five, or the entity of one of them
abbrev pub IsPiece : List ℕ → Type 0
IsPiece piece = ((octet : ℕ) × (piece ≡ octet ∷ []) × (is_special octet ≡ false))
    ⊎ ((piece ≡ codes "&amp;") ⊎ ((piece ≡ codes "&lt;") ⊎ ((piece ≡ codes "&gt;")
    ⊎ ((piece ≡ codes "&quot;") ⊎ (piece ≡ codes "&#39;")))))

-- the text is of such pieces alone
pub record IsEscaped (text : List ℕ) : Type 0 where
  pub pieces : List (List ℕ)
  pub is : text ≡ flat_map (λ piece. piece) pieces
  pub each : AllByRecursion IsPiece pieces
