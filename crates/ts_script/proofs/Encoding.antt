-- What words are written as.
use Rattle.std.proofs.Common.{◌≡◌, ◌≢◌, ◌∙◌, refl, sym, ap, subst, ℕ, ◌<◌, true, false, List, []}
use Rattle.std.proofs.Common.{◌∷◌, ◌++◌, map, Ok, Err, Bool, ◌⊎◌, inl, inr, arith}
use Rattle.std.specs.Char.{is_ascii_alphanumeric}
use mathlib.Core.Bool.{not}
use Rattle.std.specs.Str.{IsUtf8, bytes_eq}
use Rattle.std.proofs.lemmas.Bool.Decides.{nat_tests}
use Rattle.std.proofs.lemmas.Slice.Eq.{bytes_eq-Decides}
use Rattle.std.proofs.lemmas.List.Elements.{All-weaker}
use Rattle.std.proofs.lemmas.List.Sums.{AllPass-from_list_all}
use Rattle.std.proofs.lemmas.Str.{IsUtf8-from_ascii}
use Rattle.std.proofs.lemmas.Str.Ascii.{IsAscii-from_all}
use Rattle.hex.specs.Hex.{decode_of, encode_lower}
use Rattle.hex.specs.declared.error.FromHexError.{FromHexError}
use Rattle.hex.specs.declared.error.FromHexError.TheVariants.{InvalidHexCharacter, OddLength, InvalidStringLength, OutOfMemory}
use Rattle.hex.proofs.HexLemmas.{decode_of-encode_lower, decode_of-ok}
use Rattle.ts_make.specs.declared.description.RdnText.{RdnText}
use Rattle.ts_make.specs.Sayable.{AreTexts}
use Rattle.ts_script.specs.declared.script.LineFault.{LineFault}
use Rattle.ts_script.specs.Pieces.{pieces_of}
use Rattle.ts_script.specs.Words.{IsName, IsHex, IsRdn, IsDn, RefusesWord, rdn_word}
use Rattle.ts_script.specs.Wrong.{hex_fault}

bytes_eq-true : (xs ys : List ℕ) → bytes_eq xs ys ≡ true → xs ≡ ys
bytes_eq-true xs ys is = (bytes_eq-Decides xs ys).0 is

bytes_eq-same : (xs ys : List ℕ) → xs ≡ ys → bytes_eq xs ys ≡ true
bytes_eq-same xs ys same = (bytes_eq-Decides xs ys).1 same

pub not_is_true : (b : Bool) → not b ≡ true → b ≡ false
not_is_true true h = cc h
not_is_true false h = refl

pub not_is_false : (b : Bool) → not b ≡ false → b ≡ true
not_is_false true h = refl
not_is_false false h = cc h

alphanumeric_small : (x : ℕ) → is_ascii_alphanumeric x ≡ true → x < 128
alphanumeric_small x h = grind (arith, nat_tests)

-- a name is text
pub IsName-IsUtf8 : (word : List ℕ) → IsName word → IsUtf8 word
IsName-IsUtf8 word is =
    IsUtf8-from_ascii word (IsAscii-from_all word (All-weaker (λ x. is_ascii_alphanumeric x ≡ true) (λ x. x < 128) alphanumeric_small word
    (AllPass-from_list_all is_ascii_alphanumeric word is.1)))

-- octets are decoded
pub IsHex-decoded : (word octets : List ℕ) → IsHex word octets → decode_of word ≡ Ok octets
IsHex-decoded word octets is = ap decode_of is.written ∙ decode_of-encode_lower octets is.bytes

-- what is not decoded is none
hex_refused_as : (word : List ℕ) (error : FromHexError) → (error ≡ OutOfMemory) ⊎ (decode_of word ≡ Err error)
    → RefusesWord ((octets : List ℕ) → ¬ (IsHex word octets)) (hex_fault error)
hex_refused_as word OutOfMemory h = tt
hex_refused_as word OddLength (inl h) = absurd cc
hex_refused_as word OddLength (inr h) = λ octets is. let decoded = IsHex-decoded word octets is in cc
hex_refused_as word InvalidStringLength (inl h) = absurd cc
hex_refused_as word InvalidStringLength (inr h) = λ octets is. let decoded = IsHex-decoded word octets is in cc
hex_refused_as word (InvalidHexCharacter x i) (inl h) = absurd cc
hex_refused_as word (InvalidHexCharacter x i) (inr h) = λ octets is. let decoded = IsHex-decoded word octets is in cc

-- so one word encodes no two
pub IsHex-one : (word xs ys : List ℕ) → IsHex word xs → decode_of word ≡ Ok ys → xs ≡ ys
IsHex-one word xs ys is decodes = let e = sym (IsHex-decoded word xs is) ∙ decodes in cc

-- a word that is not decoded is none of octets
pub hex_refused : (word : List ℕ) (error : FromHexError) (fault : LineFault) → fault ≡ hex_fault error
    → (error ≡ OutOfMemory) ⊎ (decode_of word ≡ Err error) → RefusesWord ((octets : List ℕ) → ¬ (IsHex word octets)) fault
hex_refused word error fault is h = subst (RefusesWord ((octets : List ℕ) → ¬ (IsHex word octets))) (sym is) (hex_refused_as word error h)

-- each piece of a distinguished name is a relative one
pub piece_is : (xs : List (List ℕ)) (piece : List ℕ) (more : List (List ℕ)) (rdns : List RdnText) → xs ++ piece ∷ more ≡ map rdn_word rdns
    → AreTexts rdns → (rdn : RdnText) × IsRdn piece rdn
piece_is [] piece more [] e texts = absurd cc
piece_is [] piece more (r ∷ rs) e texts = (r, record { written = cc; text = texts.0 })
piece_is (x ∷ xs) piece more [] e texts = absurd cc
piece_is (x ∷ xs) piece more (r ∷ rs) e texts = piece_is xs piece more rs (cc) texts.1

-- where a piece is none, the word is no distinguished name
pub no_dn : (word : List ℕ) (xs left behind : List (List ℕ)) (piece : List ℕ) → pieces_of 47 word ≡ xs ++ left → left ≡ piece ∷ behind
    → ((rdn : RdnText) → ¬ (IsRdn piece rdn)) → (rdns : List RdnText) → ¬ (IsDn word rdns)
no_dn word xs left behind piece whole split none rdns is =
    let found = piece_is xs piece behind rdns (ap (λ (l : List (List ℕ)). xs ++ l) (sym split) ∙ (sym whole ∙ is.pieces)) is.texts in
    none found.0 found.1

-- octets that are written otherwise are not the word's
pub hex_other : (word xs octets encoded : List ℕ) → IsHex word xs → decode_of word ≡ Ok octets → encoded ≡ encode_lower octets → bytes_eq encoded word ≡ false → ⊥
hex_other word xs octets encoded is decodes encodes other =
    let one = IsHex-one word xs octets is decodes in
    let same : encoded ≡ word = encodes ∙ (ap encode_lower (sym one) ∙ sym is.written) in
    cc (sym other ∙ bytes_eq-same encoded word same)

pub hex_found : (word octets encoded : List ℕ) → decode_of word ≡ Ok octets → encoded ≡ encode_lower octets → bytes_eq encoded word ≡ true → octets ≢ [] → IsHex word octets
hex_found word octets encoded decodes encodes same some = record {
  written = sym (bytes_eq-true encoded word same) ∙ encodes;
  some = some;
  bytes = (decode_of-ok word octets decodes).3;
}
