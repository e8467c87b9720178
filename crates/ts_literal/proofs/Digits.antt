-- What octets are written as.
use Rattle.std.proofs.Common.{◌≡◌, ◌∙◌, refl, sym, ap, subst, ℕ, true, false, List, Result, Ok, Err}
use Rattle.std.proofs.Common.{Bool, ◌*◌, length, arith, is_err, MatchResult}
use Rattle.std.specs.Bool.{MatchBool}
use Rattle.std.specs.Str.{bytes_eq}
use Rattle.hex.specs.Hex.{decode_of, decode_sized, encode_lower, lower_digits}
use Rattle.hex.specs.declared.error.FromHexError.{FromHexError}
use Rattle.hex.proofs.HexLemmas.{decode_of-encode_lower, decode_of-ok, decode_sized-ok}
use Rattle.hex.proofs.HexLemmas.{decode_sized-twice, length-encode_with}
use Rattle.ts_literal.specs.Literals.{IsHex}
use Rattle.ts_literal.proofs.Numbers.{bytes_eq-true, bytes_eq-same}

-- what `decode_to_slice` answers, and what it leaves
abbrev pub Decodes : ℕ → List ℕ → Result Unit FromHexError → List ℕ → Type 0
Decodes size text r new = MatchResult (decode_sized text size) (λ bytes. (r ≡ Ok tt) × (new ≡ bytes)) (λ e. r ≡ Err e)

IsHex-decoded : (size : ℕ) (text xs : List ℕ) → IsHex size text xs → decode_sized text size ≡ Ok xs
IsHex-decoded size text xs is =
    let len : length text ≡ 2 * size = rw (is.written, ← is.count) (length-encode_with lower_digits xs) in
    decode_sized-twice text size len ∙ (ap decode_of is.written ∙ decode_of-encode_lower xs is.bytes)

IsHex-gives : (size : ℕ) (text xs : List ℕ) (r : Result Unit FromHexError) (new : List ℕ) → Decodes size text r new → IsHex size text xs → (r ≡ Ok tt) × (new ≡ xs)
IsHex-gives size text xs r new decodes is =
    subst (λ (d : Result (List ℕ) FromHexError). MatchResult d (λ bytes. (r ≡ Ok tt) × (new ≡ bytes)) (λ e. r ≡ Err e)) (IsHex-decoded size text xs is) decodes

-- what is not decoded is no text of octets
pub hex_refused : (size : ℕ) (text xs : List ℕ) (r : Result Unit FromHexError) (new : List ℕ) → Decodes size text r new → is_err r ≡ true → ¬ (IsHex size text xs)
hex_refused size text xs r new decodes err is = let gives = IsHex-gives size text xs r new decodes is in cc

decoded_as : (size : ℕ) (text : List ℕ) (d : Result (List ℕ) FromHexError) (r : Result Unit FromHexError) (new : List ℕ) → decode_sized text size ≡ d
    → MatchResult d (λ bytes. (r ≡ Ok tt) × (new ≡ bytes)) (λ e. r ≡ Err e) → is_err r ≡ false → decode_sized text size ≡ Ok new
decoded_as size text (Ok bytes) r new is decodes ok = is ∙ ap Ok (sym decodes.1)
decoded_as size text (Err e) r new is decodes ok = cc

-- what is decoded is encoded so, or the text is of none
pub hex_found : (size : ℕ) (text encoded : List ℕ) (r : Result Unit FromHexError) (new : List ℕ) → Decodes size text r new → is_err r ≡ false
    → encoded ≡ encode_lower new → (same : Bool) → same ≡ bytes_eq encoded text → MatchBool same (IsHex size text new) ((xs : List ℕ) → ¬ (IsHex size text xs))
hex_found size text encoded r new decodes ok encodes true is =
    let same : encoded ≡ text = bytes_eq-true encoded text (sym is) in
    let decoded = decoded_as size text (decode_sized text size) r new refl decodes ok in
    let len = decode_sized-ok text size new decoded in
    let bytes = (decode_of-ok text new (sym (decode_sized-twice text size len) ∙ decoded)) in
    let count : length new ≡ size = omega (arith, len, bytes.2) in
    record { written = sym same ∙ encodes; count = count; bytes = bytes.3 }
hex_found size text encoded r new decodes ok encodes false is = λ xs stands.
    let gives = IsHex-gives size text xs r new decodes stands in
    let same : encoded ≡ text = encodes ∙ (ap encode_lower gives.1 ∙ sym stands.written) in
    cc (is ∙ bytes_eq-same encoded text same)
