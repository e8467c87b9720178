-- What numbers are written as.
use Rattle.std.proofs.Common.{◌≡◌, ◌∙◌, sym, ap, ℕ, ◌<◌, ◌^◌, true, false, List, Result, Ok, is_ok}
use Rattle.std.proofs.Common.{Option, None, is_some, Bool, MatchOption, arith, ◌⊎◌, inl, inr}
use Rattle.std.specs.Bool.{then_some}
use Rattle.std.specs.Str.{IsUtf8, bytes_eq}
use Rattle.std.specs.Str.Parse.{ParsesUnsigned}
use Rattle.std.specs.Fmt.{decimal}
use Rattle.std.proofs.lemmas.Slice.Eq.{bytes_eq-Decides}
use Rattle.std.proofs.lemmas.Str.{IsUtf8-from_ascii}
use Rattle.std.proofs.lemmas.Fmt.{IsAscii-decimal, parse-decimal, decimal_injective}
use Rattle.ts_literal.specs.Literals.{IsNumber, IsNumberIn}

pub bytes_eq-true : (xs ys : List ℕ) → bytes_eq xs ys ≡ true → xs ≡ ys
bytes_eq-true xs ys is = (bytes_eq-Decides xs ys).0 is

pub bytes_eq-same : (xs ys : List ℕ) → xs ≡ ys → bytes_eq xs ys ≡ true
bytes_eq-same xs ys same = (bytes_eq-Decides xs ys).1 same

-- a number is text
pub IsNumber-IsUtf8 : (word : List ℕ) (n : ℕ) → IsNumber word n → IsUtf8 word
IsNumber-IsUtf8 word n is =
    let small : n < 2 ^ 64 = omega (arith, is.range) in
    rw is.written (IsUtf8-from_ascii (decimal n) (IsAscii-decimal n small))

-- and is parsed
pub IsNumber-parsed : {E : Type 0} (word : List ℕ) (n : ℕ) (r : Result ℕ E) → IsNumber word n
    → ParsesUnsigned 32 10 word r → r ≡ Ok n
IsNumber-parsed word n r is parses =
    parse-decimal 32 n word r is.range (omega (arith, is.range)) is.written parses

-- a number that is written as the word is the word's
pub number_read : (word encoded : List ℕ) (number : ℕ) (same : Bool) → encoded ≡ decimal number
    → number < 2 ^ 32 → same ≡ bytes_eq encoded word → ((n : ℕ) → IsNumber word n → number ≡ n)
    → MatchOption (then_some same number) ((n : ℕ) → ¬ (IsNumber word n)) (IsNumber word)
number_read word encoded number true encodes small is only =
    let same : encoded ≡ word = bytes_eq-true encoded word (sym is) in
    record { written = sym same ∙ encodes; range = small }
number_read word encoded number false encodes small is only = λ n stands.
    let same : encoded ≡ word = encodes ∙ (ap decimal (only n stands) ∙ sym stands.written) in
    cc (is ∙ bytes_eq-same encoded word same)

-- a call that answered is not taken for one that did not
pub refused_ok : {T E : Type 0} (r : Result T E) (o : Option T) (x : T) → is_some o ≡ is_ok r
    → o ≡ None → r ≡ Ok x → ⊥
refused_ok r o x same none ok = cc (sym (ap is_some none) ∙ (same ∙ ap is_ok ok))

-- a text writes one number
pub IsNumber-one : (text : List ℕ) (m n : ℕ) → IsNumber text m → IsNumber text n → m ≡ n
IsNumber-one text m n is other = decimal_injective m n (omega (arith, is.range)) (omega (arith, other.range)) (sym is.written ∙ other.written)

-- out of range is every number of a text that writes one which is
pub number_out : (least most : ℕ) (text : List ℕ) (m n : ℕ) → IsNumber text m → (m < least) ⊎ (most < m) → ¬ (IsNumberIn least most text n)
number_out least most text m n is (inl low) within = let same = IsNumber-one text m n is within.is in absurd (omega (arith, same, low, within.from))
number_out least most text m n is (inr high) within = let same = IsNumber-one text m n is within.is in absurd (omega (arith, same, high, within.to))
