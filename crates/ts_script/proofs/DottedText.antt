-- The dotted form of an object identifier is text: it has digits and dots alone.
use Rattle.std.proofs.Common.{◌≡◌, ◌∙◌, refl, ap, ℕ, ◌-◌, ◌+◌, ◌*◌, ◌^◌, ◌<◌, List, [], ◌∷◌, ◌++◌, Option, None, Some, Bool, true, false, not, ◌&&◌, eqb, ltb, cond, arith}
use Rattle.std.specs.List.{AllByRecursion}
use Rattle.std.specs.Option.{option_and_then}
use Rattle.std.specs.Char.{is_ascii_digit}
use Rattle.std.specs.Str.{IsUtf8}
use Rattle.std.proofs.lemmas.Bool.{eqb-true, and_parts}
use Rattle.std.proofs.lemmas.Bool.Decides.{nat_tests}
use Rattle.std.proofs.lemmas.Option.{option_and_then_some}
use Rattle.std.proofs.lemmas.Str.{IsUtf8-from_ascii}
use Rattle.std.proofs.lemmas.Str.Ascii.{IsAscii-from_all}
use Rattle.std.proofs.lemmas.List.Elements.{All-from_recursion}
use Rattle.ts_der.specs.inside.DottedReading.{arc_with, arcs_from, content_of, content_in}
use Rattle.ts_der.proofs.OidLaws.{content_read}
use Rattle.ts_script.specs.ExtensionWords.{IsText, IsDotted}

digit_small : (o : ℕ) → is_ascii_digit o ≡ true → o < 128
digit_small o h = grind (arith, nat_tests)

cond_true : (b : Bool) (n m : ℕ) → cond b (Some n) None ≡ Some m → b ≡ true
cond_true true n m is = refl
cond_true false n m is = absurd cc

-- an octet that makes an arc is a digit
arc_small : (arc : Option ℕ) (o n : ℕ) → arc_with arc o ≡ Some n → o < 128
arc_small None o n is = digit_small o (cond_true (is_ascii_digit o) (o - 48) n is)
arc_small (Some m) o n is =
    let digit = cond_true (is_ascii_digit o && not (eqb m 0) && ltb (10 * m + (o - 48)) (2 ^ 128)) (10 * m + (o - 48)) n is in
    let p = and_parts (is_ascii_digit o && not (eqb m 0)) (ltb (10 * m + (o - 48)) (2 ^ 128)) digit in
    let q = and_parts (is_ascii_digit o) (not (eqb m 0)) p.0 in
    digit_small o q.0

small_step : (P : Type 0) (o : ℕ) (b : Bool) (first second : Option (List ℕ)) (found : List ℕ) → eqb o 46 ≡ b → cond b first second ≡ Some found
    → (first ≡ Some found → P) → (second ≡ Some found → (o < 128) × P) → (o < 128) × P
small_step P o true first second found mark is dot digit = (let e = eqb-true o 46 mark in omega arith, dot is)
small_step P o false first second found mark is dot digit = digit is

-- what has arcs is ASCII
arcs_small : (ended : List ℕ) (arc : Option ℕ) (text found : List ℕ) → arcs_from ended arc text ≡ Some found → AllByRecursion (λ x. x < 128) text
unfolding arcs_from
arcs_small ended arc [] found is = tt
arcs_small ended arc (o ∷ os) found is =
    small_step (AllByRecursion (λ x. x < 128) os) o (eqb o 46) (option_and_then (λ n. arcs_from (ended ++ n ∷ []) None os) arc)
    (option_and_then (λ n. arcs_from ended (Some n) os) (arc_with arc o)) found refl is
    (λ dot. option_and_then_some (λ n. arcs_from (ended ++ n ∷ []) None os) arc found dot (λ n here more. arcs_small (ended ++ n ∷ []) None os found more))
    (λ digit. option_and_then_some (λ n. arcs_from ended (Some n) os) (arc_with arc o) found digit
    (λ n here more. (arc_small arc o n here, arcs_small ended (Some n) os found more)))

content_utf8 : (text content : List ℕ) → content_in text ≡ Some content → IsUtf8 text
unfolding content_in
content_utf8 text content is =
    option_and_then_some content_of (arcs_from [] None text) content is (λ numbers read found.
    IsUtf8-from_ascii text (IsAscii-from_all text (All-from_recursion (λ x. x < 128) text (arcs_small [] None text numbers read))))

pub IsDotted-IsText : (value content : List ℕ) → IsDotted value content → IsText value value
IsDotted-IsText value content is = record {
  written = refl;
  utf8 = content_utf8 value content (ap content_in is.written ∙ content_read content is.octets is.form);
}
