-- The line that is written of a key names it.
use Rattle.std.proofs.Common.{◌≡◌, ◌∙◌, ◌+◌, ◌≤◌, ◌<◌, ◌^◌, ℕ, List, [], ◌∷◌, ◌++◌}
use Rattle.std.proofs.Common.{length, codes, refl, sym, ap}
use Rattle.std.proofs.Common.{subst, arith, true, false, cond, Ok}
use Rattle.std.specs.List.{filter, onto_first, slice_split}
use Rattle.std.specs.Fmt.{decimal}
use Rattle.std.specs.Char.{digit_value}
use Rattle.std.specs.Str.Parse.{AllDigits}
use Rattle.std.proofs.lemmas.Bool.Decides.{nat_tests}
use Rattle.std.proofs.lemmas.Fmt.{decimal_digit, decimal_is_IsNumeral, decimal_nonempty}
use Rattle.std.proofs.lemmas.List.Elements.{All-weaker}
use Rattle.std.proofs.lemmas.List.Splits.{slice_split-cons_no, slice_split-cons_yes, slice_split_none}
use Rattle.hex.specs.Hex.{IsBytes, encode_lower, is_hex_digit}
use Rattle.hex.proofs.HexLemmas.{decode_of-encode_lower, decode_of-ok, decode_sized-encode_lower}
use Rattle.ts_access.specs.Keys.{IsKeyLine, IsNode, IsRole, line_text, node_word, role_text, role_words}
use Rattle.ts_access.specs.Pieces.{has_octets, is_mark, words_of}
use Rattle.ts_access.specs.declared.key.Key.{Key}
use Rattle.ts_access.specs.declared.key.Role.{Role}
use Rattle.ts_access.specs.declared.key.Role.TheVariants.{Peer, Admin, Reader}
use Rattle.ts_access.specs.declared.piece.Mark.TheVariants.{Blank}

-- ---- octets that are no space and no tab

no_blank : (c : ℕ) → (c ≡ 32 → ⊥) → (c ≡ 9 → ⊥) → is_mark Blank c ≡ false
no_blank c space tab = grind (arith, nat_tests)

no_blank_digit : (c : ℕ) → digit_value c < 10 → is_mark Blank c ≡ false
no_blank_digit c h = no_blank c
    (λ e. let no : digit_value 32 < 10 = subst (λ x. digit_value x < 10) e h in omega (arith, no))
    (λ e. let no : digit_value 9 < 10 = subst (λ x. digit_value x < 10) e h in omega (arith, no))

no_blank_hex : (c : ℕ) → is_hex_digit c ≡ true → is_mark Blank c ≡ false
no_blank_hex c h = no_blank c
    (λ e. let no : is_hex_digit 32 ≡ true = subst (λ x. is_hex_digit x ≡ true) e h in cc no)
    (λ e. let no : is_hex_digit 9 ≡ true = subst (λ x. is_hex_digit x ≡ true) e h in cc no)

-- ---- words

has_some : (xs : List ℕ) → 0 < length xs → has_octets xs ≡ true
has_some [] some = absurd (omega (arith, some))
has_some (x ∷ xs) some = refl

kept : (x : List ℕ) (xs : List (List ℕ)) → has_octets x ≡ true
    → filter has_octets (x ∷ xs) ≡ x ∷ filter has_octets xs
kept x xs h = ap (λ b. cond b (x ∷ filter has_octets xs) (filter has_octets xs)) h

cut_digits : (digits rest : List ℕ) → AllDigits 10 digits
    → slice_split (is_mark Blank) (digits ++ 32 ∷ rest)
    ≡ digits ∷ slice_split (is_mark Blank) rest
cut_digits [] rest all = slice_split-cons_yes (is_mark Blank) 32 rest refl
cut_digits (d ∷ digits) rest all =
    slice_split-cons_no (is_mark Blank) d (digits ++ 32 ∷ rest) (no_blank_digit d all.0)
    ∙ ap (onto_first d) (cut_digits digits rest all.1)

cut_peer : (x : ℕ) (rest : List ℕ) → is_mark Blank x ≡ false
    → slice_split (is_mark Blank) (codes "peer " ++ x ∷ 32 ∷ rest)
    ≡ codes "peer" ∷ (x ∷ []) ∷ slice_split (is_mark Blank) rest
cut_peer x rest other = ap (λ (l : List (List ℕ)). codes "peer" ∷ l)
    (slice_split-cons_no (is_mark Blank) x (32 ∷ rest) other)

role_cut : (role : Role) (rest : List ℕ) → IsRole role
    → filter has_octets (slice_split (is_mark Blank) (role_text role ++ 32 ∷ rest))
    ≡ role_words role ++ filter has_octets (slice_split (is_mark Blank) rest)
role_cut (Peer node) rest is =
    let other : is_mark Blank (48 + node) ≡ false = no_blank (48 + node) (λ e. omega (arith, e))
    (λ e. omega (arith, e)) in
    let digit = decimal_digit node (omega (arith, is.1)) in
    ap (λ (d : List ℕ). filter has_octets (slice_split (is_mark Blank)
    ((codes "peer " ++ d) ++ 32 ∷ rest))) digit
    ∙ ap (λ (l : List (List ℕ)). filter has_octets l) (cut_peer (48 + node) rest other)
role_cut Admin rest is = refl
role_cut Reader rest is = refl

secret_word : (secret : List ℕ) → length (encode_lower secret) ≡ 64 → IsBytes secret
    → filter has_octets (slice_split (is_mark Blank) (encode_lower secret))
    ≡ encode_lower secret ∷ []
secret_word secret long bytes =
    let hex = encode_lower secret in
    let digits = (decode_of-ok hex secret (decode_of-encode_lower secret bytes)).1 in
    ap (λ (l : List (List ℕ)). filter has_octets l) (slice_split_none (is_mark Blank) hex
    (All-weaker (λ c. is_hex_digit c ≡ true) (λ c. is_mark Blank c ≡ false) no_blank_hex hex digits))
    ∙ kept hex [] (has_some hex (omega (arith, long)))

pub names_it : (key : Key) → key.id < 2 ^ 32 → IsRole key.role → length key.secret ≡ 32
    → IsBytes key.secret → IsKeyLine (line_text key) key
names_it key small role long bytes =
    let hex = encode_lower key.secret in
    let small_enough : key.id < 2 ^ 64 = omega (arith, small) in
    let size = (decode_of-ok hex key.secret (decode_of-encode_lower key.secret bytes)).2 in
    let rest = role_text key.role ++ 32 ∷ hex in
    record {
      id = decimal key.id;
      digits = hex;
      words = ap (λ (l : List (List ℕ)). filter has_octets l)
          (cut_digits (decimal key.id) rest (decimal_is_IsNumeral key.id small_enough).0.1)
          ∙ kept (decimal key.id) (slice_split (is_mark Blank) rest)
          (has_some (decimal key.id) (decimal_nonempty key.id small_enough))
          ∙ ap (λ (l : List (List ℕ)). decimal key.id ∷ l) (role_cut key.role hex role
          ∙ ap (λ (l : List (List ℕ)). role_words key.role ++ l)
          (secret_word key.secret (omega (arith, size, long)) bytes));
      number = record { written = refl; range = small };
      role = role;
      secret = decode_sized-encode_lower key.secret 32 long bytes;
    }
