-- No two questions have the same octets, but where a hash stands for what is signed.
use Rattle.std.proofs.Common.{◌≡◌, ◌∙◌, ◌<◌, ◌^◌, ◌++◌, ◌∷◌, ℕ, List, [], Bool, true, false, cond, length, Option, Some, None, refl, sym, ap, subst}
use Rattle.ts_codec.specs.Parts.{blob32}
use Rattle.ts_codec.specs.Reading.{Reader, ◌>>=◌, lookup, ◌and◌, ◌into◌, blob32_at, by_kind}
use Rattle.ts_codec.proofs.Laws.{Part, one}
use Rattle.ts_codec.proofs.Rows.{recoded, and_part, kind_part, case, bare_case, parts_again}
use Rattle.ts_codec.proofs.Lists.{blob32_part}
use Rattle.ts_sig.specs.Key.{Key}
use Rattle.ts_check.specs.Native.{native_accepts}
use Rattle.ts_digest.specs.declared.hash.Hash.{Hash}
use Rattle.ts_digest.specs.Hash.{hash_of}
use Rattle.ts_sig.specs.Algorithm.{hash_named}
use Rattle.ts_check.proofs.OneHash.{one_hash}
use Rattle.ts_memo.specs.inside.Memo.{parameters_octets, text_octets, question_octets, StandsFor, IsShort, Asks, IsRight}

parameters_at : Reader (Option (List ℕ))
parameters_at = by_kind ((0, λ o. Some (None, o)) ∷ (1, blob32_at into Some) ∷ [])

flag_of : Option (List ℕ) → ℕ
flag_of None = 0
flag_of (Some p) = 1

after_flag : Option (List ℕ) → List ℕ
after_flag None = []
after_flag (Some p) = blob32 p

parameters_part : Part parameters_octets IsShort parameters_at
unfolding parameters_at flag_of after_flag
parameters_part = recoded (kind_part {kind_of = flag_of} {encode = after_flag} {Fit = IsShort} (record {
  cases = (bare_case None 0 refl tt refl, (case blob32_part Some 1 (λ p fit. (fit, refl, refl)), tt));
  again = again;
})) parameters_octets same
  where
    again : (p : Option (List ℕ)) (rest : List ℕ) → IsShort p → (lookup (flag_of p) ((0, λ o. Some (None, o)) ∷ (1, blob32_at into Some) ∷ []) >>= λ read. read (after_flag p ++ rest)) ≡ Some (p, rest)
    again None rest fit = refl
    again (Some p) rest fit = parts_again blob32_part Some p rest fit

    same : (p : Option (List ℕ)) → parameters_octets p ≡ flag_of p ∷ after_flag p
    same None = refl
    same (Some p) = refl

-- what stands for the signed octets
abbrev Text : Type 0
Text = Bool × List ℕ

texts : List (ℕ × Reader Text)
texts = (0, blob32_at into (λ o. (false, o))) ∷ (1, blob32_at into (λ o. (true, o))) ∷ []

text_at : Reader Text
text_at = by_kind texts

FitsText : Text → Type 0
FitsText t = length t.1 < 2 ^ 32

text_part : Part (λ t. text_octets t.0 t.1) FitsText text_at
unfolding text_at texts FitsText
text_part = recoded (kind_part {kind_of = λ t. cond t.0 1 0} {encode = λ t. blob32 t.1} {Fit = FitsText} (record {
  cases = (case blob32_part (λ o. (false, o)) 0 (λ o fit. (fit, refl, refl)), (case blob32_part (λ o. (true, o)) 1 (λ o fit. (fit, refl, refl)), tt));
  again = again;
})) (λ t. text_octets t.0 t.1) (λ t. refl)
  where
    again : (t : Text) (rest : List ℕ) → FitsText t → (lookup (cond t.0 1 0) texts >>= λ read. read (blob32 t.1 ++ rest)) ≡ Some (t, rest)
    again (false, o) rest fit = parts_again blob32_part (λ o. (false, o)) o rest fit
    again (true, o) rest fit = parts_again blob32_part (λ o. (true, o)) o rest fit

-- a question's parts in a row: those of `question_octets`
abbrev Row : Type 0
Row = List ℕ × (List ℕ × (Option (List ℕ) × (List ℕ × (List ℕ × Text))))

abbrev row : List ℕ → Key → Bool → List ℕ → List ℕ → Row
row algorithm key is_hash text signature = (algorithm, (key.algorithm, (key.parameters, (key.octets, (signature, (is_hash, text))))))

row_part : Part {A = Row} (λ x. blob32 x.0 ++ (blob32 x.1.0 ++ (parameters_octets x.1.1.0 ++ (blob32 x.1.1.1.0 ++ (blob32 x.1.1.1.1.0 ++ text_octets x.1.1.1.1.1.0 x.1.1.1.1.1.1)))))
    (λ x. (length x.0 < 2 ^ 32) × ((length x.1.0 < 2 ^ 32) × (IsShort x.1.1.0 × ((length x.1.1.1.0 < 2 ^ 32) × ((length x.1.1.1.1.0 < 2 ^ 32) × FitsText x.1.1.1.1.1)))))
    (blob32_at and (blob32_at and (parameters_at and (blob32_at and (blob32_at and text_at)))))
row_part = and_part blob32_part (and_part blob32_part (and_part parameters_part (and_part blob32_part (and_part blob32_part text_part))))

same_hash : (g h : Hash) → Some g ≡ Some h → g ≡ h
same_hash g h e = cc e

-- texts that stand for both have one answer
one_text : (algorithm : List ℕ) (key : Key) (a b signature : List ℕ) (is_hash : Bool) (text : List ℕ)
    → StandsFor algorithm a is_hash text → StandsFor algorithm b is_hash text
    → native_accepts algorithm key a signature ≡ native_accepts algorithm key b signature
one_text algorithm key a b signature false text s t =
    ap (λ (o : List ℕ). native_accepts algorithm key o signature) (sym s ∙ t)
one_text algorithm key a b signature true text s t =
    let g = same_hash s.0 t.0 (sym s.1 ∙ t.1) in
    let e : hash_of s.0 a ≡ hash_of s.0 b = sym s.2 ∙ t.2 ∙ ap (λ (h : Hash). hash_of h b) (sym g) in
    one_hash algorithm s.0 key a b signature s.1 e

abbrev key_of_row : Row → Key
key_of_row x = record { algorithm = x.1.0; parameters = x.1.1.0; octets = x.1.1.1.0 }

-- an answer to one question is the answer to whatever question has its octets
pub right : (question : List ℕ) (good : Bool) (algorithm : List ℕ) (key : Key) (signed signature : List ℕ)
    → Asks question algorithm key signed signature
    → good ≡ native_accepts algorithm key signed signature → IsRight question good
unfolding FitsText
right question good algorithm key signed signature asks answer a k o g other =
    let e = one row_part (row algorithm key asks.is_hash asks.text signature) (row a k other.is_hash other.text g)
    (asks.fits.by, (asks.fits.of_key, (asks.fits.parameters, (asks.fits.octets, (asks.fits.sealed, asks.fits.of_text)))))
    (other.fits.by, (other.fits.of_key, (other.fits.parameters, (other.fits.octets, (other.fits.sealed, other.fits.of_text)))))
    (sym asks.encoded ∙ other.encoded) in
    let stands = subst (λ (x : Row). StandsFor x.0 signed x.1.1.1.1.1.0 x.1.1.1.1.1.1) e asks.stands in
    answer ∙ ap (λ (x : Row). native_accepts x.0 (key_of_row x) signed x.1.1.1.1.0) e
    ∙ one_text a k signed o g other.is_hash other.text stands other.stands
