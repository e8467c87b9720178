-- What words say of extensions, they say in one way.
use Rattle.std.proofs.Common.{◌≡◌, ◌∙◌, refl, sym, ap, subst, ℕ, ◌<◌, ◌^◌, List, [], ◌∷◌, map, Option, Some, None, arith}
use Rattle.std.specs.Fmt.{decimal}
use Rattle.std.specs.List.{AllByRecursion}
use Rattle.std.proofs.lemmas.Fmt.{decimal_injective}
use Rattle.ts_der.specs.inside.DottedReading.{content_in}
use Rattle.ts_der.proofs.OidLaws.{content_read}
use Rattle.ts_script.specs.declared.keyword.NameKind.{NameKind}
use Rattle.ts_script.specs.declared.keyword.NameKind.TheVariants.{Dns, Ip, Mail}
use Rattle.ts_script.specs.declared.keyword.Keyword.{Keyword}
use Rattle.ts_script.specs.declared.keyword.Keyword.TheVariants.{KeyUsage, SubjectAltName}
use Rattle.ts_script.specs.declared.keyword.Keyword.TheVariants.{BasicConstraints, PermittedSubtree}
use Rattle.ts_script.specs.declared.keyword.Keyword.TheVariants.{ExcludedSubtree, DistributionPoint}
use Rattle.ts_script.specs.declared.keyword.Keyword.TheVariants.{Policy, PolicyMapping}
use Rattle.ts_script.specs.declared.keyword.Keyword.TheVariants.{RequireExplicitPolicy}
use Rattle.ts_script.specs.declared.keyword.Keyword.TheVariants.{InhibitPolicyMapping, KeyPurpose}
use Rattle.ts_script.specs.declared.keyword.Keyword.TheVariants.{InhibitAnyPolicy, Critical}
use Rattle.ts_literal.specs.Literals.{IsNumber}
use Rattle.ts_script.specs.Words.{IsHex}
use Rattle.ts_script.specs.Parts.{Part, PartName, usage_bit}
use Rattle.ts_script.specs.ExtensionWords.{IsText, IsDotted, IsNumbers, IsNameValue, Says, SaysValue, SaysWith, IsWord, AreWords, AreParts}
use Rattle.ts_script.proofs.Encoding.{IsHex-decoded, IsHex-one}
use Rattle.ts_script.proofs.Keywords.{cut_of}

pub one_number : (word : List ℕ) (m n : ℕ) → IsNumber word m → IsNumber word n → m ≡ n
one_number word m n is other = decimal_injective m n (omega (arith, is.range)) (omega (arith, other.range)) (sym is.written ∙ other.written)

pub one_hex : (word xs ys : List ℕ) → IsHex word xs → IsHex word ys → xs ≡ ys
one_hex word xs ys is other = IsHex-one word xs ys is (IsHex-decoded word ys other)

pub one_text : (value xs ys : List ℕ) → IsText value xs → IsText value ys → xs ≡ ys
one_text value xs ys is other = sym is.written ∙ other.written

pub one_oid : (value xs ys : List ℕ) → IsDotted value xs → IsDotted value ys → xs ≡ ys
one_oid value xs ys is other =
    let read = content_read xs is.octets is.form in
    let again = content_read ys other.octets other.form in
    let same = ap content_in (sym is.written ∙ other.written) in
    cc

numbers_same : (xs ys : List ℕ) → map decimal xs ≡ map decimal ys → AllByRecursion (λ n. n < 2 ^ 32) xs → AllByRecursion (λ n. n < 2 ^ 32) ys → xs ≡ ys
numbers_same [] [] e is also = refl
numbers_same [] (y ∷ ys) e is also = absurd cc
numbers_same (x ∷ xs) [] e is also = absurd cc
numbers_same (x ∷ xs) (y ∷ ys) e is also =
    let first = decimal_injective x y (let low : x < 2 ^ 32 = is.0 in omega arith) (let low : y < 2 ^ 32 = also.0 in omega arith) (cc) in
    let rest = numbers_same xs ys (cc) is.1 also.1 in
    cc

pub one_numbers : (value xs ys : List ℕ) → IsNumbers value xs → IsNumbers value ys → xs ≡ ys
one_numbers value xs ys is other = numbers_same xs ys (sym is.pieces ∙ other.pieces) is.ranges other.ranges

one_name : (kind : NameKind) (value : List ℕ) (m n : PartName) → IsNameValue kind value m → IsNameValue kind value n → m ≡ n
one_name Dns value m n is other = let same = one_text value is.0 other.0 is.1 other.1 in is.2 ∙ (rw same (sym other.2))
one_name Ip value m n is other = let same = one_hex value is.0 other.0 is.1 other.1 in is.2 ∙ (rw same (sym other.2))
one_name Mail value m n is other = let same = one_text value is.0 other.0 is.1 other.1 in is.2 ∙ (rw same (sym other.2))

-- one part is said by a value of a form that has one reading
one_part : {T : Type 0} (Is : List ℕ → T → Type 0) (part : T → Part) (value : List ℕ) (xs ys : List Part)
    → ((x y : T) → Is value x → Is value y → x ≡ y) → Says Is part value xs → Says Is part value ys → xs ≡ ys
one_part Is part value xs ys one is other = let same = one is.0 other.0 is.1 other.1 in is.2 ∙ (ap (λ x. part x ∷ []) same ∙ sym other.2)

one_mapping : (value : List ℕ) (xs ys : List Part) → SaysValue PolicyMapping value xs → SaysValue PolicyMapping value ys → xs ≡ ys
one_mapping value xs ys is other =
    let pieces = sym is.2.pieces ∙ other.2.pieces in
    let left : is.2.left ≡ other.2.left = cc in
    let right : is.2.right ≡ other.2.right = cc in
    let issuer = one_oid other.2.left is.0 other.0 (subst (λ (v : List ℕ). IsDotted v is.0) left is.2.from) other.2.from in
    let subject = one_oid other.2.right is.1 other.1 (subst (λ (v : List ℕ). IsDotted v is.1) right is.2.to) other.2.to in
    cc

one_value : (keyword : Keyword) (value : List ℕ) (xs ys : List Part) → SaysValue keyword value xs → SaysValue keyword value ys → xs ≡ ys
one_value KeyUsage value xs ys is other =
    is.2 ∙ (ap (λ (numbers : List ℕ). map usage_bit numbers) (one_numbers value is.0 other.0 is.1 other.1) ∙ sym other.2)
one_value (SubjectAltName kind) value xs ys is other = one_part (IsNameValue kind) _ value xs ys (one_name kind value) is other
one_value BasicConstraints value xs ys is other = one_part IsNumber _ value xs ys (one_number value) is other
one_value (PermittedSubtree kind) value xs ys is other = one_part (IsNameValue kind) _ value xs ys (one_name kind value) is other
one_value (ExcludedSubtree kind) value xs ys is other = one_part (IsNameValue kind) _ value xs ys (one_name kind value) is other
one_value DistributionPoint value xs ys is other = one_part IsText _ value xs ys (one_text value) is other
one_value Policy value xs ys is other = one_part IsDotted _ value xs ys (one_oid value) is other
one_value PolicyMapping value xs ys is other = one_mapping value xs ys is other
one_value RequireExplicitPolicy value xs ys is other = one_part IsNumber _ value xs ys (one_number value) is other
one_value InhibitPolicyMapping value xs ys is other = one_part IsNumber _ value xs ys (one_number value) is other
one_value KeyPurpose value xs ys is other = one_part IsDotted _ value xs ys (one_oid value) is other
one_value InhibitAnyPolicy value xs ys is other = one_part IsNumber _ value xs ys (one_number value) is other
one_value Critical value xs ys is other = one_part IsDotted _ value xs ys (one_oid value) is other

one_said : (keyword : Keyword) (value : Option (List ℕ)) (xs ys : List Part) → SaysWith keyword value xs → SaysWith keyword value ys → xs ≡ ys
one_said keyword None xs ys is other = is.1 ∙ sym other.1
one_said keyword (Some value) xs ys is other = one_value keyword value xs ys is other

-- a word says one list of parts
pub one_word_said : (word : List ℕ) (xs ys : List Part) → IsWord word xs → IsWord word ys → xs ≡ ys
one_word_said word xs ys is other =
    let cut = cut_of word is.keyword other.keyword is.value other.value is.written other.written in
    one_said other.keyword other.value xs ys
    (subst (λ (k : Keyword). SaysWith k other.value xs) cut.keyword (subst (λ (v : Option (List ℕ)). SaysWith is.keyword v xs) cut.value is.says)) other.says

-- and so do words
pub one_words_said : (words : List (List ℕ)) (xs ys : List Part) → AreWords words xs → AreWords words ys → xs ≡ ys
one_words_said [] xs ys is other = is ∙ sym other
one_words_said (word ∷ words) xs ys is other =
    let first = one_word_said word is.0 other.0 is.2 other.2 in
    let rest = one_words_said words is.1 other.1 is.3 other.3 in
    cc

pub one_parts : (words : List (List ℕ)) (xs ys : List Part) → AreParts words xs → AreParts words ys → xs ≡ ys
one_parts words xs ys is other = one_words_said words xs ys is.said other.said
