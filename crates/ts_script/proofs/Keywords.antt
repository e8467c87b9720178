-- Words are cut after their keywords in one way.
use Rattle.std.proofs.Common.{◌≡◌, ◌≢◌, ◌∙◌, refl, sym, ap, subst, ℕ, List, [], ◌∷◌, ◌++◌, Option, Some, None, MatchOption, Bool, true, false, not, ◌&&◌, eqb, cond}
use Rattle.std.specs.List.{join_with_byte, list_all, onto_first}
use Rattle.std.specs.Str.{bytes_eq}
use Rattle.std.proofs.lemmas.Slice.Eq.{bytes_eq-Decides}
use Rattle.std.proofs.lemmas.List.Splits.{join_with_byte-slice_split}
use Rattle.ts_script.specs.declared.keyword.NameKind.TheVariants.{Dns, Ip, Mail}
use Rattle.ts_script.specs.declared.keyword.Keyword.{Keyword}
use Rattle.ts_script.specs.declared.keyword.Keyword.TheVariants.{KeyUsage, SubjectAltName}
use Rattle.ts_script.specs.declared.keyword.Keyword.TheVariants.{BasicConstraints, PermittedSubtree}
use Rattle.ts_script.specs.declared.keyword.Keyword.TheVariants.{ExcludedSubtree, DistributionPoint}
use Rattle.ts_script.specs.declared.keyword.Keyword.TheVariants.{Policy, PolicyMapping}
use Rattle.ts_script.specs.declared.keyword.Keyword.TheVariants.{RequireExplicitPolicy}
use Rattle.ts_script.specs.declared.keyword.Keyword.TheVariants.{InhibitPolicyMapping, KeyPurpose}
use Rattle.ts_script.specs.declared.keyword.Keyword.TheVariants.{InhibitAnyPolicy, Critical}
use Rattle.ts_script.specs.declared.keyword.TheConstants.{KEYWORDS}
use Rattle.ts_script.specs.Pieces.{pieces_of, pieces_behind}
use Rattle.ts_script.specs.Parts.{Part}
use Rattle.ts_script.specs.ExtensionWords.{keyword_text, value_text, keyword_named, SaysWith, IsWord}
use Rattle.ts_script.proofs.Cutting.{pieces_some}

-- what is seen of a keyword: it is found by its text, in which no `=` stands
record IsFound (k : Keyword) : Type 0 where
  pub named : keyword_named KEYWORDS (keyword_text k) ≡ Some k
  pub clean : list_all (λ x. not (eqb x 61)) (keyword_text k) ≡ true

is_found : (k : Keyword) → IsFound k
is_found KeyUsage = record { named = refl; clean = refl }
is_found (SubjectAltName Dns) = record { named = refl; clean = refl }
is_found (SubjectAltName Ip) = record { named = refl; clean = refl }
is_found (SubjectAltName Mail) = record { named = refl; clean = refl }
is_found BasicConstraints = record { named = refl; clean = refl }
is_found (PermittedSubtree Dns) = record { named = refl; clean = refl }
is_found (PermittedSubtree Ip) = record { named = refl; clean = refl }
is_found (PermittedSubtree Mail) = record { named = refl; clean = refl }
is_found (ExcludedSubtree Dns) = record { named = refl; clean = refl }
is_found (ExcludedSubtree Ip) = record { named = refl; clean = refl }
is_found (ExcludedSubtree Mail) = record { named = refl; clean = refl }
is_found DistributionPoint = record { named = refl; clean = refl }
is_found Policy = record { named = refl; clean = refl }
is_found PolicyMapping = record { named = refl; clean = refl }
is_found RequireExplicitPolicy = record { named = refl; clean = refl }
is_found InhibitPolicyMapping = record { named = refl; clean = refl }
is_found KeyPurpose = record { named = refl; clean = refl }
is_found InhibitAnyPolicy = record { named = refl; clean = refl }
is_found Critical = record { named = refl; clean = refl }

-- so a text that is found nowhere is none of a keyword
pub not_named : (text : List ℕ) → keyword_named KEYWORDS text ≡ None → (k : Keyword) → text ≢ keyword_text k
not_named text none k is = let found = is_found k in cc (sym none ∙ (ap (keyword_named KEYWORDS) is ∙ found.named))

-- and one that is found is written so
named_step : (encoded text : List ℕ) (first k : Keyword) (others : Option Keyword) (b : Bool) → encoded ≡ keyword_text first → bytes_eq encoded text ≡ b
    → cond b (Some first) others ≡ Some k → (others ≡ Some k → text ≡ keyword_text k) → text ≡ keyword_text k
named_step encoded text first k others true encodes same is more =
    let one : first ≡ k = cc in
    sym ((bytes_eq-Decides encoded text).0 same) ∙ (encodes ∙ ap keyword_text one)
named_step encoded text first k others false encodes same is more = more is

named_is : (ks : List Keyword) (text : List ℕ) (k : Keyword) → keyword_named ks text ≡ Some k → text ≡ keyword_text k
named_is [] text k is = absurd cc
named_is (first ∷ ks) text k is = named_step (keyword_text first) text first k (keyword_named ks text) (bytes_eq (keyword_text first) text) refl refl is (named_is ks text k)

pub named_or_none : (text : List ℕ) (o : Option Keyword) → o ≡ keyword_named KEYWORDS text
    → MatchOption o ((k : Keyword) → text ≢ keyword_text k) (λ k. text ≡ keyword_text k)
named_or_none text None is = not_named text (sym is)
named_or_none text (Some k) is = named_is KEYWORDS text k (sym is)

pub one_keyword : (k l : Keyword) → keyword_text k ≡ keyword_text l → k ≡ l
one_keyword k l same =
    let found = is_found k in
    let again = is_found l in
    let e = sym found.named ∙ (ap (keyword_named KEYWORDS) same ∙ again.named) in
    cc

-- where no mark stands, the first piece goes on
cut_step : (x : ℕ) (xs : List ℕ) (pieces rest : List (List ℕ)) (b clean : Bool) → (not b && clean) ≡ true → (clean ≡ true → pieces ≡ xs ∷ rest)
    → cond b ([] ∷ pieces) (onto_first x pieces) ≡ (x ∷ xs) ∷ rest
cut_step x xs pieces rest true clean h is = absurd cc
cut_step x xs pieces rest false clean h is = ap (onto_first x) (is h)

cut_behind : (mark : ℕ) (xs tail : List ℕ) (rest : List (List ℕ)) → list_all (λ x. not (eqb x mark)) xs ≡ true → pieces_of mark tail ≡ [] ∷ rest
    → pieces_of mark (xs ++ tail) ≡ xs ∷ rest
cut_behind mark [] tail rest clean is = is
cut_behind mark (x ∷ xs) tail rest clean is =
    cut_step x xs (pieces_of mark (xs ++ tail)) rest (eqb x mark) (list_all (λ y. not (eqb y mark)) xs) clean (λ h. cut_behind mark xs tail rest h is)

value_cut : (v : Option (List ℕ)) → pieces_of 61 (value_text v) ≡ [] ∷ pieces_behind 61 v
value_cut None = refl
value_cut (Some v) = refl

pub keyword_cut : (k : Keyword) (v : Option (List ℕ)) → pieces_of 61 (keyword_text k ++ value_text v) ≡ keyword_text k ∷ pieces_behind 61 v
keyword_cut k v = let found = is_found k in cut_behind 61 (keyword_text k) (value_text v) (pieces_behind 61 v) found.clean (value_cut v)

-- pieces are those of one list of octets
pub one_whole : (mark : ℕ) (xs ys : List ℕ) → pieces_of mark xs ≡ pieces_of mark ys → xs ≡ ys
one_whole mark xs ys same =
    sym (join_with_byte-slice_split mark xs) ∙ (ap (join_with_byte mark) same ∙ join_with_byte-slice_split mark ys)

pub one_behind : (mark : ℕ) (a b : Option (List ℕ)) → pieces_behind mark a ≡ pieces_behind mark b → a ≡ b
one_behind mark None None same = refl
one_behind mark None (Some y) same = absurd (pieces_some mark y (sym same))
one_behind mark (Some x) None same = absurd (pieces_some mark x same)
one_behind mark (Some x) (Some y) same = ap Some (one_whole mark x y same)

-- a word has one keyword, and one value
pub record Cut (k l : Keyword) (v w : Option (List ℕ)) : Type 0 where
  pub keyword : k ≡ l
  pub value : v ≡ w

pub cut_of : (word : List ℕ) (k l : Keyword) (v w : Option (List ℕ)) → word ≡ keyword_text k ++ value_text v → word ≡ keyword_text l ++ value_text w → Cut k l v w
cut_of word k l v w is other =
    let same = sym (keyword_cut k v) ∙ (ap (pieces_of 61) (sym is ∙ other) ∙ keyword_cut l w) in
    let text : keyword_text k ≡ keyword_text l = cc in
    let behind : pieces_behind 61 v ≡ pieces_behind 61 w = cc in
    record { keyword = one_keyword k l text; value = one_behind 61 v w behind }

-- a word that is cut so is written so
pub cut_written : (word name : List ℕ) (k : Keyword) (v : Option (List ℕ)) → pieces_of 61 word ≡ name ∷ pieces_behind 61 v → name ≡ keyword_text k
    → word ≡ keyword_text k ++ value_text v
cut_written word name k v cut is = one_whole 61 word (keyword_text k ++ value_text v) (cut ∙ (ap (λ (n : List ℕ). n ∷ pieces_behind 61 v) is ∙ sym (keyword_cut k v)))

-- such a word says what its value says after its keyword
pub word_said : (word name : List ℕ) (k : Keyword) (v : Option (List ℕ)) (parts : List Part) → pieces_of 61 word ≡ name ∷ pieces_behind 61 v
    → name ≡ keyword_text k → SaysWith k v parts → IsWord word parts
word_said word name k v parts cut is says = record { keyword = k; value = v; written = cut_written word name k v cut is; says = says }

-- and nothing else
pub word_says : (word name : List ℕ) (k : Keyword) (v : Option (List ℕ)) (parts : List Part) → pieces_of 61 word ≡ name ∷ pieces_behind 61 v
    → name ≡ keyword_text k → IsWord word parts → SaysWith k v parts
word_says word name k v parts cut is said =
    let one = cut_of word said.keyword k said.value v said.written (cut_written word name k v cut is) in
    subst (λ (l : Keyword). SaysWith l v parts) one.keyword (subst (λ (w : Option (List ℕ)). SaysWith said.keyword w parts) one.value said.says)

-- a word whose first piece is no keyword says nothing
pub no_word : (word name : List ℕ) (v : Option (List ℕ)) (parts : List Part) → pieces_of 61 word ≡ name ∷ pieces_behind 61 v
    → ((k : Keyword) → name ≢ keyword_text k) → ¬ (IsWord word parts)
no_word word name v parts cut none said =
    let same = sym cut ∙ (ap (pieces_of 61) said.written ∙ keyword_cut said.keyword said.value) in
    let first : name ≡ keyword_text said.keyword = cc in
    none said.keyword first
