-- What words say of a list, they say in one way.
use Rattle.std.proofs.Common.{◌≡◌, ◌<◌, ◌∙◌, refl, sym, ap, subst, ℕ, ◌==◌, List, [], ◌∷◌, ◌++◌, get_or, Option, Some, None, MatchOption, Bool, true, false, cond, if◌then◌else◌, append_assoc, arith}
use Rattle.std.specs.List.{find}
use Rattle.std.proofs.lemmas.Bool.{eqb-true}
use Rattle.ts_ext.specs.declared.reason_code.ReasonCode.{ReasonCode}
use Rattle.ts_ext.specs.declared.reason_code.ReasonCode.TheVariants as reason
use Rattle.ts_ext.specs.Encoding.{reason_number}
use Rattle.ts_ext.specs.Table.{reasons, reason_of_number}
use Rattle.ts_make.specs.declared.crl_description.EntryText.{EntryText}
use Rattle.ts_make.specs.Told.{list_of}
use Rattle.ts_script.specs.declared.crl_words.CrlKeyword.{CrlKeyword}
use Rattle.ts_script.specs.declared.crl_words.CrlKeyword.TheVariants as keyword
use Rattle.ts_literal.specs.Literals.{IsNumber}
use Rattle.ts_script.specs.ExtensionWords.{IsText, IsDotted, IsNumbers}
use Rattle.ts_script.specs.CrlLineWords.{CrlPart, revoked, numbered, based, some_reasons, at_uri}
use Rattle.ts_script.specs.CrlLineWords.{critical_unknown, crl_keyword_text, IsReason, IsEntry}
use Rattle.ts_script.specs.CrlLineWords.{SaysPart, SaysCrl, IsCrlWord, AreCrlWords, Fields, Gather}
use Rattle.ts_script.specs.CrlLineWords.{AreFields}
use Rattle.ts_script.proofs.OneParts.{one_number, one_numbers, one_text, one_oid}

append_cancel : (xs v w : List ℕ) → xs ++ v ≡ xs ++ w → v ≡ w
append_cancel [] v w e = e
append_cancel (x ∷ xs) v w e = append_cancel xs v w (cc)

-- a word begins with one keyword, after which one value stands
pub record CrlCut (k l : CrlKeyword) (v w : List ℕ) : Type 0 where
  pub keyword : k ≡ l
  pub value : v ≡ w

-- the keyword of a first octet
abbrev keyword_from : ℕ → Option CrlKeyword
keyword_from n =
    if n == 101 then Some keyword.Entry
    else (if n == 110 then Some keyword.Number
    else (if n == 98 then Some keyword.Base
    else (if n == 114 then Some keyword.Reasons
    else (if n == 117 then Some keyword.Uri
    else (if n == 99 then Some keyword.Critical
    else None)))))

begins : (k : CrlKeyword) (v : List ℕ) → keyword_from (get_or (crl_keyword_text k ++ v) 0 0) ≡ Some k
begins keyword.Entry v = refl
begins keyword.Number v = refl
begins keyword.Base v = refl
begins keyword.Reasons v = refl
begins keyword.Uri v = refl
begins keyword.Critical v = refl

one_behind_keyword : (k : CrlKeyword) (v w : List ℕ) → crl_keyword_text k ++ v ≡ crl_keyword_text k ++ w → v ≡ w
one_behind_keyword k v w e = append_cancel (crl_keyword_text k) v w e

pub crl_cut : (k l : CrlKeyword) (v w : List ℕ) → crl_keyword_text k ++ v ≡ crl_keyword_text l ++ w → CrlCut k l v w
crl_cut k l v w e =
    let found = sym (begins k v) ∙ (ap (λ (xs : List ℕ). keyword_from (get_or xs 0 0)) e ∙ begins l w) in
    let one : k ≡ l = cc in
    record { keyword = one; value = one_behind_keyword l v w (subst (λ (m : CrlKeyword). crl_keyword_text m ++ v ≡ crl_keyword_text l ++ w) one e) }

-- such a word says what its value says after its keyword, and nothing else
pub crl_word_says : (word : List ℕ) (k : CrlKeyword) (v : List ℕ) (part : CrlPart) → word ≡ crl_keyword_text k ++ v → IsCrlWord word part → SaysCrl k v part
crl_word_says word k v part is said =
    let one = crl_cut said.keyword k said.value v (sym said.written ∙ is) in
    subst (λ (l : CrlKeyword). SaysCrl l v part) one.keyword (subst (λ (w : List ℕ). SaysCrl said.keyword w part) one.value said.says)

-- reasons have numbers of their own
reason_found : (r : ReasonCode) → reason_of_number (reason_number r) ≡ Some r
unfolding reason_of_number
reason_found reason.Unspecified = refl
reason_found reason.KeyCompromise = refl
reason_found reason.CaCompromise = refl
reason_found reason.AffiliationChanged = refl
reason_found reason.Superseded = refl
reason_found reason.CessationOfOperation = refl
reason_found reason.CertificateHold = refl
reason_found reason.RemoveFromCrl = refl
reason_found reason.PrivilegeWithdrawn = refl
reason_found reason.AaCompromise = refl

-- and each takes one octet
reason_small : (r : ReasonCode) → reason_number r < 256
reason_small reason.Unspecified = omega arith
reason_small reason.KeyCompromise = omega arith
reason_small reason.CaCompromise = omega arith
reason_small reason.AffiliationChanged = omega arith
reason_small reason.Superseded = omega arith
reason_small reason.CessationOfOperation = omega arith
reason_small reason.CertificateHold = omega arith
reason_small reason.RemoveFromCrl = omega arith
reason_small reason.PrivilegeWithdrawn = omega arith
reason_small reason.AaCompromise = omega arith

-- what a search finds passes its test
finds : (p : ReasonCode → Bool) (xs : List ReasonCode) (x : ReasonCode) → find p xs ≡ Some x → p x ≡ true
finds p [] x e = absurd cc
finds p (y ∷ ys) x e = by_test (p y) refl (finds p ys x) e
  where
    by_test : (b : Bool) → p y ≡ b → (find p ys ≡ Some x → p x ≡ true) → cond b (Some y) (find p ys) ≡ Some x → p x ≡ true
    by_test true t later e = let same : y ≡ x = cc in subst (λ (z : ReasonCode). p z ≡ true) same t
    by_test false t later e = later e

-- a reason that is found by its number has it
reason_is : (n : ℕ) (r : ReasonCode) → reason_of_number n ≡ Some r → reason_number r ≡ n
unfolding reason_of_number
reason_is n r e = eqb-true (reason_number r) n (finds (λ s. reason_number s == n) reasons r e)

-- a number is that of one reason, or of none
pub reason_read : (value : List ℕ) (n : ℕ) (o : Option ReasonCode) → IsNumber value n → o ≡ reason_of_number n
    → MatchOption o ((r : ReasonCode) → ¬ (IsReason value r)) (IsReason value)
reason_read value n None is e = λ r stands.
    let same = one_number value n (reason_number r) is stands in
    cc (e ∙ (ap reason_of_number same ∙ reason_found r))
reason_read value n (Some r) is e = subst (IsNumber value) (sym (reason_is n r (sym e))) is

-- a number that takes more than one octet is that of none
pub reason_great : (value : List ℕ) (n : ℕ) → IsNumber value n → ¬ (n < 256) → (r : ReasonCode) → ¬ (IsReason value r)
reason_great value n is great r stands =
    let same = one_number value n (reason_number r) is stands in
    great (subst (λ (m : ℕ). m < 256) (sym same) (reason_small r))

pub one_reason : (value : List ℕ) (r s : ReasonCode) → IsReason value r → IsReason value s → r ≡ s
one_reason value r s is other =
    let same = one_number value (reason_number r) (reason_number s) is other in
    let found = sym (reason_found r) ∙ (ap reason_of_number same ∙ reason_found s) in
    cc

pub one_entry : (value : List ℕ) (x y : EntryText) → IsEntry value x → IsEntry value y → x ≡ y
one_entry value x y is other =
    let pieces = sym is.pieces ∙ other.pieces in
    let left : is.left ≡ other.left = cc in
    let right : is.right ≡ other.right = cc in
    let serial = one_number other.left x.serial y.serial (subst (λ (v : List ℕ). IsNumber v x.serial) left is.serial) other.serial in
    let reason = one_reason other.right x.reason y.reason (subst (λ (v : List ℕ). IsReason v x.reason) right is.reason) other.reason in
    rw (serial, reason) refl

one_value : {T : Type 0} (Is : List ℕ → T → Type 0) (part : T → CrlPart) (value : List ℕ) (p q : CrlPart)
    → ((x y : T) → Is value x → Is value y → x ≡ y) → SaysPart Is part value p → SaysPart Is part value q → p ≡ q
one_value Is part value p q one is other = let same = one is.0 other.0 is.1 other.1 in is.2 ∙ (ap part same ∙ sym other.2)

one_crl_value : (k : CrlKeyword) (value : List ℕ) (p q : CrlPart) → SaysCrl k value p → SaysCrl k value q → p ≡ q
one_crl_value keyword.Entry value p q is other = one_value IsEntry revoked value p q (one_entry value) is other
one_crl_value keyword.Number value p q is other = one_value IsNumber numbered value p q (one_number value) is other
one_crl_value keyword.Base value p q is other = one_value IsNumber based value p q (one_number value) is other
one_crl_value keyword.Reasons value p q is other = one_value IsNumbers some_reasons value p q (one_numbers value) is other
one_crl_value keyword.Uri value p q is other = one_value IsText at_uri value p q (one_text value) is other
one_crl_value keyword.Critical value p q is other = one_value IsDotted critical_unknown value p q (one_oid value) is other

pub one_crl_word : (word : List ℕ) (p q : CrlPart) → IsCrlWord word p → IsCrlWord word q → p ≡ q
one_crl_word word p q is other = one_crl_value other.keyword other.value p q (crl_word_says word other.keyword other.value p other.written is) other.says

pub one_crl_words : (words : List (List ℕ)) (xs ys : List CrlPart) → AreCrlWords words xs → AreCrlWords words ys → xs ≡ ys
one_crl_words [] xs ys is other = is ∙ sym other
one_crl_words (word ∷ words) xs ys is other =
    let first = one_crl_word word is.0 other.0 is.2 other.2 in
    let rest = one_crl_words words is.1 other.1 is.3 other.3 in
    cc

one_of : (a b : Option ℕ) → list_of a ≡ list_of b → a ≡ b
one_of None None e = refl
one_of (Some x) (Some y) e = cc
one_of None (Some y) e = absurd cc
one_of (Some x) None e = absurd cc

same_fields : (f g : Fields) → f.entries ≡ g.entries → f.number ≡ g.number → f.base ≡ g.base → f.reasons ≡ g.reasons → f.uris ≡ g.uris → f.critical ≡ g.critical → f ≡ g
same_fields f g entries number base reasons uris critical = rw (entries, number, base, reasons, uris, critical) refl

-- and the fields in which it gathers are one
pub one_fields : (words : List (List ℕ)) (f g : Fields) → AreFields words f → AreFields words g → f ≡ g
one_fields words f g is other =
    let parts = one_crl_words words is.parts other.parts is.said other.said in
    let gather = subst (λ (ps : List CrlPart). Gather ps f) parts is.gather in
    same_fields f g (gather.entries ∙ sym other.gather.entries) (one_of f.number g.number (gather.number ∙ sym other.gather.number))
    (one_of f.base g.base (gather.base ∙ sym other.gather.base))
    (gather.reasons ∙ sym other.gather.reasons) (gather.uris ∙ sym other.gather.uris) (gather.critical ∙ sym other.gather.critical)

-- words say the parts that were read of the first ones, and those that the words say that are left
pub record CrlReadsOn (words : List (List ℕ)) (parts : List CrlPart) (left : List (List ℕ)) : Type 0 where
  pub back : (more : List CrlPart) → AreCrlWords left more → AreCrlWords words (parts ++ more)
  pub on : (all : List CrlPart) → AreCrlWords words all → (more : List CrlPart) × AreCrlWords left more × (all ≡ parts ++ more)

pub CrlReadsOn-start : (words : List (List ℕ)) → CrlReadsOn words [] words
CrlReadsOn-start words = record { back = λ more are. are; on = λ all are. (all, are, refl) }

pub CrlReadsOn-next : (words left behind : List (List ℕ)) (word : List ℕ) (parts : List CrlPart) (first : CrlPart) → left ≡ word ∷ behind
    → IsCrlWord word first → CrlReadsOn words parts left → CrlReadsOn words (parts ++ first ∷ []) behind
CrlReadsOn-next words left behind word parts first is says reads = record {
  back = λ more are. subst (AreCrlWords words) (sym (append_assoc parts (first ∷ []) more))
      (reads.back (first ∷ more)
      (subst (λ (ws : List (List ℕ)). AreCrlWords ws (first ∷ more)) (sym is)
      (first, more, says, are, refl)));
  on = λ all are.
      let found = reads.on all are in
      let here = subst (λ (ws : List (List ℕ)). AreCrlWords ws found.0) is found.1 in
      let same = one_crl_word word here.0 first here.2 says in
      (here.1, here.3, found.2 ∙ (ap (λ (ps : List CrlPart). parts ++ ps) here.4 ∙ (ap (λ (p : CrlPart). parts ++ (p ∷ here.1)) same ∙ sym (append_assoc parts (first ∷ []) here.1))));
}

pub CrlReadsOn-stops : (words left behind : List (List ℕ)) (word : List ℕ) (parts : List CrlPart) → left ≡ word ∷ behind
    → ((said : CrlPart) → ¬ (IsCrlWord word said)) → CrlReadsOn words parts left → (all : List CrlPart) → ¬ (AreCrlWords words all)
CrlReadsOn-stops words left behind word parts is none reads all are =
    let found = reads.on all are in
    let here = subst (λ (ws : List (List ℕ)). AreCrlWords ws found.0) is found.1 in
    none here.0 here.2
