-- How long questions are at most.
use Rattle.std.proofs.Common.{◌≡◌, ℕ, ◌^◌, ◌<◌, ◌≤◌, ◌&&◌, true, List, ◌++◌, length, Option, Some, None, arith, length-append}
use Rattle.std.specs.Prelude.{nat_le, IfSome}
use Rattle.std.specs.List.{list_all}
use Rattle.std.specs.Int.{w32, to_be_bytes}
use Rattle.std.proofs.lemmas.Bool.{leb-true}
use Rattle.ts_der.specs.ObjectIdentifier.{is_oid}
use Rattle.ts_question.specs.declared.question.Target.{Target}
use Rattle.ts_question.specs.declared.question.Target.TheVariants.{Chain, Search, Store, Log}
use Rattle.ts_question.specs.declared.terms.Terms.{Terms}
use Rattle.ts_codec.specs.Parts.{blob8, blob16, blob32, optional}
use Rattle.ts_codec.proofs.Truths.{first_true, second_true, each_true, few_octets}
use Rattle.ts_codec.proofs.Lengths.{parts_short, oids_short}
use Rattle.ts_question.specs.Question.{StoreQuestion, are_subtrees, are_terms, are_certificates}
use Rattle.ts_question.specs.Question.{is_target, policies_encoding, subtrees_encoding}
use Rattle.ts_question.specs.Question.{certificates_encoding, terms_encoding, target_encoding}
use Rattle.ts_question.specs.Question.{TermsFit, TargetFits}
use Rattle.ts_question.specs.Question.{question_encoding as question_octets, QuestionFits}
use Rattle.ts_question.proofs.Fields.{within_parts}

optional_short : {A : Type 0} (encode : A → List ℕ) (most : ℕ) (x : Option A) → IfSome x (λ y. length (encode y) ≤ most) → length (optional encode x) ≤ most
optional_short encode most None short = omega arith
optional_short encode most (Some y) short = short

subtrees_short : (xs : List (List ℕ)) → are_subtrees xs ≡ true → length (subtrees_encoding xs) ≤ 4194500
subtrees_short xs good =
    let n : length xs ≤ 64 = leb-true (length xs) 64 (first_true (nat_le (length xs) 64) (list_all (λ s. nat_le (length s) 65535) xs) good) in
    let each = each_true (λ s. nat_le (length s) 65535) (λ c. length (blob16 c) ≤ 65537)
    (λ c h. let k : length c ≤ 65535 = leb-true (length c) 65535 h in omega (arith, k)) xs
    (second_true (nat_le (length xs) 64) (list_all (λ s. nat_le (length s) 65535) xs) good) in
    omega (arith, n, parts_short blob16 65537 xs each)

certificates_short : (most : ℕ) (xs : List (List ℕ)) → most ≤ 33 → are_certificates most xs ≡ true → length (certificates_encoding xs) ≤ 2163000
certificates_short most xs few good =
    let so_many = first_true (nat_le 1 (length xs) && nat_le (length xs) most) (list_all (λ c. nat_le (length c) 65536) xs) good in
    let n : length xs ≤ most = leb-true (length xs) most (second_true (nat_le 1 (length xs)) (nat_le (length xs) most) so_many) in
    let each = each_true (λ c. nat_le (length c) 65536) (λ c. length (blob32 c) ≤ 65540)
    (λ c h. let k : length c ≤ 65536 = leb-true (length c) 65536 h in omega (arith, k)) xs
    (second_true (nat_le 1 (length xs) && nat_le (length xs) most)
    (list_all (λ c. nat_le (length c) 65536) xs) good) in
    omega (arith, few, n, parts_short blob32 65540 xs each)

purpose_short : (p : Option (List ℕ)) → IfSome p (λ c. is_oid c ≡ true) → IfSome p (λ c. length (blob8 c) ≤ 130)
purpose_short None fit = tt
purpose_short (Some c) fit = let k = few_octets c fit in omega (arith, k)

k_short : (k : Option ℕ) → IfSome k (λ n. length (to_be_bytes w32 n) ≤ 4)
k_short None = tt
k_short (Some n) = omega arith

terms_short : (t : Terms) → TermsFit t → are_terms t ≡ true → length (terms_encoding t) ≤ 8400000
terms_short t fit good =
    let w = within_parts t good in
    let n : length t.user_policies ≤ 32 = leb-true (length t.user_policies) 32 w.policies in
    let k = optional_short (to_be_bytes w32) 4 t.k (k_short t.k) in
    let u = optional_short blob8 130 t.purpose (purpose_short t.purpose fit.purpose) in
    let p = oids_short t.user_policies fit.policies in
    let a = subtrees_short t.permitted_subtrees w.permitted in
    let b = subtrees_short t.excluded_subtrees w.excluded in
    let e0 = length-append (optional (to_be_bytes w32) t.k)
    (optional blob8 t.purpose
    ++ (policies_encoding t.user_policies
    ++ (subtrees_encoding t.permitted_subtrees ++ subtrees_encoding t.excluded_subtrees))) in
    let e1 = length-append (optional blob8 t.purpose) (policies_encoding t.user_policies ++ (subtrees_encoding t.permitted_subtrees ++ subtrees_encoding t.excluded_subtrees)) in
    let e2 = length-append (policies_encoding t.user_policies) (subtrees_encoding t.permitted_subtrees ++ subtrees_encoding t.excluded_subtrees) in
    let e3 = length-append (subtrees_encoding t.permitted_subtrees) (subtrees_encoding t.excluded_subtrees) in
    omega (arith, n, k, u, p, a, b, e0, e1, e2, e3)

target_short : (t : Target) → TargetFits t → is_target t ≡ true → length (target_encoding t) ≤ 2163100
target_short (Chain anchor xs) fit good = omega (arith, fit, certificates_short 16 xs (omega arith) good, length-append anchor (certificates_encoding xs))
target_short (Search xs) fit good = omega (arith, certificates_short 33 xs (omega arith) good)
target_short (Store from) fit good = omega arith
target_short (Log from) fit good = omega arith

pub question_short : (q : StoreQuestion) → QuestionFits q → length (question_octets q) < 2 ^ 32
question_short q fit =
    let t = terms_short q.terms fit.terms (first_true (are_terms q.terms) (is_target q.target) fit.within) in
    let x = target_short q.target fit.target (second_true (are_terms q.terms) (is_target q.target) fit.within) in
    omega (arith, t, x, length-append (terms_encoding q.terms) (target_encoding q.target))
