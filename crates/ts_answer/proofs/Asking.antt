-- What path validation is asked, and what a question says.
use Rattle.std.proofs.Common.{◌≡◌, ◌∙◌, ◌≤◌, ◌-◌, ◌∷◌, ℕ, List, [], map, ap, refl, length, get_or, take, drop, arith}
use Rattle.ts_cert.specs.Certificate.{Certificate}
use Rattle.ts_crl.specs.List.{CertificateList}
use Rattle.ts_path.specs.Asked.{TrustAnchor, ValidationInputs}
use Rattle.ts_path.specs.Chain.{ChainQuestion}
use Rattle.ts_search.specs.Search.{Search}
use Rattle.ts_revoke.specs.Question.{Check}
use Rattle.ts_question.specs.declared.terms.Terms.{Terms}
use Rattle.ts_store.specs.Tables.{Tables}
use Rattle.ts_store.specs.declared.anchor.TrustAnchor.{TrustAnchor as StoredAnchor}
use Rattle.ts_answer.specs.Asked.{trust_anchor, lists_in, asked_with, asked_of, chain_of, question_of, search_of}

take_whole : {A : Type 0} (ys : List A) → take (length ys) ys ≡ ys
take_whole [] = refl
take_whole (y ∷ ys) = ap (λ l. y ∷ l) (take_whole ys)

-- a list by its first item and the others
pub front_is : {A : Type 0} (xs : List A) (x : A) → 1 ≤ length xs → x ≡ get_or xs 0 x → x ∷ take (length xs - 1) (drop 1 xs) ≡ xs
front_is [] x some is = absurd (omega (arith, some))
front_is (y ∷ ys) x some is =
    let n : length (y ∷ ys) - 1 ≡ length ys = omega arith in
    let e = ap (λ k. take k ys) n ∙ take_whole ys in
    λ i. is i ∷ e i

abbrev asking : ValidationInputs → List Certificate → ChainQuestion
asking asked chain = record { asked = asked; chain = chain }

abbrev searching : List Certificate → List TrustAnchor → (TrustAnchor → ValidationInputs) → Search
searching certificates anchors asked = record { certificates = certificates; anchors = anchors; asked = asked }

module _ (good : Check) (tables : Tables) (terms : Terms) (lists deltas : List CertificateList) (are_lists : lists ≡ lists_in tables.complete) (are_deltas : deltas ≡ lists_in tables.deltas) where
  same_asked : (a : ValidationInputs) (x y : TrustAnchor) → a ≡ asked_with good lists deltas terms x → x ≡ y → a ≡ asked_of good tables terms y
  same_asked a x y is same = is ∙ (λ i. asked_with good (are_lists i) (are_deltas i) terms (same i))

  pub same_question : (a : ValidationInputs) (x : TrustAnchor) (stored : StoredAnchor)
      (chain : List Certificate) (octets : List (List ℕ)) → a ≡ asked_with good lists deltas terms x
      → x ≡ trust_anchor stored → chain ≡ chain_of octets
      → asking a chain ≡ question_of good tables terms stored octets
  same_question a x stored chain octets is same chained = let e = same_asked a x (trust_anchor stored) is same in λ i. asking (e i) (chained i)

  pub same_search : (a : TrustAnchor → ValidationInputs) (anchors : List TrustAnchor)
      (certificates : List Certificate) (octets : List (List ℕ))
      → ((x : TrustAnchor) → a x ≡ asked_with good lists deltas terms x)
      → anchors ≡ map trust_anchor tables.anchors → certificates ≡ chain_of octets
      → searching certificates anchors a ≡ search_of good tables terms octets
  same_search a anchors certificates octets is same chained = λ i. searching (chained i) (same i) (λ x. same_asked (a x) x x (is x) (λ j. x) i)
