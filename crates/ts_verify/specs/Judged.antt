-- The chain that is judged, and its verdict.
use Rattle.std.specs.Prelude.{◌≡◌, ℕ, List, Some, slice_get}
use Rattle.ts_cert.specs.Certificate.{Certificate}
use Rattle.ts_path.specs.Asked.{TrustAnchor}
use Rattle.ts_path.specs.Verdict.{IsVerdict}
use Rattle.ts_path.specs.declared.verdict.Verdict.{Verdict}
use Rattle.ts_search.specs.Search.{Search, IsSearchAnswer, certificates_at, question}
use Rattle.ts_search.specs.declared.answer.SearchAnswer.{SearchAnswer}
use Rattle.ts_search.specs.declared.answer.SearchAnswer.TheVariants.{Found, NoPath, SearchLimit}
use Rattle.ts_verify.specs.Lines.{IsLine}

-- the chain and the anchor, by its place, are those that the search found; where it found none, the
-- chain is the one by names, by the check of signatures that is asked, and the anchor the one above
abbrev pub AreChosen : Search → TrustAnchor → SearchAnswer → ℕ → List Certificate → Type 0
AreChosen s anchor (Found number places policies) place chain =
    (place ≡ number) × (chain ≡ certificates_at s.certificates places.items)
AreChosen s anchor NoPath place chain =
    IsLine (s.asked anchor).good s.anchors s.certificates place chain
AreChosen s anchor SearchLimit place chain =
    IsLine (s.asked anchor).good s.anchors s.certificates place chain

-- The verdict is that of path validation on this chain, from the anchor's side to the leaf, under
-- the anchor at this place. It is valid wherever the search finds a chain, and then on that chain.
pub record IsJudged (s : Search) (place : ℕ) (chain : List Certificate) (verdict : Verdict)
    : Type 0 where
  pub anchor : TrustAnchor
  pub anchor_is : slice_get s.anchors place ≡ Some anchor
  pub answer : SearchAnswer
  pub is_answer : IsSearchAnswer s answer
  pub chosen : AreChosen s anchor answer place chain
  pub verdict_is : IsVerdict (question s.asked chain anchor) verdict
