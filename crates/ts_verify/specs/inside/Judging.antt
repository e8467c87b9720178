-- The verdict on a chain by names.
use Rattle.std.specs.Prelude.{◌≡◌, ℕ, List, Some, slice_get}
use Rattle.ts_cert.specs.Certificate.{Certificate}
use Rattle.ts_path.specs.Asked.{TrustAnchor}
use Rattle.ts_path.specs.Verdict.{IsVerdict}
use Rattle.ts_path.specs.declared.verdict.Verdict.{Verdict}
use Rattle.ts_search.specs.Search.{Search, question}
use Rattle.ts_verify.specs.Lines.{IsLine}

pub record IsExplained (s : Search) (place : ℕ) (chain : List Certificate) (verdict : Verdict)
    : Type 0 where
  pub anchor : TrustAnchor
  pub anchor_is : slice_get s.anchors place ≡ Some anchor
  pub line : IsLine (s.asked anchor).good s.anchors s.certificates place chain
  pub verdict_is : IsVerdict (question s.asked chain anchor) verdict
