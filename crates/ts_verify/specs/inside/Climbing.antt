-- What private clauses see of a chain by names.
use Rattle.std.specs.Prelude.{◌≡◌, ◌≤◌, ℕ, List, Option, Some, length, slice_get, unwrap_or}
use Rattle.ts_digest.specs.Message.{IsDigestOf}
use Rattle.ts_digest.specs.declared.message.Digest.{Digest}
use Rattle.ts_cert.specs.Certificate.{Certificate}
use Rattle.ts_revoke.specs.Question.{Check}
use Rattle.ts_path.specs.Asked.{TrustAnchor}
use Rattle.ts_search.specs.Search.{certificates_at}
use Rattle.ts_verify.specs.Lines.{Climbs, HasTop, IsAnchorPlace}

-- the places of the chain by names, and the place of the anchor above it, if there is one
pub record IsClimbed (good : Check) (anchors : List TrustAnchor) (certificates : List Certificate)
    (places : List ℕ) (anchor : Option ℕ) : Type 0 where
  pub climbs : Climbs good anchors certificates places
  pub has_top : HasTop anchors certificates places
  pub few : length places ≤ 16
  pub some : 1 ≤ length (certificates_at certificates places)
  pub under : IsAnchorPlace good anchors certificates places (unwrap_or anchor 0)

-- a digest is that of what is signed of the certificate at this place
abbrev pub IsDigestAt : Digest → List Certificate → ℕ → Type 0
IsDigestAt digest certificates place =
    (c : Certificate) → slice_get certificates place ≡ Some c → IsDigestOf digest c.tbs
