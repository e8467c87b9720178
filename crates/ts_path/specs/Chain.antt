-- A chain of certificates, and the place of each (RFC 5280 6.1).
use Rattle.std.specs.Prelude.{◌≡◌, ℕ, suc, Bool, true, false, List, [], ◌∷◌, length}
use Rattle.ts_cert.specs.Certificate.{Certificate}
use Rattle.ts_path.specs.Asked.{ValidationInputs}

-- what is asked, and the chain from the anchor's side to the target
pub record ChainQuestion : Type 0 where
  pub asked : ValidationInputs
  pub chain : List Certificate

-- a certificate of a chain, those above it (towards the anchor, the nearest first) and those below
-- it
pub record Link : Type 0 where
  pub above : List Certificate
  pub certificate : Certificate
  pub below : List Certificate

-- the whole chain: certificates, the nearest first, in front of others
abbrev pub chained : List Certificate → List Certificate → List Certificate
chained [] others = others
chained (c ∷ above) others = chained above (c ∷ others)

-- the link is that of position i, which counts from 1, the certificate that the anchor issued
pub record Stands (chain : List Certificate) (i : ℕ) (l : Link) : Type 0 where
  pub chain_is : chain ≡ chained l.above (l.certificate ∷ l.below)
  pub position_is : i ≡ suc (length l.above)

-- no certificate
abbrev pub is_empty : List Certificate → Bool
is_empty [] = true
is_empty (c ∷ cs) = false

-- the certificate is the last of its chain, the target (i = n)
abbrev pub is_last : Link → Bool
is_last l = is_empty l.below
