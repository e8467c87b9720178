-- Where the parameters of a working key come from (RFC 5280 6.1.4 (d) to (f)): they are those that
-- the nearest key states, among the keys above that are joined to the certificate by keys of one
-- algorithm. The law `inherited_parameters` says that they are those of the working key.
use Rattle.std.specs.Prelude.{◌≡◌, ◌≢◌, ℕ, List, [], ◌∷◌, ◌++◌, map, Some}
use Rattle.std.specs.List.{All}
use Rattle.ts_cert.specs.Certificate.{KeyInfo, Certificate}
use Rattle.ts_path.specs.Asked.{TrustAnchor}
use Rattle.ts_path.specs.WorkingKey.{subject_key}
use Rattle.ts_revoke.specs.OwnKey.{null}

-- the keys above a certificate, the nearest first, the last that of the anchor
abbrev pub keys_above : TrustAnchor → List Certificate → List KeyInfo
keys_above anchor above = map subject_key above ++ anchor.key ∷ []

-- the key states these parameters: its algorithm has them, and they are not NULL
abbrev pub States : KeyInfo → List ℕ → Type 0
States k p = (k.algorithm.parameters ≡ Some p) × (p ≢ null)

abbrev pub StatesNone : KeyInfo → Type 0
StatesNone k = (p : List ℕ) → ¬ (States k p)

-- two keys have one algorithm
abbrev pub HaveOneAlgorithm : KeyInfo → KeyInfo → Type 0
HaveOneAlgorithm k other = k.algorithm.algorithm ≡ other.algorithm.algorithm

-- one of the keys states the parameters, and each that is nearer states none and has its algorithm
pub record AreInherited (keys : List KeyInfo) (p : List ℕ) : Type 0 where
  pub nearer : List KeyInfo
  pub key : KeyInfo
  pub farther : List KeyInfo
  pub keys_are : keys ≡ nearer ++ key ∷ farther
  pub states : States key p
  pub silent : All StatesNone nearer
  pub alike : All (λ k. HaveOneAlgorithm k key) nearer
