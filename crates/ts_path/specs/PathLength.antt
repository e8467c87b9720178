-- What a pathLenConstraint asks (RFC 5280 4.2.1.9): it 'gives the maximum number of non-self-issued
-- intermediate certificates that may follow this certificate in a valid certification path'; the
-- last certificate is not an intermediate one. The law `path_lengths` says that this is what the
-- condition asks, and its counter.
use Rattle.std.specs.Prelude.{◌≡◌, ℕ, ◌≤◌, not, List, [], ◌∷◌, ◌++◌, length, Some}
use Rattle.std.specs.List.{filter}
use Rattle.ts_cert.specs.Certificate.{Certificate}
use Rattle.ts_path.specs.Chain.{Link}
use Rattle.ts_path.specs.Names.{is_self_issued}
use Rattle.ts_path.specs.Extensions.{path_length_of}

-- how many of these certificates are not self-issued
abbrev pub not_self_issued : List Certificate → ℕ
not_self_issued cs = length (filter (λ c. not (is_self_issued c)) cs)

-- the intermediate certificates among these, which are the rest of a chain: all but the last
abbrev pub intermediates : List Certificate → List Certificate
intermediates [] = []
intermediates (c ∷ []) = []
intermediates (c ∷ d ∷ cs) = c ∷ intermediates (d ∷ cs)

-- at most as many intermediate certificates that are not self-issued follow the certificate as its
-- pathLenConstraint says, if it states one
abbrev pub FollowersFit : Link → Type 0
FollowersFit l = (r : ℕ) → path_length_of l.certificate.tbsCertificate ≡ Some r
    → not_self_issued (intermediates l.below) ≤ r

-- from each certificate above that states a pathLenConstraint down to this one, which counts as
-- well, at most as many that are not self-issued follow it
abbrev pub FollowsWithin : List Certificate → Certificate → Type 0
FollowsWithin above c = (nearer farther : List Certificate) (d : Certificate) (r : ℕ)
    → above ≡ nearer ++ d ∷ farther → path_length_of d.tbsCertificate ≡ Some r
    → not_self_issued (c ∷ nearer) ≤ r
