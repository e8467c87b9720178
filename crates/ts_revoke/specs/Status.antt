-- The status of a certificate under the lists of a store (RFC 5280 6.3.3).
use Rattle.std.specs.Prelude.{List, map, filter, flat_map}
use Rattle.ts_ext.specs.Points.{Point}
use Rattle.ts_crl.specs.List.{CertificateList}
use Rattle.ts_crl.specs.Profile.{scope_of}
use Rattle.ts_revoke.specs.declared.verdict.Status.{Status}
use Rattle.ts_revoke.specs.Decision.{status}
use Rattle.ts_revoke.specs.Listed.{listed}
use Rattle.ts_revoke.specs.Pairs.{Pair, Pairs}
use Rattle.ts_revoke.specs.Question.{StatusQuestion}
use Rattle.ts_revoke.specs.Usable.{mask_of, is_usable, own_points, issuer_point}

-- a pair as the decision sees it
abbrev pub pair_of : StatusQuestion → Point → CertificateList → Pair
pair_of q p l = record { mask = mask_of p (scope_of l); listed = listed q l }

-- the usable pairs of a point with some lists, in their order; and with all lists of the store
abbrev pub pairs_among : StatusQuestion → Point → List CertificateList → List Pair
pairs_among q p lists = map (pair_of q p) (filter (is_usable q p) lists)

abbrev pub pairs_at : StatusQuestion → Point → List Pair
pairs_at q p = pairs_among q p q.lists

-- those of the certificate's own points, in order, and those of the point that is named by its
-- issuer
abbrev pub pairs_of : StatusQuestion → Pairs
pairs_of q = record {
  own = flat_map (pairs_at q) (own_points q.certificate);
  issuer = pairs_at q (issuer_point q.certificate);
}

abbrev pub status_of : StatusQuestion → Status
status_of q = status (pairs_of q)
