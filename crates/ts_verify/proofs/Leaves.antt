-- The leaf comes first.
use Rattle.std.proofs.Common.{◌≡◌, ℕ, suc, ◌+◌, ◌-◌, ◌<◌, List, ◌∷◌, ◌++◌, map, length, get_or, take, drop, sym, ap, ◌∙◌, arith, subst, add-one, length-drop}
use Rattle.std.proofs.lemmas.List.{length-map, length-take-le, map-append, take_all}
use Rattle.ts_cert.specs.declared.certificate.Cert.{Cert}
use Rattle.ts_cert.specs.CertView.{cert_in}
use Rattle.ts_cert.specs.Certificate.{Certificate}
use Rattle.ts_verify.specs.Leaf.{IsLeafFirst, IsLeafPlace}
use Rattle.ts_verify.proofs.Places.{split_at_place}

-- the rest of a slice is what is behind a place
behind_is : (certs : List Cert) (i : ℕ)
    → take (length certs - (i + 1)) (drop (i + 1) certs) ≡ drop (suc i) certs
behind_is certs i =
    take_all (length certs - (i + 1)) (drop (i + 1) certs) (omega (arith, length-drop (i + 1) certs))
    ∙ ap (λ (n : ℕ). drop n certs) (add-one i)

pub is_leaf_first : (certs : List Cert) (i : ℕ) (leaf : Cert) (ordered : List Cert) → i < length certs
    → leaf ≡ get_or certs i leaf → IsLeafPlace (map cert_in certs) i
    → ordered ≡ leaf ∷ (take i certs ++ take (length certs - (i + 1)) (drop (i + 1) certs))
    → IsLeafFirst (map cert_in certs) (map cert_in ordered)
is_leaf_first certs i leaf ordered few is place e = record {
  before = map cert_in (take i certs);
  leaf = cert_in leaf;
  behind = map cert_in (drop (suc i) certs);
  certificates_are = ap (map cert_in) (split_at_place certs i leaf few is)
      ∙ map-append cert_in (take i certs) (leaf ∷ drop (suc i) certs);
  place = subst (IsLeafPlace (map cert_in certs))
      (sym (length-map (take i certs) cert_in ∙ length-take-le i certs (omega (arith, few)))) place;
  ordered_are = ap (map cert_in) e
      ∙ ap (λ (cs : List Certificate). cert_in leaf ∷ cs)
      (map-append cert_in (take i certs) (take (length certs - (i + 1)) (drop (i + 1) certs))
      ∙ ap (λ (behind : List Cert). map cert_in (take i certs) ++ map cert_in behind)
      (behind_is certs i));
}
