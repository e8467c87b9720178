-- Descriptions of lists that say the same are of one list.
use Rattle.std.proofs.Common.{◌≡◌, refl, ap, ℕ, List, [], ◌∷◌, map}
use Rattle.std.specs.Borrow.{Bor}
use Rattle.std.specs.List.{flat_map}
use Rattle.ts_der.specs.Element.{encode}
use Rattle.ts_der.specs.declared.oid.OidRef.{OidRef}
use Rattle.ts_make.specs.declared.crl_description.CrlText.{CrlText}
use Rattle.ts_make.specs.Description.{rdns_in}
use Rattle.ts_make.specs.Made.{name_octets}
use Rattle.ts_make.specs.CrlExtensions.{uri_octets, full_name, scope_content, null_extension, crl_extensions}
use Rattle.ts_make.specs.CrlMade.{crl_content, crl_tbs, made_crl}

uris-same : (xs ys : List (Bor (List ℕ))) → map (λ uri. uri.now) xs ≡ map (λ uri. uri.now) ys → flat_map uri_octets xs ≡ flat_map uri_octets ys
uris-same [] [] e = refl
uris-same [] (y ∷ ys) e = absurd cc
uris-same (x ∷ xs) [] e = absurd cc
uris-same (x ∷ xs) (y ∷ ys) e =
    let first : x.now ≡ y.now = cc in
    let rest = uris-same xs ys (cc) in
    rw (first, rest) refl

name-same : (xs ys : List (Bor (List ℕ))) → map (λ uri. uri.now) xs ≡ map (λ uri. uri.now) ys → full_name xs ≡ full_name ys
name-same [] [] e = refl
name-same [] (y ∷ ys) e = absurd cc
name-same (x ∷ xs) [] e = absurd cc
name-same (x ∷ xs) (y ∷ ys) e = ap (λ (names : List ℕ). encode 0xA0 (encode 0xA0 names)) (uris-same (x ∷ xs) (y ∷ ys) e)

nulls-same : (xs ys : List OidRef) → map (λ oid. oid.content.now) xs ≡ map (λ oid. oid.content.now) ys → map null_extension xs ≡ map null_extension ys
nulls-same [] [] e = refl
nulls-same [] (y ∷ ys) e = absurd cc
nulls-same (x ∷ xs) [] e = absurd cc
nulls-same (x ∷ xs) (y ∷ ys) e =
    let first : x.content.now ≡ y.content.now = cc in
    let rest = nulls-same xs ys (cc) in
    rw (first, rest) refl

pub made_crl-same : (this next : List ℕ) (t u : CrlText) → rdns_in t.issuer.now ≡ rdns_in u.issuer.now → t.this_update ≡ u.this_update
    → t.next_update ≡ u.next_update → t.signer.now ≡ u.signer.now → t.entries.now ≡ u.entries.now → t.number ≡ u.number → t.base ≡ u.base
    → t.reasons.now ≡ u.reasons.now → map (λ uri. uri.now) t.uris.now ≡ map (λ uri. uri.now) u.uris.now
    → map (λ oid. oid.content.now) t.critical.now ≡ map (λ oid. oid.content.now) u.critical.now → made_crl this next t ≡ made_crl this next u
unfolding made_crl crl_tbs crl_content name_octets crl_extensions scope_content
made_crl-same this next t u issuer from to signer entries number base reasons uris critical =
    rw (issuer, signer, entries, number, base, reasons, name-same t.uris.now u.uris.now uris, nulls-same t.critical.now u.critical.now critical) refl
