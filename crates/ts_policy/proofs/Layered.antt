-- Steps of layers that ask a set of labels are steps that ask the layer.
use Rattle.std.proofs.Common.{◌≡◌, ◌≤◌, ℕ, nat_lt, Bool, true, false, not, ◌&&◌, cond, List, [], ◌++◌, map, filter, sym, ap, ◌∙◌, arith}
use Rattle.std.proofs.lemmas.Bool.Decides.{nat_tests}
use Rattle.ts_policy.specs.Labels.{Label, any_policy, same, has}
use Rattle.ts_policy.specs.inside.Layers.{Layer, has_label, unwanted_by, unwanted, added_by, new_links, mapped_layer}
use Rattle.ts_policy.specs.Paths.{CertPolicies, is_mapped}
use Rattle.ts_der.specs.declared.oid.OidRef.{OidRef}
use Rattle.ts_policy.specs.declared.certificate.Mapping.{Mapping}
use Rattle.ts_policy.specs.declared.layer.Link.{Link}
use Rattle.ts_policy.specs.Certificates.{mapping_in}
use Rattle.ts_policy.specs.inside.Links.{link_in, link}
use Rattle.ts_policy.proofs.Views.{filter_alike, map_map, map_filter, beside_view}

pub unwanted_alike : (es : List Label) (l : Layer) (ps : List Label) → ((p : Label) → has es p ≡ has_label l p) → unwanted_by es ps ≡ unwanted l ps
unwanted_alike es l ps h =
    let test : Label → Bool = λ p. not (same p any_policy) && not (has es p) in
    let test' : Label → Bool = λ p. not (same p any_policy) && not (has_label l p) in
    let beside : Label → Label × Label = λ p. (p, any_policy) in
    ap (λ b. cond b (map beside (filter test ps)) []) (h any_policy)
    ∙ ap (λ xs. cond (has_label l any_policy) (map beside xs) []) (filter_alike test test' (λ p. ap (λ b. not (same p any_policy) && not b) (h p)) ps)

pub added_alike : (es : List Label) (l : Layer) (ms : List (Label × Label)) → ((p : Label) → has es p ≡ has_label l p) → added_by es ms ≡ new_links l ms
added_alike es l ms h =
    let test : Label × Label → Bool = λ m. not (has es m.0) in
    let test' : Label × Label → Bool = λ m. not (has_label l m.0) in
    let beside : Label × Label → Label × Label = λ m. (m.0, any_policy) in
    ap (λ b. cond b (map beside (filter test ms)) []) (h any_policy)
    ∙ ap (λ xs. cond (has_label l any_policy) (map beside xs) []) (filter_alike test test' (λ m. ap not (h m.0)) ms)

-- the links to anyPolicy, seen as labels
pub unwanted_view : (es : List Label) (a : OidRef) (ss : List OidRef) (xs : List Link) → a.content.now ≡ any_policy → has es a.content.now ≡ true
    → xs ≡ map (λ p. link p a) (filter (λ p. not (same p.content.now any_policy) && not (has es p.content.now)) ss) → map link_in xs ≡ unwanted_by es (map (λ p. p.content.now) ss)
unwanted_view es a ss xs e t is =
    let test : Label → Bool = λ p. not (same p any_policy) && not (has es p) in
    let beside : Label → Label × Label = λ p. (p, any_policy) in
    ap (map link_in) is ∙ beside_view a any_policy e (filter (λ p. not (same p.content.now any_policy) && not (has es p.content.now)) ss)
    ∙ ap (map beside) (map_filter (λ p. p.content.now) test ss)
    ∙ ap (λ b. cond b (map beside (filter test (map (λ p. p.content.now) ss))) []) (sym (ap (has es) (sym e) ∙ t))

pub added_view : (es : List Label) (a : OidRef) (ms : List Mapping) (xs : List Link) → a.content.now ≡ any_policy → has es a.content.now ≡ true
    → xs ≡ map (λ m. link m.issuer_domain a) (filter (λ m. not (has es m.issuer_domain.content.now)) ms) → map link_in xs ≡ added_by es (map mapping_in ms)
added_view es a ms xs e t is =
    let test : Label × Label → Bool = λ m. not (has es m.0) in
    let with : Label → Label × Label → Label × Label = λ q m. (m.0, q) in
    let left = filter (λ m. not (has es m.issuer_domain.content.now)) ms in
    ap (map link_in) is ∙ map_map (λ m. link m.issuer_domain a) link_in left ∙ sym (map_map mapping_in (with a.content.now) left)
    ∙ ap (λ q. map (with q) (map mapping_in left)) e
    ∙ ap (map (with any_policy)) (map_filter mapping_in test ms)
    ∙ ap (λ b. cond b (map (with any_policy) (filter test (map mapping_in ms))) []) (sym (ap (has es) (sym e) ∙ t))

-- the links of what is not mapped
pub unmapped_view : (c : CertPolicies) (froms : List Label) → ((p : Label) → has froms p ≡ is_mapped c p) → c.policy_mapping ≤ 0 → (xs ys : List Link)
    → ys ≡ filter (λ x. not (has froms x.label.content.now)) xs → map link_in ys ≡ mapped_layer c (map link_in xs)
unmapped_view c froms h le xs ys is =
    let test : Label × Label → Bool = λ x. not (has froms x.0) in
    let left : Layer = filter (λ x. not (is_mapped c x.0)) (map link_in xs) in
    let grown : Layer = map link_in xs ++ new_links (map link_in xs) c.mappings in
    ap (map link_in) is ∙ map_filter link_in test xs ∙ filter_alike test (λ x. not (is_mapped c x.0)) (λ x. ap not (h x.0)) (map link_in xs)
    ∙ ap (λ b. cond b grown left) (sym (none c.policy_mapping le))
  where
    none : (n : ℕ) → n ≤ 0 → nat_lt 0 n ≡ false
    none n le = grind (arith, nat_tests)
