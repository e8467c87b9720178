use Rattle.std.proofs.Common.{Bool, true, false, List, [], ◌∷◌, ◌≡◌, ◌∙◌, ap, sym, subst, subst₂, length, take, ◌-◌, get_or, ◌==◌, map}
use Rattle.ts_policy.specs.Certificates.{policies_in}
use Rattle.ts_policy.specs.Paths.{CertPolicies, LatestMapsNoAny}
use Rattle.ts_policy.specs.inside.Layers.{Layer, newest}
use Rattle.ts_policy.specs.inside.Links.{AreMapped, link_in}
use Rattle.ts_policy.specs.inside.Kept.{Stand}
use Rattle.ts_policy.proofs.KeptLaw.{newest-push, newest-last, some_if, stand_mapped}
use Rattle.ts_policy.proofs.policies.Policies.map.Goals as goal

pub invariant_of-result : goal.invariant_of-result
invariant_of-result c =
    let a = c.self.inside in
    let cert = c.index.result.now in
    let part = policies_in cert in
    let pairs = map link_in a.expectations.items in
    let l = map link_in c.in-Some.layer.items in
    let left = map link_in c.in_ok-left.left.items in
    let expected = map link_in c.in_ok-left.expectations.items in
    let before = newest policies_in [] (take (length a.taken.items - 1) a.taken.items) in
    let ls = newest (λ v. map link_in v.items) [] c.pop.new.self.items in
    let is_open : a.mapped ≡ false = ap (λ s. s.mapped) c.self.view_is ∙ c.requires.open in
    let parts : newest policies_in [] a.taken.items ≡ part ∷ before =
    newest-last policies_in a.taken.items cert
    (some_if (length a.taken.items) c.is_empty.result (c.is_empty.ensures ∙ ap (λ n. n == 0) a.taken.ok.0) c.if-is_empty.false)
    (c.index.ensures ∙ ap (λ n. get_or a.taken.items (n - 1) cert) (c.len.ensures ∙ a.taken.ok.0)) in
    let layers : newest (λ v. map link_in v.items) [] a.layers.items ≡ l
    ∷ ls = ap (newest (λ v. map link_in v.items) []) c.in-Some.ensures.items
    ∙ newest-push (λ v. map link_in v.items) [] c.pop.new.self.items c.in-Some.layer in
    let P : Bool → List Layer → Type 0 = λ b ls. Stand (newest policies_in [] a.taken.items) b ls pairs in
    let s1 = subst₂ P is_open layers c.self.invariant in
    let Q : List CertPolicies → Type 0 = λ cs. Stand cs false (l ∷ ls) pairs in
    let s2 = subst Q parts s1 in
    let fine = subst LatestMapsNoAny (ap (λ s. s.certificates) (sym c.self.view_is) ∙ parts) c.requires.fine in
    let M : Layer → Type 0 = λ l. AreMapped part l left expected in
    let m = subst M (ap (map link_in) c.deref.ensures.value) c.in_ok-left.ensures in
    let s3 = stand_mapped before part l left ls pairs expected fine m s2 in
    let new_layers : newest (λ v. map link_in v.items) [] c.push.new.self.items ≡ left
    ∷ ls = ap (newest (λ v. map link_in v.items) []) c.in_ok-push.ensures.items
    ∙ newest-push (λ v. map link_in v.items) [] c.pop.new.self.items c.in_ok-left.left in
    let R : List CertPolicies → List Layer → Type 0 = λ cs ls. Stand cs true ls expected in
    subst₂ R (sym parts) (sym new_layers) s3
