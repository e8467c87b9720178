use Rattle.std.proofs.Common.{Bool, true, false, List, [], ◌∷◌, ◌≡◌, ◌∙◌, ap, sym, subst, subst₂, map}
use Rattle.ts_policy.specs.Certificates.{policies_in}
use Rattle.ts_policy.specs.Paths.{CertPolicies}
use Rattle.ts_policy.specs.inside.Layers.{Layer, newest, IsNext}
use Rattle.ts_policy.specs.inside.Links.{link_in}
use Rattle.ts_policy.specs.inside.Kept.{Stand}
use Rattle.ts_policy.specs.Seen.{Seen}
use Rattle.ts_policy.proofs.KeptLaw.{newest-push, stand_taken}
use Rattle.ts_policy.proofs.policies.Policies.certificate.Goals as goal

pub invariant_of-result : goal.invariant_of-result
invariant_of-result c =
    let a = c.self.inside in
    let certs = newest policies_in [] a.taken.items in
    let ls = newest (λ v. map link_in v.items) [] a.layers.items in
    let pairs = map link_in a.expectations.items in
    let cert = policies_in c.args.cert in
    let l = map link_in c.in_ok-layer.layer.items in
    let is_mapped : a.mapped ≡ true = ap (λ s. s.mapped) c.self.view_is ∙ c.requires in
    let P : Bool → Type 0 = λ b. Stand certs b ls pairs in
    let N : Layer → Type 0 = λ pairs. IsNext cert pairs l in
    let next = subst N (ap (map link_in) c.deref.ensures.value) c.in_ok-layer.ensures in
    let stands = stand_taken certs ls pairs (map link_in c.new.result.items) cert l next (subst P is_mapped c.self.invariant) in
    let taken : newest policies_in [] c.push.new.self.items ≡ cert ∷ certs =
    ap (newest policies_in []) c.in_ok-push.ensures.items ∙ newest-push policies_in [] a.taken.items c.args.cert in
    let layers : newest (λ v. map link_in v.items) [] c.push-2.new.self.items ≡ l ∷ ls =
    ap (newest (λ v. map link_in v.items) []) c.in_ok-push-2.ensures.items ∙ newest-push (λ v. map link_in v.items) [] a.layers.items c.in_ok-layer.layer in
    let Q : List CertPolicies → List Layer → Type 0 = λ cs ls. Stand cs false ls (map link_in c.new.result.items) in
    subst₂ Q (sym taken) (sym layers) stands

pub returns : goal.returns
returns c =
    let a = c.self.inside in
    let cert = policies_in c.args.cert in
    let taken : newest policies_in [] c.push.new.self.items ≡ cert ∷ c.args.self.certificates =
    ap (newest policies_in []) c.in_ok-push.ensures.items ∙ newest-push policies_in [] a.taken.items c.args.cert ∙ ap (λ s. cert ∷ s.certificates) c.self.view_is in
    let seen : List CertPolicies → Seen = λ cs. record { certificates = cs; mapped = false } in
    ap seen taken
