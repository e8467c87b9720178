use Rattle.std.proofs.Common.{Bool, false, List, [], ◌∷◌, ◌≡◌, ◌∙◌, ◌↔◌, ap, sym, subst, subst₂, length, take, ◌-◌, get_or, ◌==◌, map}
use Rattle.ts_policy.specs.Labels.{Label, any_policy, In, has}
use Rattle.ts_policy.specs.Certificates.{policies_in}
use Rattle.ts_policy.specs.Paths.{CertPolicies, InT, count}
use Rattle.ts_policy.specs.Accepted.{IsAccepted}
use Rattle.ts_policy.specs.inside.Layers.{Layer, newest, chosen, firsts, has_label}
use Rattle.ts_policy.specs.inside.Links.{link_in}
use Rattle.ts_policy.specs.inside.Kept.{Stand}
use Rattle.ts_policy.proofs.KeptLaw.{newest-last, some_if, accepted_is}
use Rattle.ts_policy.proofs.Lists.{along}
use Rattle.ts_policy.proofs.policies.Policies.finish.Goals as goal

pub returns-clause-accepted : goal.returns-clause-accepted
returns-clause-accepted c p =
    let a = c.self.inside in
    let last = c.index-last.result.now in
    let l = map link_in last.items in
    let user = map (λ x. x.content.now) c.args.user.now in
    let pairs = map link_in a.expectations.items in
    let certs = newest policies_in [] a.taken.items in
    let ls = newest (λ v. map link_in v.items) [] (take (length a.layers.items - 1) a.layers.items) in
    let is_open : a.mapped ≡ false = ap (λ s. s.mapped) c.self.view_is ∙ c.requires in
    let layers : newest (λ v. map link_in v.items) [] a.layers.items ≡ l ∷ ls =
    newest-last (λ v. map link_in v.items) a.layers.items last
    (some_if (length a.layers.items) c.is_empty.result (c.is_empty.ensures ∙ ap (λ n. n == 0) a.layers.ok.0) c.if-is_empty.false)
    (c.index-last.ensures ∙ ap (λ n. get_or a.layers.items (n - 1) last) (c.len.ensures ∙ a.layers.ok.0)) in
    let P : Bool → List Layer → Type 0 = λ b ls. Stand certs b ls pairs in
    let s = subst₂ P is_open layers c.self.invariant in
    let ends = c.in_ok-alive.alive in
    let alive : (p : Label) → has ends p ≡ has_label l p = λ p. c.in_ok-alive.ensures p ∙ ap (λ l. has_label (map link_in l) p) c.deref.ensures.value in
    let r = accepted_is certs l ls pairs ends user s alive p in
    let found : map (λ x. x.content.now) c.in_ok-found.found.items ≡ firsts (l ∷ ls) ends =
    c.in_ok-found.ensures
    ∙ ap (λ ls. firsts ls ends)
    (ap (newest (λ v. map link_in v.items) []) c.deref-2.ensures.value ∙ layers) in
    let free : c.contains-free.result ≡ has_label l any_policy = c.contains-free.ensures ∙ ap (has ends) c.any_policy.ensures ∙ alive any_policy in
    let all : map (λ x. x.content.now) c.in_ok-accepted.accepted.items ≡ chosen (firsts (l ∷ ls) ends) (has_label l any_policy) user =
    c.in_ok-accepted.ensures ∙ ap (λ f. chosen f c.contains-free.result user) found ∙ ap (λ f. chosen (firsts (l ∷ ls) ends) f user) free in
    let Q : List CertPolicies → Type 0 = λ cs. In p (chosen (firsts (l ∷ ls) ends) (has_label l any_policy) user) ↔ IsAccepted (count cs) (InT cs) user p in
    let t = subst Q (ap (λ s. s.certificates) c.self.view_is) r in
    let vec = c.into_vec.ensures.labels in
    (λ h. t.0 (along p _ _ all ((c.of.ensures p).0 (along p _ _ vec h))), λ h. along p _ _ (sym vec) ((c.of.ensures p).1 (along p _ _ (sym all) (t.1 h))))
