-- The leaf, what is before it, and what is behind it.
use Rattle.std.proofs.Common.{List, [], ◌∷◌, ◌++◌, take, drop, length, ◌+◌, ◌-◌, ap, ◌∙◌}
use Rattle.ts_cert.specs.declared.certificate.Cert.{Cert}
use Rattle.ts_verify.proofs.Leaves.{is_leaf_first}
use Rattle.ts_verify.proofs.leaf.leaf_first.Goals as goal

pub returns-clause-leaf : goal.returns-clause-leaf
returns-clause-leaf c =
    let certs = c.args.certificates.now in
    let place = c.leaf_place-place.result in
    let leaf = c.index-certificates-place.result in
    let before = take place certs in
    let behind = take (length certs - (place + 1)) (drop (place + 1) certs) in
    is_leaf_first certs place leaf c.extend_from_slice-2.new.self.items c.leaf_place-place.ensures.within
    c.index-certificates-place.is c.leaf_place-place.ensures.leaf
    (c.in_ok-extend_from_slice-2.ensures.items
    ∙ ap (λ (cs : List Cert). cs ++ behind) (c.in_ok-extend_from_slice.ensures.items
    ∙ ap (λ (cs : List Cert). cs ++ before) (c.in_ok-push.ensures.items
    ∙ ap (λ (cs : List Cert). cs ++ leaf ∷ []) c.new-ordered.ensures.items)))
