-- The certificate at the place is the one whose octets are hashed.
use Rattle.std.proofs.Common.{◌∙◌, ℕ, List, ap, subst, sym}
use Rattle.std.proofs.lemmas.Option.{same_Some}
use Rattle.ts_cert.specs.CertView.{cert_in}
use Rattle.ts_cert.specs.Certificate.{Certificate}
use Rattle.ts_digest.specs.Message.{IsDigestOf}
use Rattle.ts_verify.proofs.Places.{at_place}
use Rattle.ts_verify.proofs.line.digest_at.Goals as goal

pub returns : goal.returns
returns c = λ cert is.
    let at = at_place cert_in c.args.certificates.now c.args.place c.index-certificates-place.result c.requires c.index-certificates-place.is in
    let same = same_Some (cert_in c.index-certificates-place.result) cert (sym at ∙ is) in
    subst (λ (octets : List ℕ). IsDigestOf c.of.result octets) (c.tbs.ensures ∙ ap (λ (x : Certificate). x.tbs) same) c.of.ensures.digest
