use Rattle.std.proofs.Common.{◌≡◌, ◌↔◌, IsTrue, List, subst}
use Rattle.ts_name.specs.Canon.{CanonAttr}
use Rattle.ts_name.specs.CanonView.{rdns_in as canon_in}
use Rattle.ts_name.specs.NameView.{rdns_in}
use Rattle.ts_name.specs.Sameness.{canon_name}
use Rattle.ts_name.proofs.SameNames.{same_is}
use Rattle.ts_crl.proofs.slots.is_same_in.Goals as goal

pub returns : goal.returns
returns c =
    same_is c.same.result (rdns_in c.args.name) (rdns_in c.args.other)
    (subst (λ (l : List (List CanonAttr)). IsTrue c.same.result ↔ (canon_name (rdns_in c.args.name) ≡ l)) c.in_ok-other.ensures
    (subst (λ (l : List (List CanonAttr)). IsTrue c.same.result ↔ (l ≡ canon_in c.in_ok-other.other)) c.in_ok-canon.ensures c.same.ensures))
