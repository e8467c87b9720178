use Rattle.std.proofs.Common.{ℕ, List, [], ◌++◌, Result, ap, ◌∙◌}
use Rattle.std.proofs.Math.Logic.{∥∥₁_elim}
use Rattle.std.proofs.Props.{props}
use Rattle.std.specs.Prelude.{is_ok}
use Rattle.std.specs.Result.{result_unwrap_or}
use Rattle.ts_der.specs.declared.fault.Fault.{Fault}
use Rattle.ts_der.specs.Element.{Place}
use Rattle.ts_der.specs.View.{now}
use Rattle.ts_name.specs.Canon.{Attr}
use Rattle.ts_cert.proofs.Held.{name-there}
use Rattle.ts_cert.proofs.part.name_from.Goals as goal

pub invariant_of-result : goal.invariant_of-result
invariant_of-result c =
    record {
      form = ∥∥₁_elim c.requires (Prim.hlevel props) (λ r.
          let h = r.1 in
          let is = c.in-Ok.ensures.only h.encoded.content h.rest h.encoded.fits (ap (λ (p : Place). p.rest) c.at.ensures ∙ (h.here ∙ ap (λ (p : List ℕ). p ++ h.rest) h.encoded.encoded)) in
          ap is_ok (name-there (now c.in-Ok.element) c.args.octets.now c.args.at r.0 h c.at.result.at is));
    }

pub returns : goal.returns
returns c x h =
    let is = c.in-Ok.ensures.only h.encoded.content h.rest h.encoded.fits (ap (λ (p : Place). p.rest) c.at.ensures ∙ (h.here ∙ ap (λ (p : List ℕ). p ++ h.rest) h.encoded.encoded)) in
    ap (λ (r : Result (List (List Attr)) Fault). result_unwrap_or r []) (name-there (now c.in-Ok.element) c.args.octets.now c.args.at x h c.at.result.at is)
