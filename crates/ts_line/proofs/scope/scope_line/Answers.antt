use Rattle.std.proofs.Common.{◌∙◌, ◌++◌, ap, List, ℕ}
use Rattle.std.proofs.lemmas.Result.{IfOk-weaker}
use Rattle.ts_der.specs.Element.{Place}
use Rattle.ts_ext.specs.NameViews.{issuing_point_in}
use Rattle.ts_line.specs.Scopes.{scope_text}
use Rattle.ts_line.proofs.ScopeOctets.{is_scope, point_in}
use Rattle.ts_line.proofs.scope.scope_line.Goals as goal

pub returns-in_default-read : goal.returns-in_default-read
returns-in_default-read c =
    let from = ap (λ (p : Place). p.rest) c.new-reader.ensures in
    IfOk-weaker c.hex_line-in_default-read.result _ _
    (λ line is. record {
      scope = λ p s. absurd (c.in_default-read.ensures.only p (point_in _ _ _ p (c.in-Ok.ensures.only s.content s.more s.fits (from ∙ s.encoded)) s.point));
      other = λ no. is;
    })
    c.hex_line-in_default-read.ensures

pub returns : goal.returns
returns c =
    let from = ap (λ (p : Place). p.rest) c.new-reader.ensures in
    let found = c.in-Ok.ensures.found in
    record {
      scope = λ p s.
          c.in_ok-write_point.ensures
          ∙ (ap (λ (t : List ℕ). t ++ scope_text (issuing_point_in c.in-Ok-read.point)) c.new-line.ensures
          ∙ ap scope_text (c.in-Ok-read.ensures.only p (point_in _ _ _ p (c.in-Ok.ensures.only s.content s.more s.fits (from ∙ s.encoded)) s.point)));
      other = λ no. absurd (no _ (is_scope _ _ _ _ _ from found.0 found.1 c.in-Ok-read.ensures.found));
    }
