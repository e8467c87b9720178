-- A report was said.
use Rattle.std.proofs.Common.{refl, ◌∷◌, []}
use Rattle.ts_serve.proofs.Saying.{said}
use Rattle.ts_serve.proofs.server.Server.report.Goals as goal

pub returns : goal.returns
returns g c = record {
  said = said _ _ _ (c.report_frame-frame.result ∷ []) c.send.result _
      (record {
        frame = c.report_frame-frame.result;
        report = c.report_frame-frame.ensures;
        said = refl;
        same = refl;
      }) c.send.ensures.sent c.send.ensures.front c.send.ensures.fault;
}
