-- The state at the next certificate.
use Rattle.std.proofs.Common.{◌+◌, ap, ◌∙◌}
use Rattle.ts_sig.specs.Key.{key_of}
use Rattle.ts_cert.specs.Certificate.{KeyInfo}
use Rattle.ts_cert.specs.CertView.{cert_in}
use Rattle.ts_path.specs.State.{PathState}
use Rattle.ts_path.specs.inside.Judging.{key_after, state_after}
use Rattle.ts_path.proofs.state.State.advance.Goals as goal

pub returns : goal.returns
unfolding state_after
returns c =
    (λ i. record {
      passed = c.self.inside.passed + 1;
      name = c.subject-self-inside.ensures i;
      key = (c.key_after-self-inside.ensures ∙ ap (λ (k : KeyInfo). key_after (key_of c.self.inside.key) k) c.subject_public_key_info.ensures) i;
      usage = c.key_usage-self-inside.ensures i;
      sources = c.in_ok-narrow.ensures.ok i;
      counters = c.after-self-inside.ensures i;
    }) ∙ ap (λ (s : PathState). state_after s (cert_in c.args.cert.now)) c.self.view_is
