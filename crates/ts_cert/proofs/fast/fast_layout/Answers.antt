use Rattle.std.proofs.Common.{refl, subst, sym, ◌∙◌, ℕ, arith}
use Rattle.ts_shape.specs.Fields.{Within, IsBits}
use Rattle.ts_cert.specs.inside.Layout.{Spans}
use Rattle.ts_cert.proofs.FastLayout.{fast-laid-out}
use Rattle.ts_cert.proofs.fast.fast_layout.Goals as goal

pub returns : goal.returns
returns c =
    let octets = c.args.octets.now in
    fast-laid-out octets _ c.in_ok-whole.whole c.in_ok-tbs.tbs (record { version = refl; tbs = refl; issuer_unique_id = refl; subject_unique_id = refl })
    (record {
      outer = c.in_ok-whole.ensures.stands;
      inner = c.in_ok-tbs.ensures.stands;
      ends = c.if-signature_algorithm-tbs.false;
      again = c.in_ok-signature_value.ensures;
      signature_value = subst (λ (n : ℕ). Spans (Within 0x03 IsBits) octets c.in_ok-signature_value.signature_value n) c.if-end-whole.false c.in_ok-end.ensures;
      all = sym c.if-end-whole.false ∙ c.if-end-octets.false;
      few = omega (arith, c.if-octets-gt-SHORT.false);
    })
    (record {
      version = c.in_ok-serial_number.ensures;
      serial_number = c.in_ok-signature.ensures;
      signature = c.in_ok-issuer.ensures;
      issuer = c.in_ok-validity.ensures;
      validity = c.in_ok-subject.ensures;
      subject = c.in_ok-subject_public_key_info.ensures;
      key = c.in_ok-extensions.ensures;
      extensions = c.in_ok-signature_algorithm.ensures;
    })
