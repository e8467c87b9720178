use Rattle.ts_cert.specs.inside.Layout.{AreValidExplicit}
use Rattle.ts_cert.proofs.Spanned.{spans, content-alone}
use Rattle.ts_cert.proofs.fast.extensions_end.Goals as goal

pub returns : goal.returns
returns c =
    let all = c.are_sound_extensions.ensures.0 c.if-not-are_sound_extensions.false in
    let outer = c.in_ok-explicit.ensures.stands in
    let inner = c.in_ok-list.ensures.stands in
    let explicit = content-alone c.args.octets.now c.args.at 0xA3 0x30 c.in_ok-explicit.explicit c.in_ok-list.list outer inner c.if-list-explicit.false in
    spans 0xA3 AreValidExplicit c.args.octets.now c.args.at c.in_ok-explicit.explicit all.0 outer (record { content = _; fits = inner.fits; encoded = explicit; value = all.1 }, all.2, all.3)
