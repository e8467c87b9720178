use Rattle.ts_der.specs.View.{now}
use Rattle.ts_ext.specs.Known.{known_at}
use Rattle.ts_crl.proofs.ValueParts.{borrowed-anywhere}
use Rattle.ts_crl.proofs.values.value_of.Goals as goal

pub returns : goal.returns
returns c =
    borrowed-anywhere (known_at c.args.holder c.args.extension.id.content.now)
    (now c.args.extension.value) c.args.extension.value.octets c.read.result c.ok.result c.read.ensures.exact c.ok.ensures.value
