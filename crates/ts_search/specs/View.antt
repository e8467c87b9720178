-- What contracts see of a search.
use Rattle.std.specs.Prelude.{List, ◌∷◌, map}
use Rattle.ts_cert.specs.declared.certificate.Cert.{Cert}
use Rattle.ts_cert.specs.CertView.{cert_in}
use Rattle.ts_revoke.specs.Question.{Check}
use Rattle.ts_revoke.specs.declared.crls.Crls.{Crls}
use Rattle.ts_path.specs.declared.anchor.Anchor.{Anchor}
use Rattle.ts_path.specs.declared.inputs.Inputs.{Inputs}
use Rattle.ts_path.specs.View.{anchor_in, asked_under}
use Rattle.ts_search.specs.Search.{Search}

-- among these certificates, of which the first is the leaf
abbrev pub search_among : List Cert → List Anchor → Inputs → Crls → Check → Search
search_among certificates anchors inputs crls good = record {
  certificates = map cert_in certificates;
  anchors = map anchor_in anchors;
  asked = asked_under inputs crls good;
}

-- the leaf, and the pool after it
abbrev pub search_in : Cert → List Cert → List Anchor → Inputs → Crls → Check → Search
search_in leaf pool anchors inputs crls good = search_among (leaf ∷ pool) anchors inputs crls good
