-- What the links of a layer stand for.
use Rattle.std.specs.Prelude.{◌≡◌, List}
use Rattle.ts_der.specs.declared.oid.OidRef.{OidRef}
use Rattle.ts_policy.specs.declared.layer.Link.{Link}
use Rattle.ts_policy.specs.Labels.{Label, has}
use Rattle.ts_policy.specs.Paths.{CertPolicies, is_mapped}
use Rattle.ts_policy.specs.inside.Layers.{Layer, has_label, mapped_layer, expectations_by}

-- the labels of a link
abbrev pub link_in : Link → Label × Label
link_in x = (x.label.content.now, x.above.content.now)

-- the link of two policies
abbrev pub link : OidRef → OidRef → Link
link p q = record { label = p; above = q }

-- the layer and the expectations that the mappings of a certificate leave
pub record AreMapped (c : CertPolicies) (l l' : Layer) (pairs : Layer) : Type 0 where
  pub layer : l' ≡ mapped_layer c l
  pub expectations : (labels : List Label) × ((p : Label) → has labels p ≡ has_label l' p)
      × ((froms : List Label) × ((p : Label) → has froms p ≡ is_mapped c p)
      × (pairs ≡ expectations_by labels c.mappings froms))
