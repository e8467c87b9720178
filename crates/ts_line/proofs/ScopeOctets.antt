-- Octets that begin with the encoding of what a CRL covers.
use Rattle.std.proofs.Common.{◌≡◌, ◌++◌, ◌∙◌, ℕ, List, ap, sym, subst}
use Rattle.ts_der.specs.Element.{Place, Tlv, StandsAt, Fits, encode, encoded_at}
use Rattle.ts_ext.specs.Points.{IsIssuingPoint, ListScope}
use Rattle.ts_line.specs.Scopes.{IsScope}

-- an element that they begin with, and whose content is a scope
pub is_scope : (here after : Place) (e : Tlv) (octets : List ℕ) (p : ListScope) → here.rest ≡ octets → StandsAt here e after → e.tag ≡ 0x30 → IsIssuingPoint e.content p → IsScope octets p
is_scope here after e octets p from stands tag point = record {
  content = e.content;
  more = after.rest;
  fits = subst (λ (t : ℕ). Fits t e.content) tag stands.fits;
  encoded = sym from ∙ (stands.whole ∙ ap (λ (w : List ℕ). w ++ after.rest) (stands.encoded ∙ ap (λ (t : ℕ). encode t e.content) tag));
  point = point;
}

-- the scope is that of the element's content
pub point_in : (e : Tlv) (at : ℕ) (content : List ℕ) (p : ListScope) → e ≡ encoded_at at 0x30 content → IsIssuingPoint content p → IsIssuingPoint e.content p
point_in e at content p is point = subst (λ (t : Tlv). IsIssuingPoint t.content p) (sym is) point
