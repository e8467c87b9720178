-- What a store holds, as rows.
use Rattle.std.specs.Prelude.{ℕ, ℤ, List, [], ◌++◌, map, take, length, min, Option, Some, None}
use Rattle.std.specs.Prelude.{option_map, unwrap_or}
use Rattle.std.specs.List.{find, flat_map}
use Rattle.ts_ext.specs.declared.known.Known.TheVariants.{IssuingDistributionPoint}
use Rattle.ts_extensions.specs.Extension.{Extension}
use Rattle.ts_name.specs.Canon.{Attr}
use Rattle.ts_name.specs.NameEncoding.{encoded_rdn}
use Rattle.ts_field.specs.declared.time.Time.{Time}
use Rattle.ts_cert.specs.CertView.{certificate_in}
use Rattle.ts_crl.specs.List.{CertificateList}
use Rattle.ts_crl.specs.Values.{crl_number, base_number, list_extensions, is_known}
use Rattle.ts_command.specs.Commands.{purposes_encoding}
use Rattle.ts_store.specs.Lists.{list_in}
use Rattle.ts_store.specs.Store.{StoreState}
use Rattle.ts_store.specs.declared.anchor.TrustAnchor.{TrustAnchor}
use Rattle.ts_store.specs.declared.stored.StoredCrl.{StoredCrl}
use Rattle.ts_store.specs.Contents.{Contents, contents_of}
use Rattle.ts_question.specs.Rows.{AnchorLine, CrlLine, anchor_encoding, crl_encoding}

-- octets, of which those behind the first 4,096 are left out
abbrev pub first_octets : List ℕ → List ℕ
first_octets octets = take 4096 octets

-- the contents octets of a Name (RFC 5280 4.1.2.4)
abbrev pub name_content : List (List Attr) → List ℕ
name_content rdns = flat_map encoded_rdn rdns

-- a number that four octets can't hold is the greatest that they can; no CRL has so many octets
abbrev pub narrow : ℕ → ℕ
narrow n = min n 4294967295

-- ---- trust anchors

abbrev pub anchor_row : TrustAnchor → AnchorLine
anchor_row a = record {
  id = a.id;
  subject = first_octets (name_content (certificate_in a.certificate).tbsCertificate.subject);
  purposes = first_octets (purposes_encoding a.purposes);
}

-- ---- CRLs

-- nextUpdate (RFC 5280 5.1.2.5), which each list of a store says
abbrev pub next_of : Time → Option Time → ℤ
next_of this_update None = this_update.moment
next_of this_update (Some next_update) = next_update.moment

-- the value of the issuingDistributionPoint, which says what the list covers, in DER (RFC 5280
-- 5.2.5)
abbrev pub scope_among : List Extension → Option (List ℕ)
scope_among xs = option_map (λ x. x.extnValue) (find (is_known IssuingDistributionPoint) xs)

abbrev pub crl_row_of : List ℕ → ℕ → CertificateList → CrlLine
crl_row_of id size c = record {
  id = id;
  issuer = first_octets (name_content c.tbsCertList.issuer);
  number = first_octets (unwrap_or (crl_number c) []);
  base = first_octets (unwrap_or (base_number c) []);
  scope = first_octets (unwrap_or (scope_among (list_extensions c)) []);
  this_update = c.tbsCertList.thisUpdate.moment;
  next_update = next_of c.tbsCertList.thisUpdate c.tbsCertList.nextUpdate;
  entries = narrow (length (unwrap_or c.tbsCertList.revokedCertificates []));
  size = narrow size;
}

abbrev pub crl_row : StoredCrl → CrlLine
crl_row k = crl_row_of k.id (length k.crl) (list_in k)

-- ---- the store

abbrev pub anchor_rows : List TrustAnchor → List (List ℕ)
anchor_rows anchors = map (λ a. anchor_encoding (anchor_row a)) anchors

abbrev pub crl_rows : List StoredCrl → List (List ℕ)
crl_rows lists = map (λ k. crl_encoding (crl_row k)) lists

-- the anchors of tables, their complete CRLs and their delta CRLs, each in the order of the tables
abbrev pub store_rows : Contents → List (List ℕ)
store_rows c = anchor_rows c.anchors ++ (crl_rows c.complete ++ crl_rows c.deltas)

-- what a store holds
abbrev pub listing : StoreState → List (List ℕ)
listing store = store_rows (contents_of store.tables)
