-- What contracts see of a list.
use Rattle.std.specs.Prelude.{option_map}
use Rattle.ts_name.specs.NameView.{rdns_in}
use Rattle.ts_field.specs.View.{time_in, algorithm_in}
use Rattle.ts_crl.specs.declared.crl.Crl.{Crl}
use Rattle.ts_crl.specs.declared.tbs.TbsCertList.{TbsCertList}
use Rattle.ts_crl.specs.EntryView.{placed_in, revoked_in}
use Rattle.ts_crl.specs.List.{CertificateList, LocatedTbsList, LocatedList, unlocated_list}

abbrev pub tbs_in : TbsCertList → LocatedTbsList
tbs_in t =
    record {
      version = t.version;
      signature = algorithm_in t.signature;
      issuer = rdns_in t.issuer;
      thisUpdate = time_in t.this_update;
      nextUpdate = option_map time_in t.next_update;
      revokedCertificates = option_map revoked_in t.revoked;
      crlExtensions = option_map placed_in t.extensions;
    }

abbrev pub located_list_in : Crl → LocatedList
located_list_in c =
    record {
      tbs = c.tbs.octets.now;
      tbsCertList = record {
        version = c.version;
        signature = algorithm_in c.signature;
        issuer = rdns_in c.issuer;
        thisUpdate = time_in c.this_update;
        nextUpdate = option_map time_in c.next_update;
        revokedCertificates = option_map revoked_in c.revoked;
        crlExtensions = option_map placed_in c.extensions;
      };
      signatureAlgorithm = algorithm_in c.signature_algorithm;
      identifier_at = c.identifier_at;
      signatureValue = c.signature_value.now;
    }

abbrev pub crl_in : Crl → CertificateList
crl_in c = unlocated_list (located_list_in c)
