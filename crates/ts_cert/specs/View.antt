-- What contracts see of the parts that are borrowed from a certificate: octets, without where they
-- lie in memory.
use Rattle.std.specs.Prelude.{map, option_map}
use Rattle.ts_der.specs.BitsView.{parts_of}
use Rattle.ts_name.specs.NameView.{rdns_in}
use Rattle.ts_extensions.specs.Extension.{unlocated}
use Rattle.ts_field.specs.View.{algorithm_in}
use Rattle.ts_cert.specs.declared.key.SubjectPublicKeyInfo.{SubjectPublicKeyInfo}
use Rattle.ts_cert.specs.declared.optional_fields.OptionalFields.{OptionalFields as Late}
use Rattle.ts_cert.specs.declared.tbs.TbsCertificate.{TbsCertificate}
use Rattle.ts_cert.specs.inside.Period.{validity_in}
use Rattle.ts_cert.specs.inside.AllLocated.{all_located_within}
use Rattle.ts_cert.specs.Certificate.{KeyInfo, Tbs}
use Rattle.ts_cert.specs.Rules.{OptionalFields, LocatedTbs}

abbrev pub key_in : SubjectPublicKeyInfo → KeyInfo
key_in k = record {
  algorithm = algorithm_in k.algorithm;
  subjectPublicKey = k.subject_public_key.now;
}

abbrev pub optional_fields_in : Late → OptionalFields
optional_fields_in l =
    record {
      issuerUniqueID = option_map parts_of l.issuer_unique_id;
      subjectUniqueID = option_map parts_of l.subject_unique_id;
      extensions = option_map all_located_within l.extensions;
      issuerUniqueID_at = l.places.issuer_unique_id;
      subjectUniqueID_at = l.places.subject_unique_id;
      extensions_at = l.places.extensions;
    }

abbrev pub fields_in : TbsCertificate → Tbs
fields_in t =
    record {
      version = t.version;
      serialNumber = t.serial_number.octets.now;
      signature = algorithm_in t.signature;
      issuer = rdns_in t.issuer;
      validity = validity_in t.period;
      subject = rdns_in t.subject;
      subjectPublicKeyInfo = key_in t.subject_public_key_info;
      issuerUniqueID = option_map parts_of t.optional_fields.issuer_unique_id;
      subjectUniqueID = option_map parts_of t.optional_fields.subject_unique_id;
      extensions = option_map (map unlocated)
          (option_map all_located_within t.optional_fields.extensions);
    }

-- the same with places
abbrev pub tbs_in : TbsCertificate → LocatedTbs
tbs_in t = record { fields = fields_in t; optional_fields = optional_fields_in t.optional_fields }
