-- What contracts see of a list that is kept.
use Rattle.std.specs.Prelude.{ℕ, List, [], None, pos}
use Rattle.std.specs.Result.{result_unwrap_or}
use Rattle.ts_field.specs.declared.time.TimeForm.TheVariants.{Utc}
use Rattle.ts_field.specs.Algorithm.{Algorithm}
use Rattle.ts_crl.specs.declared.version.ListVersion.TheVariants.{V1}
use Rattle.ts_crl.specs.List.{CertificateList}
use Rattle.ts_crl.specs.Table.{crl_of}

abbrev no_algorithm : Algorithm
no_algorithm = record { algorithm = []; parameters = None; whole = [] }

abbrev pub no_list : CertificateList
no_list =
    record {
      tbs = [];
      tbsCertList = record {
        version = V1;
        signature = no_algorithm;
        issuer = [];
        thisUpdate = record { form = Utc; moment = pos 0 };
        nextUpdate = None;
        revokedCertificates = None;
        crlExtensions = None;
      };
      signatureAlgorithm = no_algorithm;
      signatureValue = [];
    }

-- the list that octets are; of octets that are none it says nothing
abbrev pub list_of : List ℕ → CertificateList
list_of octets = result_unwrap_or (crl_of octets) no_list
