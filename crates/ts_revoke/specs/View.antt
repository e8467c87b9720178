-- What contracts see of the arguments of `status`.
use Rattle.std.specs.Prelude.{ℤ, Bool, map, option_map}
use Rattle.ts_der.specs.BitsView.{bits_in}
use Rattle.ts_sig.specs.Key.{key_of}
use Rattle.ts_cert.specs.declared.certificate.Cert.{Cert}
use Rattle.ts_cert.specs.CertView.{cert_in}
use Rattle.ts_crl.specs.ListView.{crl_in}
use Rattle.ts_revoke.specs.declared.crls.Crls.{Crls}
use Rattle.ts_revoke.specs.declared.issuer.Issuer.{Issuer}
use Rattle.ts_revoke.specs.declared.question.Question as borrowed
use Rattle.ts_revoke.specs.Question.{Check, StatusQuestion}

abbrev pub question_of : Crls → Cert → Issuer → ℤ → Check → Bool → StatusQuestion
question_of crls cert issuer moment good use_deltas =
    record {
      certificate = cert_in cert;
      key = key_of issuer.key;
      usage = option_map (λ u. bits_in u.bits) issuer.key_usage;
      moment = moment;
      good = good;
      lists = map crl_in crls.lists.now;
      deltas = map crl_in crls.deltas.now;
      use_deltas = use_deltas;
    }

-- the same, gathered
abbrev pub question_in : borrowed.Question → Check → StatusQuestion
question_in q good = question_of q.crls.now q.cert.now q.issuer.now q.moment good q.use_deltas
