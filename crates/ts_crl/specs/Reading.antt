-- Reading a CRL (RFC 5280 5.1) from front to back, up to the first rule
-- that is broken. Each function reads one SEQUENCE of the standard, field by field in its order.
use Rattle.std.specs.Prelude.{ℕ, nat_lt, List, length, Option, Some, None, Result, Ok, Err}
use Rattle.std.specs.Prelude.{if◌then◌else◌}
use Rattle.ts_der.specs.declared.fault.DerFault.TheVariants.{TooLarge}
use Rattle.ts_der.specs.declared.fault.Fault.{Fault}
use Rattle.ts_der.specs.Answer.{◌>>=◌}
use Rattle.ts_der.specs.Element.{Place, Tlv, inside}
use Rattle.ts_der.specs.Reading.{element_at, end_at, many}
use Rattle.ts_shape.specs.declared.fault.CertRule.TheVariants.{Der}
use Rattle.ts_shape.specs.declared.fault.CertFault.{CertFault}
use Rattle.ts_shape.specs.Fault.{der, breaks}
use Rattle.ts_shape.specs.Fields.{integer_at, bits_at, optional_of}
use Rattle.ts_name.specs.Names.{name_at}
use Rattle.ts_shape.specs.Items.{each, alone, of_tag, some_of}
use Rattle.ts_extensions.specs.Extension.{located_in}
use Rattle.ts_field.specs.declared.time.Time.{Time}
use Rattle.ts_field.specs.Algorithm.{algorithm_of, algorithm_at}
use Rattle.ts_field.specs.Time.{time_of, time_at}
use Rattle.ts_crl.specs.List.{LocatedExtensions, LocatedEntry, LocatedTbsList, LocatedList}
use Rattle.ts_crl.specs.Version.{crl_version_at}

-- Extensions ::= SEQUENCE SIZE (1..MAX) OF Extension
unfoldable pub located_extensions_of : Tlv → Result LocatedExtensions Fault
located_extensions_of e = some_of located_in e >>= λ xs. Ok (record { at = e.at; extensions = xs })

-- [0] EXPLICIT Extensions
unfoldable pub wrapped_extensions_of : Tlv → Result LocatedExtensions Fault
wrapped_extensions_of e = alone (of_tag 0x30 (some_of located_in)) e >>= λ xs. Ok
    (record { at = e.at; extensions = xs })

-- a member of revokedCertificates ::= SEQUENCE { userCertificate, revocationDate,
-- crlEntryExtensions }
unfoldable pub entry_of : Tlv → Result LocatedEntry Fault
entry_of e = do
  serial ← integer_at (inside e)
  date ← time_at serial.1
  extensions ← optional_of 0x30 located_extensions_of date.1
  done ← end_at extensions.1
  Ok (record {
    userCertificate = serial.0;
    revocationDate = date.0;
    crlEntryExtensions = extensions.0;
  })

abbrev pub located_entry_of : Tlv → Result LocatedEntry Fault
located_entry_of = of_tag 0x30 entry_of

-- revokedCertificates ::= SEQUENCE OF, of which there may be none
abbrev pub revoked_of : Tlv → Result (List LocatedEntry) Fault
revoked_of e = many (each located_entry_of) (inside e)

-- a GeneralizedTime, where no UTCTime stood
abbrev pub or_general : Option Time × Place → Result (Option Time × Place) Fault
or_general (Some time, after) = Ok (Some time, after)
or_general (None, after) = optional_of 0x18 time_of after

-- nextUpdate Time OPTIONAL
unfoldable pub next_update_at : Place → Result (Option Time × Place) Fault
next_update_at here = optional_of 0x17 time_of here >>= λ utc. or_general utc

-- TBSCertList ::= SEQUENCE { version, signature, issuer, thisUpdate, nextUpdate,
-- revokedCertificates, crlExtensions }
unfoldable pub crl_tbs_of : Tlv → Result LocatedTbsList CertFault
crl_tbs_of e = do
  version ← crl_version_at (inside e)
  signature ← der (algorithm_at version.1)
  issuer ← der (name_at signature.1)
  this ← der (time_at issuer.1)
  next ← der (next_update_at this.1)
  revoked ← der (optional_of 0x30 revoked_of next.1)
  extensions ← der (optional_of 0xA0 wrapped_extensions_of revoked.1)
  done ← der (end_at extensions.1)
  Ok (record {
    version = version.0;
    signature = signature.0;
    issuer = issuer.0;
    thisUpdate = this.0;
    nextUpdate = next.0;
    revokedCertificates = revoked.0;
    crlExtensions = extensions.0;
  })

-- CertificateList ::= SEQUENCE { tbsCertList, signatureAlgorithm, signatureValue BIT STRING }
unfoldable pub crl_signed_of : Tlv → Result LocatedList CertFault
crl_signed_of e = do
  tbs ← der (element_at 0x30 (inside e))
  fields ← crl_tbs_of tbs.0
  identifier ← der (element_at 0x30 tbs.1)
  algorithm ← der (algorithm_of identifier.0)
  signature ← der (bits_at identifier.1)
  done ← der (end_at signature.1)
  Ok (record {
    tbs = tbs.0.whole;
    tbsCertList = fields;
    signatureAlgorithm = algorithm;
    identifier_at = identifier.0.at;
    signatureValue = signature.0;
  })

-- the list that octets are, and nothing after it
unfoldable pub crl_whole_of : List ℕ → Result LocatedList CertFault
crl_whole_of octets = do
  e ← der (element_at 0x30 (record { rest = octets; at = 0 }))
  signed ← crl_signed_of e.0
  done ← der (end_at e.1)
  Ok signed

-- octets that are at most 4,194,304, the limit of this profile
unfoldable pub shape_of : List ℕ → Result LocatedList CertFault
shape_of octets = if nat_lt 4194304 (length octets) then Err (breaks 0 (Der TooLarge))
    else crl_whole_of octets
