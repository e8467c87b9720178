-- What contracts see of what was found in entries.
use Rattle.std.specs.Option.{option_copied}
use Rattle.ts_crl.specs.declared.findings.Findings.{Findings as Borrowed}
use Rattle.ts_crl.specs.Findings.{Findings}

abbrev pub findings_in : Borrowed → Findings
findings_in f = record {
  old_version = f.old_version;
  repeated = f.repeated;
  value = f.value;
  unprocessed = option_copied f.unprocessed;
  issuer = f.names_issuer;
}
