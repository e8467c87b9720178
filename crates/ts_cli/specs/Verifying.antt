-- The chain that is judged, by the arguments of `trustd verify`.
use Rattle.std.specs.Prelude.{◌≡◌, ◌≤◌, List, [], codes, false, length, map, string_bytes}
use Rattle.std.specs.Prelude.{option_map}
use Rattle.clap.specs.Walk.{Row, first_of}
use Rattle.ts_cli.specs.Values.{AsWritten, IsDotted, written}
use Rattle.ts_cli.specs.Given.{IsMomentOrNow, all_at, is_set}
use Rattle.ts_cli.specs.declared.verify_words.VerifyWords.{VerifyWords}

pub record IsVerify (rows : List Row) (words : VerifyWords) : Type 0 where
  pub anchors_are : map string_bytes words.anchors.items ≡ all_at (codes "anchor") rows
  pub crls_are : map string_bytes words.crls.items ≡ all_at (codes "crl") rows
  pub certificates_are : map string_bytes words.certificates.items
      ≡ all_at (codes "certificates") rows
  pub moment_is : IsMomentOrNow (first_of (codes "at") rows) words.moment
  pub host_is : first_of (codes "host") rows ≡ option_map string_bytes words.host
  pub soft_is : words.soft ≡ is_set (codes "soft") rows
  pub deltas_is : words.deltas ≡ is_set (codes "deltas") rows
  -- without CRLs revocation is not checked, and neither can be asked
  pub with_lists : words.crls.items ≡ [] → (words.soft ≡ false) × (words.deltas ≡ false)
  pub explicit_is : words.explicit ≡ is_set (codes "explicit") rows
  pub nomap_is : words.nomap ≡ is_set (codes "nomap") rows
  pub noany_is : words.noany ≡ is_set (codes "noany") rows
  pub policies_are : map written words.policies ≡ all_at (codes "policy") rows
  pub few_policies : length words.policies ≤ 32
  pub purpose_is : AsWritten IsDotted (first_of (codes "purpose") rows) words.purpose
  pub json_is : words.json ≡ is_set (codes "json") rows
