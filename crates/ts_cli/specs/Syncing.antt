-- What a store is to hold, by the arguments of `trustd sync`.
use Rattle.std.specs.Prelude.{◌≡◌, List, codes, map, string_bytes}
use Rattle.clap.specs.Walk.{Row}
use Rattle.ts_cli.specs.Given.{IsNumberOr, all_at, is_set}
use Rattle.ts_cli.specs.Reaching.{IsReach}
use Rattle.ts_cli.specs.declared.sync_words.SyncWords.{SyncWords}

pub record IsSync (rows : List Row) (words : SyncWords) : Type 0 where
  pub reach_is : IsReach rows words.reach
  pub anchors_are : map string_bytes words.anchors.items ≡ all_at (codes "anchors") rows
  pub pass_over_is : words.pass_over ≡ is_set (codes "pass-over") rows
  pub crls_are : map string_bytes words.crls.items ≡ all_at (codes "crls") rows
  pub issuers_are : map string_bytes words.issuers.items ≡ all_at (codes "issuer") rows
  pub unchecked_is : words.unchecked ≡ is_set (codes "unchecked") rows
  pub dry_run_is : words.dry_run ≡ is_set (codes "dry-run") rows
  pub wait_is : IsNumberOr (codes "wait") rows 1 3600 10 words.wait
