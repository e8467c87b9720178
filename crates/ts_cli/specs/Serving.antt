-- How a node is served, by the arguments of `trustd serve`.
use Rattle.std.specs.Prelude.{◌≡◌, ◌≤◌, List, codes, string_bytes, option_map, map, Option, IfSome}
use Rattle.std.specs.List.{AllByRecursion}
use Rattle.clap.specs.Walk.{Row, Text, first_of}
use Rattle.ts_cli.specs.Values.{IsAddressed, NamesPeer}
use Rattle.ts_cli.specs.Given.{IsAt, IsNumberOr, all_at, is_set}
use Rattle.ts_cli.specs.declared.serve_words.ServeWords.{ServeWords}

-- the peers that are named
pub record ArePeers (rows : List Row) (peers : List Text) : Type 0 where
  pub are : peers ≡ all_at (codes "peer") rows
  pub form : AllByRecursion NamesPeer peers

-- the address of HTTP, where one is given
pub record IsHttp (rows : List Row) (http : Option Text) : Type 0 where
  pub is : http ≡ first_of (codes "http") rows
  pub form : IfSome http IsAddressed

pub record IsServe (rows : List Row) (words : ServeWords) : Type 0 where
  pub file_is : IsAt (codes "file") rows (string_bytes words.file)
  pub listen_is : IsAt (codes "listen") rows (string_bytes words.listen)
  pub listen_address : IsAddressed (string_bytes words.listen)
  pub table_is : first_of (codes "table") rows ≡ option_map string_bytes words.table
  pub stand_in_is : words.stand_in ≡ is_set (codes "stand-in") rows
  pub peers_are : ArePeers rows (map string_bytes words.peers.items)
  pub quiet_is : words.quiet ≡ is_set (codes "quiet") rows
  pub keys_is : first_of (codes "keys") rows ≡ option_map string_bytes words.keys
  pub key_is : first_of (codes "key") rows ≡ option_map string_bytes words.key
  pub http_is : IsHttp rows (option_map string_bytes words.http)
  pub open_is : words.open ≡ is_set (codes "open") rows
  pub idle_is : IsNumberOr (codes "idle") rows 1 3600 30 words.idle
  pub request_is : IsNumberOr (codes "request") rows 1 3600 5 words.request
  pub at_once_is : IsNumberOr (codes "connections-at-once") rows 1 4096 512 words.at_once
  pub connections_is : IsNumberOr (codes "connections") rows 1 1000000 1000000 words.connections

-- its numbers are in range
pub record IsServable (words : ServeWords) : Type 0 where
  pub idle_from : 1 ≤ words.idle
  pub idle_to : words.idle ≤ 3600
  pub request_from : 1 ≤ words.request
  pub request_to : words.request ≤ 3600
  pub at_once_from : 1 ≤ words.at_once
  pub at_once_to : words.at_once ≤ 4096
  pub connections_from : 1 ≤ words.connections
  pub connections_to : words.connections ≤ 1000000
