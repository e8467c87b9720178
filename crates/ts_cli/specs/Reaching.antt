-- How a node is reached, and what a key is made for, by the arguments of a command line.
use Rattle.std.specs.Prelude.{◌≡◌, List, None, codes, option_map, string_bytes}
use Rattle.clap.specs.Walk.{Row, first_of}
use Rattle.ts_cli.specs.Values.{IsAddressed}
use Rattle.ts_cli.specs.Given.{IsAt, IsNumberAt}
use Rattle.ts_cli.specs.declared.reach.Reach.{Reach}
use Rattle.ts_access.specs.declared.key.Role.{Role}
use Rattle.ts_access.specs.declared.key.Role.TheVariants as roles

-- an address, and the file of a key where one is given
pub record IsReach (rows : List Row) (reach : Reach) : Type 0 where
  pub address_is : IsAt (codes "address") rows (string_bytes reach.address)
  pub address_form : IsAddressed (string_bytes reach.address)
  pub key_is : first_of (codes "key") rows ≡ option_map string_bytes reach.key

-- `admin` and `reader` alone, or `peer` with the number of a node
abbrev pub IsRole : List Row → Role → Type 0
IsRole rows (roles.Peer node) =
    IsAt (codes "role") rows (codes "peer") × IsNumberAt (codes "node") rows 1 9 node
IsRole rows roles.Admin =
    IsAt (codes "role") rows (codes "admin") × (first_of (codes "node") rows ≡ None)
IsRole rows roles.Reader =
    IsAt (codes "role") rows (codes "reader") × (first_of (codes "node") rows ≡ None)
