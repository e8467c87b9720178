-- The tables of a trust store, and what a command does to them.
use Rattle.std.specs.Prelude.{ℕ, List, [], Result, Ok, Err, if◌then◌else◌}
use Rattle.ts_crl.specs.Fault.{ListFault, broken, noNextUpdate, criticalCrlExtension, deltaCrl}
use Rattle.ts_crl.specs.Fault.{indirect, relativeName}
use Rattle.ts_crl.specs.List.{CertificateList}
use Rattle.ts_crl.specs.Profile.{is_delta}
use Rattle.ts_crl.specs.Table.{crl_of}
use Rattle.ts_store.specs.Anchors.{add_anchor, withdraw_anchor, set_purposes}
use Rattle.ts_store.specs.Lists.{stored_crl, put_list, drop_list}
use Rattle.ts_store.specs.declared.anchor.TrustAnchor.{TrustAnchor}
use Rattle.ts_command.specs.declared.command.Command.{Command}
use Rattle.ts_command.specs.declared.command.Command.TheVariants.{AddAnchor, LoadCrl, DropCrl}
use Rattle.ts_command.specs.declared.command.Command.TheVariants.{WithdrawAnchor, SetPurposes, Noop}
use Rattle.ts_command.specs.declared.outcome.Refusal.{Refusal}
use Rattle.ts_command.specs.declared.outcome.Refusal.TheVariants.{Malformed, CriticalCrlExtension}
use Rattle.ts_command.specs.declared.outcome.Refusal.TheVariants.{DeltaCrl, RelativeName, Indirect}
use Rattle.ts_store.specs.declared.stored.StoredCrl.{StoredCrl}

-- trust anchors; complete lists and deltas, each with slots of its own
pub record Tables : Type 0 where
  pub anchors : List TrustAnchor
  pub complete : List StoredCrl
  pub deltas : List StoredCrl

abbrev pub no_tables : Tables
no_tables = record { anchors = []; complete = []; deltas = [] }

-- the tables with one of them changed, or the refusal
abbrev pub with_anchors : Tables → Result (List TrustAnchor) Refusal → Result Tables Refusal
with_anchors tables (Ok anchors) = Ok (record tables { anchors = anchors })
with_anchors tables (Err refusal) = Err refusal

abbrev pub with_complete : Tables → Result (List StoredCrl) Refusal → Result Tables Refusal
with_complete tables (Ok complete) = Ok (record tables { complete = complete })
with_complete tables (Err refusal) = Err refusal

abbrev pub with_deltas : Tables → Result (List StoredCrl) Refusal → Result Tables Refusal
with_deltas tables (Ok deltas) = Ok (record tables { deltas = deltas })
with_deltas tables (Err refusal) = Err refusal

-- why octets are no list that is kept
abbrev pub refusal_of : ListFault → Refusal
refusal_of (broken fault) = Malformed
refusal_of noNextUpdate = Malformed
refusal_of (criticalCrlExtension oid) = CriticalCrlExtension
refusal_of indirect = Indirect
refusal_of relativeName = RelativeName
refusal_of deltaCrl = DeltaCrl

-- LoadCrl: a delta goes among the deltas
abbrev pub load_as : List ℕ → Tables → Result CertificateList ListFault → Result Tables Refusal
load_as octets tables (Err fault) = Err (refusal_of fault)
load_as octets tables (Ok c) = if is_delta c
    then with_deltas tables (put_list (stored_crl octets) tables.deltas)
    else with_complete tables (put_list (stored_crl octets) tables.complete)

abbrev pub load_crl : List ℕ → Tables → Result Tables Refusal
load_crl octets tables = load_as octets tables (crl_of octets)

-- DropCrl: a complete list of this id, else a delta
abbrev pub drop_either : Tables → Result (List StoredCrl) Refusal → Result (List StoredCrl) Refusal
    → Result Tables Refusal
drop_either tables (Ok complete) deltas = Ok (record tables { complete = complete })
drop_either tables (Err refusal) deltas = with_deltas tables deltas

abbrev pub drop_crl : List ℕ → Tables → Result Tables Refusal
drop_crl id tables = drop_either tables (drop_list id tables.complete) (drop_list id tables.deltas)

-- the tables after a command whose id is new, or why it is refused
abbrev pub change : Command → Tables → Result Tables Refusal
change (AddAnchor id certificate) tables =
    with_anchors tables (add_anchor certificate tables.anchors)
change (WithdrawAnchor id anchor) tables =
    with_anchors tables (withdraw_anchor anchor tables.anchors)
change (LoadCrl id crl) tables = load_crl crl tables
change (DropCrl id crl) tables = drop_crl crl tables
change (SetPurposes id anchor purposes) tables =
    with_anchors tables (set_purposes anchor purposes tables.anchors)
change (Noop id) tables = Ok tables
