-- What a record keeps: its disks, in the order in which they were given, and its facts; whose it
-- is, and of which group; which disk is in use, and its generation; and how far a rewrite is.
use Rattle.std.specs.Prelude.{◌+◌, ℕ, List, Bool}
use Rattle.ts_disk.specs.Disk.{State}
use Rattle.ts_journal.specs.Images.{Member}
use Rattle.ts_journal.specs.Settled.{Holds, disk_a, disk_b}
use Rattle.ts_synod.specs.declared.message.Fact.{Fact}
use Rattle.ts_record.specs.declared.ledger.Ledger.{Ledger}
use Rattle.ts_record.specs.Facts.{AreFacts}
use Rattle.ts_record.specs.Rewrite.{Rewrite, rewrite_at, IsUnderWay, Course}

pub record KeptRecord (D C : Type 0) : Type 0 where
  pub a : D
  pub b : D
  pub facts : List (Fact C)
  pub node : ℕ
  pub nodes : ℕ
  pub group : ℕ
  pub swapped : Bool
  pub generation : ℕ
  pub rewrite : Rewrite C
  pub broken : Bool

-- the node whose record it is
abbrev pub member : {D C : Type 0} → KeptRecord D C → Member
member kept = record { node = kept.node; nodes = kept.nodes }

-- how many writes and syncs were made on its disks: each takes its disk to the next moment
abbrev pub calls_made : {D C : Type 0} → (D → State) → KeptRecord D C → ℕ
calls_made state kept = (state kept.a).moment + (state kept.b).moment

-- all but its disks
abbrev pub course : {D C : Type 0} → KeptRecord D C → Course C
course kept = record {
  facts = kept.facts;
  swapped = kept.swapped;
  generation = kept.generation;
  rewrite = kept.rewrite;
}

abbrev pub rewrite_of : {D C : Type 0} → Ledger D C → Rewrite C
rewrite_of c = rewrite_at c.journal.stage c.copy.items c.done

abbrev pub course_of : {D C : Type 0} → Ledger D C → Course C
course_of c = record {
  facts = c.facts.items;
  swapped = c.journal.swapped;
  generation = c.journal.generation;
  rewrite = rewrite_of c;
}

abbrev pub kept_of : {D C : Type 0} → Ledger D C → Bool → KeptRecord D C
kept_of c broken = record {
  a = disk_a c.journal;
  b = disk_b c.journal;
  facts = c.facts.items;
  node = c.journal.node;
  nodes = c.journal.nodes;
  group = c.journal.group;
  swapped = c.journal.swapped;
  generation = c.journal.generation;
  rewrite = rewrite_of c;
  broken = broken;
}

-- the journal holds bodies of the facts, and a rewrite is as far as it says
abbrev pub Keeps : {D C : Type 0} → (D → State) → (C → List ℕ) → Ledger D C → Type 0
Keeps state octets c = (bodies copied : List (List ℕ)) × Holds state bodies copied c.journal
    × AreFacts octets bodies c.facts.items × IsUnderWay octets c.facts.items copied (rewrite_of c)
