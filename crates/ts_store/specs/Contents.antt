-- What the tables of a store hold: its trust anchors, its complete lists and its deltas.
use Rattle.std.specs.Prelude.{List, []}
use Rattle.ts_store.specs.Tables.{Tables}
use Rattle.ts_store.specs.declared.anchor.TrustAnchor.{TrustAnchor}
use Rattle.ts_store.specs.declared.stored.StoredCrl.{StoredCrl}
use Rattle.ts_store.specs.declared.snapshot.BorrowedAnchor.{BorrowedAnchor}

pub record Contents : Type 0 where
  pub anchors : List TrustAnchor
  pub complete : List StoredCrl
  pub deltas : List StoredCrl

abbrev pub no_contents : Contents
no_contents = record { anchors = []; complete = []; deltas = [] }

-- what these tables hold
abbrev pub contents_of : Tables → Contents
contents_of tables = record {
  anchors = tables.anchors;
  complete = tables.complete;
  deltas = tables.deltas;
}

-- a trust anchor that is borrowed
abbrev pub anchor_in : BorrowedAnchor → TrustAnchor
anchor_in a = record { id = a.id; certificate = a.certificate.now; purposes = a.purposes.now }
