-- What private clauses see of an entry of the log.
use Rattle.std.specs.Prelude.{ℕ, List, [], Option, Some, None}
use Rattle.ts_question.specs.Rows.{CommandLine}
use Rattle.ts_listing.specs.Listing.{first_octets}
use Rattle.ts_listing.specs.declared.log.Entry.{Entry}

abbrev pub about_in : Option (List ℕ) → List ℕ
about_in None = []
about_in (Some id) = id

abbrev pub line_in : Entry → CommandLine
line_in e = record {
  id = e.id;
  kind = e.kind;
  size = e.size;
  about = about_in e.about;
  purposes = first_octets e.purposes.items;
  outcome = e.outcome;
  detail = e.detail;
}
