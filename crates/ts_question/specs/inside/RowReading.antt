-- A row read from front to back.
use Rattle.std.specs.Prelude.{ℕ, ℤ, List}
use Rattle.std.specs.Int.{w32}
use Rattle.ts_codec.specs.Reading.{Reader, ◌and◌, ◌into◌, behind_mark, octet_at, number_at}
use Rattle.ts_codec.specs.Reading.{signed_at}
use Rattle.ts_codec.specs.Reading.{octets_at, blob16_at}
use Rattle.ts_question.specs.Rows.{AnchorLine, CrlLine, CommandLine}

abbrev pub anchor_of : List ℕ × (List ℕ × List ℕ) → AnchorLine
anchor_of x = record { id = x.0; subject = x.1.0; purposes = x.1.1 }

unfoldable pub anchor_at : Reader AnchorLine
anchor_at = behind_mark 1 (octets_at 32 and blob16_at and blob16_at into anchor_of)

abbrev pub crl_of : List ℕ × (List ℕ × (List ℕ × (List ℕ × (List ℕ × (ℤ × (ℤ × (ℕ × ℕ)))))))
    → CrlLine
crl_of x = record {
  id = x.0;
  issuer = x.1.0;
  number = x.1.1.0;
  base = x.1.1.1.0;
  scope = x.1.1.1.1.0;
  this_update = x.1.1.1.1.1.0;
  next_update = x.1.1.1.1.1.1.0;
  entries = x.1.1.1.1.1.1.1.0;
  size = x.1.1.1.1.1.1.1.1;
}

unfoldable pub crl_at : Reader CrlLine
crl_at = behind_mark 2 (octets_at 32 and blob16_at and blob16_at and blob16_at and blob16_at
    and signed_at and signed_at and number_at w32 and number_at w32 into crl_of)

abbrev pub command_of : List ℕ × (ℕ × (ℕ × (List ℕ × (List ℕ × (ℕ × ℕ))))) → CommandLine
command_of x = record {
  id = x.0;
  kind = x.1.0;
  size = x.1.1.0;
  about = x.1.1.1.0;
  purposes = x.1.1.1.1.0;
  outcome = x.1.1.1.1.1.0;
  detail = x.1.1.1.1.1.1;
}

unfoldable pub command_at : Reader CommandLine
command_at = behind_mark 3 (octets_at 16 and octet_at and number_at w32 and blob16_at and blob16_at
    and octet_at and number_at w32 into command_of)
