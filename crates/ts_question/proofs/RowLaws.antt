-- The rows of a page are read in one way.
use Rattle.std.proofs.Common.{refl}
use Rattle.std.specs.Int.{w64}
use Rattle.std.specs.Int.RustNames.{FitsSigned}
use Rattle.ts_codec.specs.Reading.{signed_at}
use Rattle.ts_codec.proofs.Laws.{Part}
use Rattle.ts_codec.proofs.Numbers.{octet_part, number32, octets_part}
use Rattle.ts_codec.proofs.Rows.{and_part, into_part}
use Rattle.ts_codec.proofs.Lists.{blob16_part}
use Rattle.ts_codec.proofs.Values.{signed_part, marked_part}
use Rattle.ts_question.specs.Rows.{moment_encoding, anchor_encoding, crl_encoding, command_encoding, AnchorFits, CrlFits, CommandFits}
use Rattle.ts_question.specs.inside.RowReading.{anchor_of, crl_of, command_of, anchor_at, crl_at, command_at}

moment_part : Part moment_encoding (λ m. FitsSigned w64 m) signed_at
unfolding moment_encoding
moment_part = signed_part

pub anchor_part : Part anchor_encoding AnchorFits anchor_at
unfolding anchor_at
anchor_part = marked_part 1 refl (into_part (and_part (octets_part 32) (and_part blob16_part blob16_part)) anchor_of (record {
  parts = λ l. (l.id, (l.subject, l.purposes));
  same = λ l fit. refl;
  fit = λ l fit. (fit.id, (fit.subject, fit.purposes));
  fits = λ x fit. record { id = fit.0; subject = fit.1.0; purposes = fit.1.1 };
  octets = λ x fit. refl;
}))

pub crl_part : Part crl_encoding CrlFits crl_at
unfolding crl_at
crl_part = marked_part 2 refl (into_part (and_part (octets_part 32) (and_part blob16_part (and_part blob16_part (and_part blob16_part (and_part blob16_part
    (and_part moment_part (and_part moment_part (and_part number32 number32)))))))) crl_of (record {
      parts = λ l. (l.id, (l.issuer, (l.number, (l.base, (l.scope, (l.this_update, (l.next_update, (l.entries, l.size))))))));
      same = λ l fit. refl;
      fit = λ l fit. (fit.id, (fit.issuer, (fit.number, (fit.base, (fit.scope, (fit.this_update, (fit.next_update, (fit.entries, fit.size))))))));
      fits = λ x fit. record {
        id = fit.0;
        issuer = fit.1.0;
        number = fit.1.1.0;
        base = fit.1.1.1.0;
        scope = fit.1.1.1.1.0;
        this_update = fit.1.1.1.1.1.0;
        next_update = fit.1.1.1.1.1.1.0;
        entries = fit.1.1.1.1.1.1.1.0;
        size = fit.1.1.1.1.1.1.1.1;
      };
      octets = λ x fit. refl;
    }))

pub command_part : Part command_encoding CommandFits command_at
unfolding command_at
command_part = marked_part 3 refl (into_part (and_part (octets_part 16) (and_part octet_part (and_part number32 (and_part blob16_part (and_part blob16_part
    (and_part octet_part number32)))))) command_of (record {
      parts = λ l. (l.id, (l.kind, (l.size, (l.about, (l.purposes, (l.outcome, l.detail))))));
      same = λ l fit. refl;
      fit = λ l fit. (fit.id, (fit.kind, (fit.size, (fit.about, (fit.purposes, (fit.outcome, fit.detail))))));
      fits = λ x fit. record {
        id = fit.0;
        kind = fit.1.0;
        size = fit.1.1.0;
        about = fit.1.1.1.0;
        purposes = fit.1.1.1.1.0;
        outcome = fit.1.1.1.1.1.0;
        detail = fit.1.1.1.1.1.1;
      };
      octets = λ x fit. refl;
    }))
