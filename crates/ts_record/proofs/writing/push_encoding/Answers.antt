use Rattle.std.proofs.Common.{◌++◌, ap, ◌∙◌, sym}
use Rattle.ts_record.specs.Facts.{fact_encoding}
use Rattle.ts_record.proofs.Encodings.{two, three}
use Rattle.ts_record.proofs.writing.push_encoding.Goals as goal

pub returns-in_ok-extend_from_slice-in-Promised : goal.returns-in_ok-extend_from_slice-in-Promised
returns-in_ok-extend_from_slice-in-Promised g c =
    two _ _ _ _ _ _ c.in_ok-push_kind-in-Promised.ensures (c.in_ok-extend_from_slice-in-Promised.ensures.items ∙ ap (λ l. c.push_kind-in-Promised.new.out.items ++ l) c.to_be_bytes.ensures)
    ∙ ap (λ f. c.args.out.now.items ++ fact_encoding g.C.Codec.octets f) (sym c.in-Promised.is)

pub returns-in_ok-push_command-in-Took : goal.returns-in_ok-push_command-in-Took
returns-in_ok-push_command-in-Took g c =
    three _ _ _ _ _ _ _ _ c.in_ok-push_kind-in-Took.ensures
    (c.in_ok-extend_from_slice-in-Took.ensures.items
    ∙ ap (λ l. c.push_kind-in-Took.new.out.items ++ l) c.to_be_bytes-in-Took.ensures)
    c.in_ok-push_command-in-Took.ensures
    ∙ ap (λ f. c.args.out.now.items ++ fact_encoding g.C.Codec.octets f) (sym c.in-Took.is)
