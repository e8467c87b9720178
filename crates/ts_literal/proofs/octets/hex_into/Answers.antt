-- What is decoded, and encoded as the text.
use Rattle.std.proofs.Common.{rules, ◌≡◌, ◌∙◌, ap, sym, length}
use Rattle.std.specs.Str.{bytes_eq}
use Rattle.hex.specs.Hex.{encode_lower}
use Rattle.ts_literal.proofs.Digits.{hex_refused, hex_found}
use Rattle.ts_literal.proofs.octets.hex_into.Goals as goal

pub returns-then-is_err : goal.returns-then-is_err
returns-then-is_err c = λ xs.
    hex_refused (length c.args.octets.now) c.args.text.now xs c.decode_to_slice.result c.decode_to_slice.new.out c.decode_to_slice.ensures.value
    (sym c.is_err.ensures.value ∙ c.if-is_err.true)

pub returns : goal.returns
returns c =
    let encodes : c.encode_to_slice.new.output ≡ encode_lower c.decode_to_slice.new.out = search rules in
    hex_found (length c.args.octets.now) c.args.text.now c.encode_to_slice.new.output c.decode_to_slice.result c.decode_to_slice.new.out c.decode_to_slice.ensures.value
    (sym c.is_err.ensures.value ∙ c.if-is_err.false) encodes c.eq.result (c.eq.ensures ∙ ap (bytes_eq c.encode_to_slice.new.output) c.as_bytes.ensures.value)
