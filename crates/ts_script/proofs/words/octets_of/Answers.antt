-- Octets are decoded, and what they are decoded as is encoded so.
use Rattle.std.proofs.Common.{rules, ◌≡◌, ◌∙◌, sym, arith, vec_len, length}
use Rattle.std.proofs.lemmas.Result.{err_from_is_err_and}
use Rattle.hex.specs.Hex.{encode_lower}
use Rattle.ts_script.proofs.Encoding.{hex_refused, hex_other, hex_found, IsHex-one, not_is_true, not_is_false}
use Rattle.ts_script.proofs.Cutting.{no_items, some_items}
use Rattle.std.proofs.lemmas.Bool.{eqb-true, eqb-false}
use Rattle.ts_script.proofs.words.octets_of.Goals as goal
use Rattle.ts_script.proofs.words.octets_of.Goals.{then-ne-via-then-ne, then-ne-via-else-ne+then-is_empty}

pub returns-in_err-octets-clause-fault : goal.returns-in_err-octets-clause-fault
returns-in_err-octets-clause-fault c =
    let p = err_from_is_err_and c.from_residual.result c.from_residual.ensures.1 in
    rw p.1 (hex_refused c.args.word.now c.in_err-octets.field-0.0 p.0 p.2 c.in_err-octets.ensures.err)

pub returns-then-ne-clause-fault : goal.returns-then-ne-clause-fault
returns-then-ne-clause-fault c = λ xs is.
    let word = c.args.word.now in
    let octets = c.in_ok-octets.octets in
    let decodes = c.in_ok-octets.ensures.ok in
    elim c.then-ne.branch [
      | then-ne-via-then-ne w ↦
          let encodes : c.as_bytes.result.now ≡ encode_lower octets.items = search rules in
          hex_other word xs octets.items c.as_bytes.result.now is decodes encodes (not_is_true _ (sym c.ne.ensures ∙ w.if-ne.true))
      | then-ne-via-else-ne+then-is_empty w ↦
          let len : vec_len octets ≡ length octets.items = omega (arith, octets.ok.0) in
          let none = eqb-true (vec_len octets) 0 (sym w.is_empty.ensures ∙ w.if-is_empty.true) in
          is.some (IsHex-one word xs octets.items is decodes ∙ no_items octets.items (sym len ∙ none))
    ]

pub returns-clause-found : goal.returns-clause-found
returns-clause-found c =
    let octets = c.in_ok-octets.octets in
    let encodes : c.as_bytes.result.now ≡ encode_lower octets.items = search rules in
    let len : vec_len octets ≡ length octets.items = omega (arith, octets.ok.0) in
    let some = eqb-false (vec_len octets) 0 (sym c.is_empty.ensures ∙ c.if-is_empty.false) in
    hex_found c.args.word.now octets.items c.as_bytes.result.now c.in_ok-octets.ensures.ok encodes (not_is_false _ (sym c.ne.ensures ∙ c.if-ne.false))
    (some_items octets.items (λ e. some (len ∙ e)))
