-- All behind the mark is taken.
use Rattle.std.proofs.Common.{◌∙◌, ◌+◌, ap, sym, take, drop, Option, ℕ, length-drop}
use Rattle.std.proofs.Math.Seq.{take-length}
use Rattle.ts_api.specs.Request.{after}
use Rattle.ts_api.proofs.request.query_in.Goals as goal

pub returns-in-Some : goal.returns-in-Some
returns-in-Some c =
    let octets = c.args.octets.now in
    let rest = drop (c.in-Some.place + 1) octets in
    ap (λ (n : ℕ). take n rest) (sym (length-drop (c.in-Some.place + 1) octets)) ∙ (take-length rest
    ∙ ap (λ (place : Option ℕ). after place octets) (sym (sym c.mark_of.ensures ∙ c.in-Some.is)))
