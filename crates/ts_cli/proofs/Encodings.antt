-- What words are written as.
use Rattle.std.proofs.Common.{◌≡◌, ℕ, ◌<◌, List, length, arith, ◌+◌, ◌-◌, ◌==◌, length-drop}
use Rattle.std.specs.List.{after_first, position_or_len}
use Rattle.std.proofs.lemmas.Fmt.{decimal_nonempty}
use Rattle.ts_cli.specs.Values.{IsAddress}

-- a text without a colon has no port
pub no_port : (text host : List ℕ) (port : ℕ) → position_or_len (λ octet. octet == 58) text ≡ length text → ¬ (IsAddress text host port)
no_port text host port none is =
    let some = decimal_nonempty port (omega (arith, is.behind.is.range)) in
    let long : 0 < length (after_first (λ octet. octet == 58) text) = rw is.behind.is.written some in
    let cut : length (after_first (λ octet. octet == 58) text) ≡ length text - (position_or_len (λ octet. octet == 58) text + 1) = length-drop (position_or_len (λ octet. octet == 58) text + 1) text in
    absurd (omega (arith, long, cut, none))
