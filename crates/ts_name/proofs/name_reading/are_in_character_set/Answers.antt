use Rattle.std.proofs.Common.{Bool, subst}
use Rattle.std.specs.Bool.{MatchBool}
use Rattle.std.specs.Str.{IsAscii, IsNotAscii}
use Rattle.ts_name.proofs.ShortNames.{ascii-text}
use Rattle.ts_name.proofs.name_reading.are_in_character_set.Goals as goal

pub returns-then-is_ascii : goal.returns-then-is_ascii
returns-then-is_ascii c = λ e.
    let octets = c.args.octets.now in
    ascii-text c.args.tag octets (subst (λ (b : Bool). MatchBool b (IsAscii octets) (IsNotAscii octets)) c.if-is_ascii.true c.is_ascii.ensures.cases)
