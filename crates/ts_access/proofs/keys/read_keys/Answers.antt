-- One more line was read.
use Rattle.std.proofs.Common.{List, ℕ, Bor, Option, option_map, subst}
use Rattle.ts_access.proofs.Reading.{ReadsOn, fewer_left, goes_on}
use Rattle.ts_access.proofs.keys.read_keys.Goals as goal

pub loop-rest-preserved : goal.loop-rest-preserved
loop-rest-preserved c =
    goes_on c.args.text.now c.in-Some.left.now c.first_piece.result.0.now
    (option_map (λ (rest : Bor (List ℕ)). rest.now) c.first_piece.result.1)
    c.loop-rest.keys.items c.push_line.new.keys.items c.loop-rest.number
    (subst (λ (o : Option (Bor (List ℕ))). ReadsOn c.args.text.now
    (option_map (λ (rest : Bor (List ℕ)). rest.now) o) c.loop-rest.keys.items c.loop-rest.number)
    c.in-Some.is c.loop-rest.invariant)
    c.first_piece.ensures.pieces
    (fewer_left c.first_piece.result.1 _ c.first_piece.ensures.fewer)
    c.in_ok-push_line.ensures.adds
