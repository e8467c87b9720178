use Rattle.std.proofs.Common.{◌≡◌, ◌∙◌, ◌+◌, ◌++◌, ◌∷◌, [], Some, None, ap, sym, arith}
use Rattle.ts_synod.specs.Log.{ask_length, on_ask}
use Rattle.ts_log.specs.Log.{config_of, learned_of}
use Rattle.ts_log.proofs.Giving.{left, goes_on, breaks_off, is_done, ends}
use Rattle.ts_log.proofs.log.Log.gives.Goals as goal

pub returns-in-None : goal.returns-in-None
returns-in-None g c =
    let a = c.args.self.now in
    let p = c.args.position in
    let i = c.loop-given.given in
    let gap : learned_of a (p + i) ≡ None = sym c.command.ensures ∙ cc in
    let rest = left (config_of a) c.args.from p (ask_length p) (learned_of a) i in
    let done : rest ≡ [] = breaks_off (config_of a) c.args.from (learned_of a) p (ask_length p) i gap in
    ends (config_of a) c.args.from (learned_of a) c.loop-given.messages.items rest (on_ask (config_of a) (learned_of a) c.args.from p) done c.loop-given.invariant

pub loop-given-preserved : goal.loop-given-preserved
loop-given-preserved g c =
    let a = c.args.self.now in
    let p = c.args.position in
    let i = c.loop-given.given in
    let d = c.in-Some.command.now in
    let there : learned_of a (p + i) ≡ Some d = sym c.command.ensures ∙ cc in
    let added : c.push.new.self.items ≡ c.loop-given.messages.items ++ c.in_ok-give-in-Some.field-0 ∷ [] = c.in_ok-push-in-Some.ensures.items in
    let given = added ∙ ap (λ m. c.loop-given.messages.items ++ m ∷ []) c.in_ok-give-in-Some.ensures in
    goes_on (config_of a) c.args.from (learned_of a) p
    (ask_length p) i d c.loop-given.messages.items c.push.new.self.items
    (omega (arith, c.block-given-end.ensures)) there given ∙ c.loop-given.invariant

pub returns : goal.returns
returns g c =
    let a = c.args.self.now in
    let p = c.args.position in
    let i = c.loop-given.given in
    let rest = left (config_of a) c.args.from p (ask_length p) (learned_of a) i in
    let done : rest ≡ [] = is_done (config_of a) c.args.from (learned_of a) p (ask_length p) i (omega (arith, c.block-given-end.ensures)) in
    ends (config_of a) c.args.from (learned_of a) c.loop-given.messages.items rest (on_ask (config_of a) (learned_of a) c.args.from p) done c.loop-given.invariant
