use Rattle.std.proofs.Common.{◌≡◌, ◌∙◌, ap, sym, subst, take, length, arith}
use Rattle.std.specs.Prelude.{IfOk}
use Rattle.std.proofs.lemmas.List.{take-map}
use Rattle.ts_store.specs.Store.{store_after}
use Rattle.ts_store.specs.Contents.{Contents, no_contents, contents_of}
use Rattle.ts_store.specs.inside.History.{replay}
use Rattle.ts_store.specs.inside.Taken.{command_in}
use Rattle.ts_store.specs.declared.taken.TakenCommand.{TakenCommand}
use Rattle.ts_store.proofs.Replays.{commands_count}
use Rattle.ts_store.proofs.history.History.at.Goals as goal

pub returns : goal.returns
returns c =
    let ts = c.self.inside.taken.items in
    let few = commands_count ts in
    let low = ap length c.self.view_is in
    let past = c.self.invariant.past c.args.k (omega (arith, few, low, c.requires)) in
    let same = sym (take-map (λ (t : TakenCommand). command_in t.kept) c.args.k ts) ∙ ap (take c.args.k) c.self.view_is in
    let whole = ap (λ l. replay no_contents (take c.args.k l)) c.deref.ensures.value ∙ past ∙ ap (λ l. contents_of (store_after l).tables) same in
    subst (λ (x : Contents). IfOk c.replay.result (λ snapshot. snapshot ≡ x)) whole c.replay.ensures
