-- The messages to others among the first, and then the rest.
use Rattle.std.proofs.Common.{◌∙◌, ◌==◌, ◌++◌, List, not, ap, take}
use Rattle.std.specs.List.{filter}
use Rattle.ts_synod.specs.declared.message.Message.{Message}
use Rattle.ts_node.proofs.turning.give_out.Goals as goal

pub returns : goal.returns
returns g c =
    let kept = filter (λ (m : Message g.row.C.Denot). not (m.to == c.args.me)) (take c.args.looked c.args.messages.items) in
    c.in_ok-append.ensures.items
    ∙ ap (λ (xs : List (Message g.row.C.Denot)). xs ++ c.in_ok-rest.rest.items)
    (c.in_ok-given.ensures
    ∙ ap (filter (λ (m : Message g.row.C.Denot). not (m.to == c.args.me)))
    c.in_ok-rest.ensures.items)
    ∙ ap (λ (ys : List (Message g.row.C.Denot)). kept ++ ys) c.in_ok-rest.ensures.tail
