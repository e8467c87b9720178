-- What is accepted and taken; what is kept; and what is written, told and late.
use Rattle.ts_links.proofs.Reached.{reached_kept, reached_quiet, reached_then, then_quiet}
use Rattle.ts_loop.proofs.serving.Edge.round.Goals as goal

pub returns-then-not-keep-clause-reached : goal.returns-then-not-keep-clause-reached
returns-then-not-keep-clause-reached g c =
    let accepted = reached_quiet g.S.Service.turn g.S.Service.keeps _ _ _ c.accept.ensures in
    let taken = reached_then g.S.Service.turn g.S.Service.keeps _ _ _ _ _ _ accepted c.take.ensures.reached in
    reached_then g.S.Service.turn g.S.Service.keeps _ _ _ _ _ _ taken (reached_kept g.S.Service.turn g.S.Service.keeps _ _ _ c.keep.ensures.keeps)

pub returns-clause-reached : goal.returns-clause-reached
returns-clause-reached g c =
    let accepted = reached_quiet g.S.Service.turn g.S.Service.keeps _ _ _ c.accept.ensures in
    let taken = reached_then g.S.Service.turn g.S.Service.keeps _ _ _ _ _ _ accepted c.take.ensures.reached in
    let kept = reached_then g.S.Service.turn g.S.Service.keeps _ _ _ _ _ _ taken (reached_kept g.S.Service.turn g.S.Service.keeps _ _ _ c.keep.ensures.keeps) in
    let written = then_quiet g.S.Service.turn g.S.Service.keeps _ _ _ _ _ kept c.write.ensures in
    let told = reached_then g.S.Service.turn g.S.Service.keeps _ _ _ _ _ _ written c.tell.ensures.reached in
    then_quiet g.S.Service.turn g.S.Service.keeps _ _ _ _ _ told c.sweep.ensures
