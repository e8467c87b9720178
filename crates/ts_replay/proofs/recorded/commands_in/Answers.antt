use Rattle.std.proofs.Common.{◌∙◌, ap}
use Rattle.ts_disk.specs.Memory.{lawful_of, state_of}
use Rattle.ts_record.specs.Kept.{member}
use Rattle.ts_synod.specs.Force.{log_of}
use Rattle.ts_synod.specs.Log.{prefix}
use Rattle.ts_replay.proofs.Opening.{memory_alone, on_disks, opened, why_not}
use Rattle.ts_replay.proofs.recorded.commands_in.Goals as goal

pub returns-in_ok-prefix_in-in-Ok-clause-found : goal.returns-in_ok-prefix_in-in-Ok-clause-found
returns-in_ok-prefix_in-in-Ok-clause-found c =
    let r = c.in-Ok.record in
    record {
      owner = member r;
      facts = r.facts;
      opens = opened (member r) r.swapped r.facts (state_of r.a) (state_of r.b) c.args.first.items c.args.second.items (lawful_of r.a) (lawful_of r.b)
          (c.in-Ok.ensures.same.0 ∙ c.in_ok-a.ensures.read) (c.in-Ok.ensures.same.1 ∙ c.in_ok-b.ensures.read) c.in-Ok.ensures.opens;
      are = c.in_ok-prefix_in-in-Ok.ensures ∙ ap (λ fs. prefix (log_of fs)) c.facts.ensures;
    }

pub returns-in_ok-prefix_in-in-Ok-clause-only : goal.returns-in_ok-prefix_in-in-Ok-clause-only
returns-in_ok-prefix_in-in-Ok-clause-only c owner facts opens =
    let there = on_disks owner facts (state_of c.in_ok-a.a).read (state_of c.in_ok-b.b).read c.args.first.items c.args.second.items c.in_ok-a.ensures.read c.in_ok-b.ensures.read opens in
    let same = (c.in-Ok.ensures.only owner facts there).0 in
    c.in_ok-prefix_in-in-Ok.ensures ∙ ap (λ fs. prefix (log_of fs)) (c.facts.ensures ∙ same)

pub returns-in-Err-clause-only : goal.returns-in-Err-clause-only
returns-in-Err-clause-only c owner facts opens =
    let there = on_disks owner facts (state_of c.in_ok-a.a).read (state_of c.in_ok-b.b).read c.args.first.items c.args.second.items c.in_ok-a.ensures.read c.in_ok-b.ensures.read opens in
    memory_alone c.in-Err.refused.fault c.in_memory.result c.in_memory.ensures (c.in-Err.ensures.only owner facts there)

pub returns-in-Err-clause-fault : goal.returns-in-Err-clause-fault
returns-in-Err-clause-fault c =
    why_not (state_of c.in_ok-a.a) (state_of c.in_ok-b.b) (state_of c.in-Err.refused.a) (state_of c.in-Err.refused.b) c.args.first.items c.args.second.items
    c.in-Err.refused.fault c.in_memory.result c.in_ok-a.ensures.read c.in_ok-b.ensures.read c.in_memory.ensures c.in-Err.ensures.fault
