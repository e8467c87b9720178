-- What was written goes on by what a write took.
use Rattle.std.proofs.Common.{◌≡◌, ◌∙◌, ap, drop, subst, sym, Bor, List, ℕ}
use Rattle.std.proofs.lemmas.List.{take_rest}
use Rattle.ts_serve.proofs.Writing.{HasWritten, written_kept, written_more}
use Rattle.ts_serve.proofs.sending.write_octets.Goals as goal
use Rattle.ts_serve.proofs.sending.write_octets.Goals.{in-Ok, in-Err}

pub loop-try-preserved : goal.loop-try-preserved
loop-try-preserved g c = elim c.match-write.branch [
  | in-Ok w ↦ (let e : c.match-write.rest.now ≡ drop w.in-Ok.count c.loop-try.rest.now = ap (λ (r : Bor (List ℕ)). r.now) w.rest-is ∙ take_rest c.loop-try.rest.now w.in-Ok.count in
      subst (λ l. HasWritten (g.W.Write.contents c.args.writer.now) (g.W.Write.contents c.write.new.self) c.args.octets.now l) (sym e)
      (written_more _ _ _ c.args.octets.now c.loop-try.rest.now w.in-Ok.count c.loop-try.invariant (w.in-Ok.ensures.bytes)))
  | in-Err w ↦ subst (λ (l : Bor (List ℕ)). HasWritten (g.W.Write.contents c.args.writer.now)
      (g.W.Write.contents c.write.new.self) c.args.octets.now l.now) (sym w.rest-is)
      (written_kept _ _ _ c.args.octets.now c.loop-try.rest.now c.loop-try.invariant
      w.in-Err.ensures.bytes)
]
