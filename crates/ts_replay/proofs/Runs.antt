-- What the steps of a replay have found.
use Rattle.std.proofs.Common.{◌≡◌, ◌∙◌, ◌+◌, ◌≤◌, ◌==◌, ◌++◌, ◌∷◌, ℕ, zero, suc, Bool, true, false}
use Rattle.std.proofs.Common.{nat_lt, List, [], length, drop, take, Option, Some, None, ap, refl, sym}
use Rattle.std.proofs.Common.{arith, append-nil, if◌then◌else◌}
use Rattle.std.proofs.lemmas.List.{take-append-drop}
use Rattle.ts_command.specs.declared.command.Command.{Command}
use Rattle.ts_replay.specs.declared.replaying.Replay.{Replay}
use Rattle.ts_replay.specs.declared.replaying.Step.TheVariants.{Look, Submit, Done}
use Rattle.ts_replay.specs.Replaying.{Leads, Made, after, begun, command_in, next, settled_from, step_for}

-- the first that is left is what a step is about
first_left : (left : List Command) (r : Replay) (c : Command) → command_in (step_for left r) ≡ Some c → (rest : List Command) × (left ≡ c ∷ rest)
first_left [] r c is = absurd (cc is)
first_left (d ∷ ds) r c is = (ds, ap (λ x. x ∷ ds) (same (nat_lt r.done r.known) is))
  where
    same : (b : Bool) → command_in (if b then Look d else Submit d) ≡ Some c → d ≡ c
    same true e = cc
    same false e = cc

-- a replay goes on where the command is settled at its position
goes_on : (r t : Replay) (settled : Option ℕ) → after r settled ≡ Some t → (settled ≡ Some (suc r.done)) × (t ≡ record r { done = suc r.done })
goes_on r t None is = absurd (cc is)
goes_on r t (Some p) is = on (p == suc r.done) refl
  where
    on : (b : Bool) → (p == suc r.done) ≡ b → (Some p ≡ Some (suc r.done)) × (t ≡ record r { done = suc r.done })
    on true e = grind arith
    on false e = grind arith

behind : (xs rest : List Command) (n : ℕ) (c : Command) → drop n xs ≡ c ∷ rest → drop (suc n) xs ≡ rest
behind [] rest zero c e = absurd (cc e)
behind [] rest (suc n) c e = absurd (cc e)
behind (x ∷ xs) rest zero c e = cc
behind (x ∷ xs) rest (suc n) c e = behind xs rest n c e

-- what was found, by how far the replay is
pub record Found (commands : List Command) (r : Replay) (steps : List Made) (s : Replay) : Type 0 where
  pub steps_are : steps ≡ settled_from (suc r.done) (take (length steps) (drop r.done commands))
  pub done : s.done ≡ r.done + length steps
  pub known : s.known ≡ r.known

pub found : (commands : List Command) (r : Replay) (steps : List Made) (s : Replay) → Leads commands r steps s → Found commands r steps s
found commands r [] s is = record { steps_are = refl; done = grind (arith, is); known = grind (arith, is) }
found commands r (m ∷ ms) s (about, later) =
    let first = first_left (drop r.done commands) r m.command about in
    let t = later.0 in
    let on = goes_on r t m.settled later.1 in
    let ih = found commands t ms s later.2 in
    let at : t.done ≡ suc r.done = ap (λ (x : Replay). x.done) on.1 in
    let left : drop t.done commands ≡ first.0 = ap (λ n. drop n commands) at ∙ behind commands first.0 r.done m.command first.1 in
    let rest : ms ≡ settled_from (suc (suc r.done)) (take (length ms) first.0) = ih.steps_are ∙ ap (λ n. settled_from (suc n) (take (length ms) (drop t.done commands))) at
    ∙ ap (λ cs. settled_from (suc (suc r.done)) (take (length ms) cs)) left in
    let here : m ≡ record { command = m.command; settled = Some (suc r.done) } = ap (λ o. record m { settled = o }) on.0 in
    record {
      steps_are = ap (λ x. x ∷ ms) here ∙ ap (λ xs. record { command = m.command; settled = Some (suc r.done) } ∷ xs) rest
          ∙ ap (λ cs. settled_from (suc r.done) (take (suc (length ms)) cs)) (sym first.1);
      done = omega (arith, ih.done, at);
      known = ih.known ∙ ap (λ (x : Replay). x.known) on.1;
    }

-- from the begin on: the steps are those of as many commands as are done
pub so_far : (commands : List Command) (known : ℕ) (steps : List Made) (s : Replay) → Leads commands (begun known) steps s → steps ≡ settled_from 1 (take s.done commands)
so_far commands known steps s leads =
    let f = found commands (begun known) steps s leads in
    let count : length steps ≡ s.done = omega (arith, f.done) in
    f.steps_are ∙ ap (λ n. settled_from 1 (take n commands)) count

none_left : (left : List Command) (r : Replay) → step_for left r ≡ Done → left ≡ []
none_left [] r is = refl
none_left (c ∷ cs) r is = absurd (no_step (nat_lt r.done r.known) is)
  where
    no_step : (b : Bool) → (if b then Look c else Submit c) ≡ Done → ⊥
    no_step true e = cc
    no_step false e = cc

pub at_end : (commands : List Command) (known : ℕ) (steps : List Made) (end : Replay) → Leads commands (begun known) steps end → next commands end ≡ Done → steps ≡ settled_from 1 commands
at_end commands known steps end leads is =
    let none = none_left (drop end.done commands) end is in
    let all : take end.done commands ≡ commands = sym (append-nil (take end.done commands)) ∙ ap (λ r. take end.done commands ++ r) (sym none) ∙ take-append-drop end.done commands in
    so_far commands known steps end leads ∙ ap (settled_from 1) all

known_done : (left : List Command) (r : Replay) (c : Command) → step_for left r ≡ Submit c → r.known ≤ r.done
known_done [] r c is = absurd (cc is)
known_done (d ∷ ds) r c is = behind_known (nat_lt r.done r.known) refl is
  where
    behind_known : (b : Bool) → nat_lt r.done r.known ≡ b → (if b then Look d else Submit d) ≡ Submit c → r.known ≤ r.done
    behind_known true e same = absurd (cc same)
    behind_known false e same = grind (arith, e)

pub at_submission : (commands : List Command) (known : ℕ) (steps : List Made) (now : Replay) (command : Command) → Leads commands (begun known) steps now → next commands now ≡ Submit command
    → (steps ≡ settled_from 1 (take now.done commands)) × (known ≤ now.done)
at_submission commands known steps now command leads is =
    let f = found commands (begun known) steps now leads in
    let behind_it = known_done (drop now.done commands) now command is in
    (so_far commands known steps now leads, omega (arith, f.known, behind_it))
