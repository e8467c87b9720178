-- Roles that are ahead of their record, by the facts of turns.
use Rattle.std.proofs.Common.{◌≡◌, ◌∙◌, ◌≤◌, ◌++◌, ℕ, List, [], true, false, true≢false, Ok, Err, length, sym, ap, subst, arith, length-append, append_assoc}
use Rattle.std.proofs.lemmas.List.{append-nil}
use Rattle.std.proofs.lemmas.Grind.{flat_map-append}
use Rattle.ts_disk.specs.Disk.{State, IsDisk}
use Rattle.ts_journal.specs.Images.{EveryPair}
use Rattle.ts_synod.specs.declared.message.Fact.{Fact}
use Rattle.ts_synod.specs.Config.{Config}
use Rattle.ts_synod.specs.Force.{log_of}
use Rattle.ts_synod.specs.Node as world
use Rattle.ts_synod.specs.Node.{step}
use Rattle.ts_synod.specs.Store.{Store}
use Rattle.ts_log.specs.Log.{learned_of}
use Rattle.ts_record.specs.Facts.{AllFit, FactFits, fact_encoding, encodings}
use Rattle.ts_synod.specs.declared.fault.NodeFault.{NodeFault}
use Rattle.ts_synod.specs.declared.fault.NodeFault.TheVariants as faults
use Rattle.ts_node.specs.declared.input.Output.{Output}
use Rattle.ts_node.specs.declared.input.Reply.{Reply}
use Rattle.ts_node.specs.declared.node.Node.{Node}
use Rattle.ts_node.specs.declared.plan.Plan.{Plan}
use Rattle.ts_node.specs.declared.roles.Roles.{Roles}
use Rattle.ts_node.specs.declared.turn.StagedFacts.{StagedFacts}
use Rattle.ts_node.specs.declared.turn.Turn.{Turn}
use Rattle.ts_node.specs.Growing.{IsPart}
use Rattle.ts_node.specs.Node.{HasFailed, IsWhole, Moments, ToEither, config, facts, member_as, owner, volatile}
use Rattle.ts_node.specs.Roles.{StandFor, config_of}
use Rattle.ts_node.specs.Staged.{AreReady, IsStaged, Keeps}
use Rattle.ts_node.specs.inside.Staged.{Comes, HasBegun, IsHeld, Stages}
use Rattle.ts_node.proofs.Fits.{all_more}
use Rattle.ts_record.specs.Kept.{member}
use Rattle.ts_node.proofs.Images.{log_extends, part_extends, rests}

module _ {D C M : Type 0} (state : D → State) (octets : C → List ℕ) (commands : M → List C) (node : Node D C M) where
  pub whole_staged : (none : List (Fact C)) → none ≡ [] → IsWhole state octets commands node → IsStaged state octets commands node none
  whole_staged none is w =
      let e : node.kept.facts ++ none ≡ node.kept.facts = ap (λ fs. node.kept.facts ++ fs) is ∙ append-nil node.kept.facts in
      record { opens = w.opens; whose = w.whose; stand = subst (StandFor node.roles) (sym e) w.stand; part = subst (λ fs. IsPart (commands node.machine) (log_of fs)) (sym e) w.part }

  pub staged_whole : (none : List (Fact C)) → none ≡ [] → IsStaged state octets commands node none → IsWhole state octets commands node
  staged_whole none is w =
      let e : node.kept.facts ++ none ≡ node.kept.facts = ap (λ fs. node.kept.facts ++ fs) is ∙ append-nil node.kept.facts in
      record { opens = w.opens; whose = w.whose; stand = subst (StandFor node.roles) e w.stand; part = subst (λ fs. IsPart (commands node.machine) (log_of fs)) e w.part }

  -- the roles make one more step
  pub staged_more : (staged more : List (Fact C)) (roles : Roles C)
      → IsStaged state octets commands node staged → config_of roles ≡ config node
      → ((fs : List (Fact C)) → StandFor node.roles fs → StandFor roles (fs ++ more))
      → (now : List (Fact C)) → now ≡ more
      → IsStaged state octets commands (record node { roles = roles }) (staged ++ now)
  staged_more staged more roles w conf stand now is =
      let all = node.kept.facts ++ staged in
      let e : all ++ more ≡ node.kept.facts ++ (staged ++ now) = append_assoc node.kept.facts staged more ∙ ap (λ fs. node.kept.facts ++ (staged ++ fs)) (sym is) in
      record {
        opens = w.opens;
        whose = w.whose ∙ ap member_as (sym conf);
        stand = subst (StandFor roles) e (stand all w.stand);
        part = subst (λ fs. IsPart (commands node.machine) (log_of fs)) e (part_extends (log_of all) (log_of (all ++ more)) (commands node.machine) (log_extends all more) w.part);
      }

  -- the roles and the machine go on
  pub staged_on : (staged first more : List (Fact C)) (roles : Roles C) (machine : M)
      → IsStaged state octets commands node (staged ++ first) → config_of roles ≡ config node
      → ((fs : List (Fact C)) → StandFor node.roles (fs ++ first) → StandFor roles (fs ++ more))
      → IsPart (commands machine) (learned_of roles.log) → (now : List (Fact C)) → now ≡ staged
      ++ more
      → IsStaged state octets commands (record node { roles = roles; machine = machine }) now
  staged_on staged first more roles machine w conf stand part now is =
      let stood = subst (StandFor node.roles) (sym (append_assoc node.kept.facts staged first)) w.stand in
      let stands = subst (StandFor roles) (append_assoc node.kept.facts staged more ∙ ap (λ fs. node.kept.facts ++ fs) (sym is)) (stand (node.kept.facts ++ staged) stood) in
      record { opens = w.opens; whose = w.whose ∙ ap member_as (sym conf); stand = stands; part = subst (IsPart (commands machine)) stands.log part }

-- no facts wait
pub ready_none : {C : Type 0} (octets : C → List ℕ) (staged : StagedFacts C) → staged.facts.items ≡ [] → staged.size ≡ 0 → AreReady octets staged
ready_none octets staged none empty = record {
  fit = subst (AllFit octets) (sym none) tt;
  size = empty ∙ sym (ap (λ fs. length (encodings octets fs)) none);
  short = (let e = empty in omega arith);
}

-- memory was refused once the roles were changed
pub broken : {D C M O A : Type 0} (reply : Reply O A) (turn : Turn C) (old : Node D C M)
    (before after : List (Fact C)) (new : Node D C M) (fault : NodeFault) → fault ≡ faults.Broken
    → new.ahead ≡ true → Stages old reply turn.looked turn.messages.items turn.facts.items
    (volatile old) before (Err fault) after new
broken reply turn old before after new fault is ahead = subst (λ f. Stages old reply turn.looked turn.messages.items turn.facts.items (volatile old) before (Err f) after new) (sym is) ahead

-- the facts of a turn behind those before it
pub ready_more : {C : Type 0} (octets : C → List ℕ) (old new : StagedFacts C) (turn : Turn C)
    → AreReady octets old → IsHeld octets turn → turn.before ≡ old.size
    → new.facts.items ≡ old.facts.items ++ turn.facts.items → new.size ≡ turn.size
    → AreReady octets new
ready_more octets old new turn was held before is size = record {
  fit = subst (AllFit octets) (sym is) (all_more (FactFits octets) old.facts.items turn.facts.items was.fit held.fit);
  size =
      let a = ap (λ fs. length (encodings octets fs)) is in
      let b = ap length (flat_map-append (fact_encoding octets) old.facts.items turn.facts.items) in
      let c = length-append (encodings octets old.facts.items) (encodings octets turn.facts.items) in
      let d = held.size in
      let e = was.size in
      omega arith;
  short = subst (λ n. n ≤ 4194500) (sym size) held.short;
}

module _ {D C M O Q A : Type 0} (state : D → State) (octets : C → List ℕ) (commands : M → List C)
    (store : Store C O (List C) Q (List C)) (old mid new : Node D C M) (plan : Plan C)
    (reply : Reply O A) (before after : List (Fact C)) (none : before ≡ [])
    (kept : mid.kept ≡ old.kept) (conf : config mid ≡ config old) where
  -- Its facts are kept.
  pub come_kept : (output : Output C O A) (begun : HasBegun octets store old plan reply before (Ok output) after mid) → volatile new ≡ volatile mid → facts new ≡ facts mid ++ after
      → Comes state old reply begun.looked begun.made begun.more begun.then' (Ok output) new
  come_kept output begun vol is = (
    is ∙ (λ i. (kept i).facts ++ (begun.comes.0 ∙ ap (λ fs. fs ++ begun.more) none) i),
    vol ∙ begun.comes.1,
    begun.comes.2,
    begun.comes.3,
  )

  pub come_failed : (T : Type 0) (output : Output C O A) (fault : NodeFault)
      (then' : world.Volatile C)
      (begun : HasBegun octets store old plan reply before (Ok output) after mid)
      → Keeps {T = T} state mid after then' (Err fault) new
      → Comes state old reply begun.looked begun.made begun.more begun.then' (Err fault) new
  come_failed T output faults.Broken then' begun h = (h.0, h.1 ∙ kept)
  come_failed T output faults.DiskFailed then' begun h = (h.0, subst (λ k. HasFailed state (record mid { kept = k }) new) kept h.1)
  come_failed T output faults.Memory then' begun h = absurd h
  come_failed T output faults.RoundsExhausted then' begun h = absurd h
  come_failed T output faults.PositionsExhausted then' begun h = absurd h
  come_failed T output faults.GenerationsExhausted then' begun h = absurd h

  pub moments_kept : (output : Output C O A) (begun : HasBegun octets store old plan reply before (Ok output) after mid) → Moments state octets mid after new → Moments state octets old begun.more new
  moments_kept output begun h =
      subst (λ fs. Moments state octets old fs new)
      (begun.comes.0 ∙ ap (λ fs. fs ++ begun.more) none)
      (subst (λ k. EveryPair (ToEither octets (member_as (config old)) k.facts after) (state k.a)
      (state k.b) (state new.kept.a) (state new.kept.b)) kept
      (subst (λ (k : Config). EveryPair (ToEither octets (member_as k) (facts mid) after)
      (state mid.kept.a) (state mid.kept.b) (state new.kept.a) (state new.kept.b)) conf h))

  pub come_refused : (fault : NodeFault)
      (begun : HasBegun octets store old plan reply before (Err fault) after mid)
      → Comes state old reply begun.looked begun.made begun.more begun.then' (Err fault) mid
  come_refused faults.Broken begun = (begun.comes, kept)
  come_refused faults.Memory begun = begun.comes.1
  come_refused faults.DiskFailed begun = absurd begun.comes
  come_refused faults.RoundsExhausted begun = absurd begun.comes
  come_refused faults.PositionsExhausted begun = absurd begun.comes
  come_refused faults.GenerationsExhausted begun = absurd begun.comes

  pub none_then : (fault : NodeFault) (begun : HasBegun octets store old plan reply before (Err fault) after mid) → mid.ahead ≡ false → after ≡ []
  none_then faults.Broken begun still = absurd (true≢false (sym begun.comes ∙ still))
  none_then faults.Memory begun still = begun.comes.0 ∙ none
  none_then faults.DiskFailed begun still = absurd begun.comes
  none_then faults.RoundsExhausted begun still = absurd begun.comes
  none_then faults.PositionsExhausted begun still = absurd begun.comes
  none_then faults.GenerationsExhausted begun still = absurd begun.comes

  pub moments_none : (more : List (Fact C)) → IsDisk (state old.kept.a) → IsDisk (state old.kept.b) → IsWhole state octets commands old → Moments state octets old more mid
  moments_none more da db w = subst (λ k. EveryPair (ToEither octets (owner old) (facts old) more) (state old.kept.a) (state old.kept.b) (state k.a) (state k.b)) (sym kept)
      (rests octets (member old.kept) (owner old) old.kept.swapped old.kept.facts more (state old.kept.a) (state old.kept.b) w.whose da db w.opens)
