-- Inputs that are taken in memory, one after another, and whose facts are kept then.
use Rattle.std.proofs.Common.{◌≡◌, ◌∙◌, ◌++◌, ◌∷◌, ℕ, List, [], false, Result, Ok, Err, refl, sym, ap, subst}
use Rattle.std.specs.Prelude.{OnOk}
use Rattle.std.proofs.lemmas.List.{append-nil}
use Rattle.ts_disk.specs.Disk.{State}
use Rattle.ts_journal.specs.Images.{EveryPair}
use Rattle.ts_synod.specs.declared.message.Fact.{Fact}
use Rattle.ts_synod.specs.Config.{Config}
use Rattle.ts_synod.specs.Store.{Store}
use Rattle.ts_node.specs.declared.input.Input.{Input}
use Rattle.ts_synod.specs.declared.fault.NodeFault.{NodeFault}
use Rattle.ts_synod.specs.declared.fault.NodeFault.TheVariants as faults
use Rattle.ts_node.specs.declared.input.Output.{Output}
use Rattle.ts_node.specs.declared.node.Node.{Node}
use Rattle.ts_node.specs.Ahead.{AreBehind, IsKept, IsTaken, holding}
use Rattle.ts_node.specs.Node.{HasFailed, Moments, ToEither, config, facts, is_broken, member_as, volatile}
use Rattle.ts_node.specs.Staged.{Keeps}
use Rattle.ts_node.proofs.Breaks.{both_not, first_not, second_not}

module _ {D C M O Q A B : Type 0} (octets : C → List ℕ) (store : Store C O (List C) Q (List C)) (basis : M → B) (is_answer : B → List C → Q → A → Type 0) where
  -- The inputs, one for each result, are taken one after another, at a node that holds what waits.
  abbrev pub AreTaken : List (Fact C) → Node D C M → List (Input C Q) → List (Result (Output C O A) NodeFault) → List (Fact C) → Node D C M → Type 0
  AreTaken before old [] [] after new = (after ≡ before) × (new ≡ old)
  AreTaken before old [] (r ∷ rs) after new = ⊥
  AreTaken before old (input ∷ inputs) [] after new = ⊥
  AreTaken before old (input ∷ inputs) (r ∷ rs) after new = (then' : List (Fact C))
      × (mid : Node D C M) × IsTaken octets store basis is_answer before old input r then' mid
      × AreTaken then' mid inputs rs after new

  -- Some turns, of which a crash at any moment leaves no fact, or all facts of all of them.
  pub record IsBatch (state : D → State) (old : Node D C M) (inputs : List (Input C Q))
      (results : List (Result (Output C O A) NodeFault)) (more : List (Fact C))
      (result : Result (Unit {0}) NodeFault) (new : Node D C M) : Type 0 where
    -- the node once it has these facts
    pub last : Node D C M
    pub taken : AreTaken [] old inputs results more last
    pub keeps : Keeps state old more (volatile last) result new
    pub moments : Moments state octets old more new
    pub none : OnOk result (more ≡ [] → new.kept ≡ old.kept)
    pub same_config : config new ≡ config old
    pub whole : OnOk result (is_broken new ≡ false)

  taken_of : (before : List (Fact C)) (old : Node D C M) (inputs : List (Input C Q)) (results : List (Result (Output C O A) NodeFault)) (after : List (Fact C)) (new : Node D C M)
      → AreBehind octets store basis is_answer before old inputs results after new → AreTaken before (holding old before) inputs results after (holding new after)
  taken_of before old [] [] after new are = (are.0, (λ i. holding (are.1 i) (are.0 i)))
  taken_of before old [] (r ∷ rs) after new are = absurd are
  taken_of before old (input ∷ inputs) [] after new are = absurd are
  taken_of before old (input ∷ inputs) (r ∷ rs) after new are = (are.0, holding are.1 are.0, are.2.taken, taken_of are.0 are.1 inputs rs after new are.3)

  -- no device is called
  kept_of : (before : List (Fact C)) (old : Node D C M) (inputs : List (Input C Q)) (results : List (Result (Output C O A) NodeFault)) (after : List (Fact C)) (new : Node D C M)
      → AreBehind octets store basis is_answer before old inputs results after new → (new.kept ≡ old.kept) × (old.ahead ≡ false → new.ahead ≡ false) × (config new ≡ config old)
  kept_of before old [] [] after new are = (ap (λ n. n.kept) are.1, (λ still. ap (λ n. n.ahead) are.1 ∙ still), ap config are.1)
  kept_of before old [] (r ∷ rs) after new are = absurd are
  kept_of before old (input ∷ inputs) [] after new are = absurd are
  kept_of before old (input ∷ inputs) (r ∷ rs) after new are =
      let rest = kept_of are.0 are.1 inputs rs after new are.3 in
      (rest.0 ∙ are.2.kept, (λ still. rest.1 are.2.still), rest.2 ∙ are.2.taken.same_config)

  holding_none : (old : Node D C M) → holding old [] ≡ old
  holding_none old = ap (λ fs. record old { kept = record old.kept { facts = fs } }) (append-nil old.kept.facts)

  module _ (state : D → State) (old : Node D C M) (inputs : List (Input C Q))
      (results : List (Result (Output C O A) NodeFault)) (more : List (Fact C)) (mid : Node D C M)
      (after : List (Fact C)) (new : Node D C M) (whole : is_broken old ≡ false)
      (are : AreBehind octets store basis is_answer [] old inputs results more mid) where
    same : (mid.kept ≡ old.kept) × (old.ahead ≡ false → mid.ahead ≡ false) × (config mid ≡ config old)
    same = kept_of [] old inputs results more mid are

    up : is_broken mid ≡ false
    up = both_not mid.kept.broken mid.ahead (ap (λ k. k.broken) same.0 ∙ first_not old.kept.broken old.ahead whole) (same.1 (second_not old.kept.broken old.ahead whole))

    taken : AreTaken [] old inputs results more (holding mid more)
    taken = subst (λ n. AreTaken [] n inputs results more (holding mid more)) (holding_none old) (taken_of [] old inputs results more mid are)

    from : Moments state octets mid more new → Moments state octets old more new
    from h = subst (λ k. EveryPair (ToEither octets (member_as (config old)) k.facts more)
        (state k.a) (state k.b) (state new.kept.a) (state new.kept.b)) same.0
        (subst (λ (k : Config). EveryPair (ToEither octets (member_as k) (facts mid) more)
        (state mid.kept.a) (state mid.kept.b) (state new.kept.a) (state new.kept.b)) same.2 h)

    kept_so : (result : Result (Unit {0}) NodeFault) → Keeps state mid more (volatile mid) result new → Keeps state old more (volatile mid) result new
    kept_so (Ok x) h = (h.0 ∙ ap (λ k. k.facts ++ more) same.0, h.1)
    kept_so (Err faults.Broken) h = (h.0, h.1 ∙ same.0)
    kept_so (Err faults.DiskFailed) h = (h.0, subst (λ k. HasFailed state (record mid { kept = k }) new) same.0 h.1)
    kept_so (Err faults.Memory) h = absurd h
    kept_so (Err faults.RoundsExhausted) h = absurd h
    kept_so (Err faults.PositionsExhausted) h = absurd h
    kept_so (Err faults.GenerationsExhausted) h = absurd h

    none_so : (result : Result (Unit {0}) NodeFault) → OnOk result (more ≡ [] → new.kept ≡ mid.kept) → OnOk result (more ≡ [] → new.kept ≡ old.kept)
    none_so (Ok x) h = λ is. h is ∙ same.0
    none_so (Err fault) h = tt

    pub batch_of : (result : Result (Unit {0}) NodeFault) → IsKept state octets mid more result after new → IsBatch state old inputs results more result new
    batch_of result at = record {
      last = holding mid more;
      taken = taken;
      keeps = kept_so result (at.keeps up);
      moments = from (at.moments up);
      none = none_so result at.none;
      same_config = ap config at.same ∙ same.2;
      whole = at.whole;
    }
