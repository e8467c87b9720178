-- What inputs come to that are taken in memory and then kept is what a run allows.
use Rattle.std.proofs.Common.{◌≡◌, ◌∙◌, ◌⊎◌, ◌++◌, ◌∷◌, ℕ, zero, suc, List, [], map, length, take}
use Rattle.std.proofs.Common.{Result, Ok, Err, Some, true, false, inl, inr, refl, sym, ap, subst}
use Rattle.std.proofs.Common.{slice_get, ⊎_elim, append_assoc, length-append, arith}
use Rattle.std.proofs.lemmas.List.{append-nil}
use Rattle.std.specs.List.{AllByRecursion}
use Rattle.std.specs.Prelude.{MatchResult}
use Rattle.ts_disk.specs.Disk.{State}
use Rattle.ts_synod.specs.declared.message.Fact.{Fact}
use Rattle.ts_synod.specs.declared.message.Message.{Message}
use Rattle.ts_synod.specs.Config.{is_node}
use Rattle.ts_synod.specs.Force.{SameForce}
use Rattle.ts_synod.specs.Laws.{node_with}
use Rattle.ts_synod.specs.Node as world
use Rattle.ts_synod.specs.Store.{Store}
use Rattle.ts_synod.specs.Turn.{Turn, turn}
use Rattle.ts_synod.proofs.Sets.{put_same}
use Rattle.ts_record.specs.Facts.{OpensTo}
use Rattle.ts_record.specs.Kept.{KeptRecord}
use Rattle.ts_node.specs.declared.node.Node.{Node}
use Rattle.ts_node.specs.declared.input.Input.{Input}
use Rattle.ts_node.specs.declared.input.Input.TheVariants as kinds
use Rattle.ts_node.specs.declared.input.Output.{Output}
use Rattle.ts_synod.specs.declared.fault.NodeFault.{NodeFault}
use Rattle.ts_synod.specs.declared.fault.NodeFault.TheVariants as faults
use Rattle.ts_node.specs.Inputs.{IsInput}
use Rattle.ts_node.specs.Node.{IsSame, config, facts, is_broken, member_as, owner, volatile}
use Rattle.ts_node.specs.Ahead.{IsTaken, Stays, TakesTurn}
use Rattle.ts_node.proofs.Behind.{AreTaken, IsBatch, batch_of}
use Rattle.ts_node.specs.Staged.{Keeps}
use Rattle.ts_node.specs.Turn.{DoesTurn, own_numbers}
use Rattle.ts_node.specs.Run.{Group, Happening, IsOpened, after, after_all, refused, reopened, turned}
use Rattle.ts_node.specs.Allowed.{AreLeft, AreOnes, BatchesAre, BreaksAre, IsOffered, May, MayAll, Works}
use Rattle.ts_record.specs.Record.{OpensToForce}
use Rattle.ts_node.proofs.Breaks.{second_not}
use Rattle.ts_node.proofs.Images.{same_refl}

-- what was sent stays where it is
get_before : {A : Type 0} (xs ys : List A) (k : ℕ) (x : A) → slice_get xs k ≡ Some x → slice_get (xs ++ ys) k ≡ Some x
get_before [] ys k x is = absurd (cc)
get_before (y ∷ xs) ys zero x is = is
get_before (y ∷ xs) ys (suc k) x is = get_before xs ys k x is

input_more : {C Q : Type 0} (sent more : List (Message C)) (input : Input C Q) (event : world.Input C Q) → IsInput sent input event → IsInput (sent ++ more) input event
input_more sent more (kinds.Deliver m) (world.Deliver which) is = get_before sent more which m is
input_more sent more (kinds.Submit c) (world.Submit d) is = is
input_more sent more (kinds.Ask k q) (world.Question at' question) is = is
input_more sent more (kinds.Outcome id) (world.Outcome client_id) is = is
input_more sent more kinds.CatchUp world.CatchUp is = is
input_more sent more kinds.Status world.Status is = is
input_more sent more input event is = absurd is

offered_more : {C Q : Type 0} (sent more : List (Message C)) (inputs : List (Input C Q)) → AllByRecursion (IsOffered sent) inputs → AllByRecursion (IsOffered (sent ++ more)) inputs
offered_more sent more [] are = tt
offered_more sent more (input ∷ inputs) are = (⊎_elim (λ (c : input ≡ kinds.Compact). inl c) (λ e. inr (e.0, input_more sent more input e.0 e.1)) are.0, offered_more sent more inputs are.1)

no_more : {A : Type 0} (xs ys : List A) → xs ++ ys ≡ xs → ys ≡ []
no_more xs [] is = refl
no_more xs (y ∷ ys) is = absurd (let n = ap length is in let k = length-append xs (y ∷ ys) in omega arith)

-- a node with this record, but for its facts
abbrev with_record : {D C M : Type 0} → KeptRecord D C → Node D C M → Node D C M
with_record base node = record node { kept = record base { facts = facts node }; ahead = false }

module _ {D C M O Q A B : Type 0} (state : D → State) (octets : C → List ℕ)
    (store : Store C O (List C) Q (List C)) (commands : M → List C) (basis : M → B)
    (is_answer : B → List C → Q → A → Type 0) (n : ℕ) (rest : B) where
  -- the facts and the configuration that a batch comes to
  came : (before : List (Fact C)) (old : Node D C M) (inputs : List (Input C Q))
      (results : List (Result (Output C O A) NodeFault)) (then' : List (Fact C)) (new : Node D C M)
      → AreTaken octets store basis is_answer before old inputs results then' new
      → (more : List (Fact C)) × (then' ≡ before ++ more) × (facts new ≡ facts old ++ more) × (config new ≡ config old)
  came before old [] [] then' new are = ([], are.0 ∙ sym (append-nil before), ap facts are.1 ∙ sym (append-nil (facts old)), ap config are.1)
  came before old [] (r ∷ results) then' new are = absurd are
  came before old (input ∷ inputs) [] then' new are = absurd are
  came before old (input ∷ inputs) (r ∷ results) then' new are =
      let one = are.2 in
      let next = came are.0 are.1 inputs results then' new are.3 in (
        one.more ++ next.0,
        next.1 ∙ ap (λ fs. fs ++ next.0) one.behind ∙ append_assoc before one.more next.0,
        next.2 ∙ ap (λ fs. fs ++ next.0) one.holds ∙ append_assoc (facts old) one.more next.0,
        next.3 ∙ one.same_config,
      )

  module _ (i : ℕ) (node : is_node n i ≡ true) (target : KeptRecord D C) where
    -- what a batch comes to in a group: its results are happenings, and the node is then the last
    -- one, on a record that is the target's where the facts are
    record Goes (s : Group D C M O Q A) (inputs : List (Input C Q)) (results : List (Result (Output C O A) NodeFault)) (last : Node D C M) : Type 0 where
      pub run : List (Happening D C M O Q A)
      pub ones : AreOnes i inputs results run
      pub may : MayAll state octets store commands basis is_answer n rest s run
      pub base : KeptRecord D C
      pub there : facts last ≡ target.facts → target ≡ record base { facts = facts last }
      pub is : (after_all s run).nodes i ≡ with_record base last

    -- one turn that answers
    answers : (s : Group D C M O Q A) (base : KeptRecord D C) (before then' : List (Fact C))
        (old mid : Node D C M) (input : Input C Q) (event : world.Input C Q) (output : Output C O A)
        → s.nodes i ≡ with_record base old → basis old.machine ≡ rest → IsInput s.sent input event
        → (one : IsTaken octets store basis is_answer before old input (Ok output) then' mid)
        → May state octets store commands basis is_answer n rest s
        (turned i input output one.made (with_record target mid))
    answers s base before then' old mid input event output is rests at one = (
      node,
      one.same_config ∙ ap config (sym is),
      event,
      at,
      own_numbers (config old).me (length s.sent) (take one.looked one.made),
      λ kept force. subst (λ (x : Node D C M). DoesTurn (is_answer rest) x output one.made
          (with_record target mid)
          (turn store (config x) (node_with kept (volatile x)) s.sent
          (event ∷ map world.Deliver
          (own_numbers (config old).me (length s.sent) (take one.looked one.made))))) (sym is)
          (does kept (subst (λ (x : Node D C M). SameForce kept (facts x)) is force)),
    )
      where
        does : (kept : List (Fact C)) → SameForce kept (facts old)
            → DoesTurn (is_answer rest) (with_record base old) output one.made
            (with_record target mid)
            (turn store (config old) (node_with kept (volatile old)) s.sent
            (event ∷ map world.Deliver
            (own_numbers (config old).me (length s.sent) (take one.looked one.made))))
        does kept force =
            let d = subst (λ b. DoesTurn (is_answer b) old output one.made mid
            (turn store (config old) (node_with kept (volatile old)) s.sent
            (event ∷ map world.Deliver
            (own_numbers (config old).me (length s.sent) (take one.looked one.made))))) rests
            (one.turned kept s.sent event force at).0 in
            record { facts = d.facts; volatile = d.volatile; same = d.same; reply = d.reply }

    -- one that is refused
    unmoved : (s : Group D C M O Q A) (before then' : List (Fact C)) (old mid : Node D C M)
        (input : Input C Q) (event : world.Input C Q) (fault : NodeFault) → basis old.machine ≡ rest
        → IsInput s.sent input event
        → (one : IsTaken octets store basis is_answer before old input (Err fault) then' mid) → Stays old mid
    unmoved s before then' old mid input event fault rests at one = go fault _ (one.turned (facts old) s.sent event (same_refl (facts old)) at).0
      where
        go : (f : NodeFault) (t : Turn C O Q (List C)) → TakesTurn (is_answer (basis old.machine)) old (Err f) one.made mid t → Stays old mid
        go faults.Memory t h = h
        go faults.RoundsExhausted t h = h.1
        go faults.PositionsExhausted t h = h.1
        go faults.DiskFailed t h = absurd h
        go faults.Broken t h = absurd h
        go faults.GenerationsExhausted t h = absurd h

    event_of : (sent : List (Message C)) (input : Input C Q) → (input ≡ kinds.Compact → ⊥) → IsOffered sent input → (event : world.Input C Q) × IsInput sent input event
    event_of sent input real (inl is) = absurd (real is)
    event_of sent input real (inr e) = e

    goes : (s : Group D C M O Q A) (base : KeptRecord D C) (before then' : List (Fact C))
        (old last : Node D C M) (inputs : List (Input C Q))
        (results : List (Result (Output C O A) NodeFault)) → s.nodes i ≡ with_record base old
        → basis old.machine ≡ rest
        → (facts old ≡ target.facts → target ≡ record base { facts = facts old })
        → AllByRecursion (IsOffered s.sent) inputs
        → AreTaken octets store basis is_answer before old inputs results then' last
        → Goes s inputs results last
    goes s base before then' old last [] [] is rests there offered are =
        record {
          run = [];
          ones = tt;
          may = tt;
          base = base;
          there =
              subst (λ (x : Node D C M). facts x ≡ target.facts
              → target ≡ record base { facts = facts x }) (sym are.1) there;
          is = is
              ∙ ap (with_record base) (sym are.1);
        }
    goes s base before then' old last [] (r ∷ results) is rests there offered are = absurd are
    goes s base before then' old last (input ∷ inputs) [] is rests there offered are = absurd are
    goes s base before then' old last (input ∷ inputs) (Ok output ∷ results) is rests there offered are =
        let one = are.2 in
        let mid = are.1 in
        let e = event_of s.sent input one.real offered.0 in
        let h = turned i input output one.made (with_record target mid) in
        let t = after s h in
        let next = goes t target are.0 then' mid last inputs results
        (put_same s.nodes i (with_record target mid) i refl) (one.same_basis ∙ rests)
        (λ k. ap (λ fs. record target { facts = fs }) (sym k))
        (offered_more s.sent one.made inputs offered.1) are.3 in
        record {
          run = h ∷ next.run;
          ones = ((one.made, with_record target mid, refl), next.ones);
          may = (answers s base before are.0 old mid input e.0 output is rests e.1 one, next.may);
          base = next.base;
          there = next.there;
          is = next.is;
        }
    goes s base before then' old last (input ∷ inputs) (Err fault ∷ results) is rests there offered are =
        let one = are.2 in
        let mid = are.1 in
        let e = event_of s.sent input one.real offered.0 in
        let stays = unmoved s before are.0 old mid input e.0 fault rests e.1 one in
        let h : Happening D C M O Q A = refused i (with_record base mid) in
        let t = after s h in
        let next = goes t base are.0 then' mid last inputs results
        (put_same s.nodes i (with_record base mid) i refl) (one.same_basis ∙ rests)
        (subst (λ fs. fs ≡ target.facts → target ≡ record base { facts = fs })
        (sym stays.kept) there) offered.1 are.3 in
        record {
          run = h ∷ next.run;
          ones = ((with_record base mid, refl), next.ones);
          may = (
            (
              node,
              one.same_config ∙ ap config (sym is),
              subst (λ (x : Node D C M). IsSame x (with_record base mid)) (sym is) (record { kept = ap (λ fs. record base { facts = fs }) stays.kept; volatile = stays.volatile; ahead = refl }),
            ),
            next.may,
          );
          base = next.base;
          there = next.there;
          is = next.is;
        }

  -- a group is as it was
  begins : (node : Node D C M) → is_broken node ≡ false → node ≡ with_record node.kept node
  begins node whole = ap (λ b. record node { ahead = b }) (second_not node.kept.broken node.ahead whole)

  may_then : (s : Group D C M O Q A) (run : List (Happening D C M O Q A))
      (h : Happening D C M O Q A) → MayAll state octets store commands basis is_answer n rest s run
      → May state octets store commands basis is_answer n rest (after_all s run) h
      → MayAll state octets store commands basis is_answer n rest s (run ++ h ∷ [])
  may_then s [] h may one = (one, tt)
  may_then s (x ∷ run) h may one = (may.0, may_then (after s x) run h may.1 one)

  module _ (s : Group D C M O Q A) (i : ℕ) (inputs : List (Input C Q))
      (results : List (Result (Output C O A) NodeFault)) (more : List (Fact C)) (new : Node D C M)
      (works : Works state octets store commands basis is_answer n rest s i)
      (offered : AllByRecursion (IsOffered s.sent) inputs) where
    batch_is : (result : Result (Unit {0}) NodeFault) → IsBatch octets store basis is_answer state (s.nodes i) inputs results more result new
        → MatchResult result (λ done. (run : List (Happening D C M O Q A))
        × AreOnes i inputs results run
        × MayAll state octets store commands basis is_answer n rest s
        (run ++ refused i new ∷ []))
        (λ fault. (fault ≡ faults.DiskFailed) ⊎ (fault ≡ faults.Broken))
    batch_is (Ok done) batch =
        let old = s.nodes i in
        let last = batch.last in
        let came_to = came [] old inputs results more last batch.taken in
        let keeps = batch.keeps in
        let e : facts new ≡ facts last = keeps.0 ∙ ap (λ fs. facts old ++ fs) came_to.1 ∙ sym came_to.2 in
        let none : facts old ≡ new.kept.facts → new.kept ≡ old.kept = λ k. batch.none (no_more (facts old) more (sym keeps.0 ∙ sym k)) in
        let went = goes i works.node new.kept s old.kept [] more old last inputs results (begins old works.whole) works.rests none offered batch.taken in (
          went.run,
          went.ones,
          may_then s went.run (refused i new) went.may (
            works.node,
            batch.same_config ∙ sym came_to.3 ∙ ap config (sym went.is),
            subst (λ (x : Node D C M). IsSame x new) (sym went.is) (record { kept = went.there (sym e); volatile = keeps.1; ahead = second_not new.kept.broken new.ahead batch.whole }),
          ),
        )
    batch_is (Err fault) batch = go fault batch.keeps
      where
        go : (f : NodeFault) → Keeps {T = Unit {0}} state (s.nodes i) more (volatile batch.last) (Err f) new → (f ≡ faults.DiskFailed) ⊎ (f ≡ faults.Broken)
        go faults.DiskFailed h = inl refl
        go faults.Broken h = inr refl
        go faults.Memory h = absurd h
        go faults.RoundsExhausted h = absurd h
        go faults.PositionsExhausted h = absurd h
        go faults.GenerationsExhausted h = absurd h

    break_is : (result : Result (Unit {0}) NodeFault) (a b : List ℕ) (opened : Node D C M)
        → IsBatch octets store basis is_answer state (s.nodes i) inputs results more result new
        → AreLeft state (s.nodes i) new a b → IsOpened octets a b opened
        → May state octets store commands basis is_answer n rest s (reopened i a b opened)
        ⊎ ((run : List (Happening D C M O Q A)) × AreOnes i inputs results run
        × MayAll state octets store commands basis is_answer n rest s
        (run ++ reopened i a b opened ∷ []))
    break_is result a b opened batch left at =
        let old = s.nodes i in
        let last = batch.last in
        let came_to = came [] old inputs results more last batch.taken in
        let e : facts old ++ more ≡ facts last = ap (λ fs. facts old ++ fs) came_to.1 ∙ sym came_to.2 in
        let target = record old.kept { facts = facts last } in
        ⊎_elim
        (λ (before : OpensTo octets (owner old) (facts old) a b). inl (works.node, (facts old, before, same_refl (facts old)), at))
        (λ (then' : OpensTo octets (owner old) (facts old ++ more) a b).
        let went = goes i works.node target s old.kept [] more old last inputs results
        (begins old works.whole) works.rests
        (λ k. ap (λ fs. record old.kept { facts = fs }) (sym k)) offered batch.taken in
        inr (
          went.run,
          went.ones,
          may_then s went.run (reopened i a b opened) went.may (
            works.node,
            subst (λ (x : Node D C M). OpensToForce octets (owner x) (facts x) a b) (sym went.is) (
              facts last,
              subst (λ fs. OpensTo octets (owner last) fs a b) e
                  (subst (λ k. OpensTo octets (member_as k) (facts old ++ more) a b)
                  (sym came_to.3) then'),
              same_refl (facts last),
            ),
            at,
          ),
        ))
        (batch.moments a b left.0 left.1)

  batches_are : BatchesAre state octets store commands basis is_answer n rest
  batches_are s i inputs results more staged result after new works offered are kept =
      batch_is s i inputs results more new works offered result
      (batch_of octets store basis is_answer state (s.nodes i) inputs results more staged after new
      works.whole are result kept)

  breaks_are : BreaksAre state octets store commands basis is_answer n rest
  breaks_are s i inputs results more staged result after new a b opened works offered are kept left
      at = break_is s i inputs results more new works offered result a b opened
      (batch_of octets store basis is_answer state (s.nodes i) inputs results more staged after new
      works.whole are result kept) left at

  pub all_batches_are : BatchesAre state octets store commands basis is_answer n rest × BreaksAre state octets store commands basis is_answer n rest
  all_batches_are = (batches_are, breaks_are)
