-- What every after_events keeps. P holds of each command that was submitted.
use Rattle.std.proofs.Common.{ℕ, List, Option, Some, None, is_some, ◌≡◌, ◌<◌, ◌≤◌, ◌++◌}
use Rattle.ts_synod.specs.declared.message.Body.TheVariants.{Accept, Accepted, Ask, Busy, Give, Prepare, Promise}
use Rattle.ts_synod.specs.declared.message.Body.{Body}
use Rattle.ts_synod.specs.declared.message.Fact.TheVariants.{Chosen, Promised, Took, Used}
use Rattle.ts_synod.specs.declared.message.Fact.{Fact}
use Rattle.ts_synod.specs.declared.message.Message.{Message}
use Rattle.ts_synod.specs.declared.message.Vote.{Vote}
use Rattle.ts_synod.specs.Lists.{Has}
use Rattle.ts_synod.specs.Majority.{IsMajority}
use Rattle.ts_synod.specs.Ballot.{ballot}
use Rattle.ts_synod.specs.Messages.{send}
use Rattle.ts_synod.specs.Force.{promised_ballot}
use Rattle.ts_synod.specs.Proposer.{Accepting, Phase, Preparing, ProposerState, Round, greatest_reported}
use Rattle.ts_synod.specs.Node.{Node, Volatile}
use Rattle.ts_synod.specs.Laws.{IsChosen}

-- node a sent this, to some node
abbrev pub Sent : {C : Type 0} → List (Message C) → ℕ → Body C → Type 0
Sent sent a body = (to : ℕ) × Has sent (send a to body)

-- no Accept of the ballot was sent
abbrev pub Fresh : {C : Type 0} → List (Message C) → ℕ → Type 0
Fresh {C} sent b = (a p : ℕ) (c : C) → Sent sent a (Accept p b c) → ⊥

-- of the votes at p below the ballot, t is the greatest, and None send that there is none
abbrev pub Reports : {C : Type 0} → List (Fact C) → ℕ → ℕ → Option (Vote C) → Type 0
Reports {C} fs p b None = (d : ℕ) (c : C) → Has fs (Took p d c) → b ≤ d
Reports {C} fs p b (Some v) = (v.ballot < b) × Has fs (Took p v.ballot v.command) × ((d : ℕ) (c : C) → Has fs (Took p d c) → d < b → d ≤ v.ballot)

pub record Promising {C : Type 0} (fs : List (Fact C)) (p b : ℕ) (t : Option (Vote C)) : Type 0 where
  pub promised : Has fs (Promised p b)
  pub reports : Reports fs p b t

-- a majority promised the ballot, and c is what their promises allow
pub record Justified {C : Type 0} (n : ℕ) (sent : List (Message C)) (p b : ℕ) (c : C) : Type 0 where
  pub promises : ℕ → Option (Option (Vote C))
  pub majority : IsMajority n (λ a. is_some (promises a))
  pub given : (a : ℕ) (t : Option (Vote C)) → promises a ≡ Some t → Sent sent a (Promise p b t)
  pub bound : (v : Vote C) → greatest_reported promises n ≡ Some v → v.command ≡ c

pub record Asked {C : Type 0} (n : ℕ) (P : C → Type 0) (fs : List (Fact C)) (sent : List (Message C)) (a p b : ℕ) (c : C) : Type 0 where
  pub round : ℕ
  pub ballot_is : b ≡ ballot a round
  pub below : a < 16
  pub used : Has fs (Used round)
  pub justified : Justified n sent p b c
  pub submitted : P c

abbrev pub PhaseOk : {C : Type 0} → List (Message C) → ℕ → ℕ → ℕ → Phase C → Type 0
PhaseOk {C} sent i p b (Preparing promises) = ((a : ℕ) (t : Option (Vote C)) → promises a ≡ Some t → Sent sent a (Promise p b t)) × Fresh sent b
PhaseOk sent i p b Accepting = Unit {0}

abbrev pub RoundOk : {C : Type 0} → List (Fact C) → List (Message C) → ℕ → Option (Round C) → Type 0
RoundOk fs sent i None = Unit {0}
RoundOk fs sent i (Some r) = Has fs (Used r.number) × PhaseOk sent i r.position (ballot i r.number) r.phase

pub record ProposerOk {C : Type 0} (P : C → Type 0) (fs : List (Fact C)) (sent : List (Message C)) (i : ℕ) (state : ProposerState C) : Type 0 where
  pub round : RoundOk fs sent i state.round
  pub wanted : (c : C) → state.wanted ≡ Some c → P c

abbrev pub ReceivedOk : {C : Type 0} → List (Message C) → (ℕ → ℕ → Option (Vote C)) → Type 0
ReceivedOk {C} sent received = (p a : ℕ) (v : Vote C) → received p a ≡ Some v → Sent sent a (Accepted p v.ballot v.command)

pub record VolatileOk {C : Type 0} (P : C → Type 0) (fs : List (Fact C)) (sent : List (Message C)) (i : ℕ) (volatile : Volatile C) : Type 0 where
  pub proposer : ProposerOk P fs sent i volatile.proposer
  pub received : ReceivedOk sent volatile.received

-- the invariant
pub record Safe {C : Type 0} (n : ℕ) (P : C → Type 0) (nodes : ℕ → Node C) (sent : List (Message C)) : Type 0 where
  pub promise : (a p b : ℕ) (t : Option (Vote C)) → Sent sent a (Promise p b t) → Promising (nodes a).facts p b t
  pub accepted : (a p b : ℕ) (c : C) → Sent sent a (Accepted p b c) → Has (nodes a).facts (Took p b c)
  pub took : (a p b : ℕ) (c : C) → Has (nodes a).facts (Took p b c) → (by : ℕ) × Sent sent by (Accept p b c)
  pub asked : (a p b : ℕ) (c : C) → Sent sent a (Accept p b c) → Asked n P (nodes a).facts sent a p b c
  pub one : (a d p b : ℕ) (c e : C) → Sent sent a (Accept p b c) → Sent sent d (Accept p b e) → c ≡ e
  pub chosen : (a p : ℕ) (c : C) → Has (nodes a).facts (Chosen p c) → IsChosen n nodes p c
  pub given : (a p : ℕ) (c : C) → Sent sent a (Give p c) → IsChosen n nodes p c
  pub volatile : (a : ℕ) → a < 16 → VolatileOk P (nodes a).facts sent a (nodes a).volatile

-- What a step of node i may keep and send.
abbrev pub NewFact : {C : Type 0} → ℕ → (ℕ → Node C) → List (Message C) → ℕ → Fact C → Type 0
NewFact n nodes sent i (Used r) = Unit {0}
NewFact n nodes sent i (Promised p b) = Unit {0}
NewFact n nodes sent i (Took p b c) = (promised_ballot p (nodes i).facts ≤ b) × ((by : ℕ) × Sent sent by (Accept p b c))
NewFact n nodes sent i (Chosen p c) = IsChosen n nodes p c

pub record Asking {C : Type 0} (n : ℕ) (P : C → Type 0) (nodes : ℕ → Node C) (sent : List (Message C)) (i p b : ℕ) (c : C) : Type 0 where
  pub round : ℕ
  pub ballot_is : b ≡ ballot i round
  pub used : Has (nodes i).facts (Used round)
  pub justified : Justified n sent p b c
  pub submitted : P c
  pub fresh : Fresh sent b

abbrev pub NewBody : {C : Type 0} → ℕ → (C → Type 0) → (ℕ → Node C) → List (Message C) → ℕ → List (Fact C) → Body C → Type 0
NewBody n P nodes sent i facts (Prepare p b) = Unit {0}
NewBody n P nodes sent i facts (Promise p b t) = Promising ((nodes i).facts ++ facts) p b t
NewBody n P nodes sent i facts (Busy p b above) = Unit {0}
NewBody n P nodes sent i facts (Accept p b c) = Asking n P nodes sent i p b c
NewBody n P nodes sent i facts (Accepted p b c) = Has ((nodes i).facts ++ facts) (Took p b c)
NewBody n P nodes sent i facts (Ask p) = Unit {0}
NewBody n P nodes sent i facts (Give p c) = IsChosen n nodes p c

pub record Good {C : Type 0} (n : ℕ) (P : C → Type 0) (nodes : ℕ → Node C) (sent : List (Message C)) (i : ℕ) (facts : List (Fact C)) (messages : List (Message C)) (state : Volatile C) : Type 0 where
  pub fact : (f : Fact C) → Has facts f → NewFact n nodes sent i f
  pub message : (a to : ℕ) (body : Body C) → Has messages (send a to body) → (a ≡ i) × NewBody n P nodes sent i facts body
  pub one : (a d p b : ℕ) (c e : C) → Sent messages a (Accept p b c) → Sent messages d (Accept p b e) → c ≡ e
  pub volatile : VolatileOk P ((nodes i).facts ++ facts) (sent ++ messages) i state
