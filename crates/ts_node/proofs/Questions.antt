-- Replies of a machine whose state is the list of its commands.
use Rattle.std.proofs.Common.{◌≡◌, ◌∙◌, ◌≤◌, ◌++◌, ◌∷◌, ℕ, suc, List, [], Option, Some, None, Ok, nat_le, length, take, refl, sym, ap, subst, append_assoc, arith}
use Rattle.std.proofs.lemmas.Bool.Decides.{nat_tests}
use Rattle.ts_synod.specs.Config.{Config}
use Rattle.ts_synod.specs.Ballot.{ballot}
use Rattle.ts_synod.specs.Force.{log_of, used_round}
use Rattle.ts_synod.specs.Laws.{node_with}
use Rattle.ts_synod.specs.Log.{next_position, prefix}
use Rattle.ts_synod.specs.Proposer.{ProposerState, ProposerStep, begin_round, greatest_round, propose, rounds_are_exhausted}
use Rattle.ts_synod.specs.Store.{Settling, Store, settling, tables, tables_after}
use Rattle.ts_synod.specs.declared.message.Fact.{Fact}
use Rattle.ts_synod.specs.Node as world
use Rattle.ts_synod.proofs.Sets.{by_test}
use Rattle.ts_proposer.specs.declared.proposer.Proposer.{Proposer}
use Rattle.ts_proposer.specs.declared.proposer.ProposerEffect.{ProposerEffect}
use Rattle.ts_proposer.specs.Steps.{Makes, Proposes}
use Rattle.ts_node.specs.declared.input.Reply.TheVariants as replies
use Rattle.ts_node.specs.Inputs.{SaysReply}
use Rattle.ts_node.specs.Machine.{store_of}

push_nil : {A : Type 0} (xs : List A) → xs ++ [] ≡ xs
push_nil [] = refl
push_nil (x ∷ xs) = ap (λ ys. x ∷ ys) (push_nil xs)

-- where a question is asked
abbrev pub IsAt : Option ℕ → ℕ → ℕ → Type 0
IsAt None n k = k ≡ n
IsAt (Some j) n k = k ≡ j

module _ {C O : Type 0} (Q : Type 0) (id : C → List ℕ) (outcome : List C → C → O) where
  after : (t cs : List C) → tables_after (store_of Q id outcome) t cs ≡ t ++ cs
  after t [] = sym (push_nil t)
  after t (c ∷ cs) = after (t ++ c ∷ []) cs ∙ append_assoc t (c ∷ []) cs

  pub tables_are : (cs : List C) → tables (store_of Q id outcome) cs ≡ cs
  tables_are cs = after [] cs

  module _ {A : Type 0} (is_answer : List C → Q → A → Type 0) where
    at : (cs : List C) (k : ℕ) (q : Q) (a : A) → k ≤ length cs → is_answer (take k cs) q a → SaysReply {O = O} is_answer (replies.Answered k a) (world.answer_at (store_of Q id outcome) cs k q)
    at cs k q a le h =
        by_test (λ r. SaysReply {O = O} is_answer (replies.Answered k a) r) (nat_le k (length cs)) (world.Answered k q (tables (store_of Q id outcome) (take k cs))) (world.NotYet k q (length cs))
        (λ _. (refl, subst (λ xs. is_answer xs q a) (sym (tables_are (take k cs))) h))
        (λ e. absurd (grind (arith, nat_tests)))

    pub answered : (cs : List C) (o : Option ℕ) (k : ℕ) (q : Q) (a : A) → IsAt o (length cs) k
        → k ≤ length cs → is_answer (take k cs) q a
        → SaysReply {O = O} is_answer (replies.Answered k a)
        (world.on_question (store_of Q id outcome) cs o q)
    answered cs None k q a is le h = subst (λ j. SaysReply {O = O} is_answer (replies.Answered k a) (world.answer_at (store_of Q id outcome) cs j q)) is (at cs k q a le h)
    answered cs (Some j) k q a is le h = subst (λ j. SaysReply {O = O} is_answer (replies.Answered k a) (world.answer_at (store_of Q id outcome) cs j q)) is (at cs k q a le h)

-- a proposed step is that of a new round
pub proposed : {C : Type 0} (p : Proposer C) (step : ProposerEffect C) (config : Config) (used : ℕ)
    (state : ProposerState C) (position : ℕ) (c : C)
    → Proposes p (Ok step) (propose config used state position c)
    → (propose config used state position c ≡ Some (begin_round config used state position c))
    × Makes p step (begin_round config used state position c)
proposed {C} p step config used state position c =
    by_test (λ (o : Option (ProposerStep C)). Proposes p (Ok step) o
    → (o ≡ Some (begin_round config used state position c))
    × Makes p step (begin_round config used state position c)) (rounds_are_exhausted used state)
    None (Some (begin_round config used state position c))
    (λ _ h. absurd h) (λ _ h. (refl, h))

-- Submit of a command whose id is new, where a round can begin
pub submits : {C O T Q V : Type 0} (store : Store C O T Q V) (config : Config)
    (facts : List (Fact C)) (volatile : world.Volatile C) (c : C) (position : ℕ)
    (rule : ProposerStep C) → settling store (prefix (log_of facts)) (store.id_of c) ≡ None
    → next_position (log_of facts) ≡ Some position
    → propose config (used_round facts) volatile.proposer position c ≡ Some rule
    → world.with_reply (world.proposer_effect volatile rule)
    (world.Started position
    (ballot config.me (suc (greatest_round (used_round facts) volatile.proposer)))) ≡
    world.on_submit store config (node_with facts volatile) c
submits {C} {O} store config facts volatile c position rule new next begun =
    let node = node_with facts volatile in
    let b = ballot config.me (suc (greatest_round (used_round facts) volatile.proposer)) in
    ap (world.start_reply store config volatile position b) (sym begun)
    ∙ ap (world.submit_at store config node c) (sym next)
    ∙ ap (λ (o : Option (Settling O)). world.submit_unless_settled store config node c o)
    (sym new)
