-- A run of nodes is a run of the world.
use Rattle.std.proofs.Common.{◌≡◌, ◌∙◌, ◌≤◌, ◌==◌, ◌++◌, ◌∷◌, ℕ, List, [], Option, Some, None, Bool}
use Rattle.std.proofs.Common.{true, false, nat_le, length, map, take, inl, inr, refl, sym, ap}
use Rattle.std.proofs.Common.{subst, append_assoc, ⊎_elim, if◌then◌else◌, true≢false}
use Rattle.std.proofs.lemmas.Bool.Decides.{Decides-eqb}
use Rattle.ts_synod.specs.declared.message.Fact.{Fact}
use Rattle.ts_synod.specs.declared.message.Fact.TheVariants.{Chosen}
use Rattle.ts_synod.specs.declared.message.Message.{Message}
use Rattle.ts_synod.specs.Config.{Config, is_node}
use Rattle.ts_synod.specs.Force.{SameForce, learned_command, log_of}
use Rattle.ts_synod.specs.Laws.{FirstChosen, RightOutcome, node_with}
use Rattle.ts_synod.specs.Lists.{Has, update_at}
use Rattle.ts_synod.specs.Log.{prefix}
use Rattle.ts_synod.specs.Proposer.{ProposerStep, propose}
use Rattle.ts_synod.specs.Store.{Settling, Store, settling, tables}
use Rattle.ts_synod.specs.Turn.{Turn, events_of_turn, turn}
use Rattle.ts_synod.specs.World.{Event, Handle, Restart, Stop, World, after_event, after_events}
use Rattle.ts_synod.specs.World.{after_run, config_of, start_world, submitted_commands}
use Rattle.ts_synod.specs.World.{submitted_by, with_restart, with_step, with_stop}
use Rattle.ts_synod.specs.Node as world
use Rattle.ts_synod.proofs.Forces.{learned_is}
use Rattle.ts_synod.proofs.Runs.{agreement, only_submitted}
use Rattle.ts_synod.proofs.Same.{same_append}
use Rattle.ts_synod.proofs.Sets.{by_test, has_cases, has_left, has_right, put_all}
use Rattle.ts_synod.proofs.Turns.{crash_is_events, turn_is_events}
use Rattle.ts_synod.proofs.Verdicts.{equal_verdicts}
use Rattle.ts_node.specs.declared.node.Node.{Node}
use Rattle.ts_node.specs.declared.input.Input.{Input}
use Rattle.ts_node.specs.declared.input.Input.TheVariants as inputs
use Rattle.ts_node.specs.declared.input.Reply.TheVariants as replies
use Rattle.ts_node.specs.Inputs.{IsInput, SaysReply}
use Rattle.ts_node.specs.Machine.{store_of}
use Rattle.ts_journal.specs.Images.{Member}
use Rattle.ts_node.specs.Node.{Does, config, facts, owner, volatile}
use Rattle.ts_node.specs.Turn.{DoesTurn}
use Rattle.ts_node.specs.Run.{AreAllowed, Exchange, Follows, Group, Happening, IsAllowed, IsNode}
use Rattle.ts_node.specs.Run.{IsStart, IsWorld, RunPromises, after, after_all, called, cut}
use Rattle.ts_node.specs.Run.{events_of, handed_in, handed_in_by, refused, reopened, rewritten}
use Rattle.ts_node.specs.Run.{stopped, turned}
use Rattle.ts_node.proofs.Questions.{tables_are}

same_refl : {C : Type 0} (fs : List (Fact C)) → SameForce fs fs
same_refl fs = record { used = refl; promised = λ p. refl; taken = λ p. refl; learned = λ p. refl }

same_sym : {C : Type 0} (fs gs : List (Fact C)) → SameForce fs gs → SameForce gs fs
same_sym fs gs h = record { used = sym h.used; promised = λ p. sym (h.promised p); taken = λ p. sym (h.taken p); learned = λ p. sym (h.learned p) }

same_trans : {C : Type 0} (fs gs hs : List (Fact C)) → SameForce fs gs → SameForce gs hs → SameForce fs hs
same_trans fs gs hs h k = record { used = h.used ∙ k.used; promised = λ p. h.promised p ∙ k.promised p; taken = λ p. h.taken p ∙ k.taken p; learned = λ p. h.learned p ∙ k.learned p }

-- a node that was opened as the member that it was is of the same configuration
same_config : {D C M : Type 0} (a b : Node D C M) → owner b ≡ owner a → config b ≡ config a
same_config a b is = ap (λ (m : Member). record { nodes = m.nodes; me = m.node }) is

both_put : {A B : Type 0} (P : ℕ → A → B → Type 0) (f : ℕ → A) (h : ℕ → B) (i : ℕ) (v : A) (u : B) → P i v u → ((j : ℕ) → P j (f j) (h j)) → (j : ℕ) → P j (update_at f i v j) (update_at h i u j)
both_put {A} {B} P f h i v u here there j = go (j == i) refl
  where
    go : (b : Bool) → (j == i) ≡ b → P j (if b then v else f j) (if b then u else h j)
    go true e = subst (λ k. P k v u) (sym ((Decides-eqb j i).0 e)) here
    go false e = there j

-- the world after events, and then others
events_then : {C O Q : Type 0} (n : ℕ) (store : Store C O (List C) Q (List C))
    (es fs : List (Event C Q)) (w : World C O Q (List C))
    → after_events n store (es ++ fs) w ≡ after_events n store fs (after_events n store es w)
events_then n store [] fs w = refl
events_then n store (e ∷ es) fs w = events_then n store es fs (after_event n store w e)

-- what is submitted in two runs, one after the other
submitted_append : {C Q : Type 0} (es fs : List (Event C Q)) → submitted_commands (es ++ fs) ≡ submitted_commands es ++ submitted_commands fs
submitted_append [] fs = refl
submitted_append (Handle i input ∷ es) fs = ap (λ xs. submitted_by input ++ xs) (submitted_append es fs) ∙ sym (append_assoc (submitted_by input) (submitted_commands es) (submitted_commands fs))
submitted_append (Restart i ∷ es) fs = submitted_append es fs
submitted_append (Stop i input ∷ es) fs = ap (λ xs. submitted_by input ++ xs) (submitted_append es fs) ∙ sym (append_assoc (submitted_by input) (submitted_commands es) (submitted_commands fs))

abbrev deliveries : {C Q : Type 0} → List ℕ → List (world.Input C Q)
deliveries ks = map world.Deliver ks

none_submitted : (C Q : Type 0) (i : ℕ) (ks : List ℕ) → submitted_commands (events_of_turn i (deliveries {C = C} {Q = Q} ks)) ≡ []
none_submitted C Q i [] = refl
none_submitted C Q i (k ∷ ks) = none_submitted C Q i ks

-- what a turn submits is what its first event does
turn_submits : {C Q : Type 0} (i : ℕ) (event : world.Input C Q) (more : List ℕ) → submitted_commands (events_of_turn i (event ∷ map world.Deliver more)) ≡ submitted_by event ++ []
turn_submits {C} {Q} i event more = ap (λ xs. submitted_by event ++ xs) (none_submitted C Q i more)

push_nil : {X : Type 0} (xs : List X) → xs ++ [] ≡ xs
push_nil [] = refl
push_nil (x ∷ xs) = ap (λ ys. x ∷ ys) (push_nil xs)

module _ {C O Q A : Type 0} (store : Store C O (List C) Q (List C)) (is_answer : List C → Q → A → Type 0) where
  -- a reply of the world is about what was asked
  abbrev IsAbout : Input C Q → world.Reply O Q (List C) → Type 0
  IsAbout (inputs.Ask at' q) (world.Answered k question cs) = question ≡ q
  IsAbout (inputs.Outcome id) (world.Settled other p o) = other ≡ id
  IsAbout (inputs.Submit c) (world.Settled other p o) = other ≡ store.id_of c
  IsAbout input reply = Unit {0}

  abbrev IsGiven : Exchange C O Q A → world.Reply O Q (List C) → Type 0
  IsGiven x r = SaysReply is_answer x.reply r × IsAbout x.input r

  about_at : (at' : Option ℕ) (q : Q) (cs : List C) (k : ℕ) → IsAbout (inputs.Ask at' q) (world.answer_at store cs k q)
  about_at at' q cs k = by_test (IsAbout (inputs.Ask at' q)) (nat_le k (length cs))
      (world.Answered k q (store.answer (tables store (take k cs)) q))
      (world.NotYet k q (length cs)) (λ _. refl) (λ _. tt)

  about_question : (at' : Option ℕ) (q : Q) (cs : List C) → IsAbout (inputs.Ask at' q) (world.on_question store cs at' q)
  about_question None q cs = about_at None q cs (length cs)
  about_question (Some k) q cs = about_at (Some k) q cs k

  about_outcome : (id : List ℕ) (o : Option (Settling O)) → IsAbout (inputs.Outcome id) (world.outcome_reply store id o)
  about_outcome id None = tt
  about_outcome id (Some s) = refl

  module _ (k : Config) (node : world.Node C) (sent : List (Message C)) where
    about_start : (c : C) (p b : ℕ) (o : Option (ProposerStep C)) → IsAbout (inputs.Submit c) (world.start_reply store k node.volatile p b o).reply
    about_start c p b None = tt
    about_start c p b (Some move) = tt

    about_next : (c : C) (o : Option ℕ) → IsAbout (inputs.Submit c) (world.submit_at store k node c o).reply
    about_next c None = tt
    about_next c (Some p) = about_start c p _ (propose k _ node.volatile.proposer p c)

    about_submit : (c : C) (o : Option (Settling O)) → IsAbout (inputs.Submit c) (world.submit_unless_settled store k node c o).reply
    about_submit c (Some s) = refl
    about_submit c None = about_next c _

    about : (input : Input C Q) (event : world.Input C Q) → IsInput sent input event → IsAbout input (world.step store k node sent event).reply
    about (inputs.Deliver m) (world.Deliver which) is = tt
    about (inputs.Deliver m) (world.Submit d) is = absurd is
    about (inputs.Deliver m) (world.Question j q) is = absurd is
    about (inputs.Deliver m) (world.Outcome id) is = absurd is
    about (inputs.Deliver m) world.CatchUp is = absurd is
    about (inputs.Deliver m) world.Status is = absurd is
    about (inputs.Submit c) (world.Submit d) is =
        subst (λ x. IsAbout (inputs.Submit x) (world.on_submit store k node d).reply) (sym is)
        (about_submit d (settling store (prefix (log_of node.facts)) (store.id_of d)))
    about (inputs.Submit c) (world.Deliver which) is = absurd is
    about (inputs.Submit c) (world.Question j q) is = absurd is
    about (inputs.Submit c) (world.Outcome id) is = absurd is
    about (inputs.Submit c) world.CatchUp is = absurd is
    about (inputs.Submit c) world.Status is = absurd is
    about (inputs.Ask j q) (world.Question at' question) is = subst (λ x. IsAbout (inputs.Ask j x) (world.on_question store (prefix (log_of node.facts)) at' question)) (sym is.1) (asked at' question)
      where
        asked : (at' : Option ℕ) (question : Q) → IsAbout (inputs.Ask j question) (world.on_question store (prefix (log_of node.facts)) at' question)
        asked None question = about_at j question (prefix (log_of node.facts)) _
        asked (Some at') question = about_at j question (prefix (log_of node.facts)) at'
    about (inputs.Ask j q) (world.Deliver which) is = absurd is
    about (inputs.Ask j q) (world.Submit d) is = absurd is
    about (inputs.Ask j q) (world.Outcome id) is = absurd is
    about (inputs.Ask j q) world.CatchUp is = absurd is
    about (inputs.Ask j q) world.Status is = absurd is
    about (inputs.Outcome id) (world.Outcome other) is =
        subst (λ x. IsAbout (inputs.Outcome x)
        (world.outcome_reply store other (settling store (prefix (log_of node.facts)) other)))
        (sym is) (about_outcome other (settling store (prefix (log_of node.facts)) other))
    about (inputs.Outcome id) (world.Deliver which) is = absurd is
    about (inputs.Outcome id) (world.Submit d) is = absurd is
    about (inputs.Outcome id) (world.Question j q) is = absurd is
    about (inputs.Outcome id) world.CatchUp is = absurd is
    about (inputs.Outcome id) world.Status is = absurd is
    about inputs.CatchUp event is = tt
    about inputs.Status event is = tt
    about inputs.Compact event is = tt

  -- what an event submits was handed in
  same_commands : (sent : List (Message C)) (input : Input C Q) (event : world.Input C Q) → IsInput sent input event → submitted_by event ≡ handed_in_by input
  same_commands sent (inputs.Deliver m) (world.Deliver which) is = refl
  same_commands sent (inputs.Deliver m) (world.Submit d) is = absurd is
  same_commands sent (inputs.Deliver m) (world.Question j q) is = refl
  same_commands sent (inputs.Deliver m) (world.Outcome id) is = refl
  same_commands sent (inputs.Deliver m) world.CatchUp is = refl
  same_commands sent (inputs.Deliver m) world.Status is = refl
  same_commands sent (inputs.Submit c) (world.Submit d) is = ap (λ x. x ∷ []) (sym is)
  same_commands sent (inputs.Submit c) (world.Deliver which) is = absurd is
  same_commands sent (inputs.Submit c) (world.Question j q) is = absurd is
  same_commands sent (inputs.Submit c) (world.Outcome id) is = absurd is
  same_commands sent (inputs.Submit c) world.CatchUp is = absurd is
  same_commands sent (inputs.Submit c) world.Status is = absurd is
  same_commands sent (inputs.Ask j q) (world.Submit d) is = absurd is
  same_commands sent (inputs.Ask j q) (world.Deliver which) is = refl
  same_commands sent (inputs.Ask j q) (world.Question k question) is = refl
  same_commands sent (inputs.Ask j q) (world.Outcome id) is = refl
  same_commands sent (inputs.Ask j q) world.CatchUp is = refl
  same_commands sent (inputs.Ask j q) world.Status is = refl
  same_commands sent (inputs.Outcome id) (world.Submit d) is = absurd is
  same_commands sent (inputs.Outcome id) (world.Deliver which) is = refl
  same_commands sent (inputs.Outcome id) (world.Question k question) is = refl
  same_commands sent (inputs.Outcome id) (world.Outcome other) is = refl
  same_commands sent (inputs.Outcome id) world.CatchUp is = refl
  same_commands sent (inputs.Outcome id) world.Status is = refl
  same_commands sent inputs.CatchUp (world.Submit d) is = absurd is
  same_commands sent inputs.CatchUp (world.Deliver which) is = refl
  same_commands sent inputs.CatchUp (world.Question k question) is = refl
  same_commands sent inputs.CatchUp (world.Outcome other) is = refl
  same_commands sent inputs.CatchUp world.CatchUp is = refl
  same_commands sent inputs.CatchUp world.Status is = refl
  same_commands sent inputs.Status (world.Submit d) is = absurd is
  same_commands sent inputs.Status (world.Deliver which) is = refl
  same_commands sent inputs.Status (world.Question k question) is = refl
  same_commands sent inputs.Status (world.Outcome other) is = refl
  same_commands sent inputs.Status world.CatchUp is = refl
  same_commands sent inputs.Status world.Status is = refl
  same_commands sent inputs.Compact (world.Submit d) is = absurd is
  same_commands sent inputs.Compact (world.Deliver which) is = refl
  same_commands sent inputs.Compact (world.Question k question) is = refl
  same_commands sent inputs.Compact (world.Outcome other) is = refl
  same_commands sent inputs.Compact world.CatchUp is = refl
  same_commands sent inputs.Compact world.Status is = refl

  module _ {D M : Type 0} (octets : C → List ℕ) (n : ℕ) where
    record Simulates (s : Group D C M O Q A) (w : World C O Q (List C)) : Type 0 where
      pub nodes : (i : ℕ) → IsNode n i (s.nodes i) (w.nodes i)
      pub sent : s.sent ≡ w.sent
      pub given : (x : Exchange C O Q A) → Has s.given x → (r : world.Reply O Q (List C)) × Has w.replies r × IsGiven x r

    -- the world's step at a node, told of the node's own volatile part
    same_step : (s : Group D C M O Q A) (w : World C O Q (List C)) (i : ℕ) (event : world.Input C Q) → Simulates s w → is_node n i ≡ true
        → world.step store (config (s.nodes i)) (node_with (w.nodes i).facts (volatile (s.nodes i))) s.sent event ≡ world.step store (config_of n i) (w.nodes i) w.sent event
    same_step s w i event sim node =
        ap (λ k. world.step store k (node_with (w.nodes i).facts (volatile (s.nodes i))) s.sent event) ((sim.nodes i).numbered node)
        ∙ ap (λ v. world.step store (config_of n i) (node_with (w.nodes i).facts v) s.sent event) (sim.nodes i).volatile
        ∙ ap (λ m. world.step store (config_of n i) (w.nodes i) m event) sim.sent

    -- the same for a turn
    same_turn : (s : Group D C M O Q A) (w : World C O Q (List C)) (i : ℕ) (inputs : List (world.Input C Q)) → Simulates s w → is_node n i ≡ true
        → turn store (config (s.nodes i)) (node_with (w.nodes i).facts (volatile (s.nodes i))) s.sent inputs ≡ turn store (config_of n i) (w.nodes i) w.sent inputs
    same_turn s w i inputs sim node =
        ap (λ k. turn store k (node_with (w.nodes i).facts (volatile (s.nodes i))) s.sent inputs) ((sim.nodes i).numbered node)
        ∙ ap (λ v. turn store (config_of n i) (node_with (w.nodes i).facts v) s.sent inputs) (sim.nodes i).volatile
        ∙ ap (λ m. turn store (config_of n i) (w.nodes i) m inputs) sim.sent

    -- the nodes of a world in which one has changed
    nodes_as : (s : Group D C M O Q A) (w v : World C O Q (List C)) (i : ℕ) (new : Node D C M)
        (there : world.Node C) → ((j : ℕ) → v.nodes j ≡ update_at w.nodes i there j) → Simulates s w
        → IsNode n i new there → (j : ℕ) → IsNode n j (update_at s.nodes i new j) (v.nodes j)
    nodes_as s w v i new there is sim here j = subst (IsNode n j (update_at s.nodes i new j)) (sym (is j)) (both_put (λ k a b. IsNode n k a b) s.nodes w.nodes i new there here sim.nodes j)

    -- a node whose facts have the force that they had
    same_node : (a b : Node D C M) (i : ℕ) (v : world.Node C) → IsNode n i a v → config b ≡ config a → SameForce (facts a) (facts b) → volatile b ≡ volatile a → IsNode n i b v
    same_node a b i v h c f e = record { force = same_trans v.facts (facts a) (facts b) h.force f; volatile = e ∙ h.volatile; numbered = λ t. c ∙ h.numbered t }

    one_same : (s : Group D C M O Q A) (w : World C O Q (List C)) (i : ℕ) (new : Node D C M) → Simulates s w → IsNode n i new (w.nodes i) → Simulates (record s { nodes = update_at s.nodes i new }) w
    one_same s w i new sim here = record { nodes = put_all (λ j a. IsNode n j a (w.nodes j)) s.nodes i new here (λ j _. sim.nodes j); sent = sim.sent; given = sim.given }

    -- the facts after a restart, and nothing else
    opened_node : (a b : Node D C M) (i : ℕ) (v : world.Node C) (more : List (Fact C))
        → IsNode n i a v → config b ≡ config a → facts b ≡ facts a ++ more
        → volatile b ≡ world.initial
        → IsNode n i b (record { facts = v.facts ++ more; volatile = world.initial })
    opened_node a b i v more h c f e = record { force = subst (SameForce (v.facts ++ more)) (sym f) (same_append v.facts (facts a) more h.force); volatile = e; numbered = λ t. c ∙ h.numbered t }

    restarted_node : (a b : Node D C M) (i : ℕ) (v : world.Node C) → IsNode n i a v
        → config b ≡ config a → SameForce (facts a) (facts b) → volatile b ≡ world.initial
        → IsNode n i b (record { facts = v.facts; volatile = world.initial })
    restarted_node a b i v h c f e = record { force = same_trans v.facts (facts a) (facts b) h.force f; volatile = e; numbered = λ t. c ∙ h.numbered t }

    abbrev Simulated : Group D C M O Q A → World C O Q (List C) → List C → Type 0
    Simulated s w commands = (es : List (Event C Q)) × Simulates s (after_events n store es w) × ((c : C) → Has (submitted_commands es) c → Has commands c)

    -- a restart of a node of the world
    restart : (s : Group D C M O Q A) (w : World C O Q (List C)) (i : ℕ) (new : Node D C M)
        (commands : List C) → Simulates s w → is_node n i ≡ true
        → IsNode n i new (record { facts = (w.nodes i).facts; volatile = world.initial })
        → Simulated (record s { nodes = update_at s.nodes i new }) w commands
    restart s w i new commands sim node here = (
      Restart i ∷ [],
      subst (λ (b : Bool). Simulates (record s { nodes = update_at s.nodes i new }) (if b then with_restart w i else w)) (sym node)
          (record {
            nodes = both_put (λ j a b. IsNode n j a b) s.nodes w.nodes i new
                (record { facts = (w.nodes i).facts; volatile = world.initial }) here sim.nodes;
            sent = sim.sent;
            given = sim.given;
          }),
      λ c h. absurd h,
    )

    happens : (s : Group D C M O Q A) (w : World C O Q (List C)) (h : Happening D C M O Q A) → Simulates s w → IsAllowed octets store is_answer n s h → Simulated (after s h) w (handed_in (h ∷ []))
    happens s w (called i input output new) sim (node, same, event, is, handles) =
        let step = world.step store (config_of n i) (w.nodes i) w.sent event in
        let does = subst (λ st. Does is_answer (s.nodes i) output new st) (same_step s w i event sim node) (handles (w.nodes i).facts (sim.nodes i).force) in
        let here = λ (x : Exchange C O Q A) (k : Has (s.given ++ record { input = input; reply = output.reply } ∷ []) x).
        ⊎_elim (λ (old : Has s.given x). let r = sim.given x old in (r.0, has_left w.replies (step.reply ∷ []) r.0 r.1, r.2))
        (elim [
          | inl e ↦ (
            step.reply,
            has_right w.replies (step.reply ∷ []) step.reply
                (inl refl),
            subst (λ y. IsGiven y step.reply) e (
              does.reply,
              about (config_of n i) (w.nodes i) w.sent input event
                  (subst (λ m. IsInput m input event) sim.sent is),
            ),
          )
          | inr m ↦ absurd m
        ])
        (has_cases s.given (record { input = input; reply = output.reply } ∷ []) x k) in (
          Handle i event ∷ [],
          subst (λ (b : Bool). Simulates (after s (called i input output new)) (if b then with_step w i step else w)) (sym node)
              (record {
                nodes = both_put (λ j a b. IsNode n j a b) s.nodes w.nodes i new (record { facts = (w.nodes i).facts ++ step.effect.facts; volatile = step.effect.volatile })
                    (record {
                      force = subst (SameForce ((w.nodes i).facts ++ step.effect.facts))
                          (sym does.facts) (same_append (w.nodes i).facts
                          (facts (s.nodes i)) step.effect.facts (sim.nodes i).force);
                      volatile =
                          does.volatile;
                      numbered = λ t. same ∙ (sim.nodes i).numbered t;
                    }) sim.nodes;
                sent = ap (λ xs. s.sent ++ xs) does.messages ∙ ap (λ xs. xs ++ step.effect.messages) sim.sent;
                given = here;
              }),
          λ c k. subst (λ xs. Has (xs ++ []) c) (same_commands s.sent input event is) k,
        )
    happens s w (turned i input output made new) sim (node, same, event, is, more, does_so) =
        let inputs = event ∷ map world.Deliver more in
        let t = turn store (config_of n i) (w.nodes i) w.sent inputs in
        let does = subst (λ x. DoesTurn is_answer (s.nodes i) output made new x) (same_turn s w i inputs sim node) (does_so (w.nodes i).facts (sim.nodes i).force) in
        let at = turn_is_events store n i node inputs w in
        let step = world.step store (config_of n i) (w.nodes i) w.sent event in
        let here : (x : Exchange C O Q A)
        → Has (s.given ++ record { input = input; reply = output.reply } ∷ []) x
        → (r : world.Reply O Q (List C)) × Has (w.replies ++ t.replies) r × IsGiven x r = λ x k.
        ⊎_elim (λ (old : Has s.given x). let r = sim.given x old in (r.0, has_left w.replies t.replies r.0 r.1, r.2))
        (elim [
          | inl e ↦ (
            step.reply,
            has_right w.replies t.replies step.reply (inl refl),
            subst
                (λ y. IsGiven y step.reply) e (
                  does.reply,
                  about (config_of n i) (w.nodes i) w.sent input event
                      (subst (λ m. IsInput m input event) sim.sent is),
                ),
          )
          | inr m ↦ absurd m
        ])
        (has_cases s.given (record { input = input; reply = output.reply } ∷ []) x k) in (
          events_of_turn i inputs,
          record {
            nodes = nodes_as s w (after_events n store (events_of_turn i inputs) w) i new (record { facts = (w.nodes i).facts ++ t.effect.facts; volatile = t.effect.volatile }) at.nodes sim
                (record {
                  force = subst (SameForce ((w.nodes i).facts ++ t.effect.facts))
                      (sym does.facts) (same_append (w.nodes i).facts
                      (facts (s.nodes i)) t.effect.facts (sim.nodes i).force);
                  volatile =
                      does.volatile;
                  numbered = λ b. same ∙ (sim.nodes i).numbered b;
                });
            sent = ap (λ xs. s.sent ++ xs) does.same ∙ ap (λ xs. xs ++ t.effect.messages) sim.sent ∙ sym at.sent;
            given = λ x k. let r = here x k in (r.0, subst (λ rs. Has rs r.0) (sym at.replies) r.1, r.2);
          },
          λ c k. subst (λ xs. Has (xs ++ []) c) (same_commands s.sent input event is) (subst (λ xs. Has xs c) (turn_submits i event more) k),
        )
    happens s w (cut i input made a b new) sim (node, event, is, more, opens, opened) =
        let inputs = event ∷ map world.Deliver more in
        let t = turn store (config_of n i) (w.nodes i) w.sent inputs in
        let there = turn store (config (s.nodes i)) (node_with (w.nodes i).facts (volatile (s.nodes i))) s.sent inputs in
        let told = opens (w.nodes i).facts (sim.nodes i).force in
        let read = opened.only (owner (s.nodes i)) (facts (s.nodes i) ++ there.effect.facts) told.1 in
        let same = same_config (s.nodes i) new read.1 in
        let e = same_turn s w i inputs sim node in
        let f = read.0 ∙ ap (λ (x : Turn C O Q (List C)). facts (s.nodes i) ++ x.effect.facts) e in
        let at = crash_is_events store n i node inputs w in (
          events_of_turn i inputs ++ Restart i ∷ [],
          record {
            nodes = nodes_as s w (after_events n store (events_of_turn i inputs ++ Restart i ∷ [])
                w) i new (record {
                  facts = (w.nodes i).facts ++ t.effect.facts;
                  volatile =
                      world.initial;
                }) at.nodes sim
                (opened_node (s.nodes i) new i (w.nodes i) t.effect.facts (sim.nodes i) same f opened.restarted);
            sent = ap (λ xs. s.sent ++ xs) (told.0 ∙ ap (λ (x : Turn C O Q (List C)). x.effect.messages) e) ∙ ap (λ xs. xs ++ t.effect.messages) sim.sent ∙ sym at.sent;
            given = λ x k. let r = sim.given x k in (r.0, subst (λ rs. Has rs r.0) (sym at.replies) (has_left w.replies t.replies r.0 r.1), r.2);
          },
          λ c k. subst (λ xs. Has (xs ++ []) c) (same_commands s.sent input event is)
              (subst (λ xs. Has xs c) (submitted_append (events_of_turn i inputs) (Restart i ∷ [])
              ∙ push_nil (submitted_commands (events_of_turn i inputs)) ∙ turn_submits i event more) k),
        )
    happens s w (refused i new) sim (node, same, kept) = (
      [],
      one_same s w i new sim
          (same_node (s.nodes i) new i (w.nodes i) (sim.nodes i) same
          (subst (SameForce (facts (s.nodes i))) (ap (λ k. k.facts) (sym kept.kept))
          (same_refl (facts (s.nodes i)))) kept.volatile),
      λ c h. absurd h,
    )
    happens s w (rewritten i output new) sim (node, same, did) =
        ([], one_same s w i new sim (same_node (s.nodes i) new i (w.nodes i) (sim.nodes i) same (same_sym (facts new) (facts (s.nodes i)) did.force) did.volatile), λ c h. absurd h)
    happens s w (reopened i a b new) sim (node, opens, opened) =
        let read = opened.only (owner (s.nodes i)) opens.0 opens.1 in
        let e = read.0 in
        let same = same_config (s.nodes i) new read.1 in
        restart s w i new [] sim node
        (restarted_node (s.nodes i) new i (w.nodes i) (sim.nodes i) same
        (subst (SameForce (facts (s.nodes i))) (sym e)
        (same_sym opens.0 (facts (s.nodes i)) opens.2)) opened.restarted)
    happens s w (stopped i input a b new) sim (node, event, is, opens, opened) =
        let step = world.step store (config_of n i) (w.nodes i) w.sent event in
        let more = (world.step store (config (s.nodes i)) (node_with (w.nodes i).facts (volatile (s.nodes i))) s.sent event).effect.facts in
        ⊎_elim
        (λ before. let read = opened.only (owner (s.nodes i)) (facts (s.nodes i)) before in let e =
        read.0 in let same = same_config (s.nodes i) new read.1 in
        restart s w i new (handed_in_by input ++ []) sim node
        (restarted_node (s.nodes i) new i (w.nodes i) (sim.nodes i) same
        (subst (SameForce (facts (s.nodes i))) (sym e) (same_refl (facts (s.nodes i))))
        opened.restarted))
        (λ after. let read = opened.only (owner (s.nodes i)) (facts (s.nodes i) ++ more) after in
        let e = read.0 in
        let same = same_config (s.nodes i) new read.1 in
        let f = e ∙ ap (λ st. facts (s.nodes i) ++ st.effect.facts) (same_step s w i event sim node) in (
          Stop i event ∷ [],
          subst (λ (t : Bool). Simulates (record s { nodes = update_at s.nodes i new }) (if t then with_stop w i step.effect.facts else w)) (sym node)
              (record {
                nodes = both_put (λ j x y. IsNode n j x y) s.nodes w.nodes i new
                    (record {
                      facts = (w.nodes i).facts ++ step.effect.facts;
                      volatile =
                          world.initial;
                    }) (opened_node (s.nodes i) new i (w.nodes i) step.effect.facts
                    (sim.nodes i) same f opened.restarted) sim.nodes;
                sent = sim.sent;
                given =
                    sim.given;
              }),
          λ c k. subst (λ xs. Has (xs ++ []) c) (same_commands s.sent input event is) k,
        ))
        (opens (w.nodes i).facts (sim.nodes i).force)

    handed_append : (h : Happening D C M O Q A) (hs : List (Happening D C M O Q A)) → handed_in (h ∷ hs) ≡ handed_in (h ∷ []) ++ handed_in hs
    handed_append (called i input output new) hs = ap (λ xs. xs ++ handed_in hs) (sym (push_nil (handed_in_by input)))
    handed_append (turned i input output made new) hs = ap (λ xs. xs ++ handed_in hs) (sym (push_nil (handed_in_by input)))
    handed_append (cut i input made a b new) hs = ap (λ xs. xs ++ handed_in hs) (sym (push_nil (handed_in_by input)))
    handed_append (refused i new) hs = refl
    handed_append (rewritten i output new) hs = refl
    handed_append (reopened i a b new) hs = refl
    handed_append (stopped i input a b new) hs = ap (λ xs. xs ++ handed_in hs) (sym (push_nil (handed_in_by input)))

    -- a whole run, at each of its moments
    record Run (s : Group D C M O Q A) (w : World C O Q (List C)) (hs : List (Happening D C M O Q A)) : Type 0 where
      pub moments : List (List (Event C Q))
      pub follows : Follows store n s w hs moments
      pub ends : Simulates (after_all s hs) (after_events n store (events_of moments) w)
      pub commands : (c : C) → Has (submitted_commands (events_of moments)) c → Has (handed_in hs) c

    is_world : (s : Group D C M O Q A) (w : World C O Q (List C)) → Simulates s w → IsWorld n s w
    is_world s w sim = record { nodes = sim.nodes; sent = sim.sent }

    first : (s : Group D C M O Q A) (w : World C O Q (List C)) (h : Happening D C M O Q A)
        (hs : List (Happening D C M O Q A)) → Simulates s w
        → (one : Simulated (after s h) w (handed_in (h ∷ [])))
        → Run (after s h) (after_events n store one.0 w) hs → Run s w (h ∷ hs)
    first s w h hs sim (es, after_one, has) rest = record {
      moments = es ∷ rest.moments;
      follows = (is_world s w sim, rest.follows);
      ends = subst (Simulates (after_all (after s h) hs)) (sym (events_then n store es (events_of rest.moments) w)) rest.ends;
      commands = λ c k. subst (λ xs. Has xs c) (sym (handed_append h hs))
          (⊎_elim (λ (x : Has (submitted_commands es) c). has_left (handed_in (h ∷ []))
          (handed_in hs) c (has c x))
          (λ (y : Has (submitted_commands (events_of rest.moments)) c). has_right
          (handed_in (h ∷ [])) (handed_in hs) c (rest.commands c y))
          (has_cases (submitted_commands es) (submitted_commands (events_of rest.moments)) c
          (subst (λ xs. Has xs c) (submitted_append es (events_of rest.moments)) k)));
    }

    all_happen : (s : Group D C M O Q A) (w : World C O Q (List C)) (hs : List (Happening D C M O Q A)) → Simulates s w → AreAllowed octets store is_answer n s hs → Run s w hs
    all_happen s w [] sim allowed = record { moments = []; follows = is_world s w sim; ends = sim; commands = λ c h. absurd h }
    all_happen s w (h ∷ hs) sim allowed =
        let one = happens s w h sim allowed.0 in
        first s w h hs sim one (all_happen (after s h) (after_events n store one.0 w) hs one.1 allowed.1)

    -- a node at the start
    starts_as : (s : Group D C M O Q A) → IsStart octets n s → (i : ℕ) (b : Bool) → is_node n i ≡ b → IsNode n i (s.nodes i) (record { facts = []; volatile = world.initial })
    starts_as s h i true is =
        let (a, b, opens, opened) = h.formatted i is in
        let read = opened.only (record { node = i; nodes = n }) [] opens in
        record { force = subst (SameForce []) (sym read.0) (same_refl []); volatile = opened.restarted; numbered = λ t. ap (λ (m : Member). record { nodes = m.nodes; me = m.node }) read.1 }
    starts_as s h i false is =
        let idle = h.others i is in
        record { force = subst (SameForce []) (sym idle.0) (same_refl []); volatile = idle.1; numbered = λ t. absurd (true≢false (sym t ∙ is)) }

    starts : (s : Group D C M O Q A) → IsStart octets n s → Simulates s start_world
    starts s h = record {
      nodes = λ i. starts_as s h i (is_node n i) refl;
      sent = h.sent;
      given = λ x k. absurd (subst (λ xs. Has xs x) h.given k);
    }

module _ {C O Q A : Type 0} (octets : C → List ℕ) (id : C → List ℕ) (outcome : List C → C → O) (is_answer : List C → Q → A → Type 0) (n : ℕ) where
  -- the answer to a question, of a world's reply that it is given for
  answers : (w : World C O Q (List C)) (events : List (Event C Q)) (at' : Option ℕ) (q : Q) (k : ℕ)
      (a : A) (r : world.Reply O Q (List C)) → n ≤ 9
      → w ≡ after_run n (store_of Q id outcome) events → Has w.replies r
      → IsGiven (store_of Q id outcome) is_answer (record { input = inputs.Ask at' q; reply = replies.Answered k a }) r → (cs : List C) × FirstChosen n w.nodes k cs × is_answer cs q a
  answers w events at' q k a (world.Answered j question v) most is has (reply, asked) =
      let right = (equal_verdicts n (store_of Q id outcome) events most).right j question v (subst (λ x. Has x.replies (world.Answered j question v)) is has) in
      let same = right.verdict ∙ tables_are Q id outcome right.commands in
      let first = subst (λ i. FirstChosen n (after_run n (store_of Q id outcome) events).nodes i right.commands) (sym reply.0) right.chosen in
      (right.commands, subst (λ x. FirstChosen n x.nodes k right.commands) (sym is) first, subst (λ cs. is_answer cs q a) same (subst (λ x. is_answer v x a) asked reply.1))
  answers w events at' q k a world.Done most is has (reply, asked) = absurd reply
  answers w events at' q k a (world.Started p b) most is has (reply, asked) = absurd reply
  answers w events at' q k a (world.Settled other p o) most is has (reply, asked) = absurd reply
  answers w events at' q k a (world.Unknown other) most is has (reply, asked) = absurd reply
  answers w events at' q k a (world.NotYet j question m) most is has (reply, asked) = absurd reply
  answers w events at' q k a (world.Prefix m) most is has (reply, asked) = absurd reply
  answers w events at' q k a world.RoundsExhausted most is has (reply, asked) = absurd reply
  answers w events at' q k a world.PositionsExhausted most is has (reply, asked) = absurd reply

  -- the same for an id that is settled
  settles : (w : World C O Q (List C)) (events : List (Event C Q)) (wanted : List ℕ) (p : ℕ) (o : O)
      (r : world.Reply O Q (List C)) → n ≤ 9 → w ≡ after_run n (store_of Q id outcome) events
      → Has w.replies r
      → SaysReply is_answer (replies.Settled p o) r
      → ((other : List ℕ) (position : ℕ) (out : O) → r ≡ world.Settled other position out
      → other ≡ wanted) → RightOutcome n (store_of Q id outcome) w.nodes wanted p o
  settles w events wanted p o (world.Settled other position out) most is has reply told =
      let right = (equal_verdicts n (store_of Q id outcome) events most).settled other position out (subst (λ x. Has x.replies (world.Settled other position out)) is has) in
      let a = subst (λ x. RightOutcome n (store_of Q id outcome) (after_run n (store_of Q id outcome) events).nodes x position out) (told other position out refl) right in
      let b = subst (λ x. RightOutcome n (store_of Q id outcome) (after_run n (store_of Q id outcome) events).nodes wanted x out) (sym reply.0) a in
      let c = subst (λ x. RightOutcome n (store_of Q id outcome) (after_run n (store_of Q id outcome) events).nodes wanted p x) (sym reply.1) b in
      subst (λ x. RightOutcome n (store_of Q id outcome) x.nodes wanted p o) (sym is) c
  settles w events wanted p o world.Done most is has reply told = absurd reply
  settles w events wanted p o (world.Started q b) most is has reply told = absurd reply
  settles w events wanted p o (world.Unknown other) most is has reply told = absurd reply
  settles w events wanted p o (world.NotYet j question m) most is has reply told = absurd reply
  settles w events wanted p o (world.Answered j question v) most is has reply told = absurd reply
  settles w events wanted p o (world.Prefix m) most is has reply told = absurd reply
  settles w events wanted p o world.RoundsExhausted most is has reply told = absurd reply
  settles w events wanted p o world.PositionsExhausted most is has reply told = absurd reply

  -- the theorem
  pub promised : {D M : Type 0} (start : Group D C M O Q A) (run : List (Happening D C M O Q A)) → n ≤ 9 → IsStart octets n start → AreAllowed octets (store_of Q id outcome) is_answer n start run
      → RunPromises (store_of Q id outcome) is_answer n start run
  promised start run most begins allowed =
      let store = store_of Q id outcome in
      let all = all_happen store is_answer octets n start start_world run (starts store is_answer octets n start begins) allowed in
      let events = events_of all.moments in
      let w = after_run n store events in
      let sim = all.ends in
      let agree = agreement n store events most in
      let verdicts = equal_verdicts n store events most in
      let holds : (i p : ℕ) (c : C)
      → learned_command p (facts ((after_all start run).nodes i)) ≡ Some c
      → Has (w.nodes i).facts (Chosen p c) =
      λ i p c h. learned_is (w.nodes i).facts p c ((sim.nodes i).force.learned p ∙ h) in
      record {
        moments = all.moments;
        follows = all.follows;
        learned = λ i p c h. (agree.held i i p c c (holds i p c h) (holds i p c h)).1;
        agreed = λ i j p c d h k. (agree.held i j p c d (holds i p c h) (holds j p d k)).0;
        chosen = agree.chosen;
        answered = λ at' q k a h. let r = sim.given (record { input = inputs.Ask at' q; reply = replies.Answered k a }) h in answers w events at' q k a r.0 most refl r.1 r.2;
        one = verdicts.one;
        settled = λ wanted p o h. let r =
            sim.given (record { input = inputs.Outcome wanted; reply = replies.Settled p o }) h in
            settles w events wanted p o r.0 most refl r.1 r.2.0
            (λ other position out is. subst (IsAbout store is_answer (inputs.Outcome wanted)) is
            r.2.1);
        submitted_before = λ c p o h. let r =
            sim.given (record { input = inputs.Submit c; reply = replies.Settled p o }) h in
            settles w events (id c) p o r.0 most refl r.1 r.2.0
            (λ other position out is. subst (IsAbout store is_answer (inputs.Submit c)) is r.2.1);
        handed = λ p c h. all.commands c (only_submitted n store events p c most h);
      }
