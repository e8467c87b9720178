-- Every reply of a after_events is right.
use Rattle.std.proofs.Common.{ℕ, zero, suc, List, [], Option, Some, None, Bool, true, false, nat_le}
use Rattle.std.proofs.Common.{inl, inr, refl, sym, ap, subst, ⊎_elim, arith, length, take}
use Rattle.std.proofs.Common.{true≢false, ◌≡◌, ◌≢◌, ◌+◌, ◌≤◌, ◌∷◌, ◌++◌, ◌==◌, ◌&&◌, ◌∙◌}
use Rattle.std.proofs.Common.{if◌then◌else◌}
use Rattle.std.proofs.lemmas.Bool.Decides.{nat_tests, Decides-eqb}
use Rattle.std.proofs.lemmas.List.{length-take-le}
use Rattle.ts_synod.specs.declared.message.Fact.{Fact}
use Rattle.ts_synod.specs.declared.message.Message.{Message}
use Rattle.ts_synod.specs.declared.message.Fact.TheVariants.{Took}
use Rattle.ts_synod.specs.Lists.{Has}
use Rattle.ts_synod.specs.Ballot.{ballot}
use Rattle.ts_synod.specs.Config.{is_node}
use Rattle.ts_synod.specs.Force.{learned_command, log_of, used_round}
use Rattle.ts_synod.specs.Store.{Settling, Store, found_command, same_id, settling, tables, tables_after}
use Rattle.ts_synod.specs.Proposer.{ProposerStep, greatest_round, propose}
use Rattle.ts_synod.specs.Log.{last_position, leading, next_position, prefix}
use Rattle.ts_synod.specs.Node.{Answered, CatchUp, Deliver, Done, Input, Node, NotYet, Outcome}
use Rattle.ts_synod.specs.Node.{PositionsExhausted, Prefix, Question, Reply, RoundsExhausted}
use Rattle.ts_synod.specs.Node.{Settled, Started, Status, Submit, Unknown, Volatile, answer_at}
use Rattle.ts_synod.specs.Node.{initial, on_question, outcome_reply, start_reply, step, submit_at}
use Rattle.ts_synod.specs.Node.{submit_unless_settled}
use Rattle.ts_synod.specs.World.{Event, Handle, Restart, Stop, World, after_event, after_events, after_run, config_of, start_world, submitted_commands, with_restart, with_step, with_stop}
use Rattle.ts_synod.specs.Laws.{Agrees, AreChosen, FirstChosen, IsChosen, RightOutcome, RightVerdict, Verdicts}
use Rattle.ts_synod.proofs.Sets.{has_cases, by_test, and_true, put_all}
use Rattle.ts_synod.proofs.Forces.{learned_is}
use Rattle.ts_synod.proofs.Kept.{grows}
use Rattle.ts_synod.proofs.Runs.{SafeWorld, happens_safe, first_submitted, rest_submitted, start_safe, agreement}

-- Ids

same_here : (a : List ℕ) → same_id a a ≡ true
same_here [] = refl
same_here (x ∷ a) = ap (λ t. t && same_id a a) ((Decides-eqb x x).1 refl) ∙ same_here a

same_is : (a b : List ℕ) → same_id a b ≡ true → a ≡ b
same_is [] [] e = refl
same_is [] (y ∷ b) e = absurd (true≢false (sym e))
same_is (x ∷ a) [] e = absurd (true≢false (sym e))
same_is (x ∷ a) (y ∷ b) e =
    let both = and_true (x == y) (same_id a b) e in
    ap (λ z. z ∷ a) ((Decides-eqb x y).0 both.0) ∙ ap (λ l. y ∷ l) (same_is a b both.1)

not_same : (a b : List ℕ) → same_id a b ≡ false → a ≢ b
not_same a b e is = true≢false (sym (subst (λ z. same_id a z ≡ true) is (same_here a)) ∙ e)

-- Chosen commands

chosen_leading : {C : Type 0} (n : ℕ) (nodes : ℕ → Node C) (learned : ℕ → Option C)
    → ((q : ℕ) (c : C) → learned q ≡ Some c → IsChosen n nodes q c) → (k p : ℕ)
    → AreChosen n nodes p (leading k p learned)
chosen_leading n nodes learned h zero p = tt
chosen_leading {C} n nodes learned h (suc k) p = go (chosen_leading n nodes learned h k (suc p)) (learned p) refl
  where
    go : AreChosen n nodes (suc p) (leading k (suc p) learned) → (o : Option C) → learned p ≡ o → AreChosen n nodes p (elim o [ None ↦ [] | Some c ↦ c ∷ leading k (suc p) learned ])
    go rest None e = tt
    go rest (Some c) e = (h p c e, rest)

chosen_prefix : {C : Type 0} (n : ℕ) (nodes : ℕ → Node C) (learned : ℕ → Option C) → ((q : ℕ) (c : C) → learned q ≡ Some c → IsChosen n nodes q c) → AreChosen n nodes 1 (prefix learned)
unfolding prefix
chosen_prefix n nodes learned h = chosen_leading n nodes learned h last_position 1

chosen_take : {C : Type 0} (n : ℕ) (nodes : ℕ → Node C) (k p : ℕ) (cs : List C) → AreChosen n nodes p cs → AreChosen n nodes p (take k cs)
chosen_take n nodes zero p cs h = tt
chosen_take n nodes (suc k) p [] h = tt
chosen_take n nodes (suc k) p (c ∷ cs) h = (h.0, chosen_take n nodes k (suc p) cs h.1)

chosen_front : {C : Type 0} (n : ℕ) (nodes : ℕ → Node C) (p : ℕ) (xs : List C) (y : C) (ys : List C) → AreChosen n nodes p (xs ++ y ∷ ys) → AreChosen n nodes p (xs ++ y ∷ [])
chosen_front n nodes p [] y ys h = (h.0, tt)
chosen_front n nodes p (x ∷ xs) y ys h = (h.0, chosen_front n nodes (suc p) xs y ys h.1)

abbrev Grow : {C : Type 0} → (ℕ → Node C) → (ℕ → Node C) → Type 0
Grow {C} nodes later = (a : ℕ) (f : Fact C) → Has (nodes a).facts f → Has (later a).facts f

chosen_later : {C : Type 0} (n : ℕ) (nodes later : ℕ → Node C) → Grow nodes later → (p : ℕ) (cs : List C) → AreChosen n nodes p cs → AreChosen n later p cs
chosen_later n nodes later grow p [] h = tt
chosen_later n nodes later grow p (c ∷ cs) h =
    (record { ballot = h.0.ballot; voters = h.0.voters; majority = h.0.majority; took = λ a e. grow a (Took p h.0.ballot c) (h.0.took a e) }, chosen_later n nodes later grow (suc p) cs h.1)

same_chosen : {C : Type 0} (n : ℕ) (nodes : ℕ → Node C) → Agrees n nodes → (p : ℕ) (cs ds : List C) → length cs ≡ length ds → AreChosen n nodes p cs → AreChosen n nodes p ds → cs ≡ ds
same_chosen n nodes a p [] [] e h k = refl
same_chosen n nodes a p [] (d ∷ ds) e h k = absurd (omega arith)
same_chosen n nodes a p (c ∷ cs) [] e h k = absurd (omega arith)
same_chosen n nodes a p (c ∷ cs) (d ∷ ds) e h k =
    ap (λ x. x ∷ cs) (a.chosen p c d h.0 k.0) ∙ ap (λ l. d ∷ l) (same_chosen n nodes a (suc p) cs ds (omega arith) h.1 k.1)

-- Where an id is found

record Place {C O T Q V : Type 0} (store : Store C O T Q V) (id : List ℕ) (t : T) (p : ℕ) (cs : List C) (s : Settling O) : Type 0 where
  before : List C
  command : C
  rest : List C
  whole : cs ≡ before ++ command ∷ rest
  position : s.position ≡ p + length before
  has_id : store.id_of command ≡ id
  is_first : (c : C) → Has before c → store.id_of c ≢ id
  outcome : s.outcome ≡ (store.step (tables_after store t before) command).1

place : {C O T Q V : Type 0} (store : Store C O T Q V) (id : List ℕ) (t : T) (p : ℕ) (cs : List C) (s : Settling O) → found_command store id t p cs ≡ Some s → Place store id t p cs s
place store id t p [] s e = absurd (cc)
place {C} {O} store id t p (c ∷ cs) s e = go (λ k. place store id (store.step t c).0 (suc p) cs s k) (same_id (store.id_of c) id) refl e
  where
    go : (found_command store id (store.step t c).0 (suc p) cs ≡ Some s
        → Place store id (store.step t c).0 (suc p) cs s) → (b : Bool)
        → same_id (store.id_of c) id ≡ b
        → (if b then Some (record { position = p; outcome = (store.step t c).1 }) else found_command
        store id (store.step t c).0 (suc p) cs) ≡ Some s → Place store id t p (c ∷ cs) s
    go again true is k =
        let here : Settling O = record { position = p; outcome = (store.step t c).1 } in
        let e : here ≡ s = cc in
        subst (Place store id t p (c ∷ cs)) e
        (record {
          before = [];
          command = c;
          rest = cs;
          whole = refl;
          position =
              omega arith;
          has_id = same_is (store.id_of c) id is;
          is_first =
              λ d h. absurd h;
          outcome = refl;
        })
    go again false is k =
        let h = again k in
        record {
          before = c ∷ h.before;
          command = h.command;
          rest = h.rest;
          whole = ap (λ l. c ∷ l) h.whole;
          position = omega (arith, h.position);
          has_id = h.has_id;
          is_first = λ d. elim [ inl e ↦ subst (λ x. store.id_of x ≢ id) e (not_same (store.id_of c) id is) | inr m ↦ h.is_first d m ];
          outcome = h.outcome;
        }

length_more : {C : Type 0} (xs : List C) (y : C) → length (xs ++ y ∷ []) ≡ 1 + length xs
length_more [] y = refl
length_more (x ∷ xs) y = let h = length_more xs y in omega arith

within : (k m : ℕ) → nat_le k m ≡ true → k ≤ m
within k m e = grind (arith, nat_tests)

-- Replies

module _ {C O T Q V : Type 0} (n : ℕ) (store : Store C O T Q V) where
  abbrev pub RightReply : (ℕ → Node C) → Reply O Q V → Type 0
  RightReply nodes Done = Unit {0}
  RightReply nodes (Started p b) = Unit {0}
  RightReply nodes (Settled id p o) = RightOutcome n store nodes id p o
  RightReply nodes (Unknown id) = Unit {0}
  RightReply nodes (NotYet k q m) = Unit {0}
  RightReply nodes (Answered k q v) = RightVerdict n store nodes k q v
  RightReply nodes (Prefix m) = Unit {0}
  RightReply nodes RoundsExhausted = Unit {0}
  RightReply nodes PositionsExhausted = Unit {0}

  right_later : (nodes later : ℕ → Node C) → Grow nodes later → (r : Reply O Q V) → RightReply nodes r → RightReply later r
  right_later nodes later grow Done h = tt
  right_later nodes later grow (Started p b) h = tt
  right_later nodes later grow (Settled id p o) h =
      record {
        before = h.before;
        command = h.command;
        chosen =
            (h.chosen.0, chosen_later n nodes later grow 1 (h.before ++ h.command ∷ []) h.chosen.1);
        has_id = h.has_id;
        is_first = h.is_first;
        outcome = h.outcome;
      }
  right_later nodes later grow (Unknown id) h = tt
  right_later nodes later grow (NotYet k q m) h = tt
  right_later nodes later grow (Answered k q v) h = record { commands = h.commands; chosen = (h.chosen.0, chosen_later n nodes later grow 1 h.commands h.chosen.1); verdict = h.verdict }
  right_later nodes later grow (Prefix m) h = tt
  right_later nodes later grow RoundsExhausted h = tt
  right_later nodes later grow PositionsExhausted h = tt

  answer_right : (nodes : ℕ → Node C) (cs : List C) → AreChosen n nodes 1 cs → (k : ℕ) (q : Q) → RightReply nodes (answer_at store cs k q)
  answer_right nodes cs h k q =
      by_test (RightReply nodes) (nat_le k (length cs)) (Answered k q (store.answer (tables store (take k cs)) q)) (NotYet k q (length cs))
      (λ e. record { commands = take k cs; chosen = (length-take-le k cs (within k (length cs) e), chosen_take n nodes k 1 cs h); verdict = refl })
      (λ _. tt)

  question_right : (nodes : ℕ → Node C) (cs : List C) → AreChosen n nodes 1 cs → (k : Option ℕ) (q : Q) → RightReply nodes (on_question store cs k q)
  question_right nodes cs h None q = answer_right nodes cs h (length cs) q
  question_right nodes cs h (Some k) q = answer_right nodes cs h k q

  settled_right : (nodes : ℕ → Node C) (cs : List C) → AreChosen n nodes 1 cs → (id : List ℕ) (s : Settling O) → settling store cs id ≡ Some s → RightOutcome n store nodes id s.position s.outcome
  settled_right nodes cs h id s e =
      let at = place store id store.empty 1 cs s e in
      record {
        before = at.before;
        command = at.command;
        chosen = (length_more at.before at.command ∙ sym at.position, chosen_front n nodes 1 at.before at.command at.rest (subst (AreChosen n nodes 1) at.whole h));
        has_id = at.has_id;
        is_first = at.is_first;
        outcome = at.outcome;
      }

  outcome_right : (nodes : ℕ → Node C) (cs : List C) → AreChosen n nodes 1 cs → (id : List ℕ) (o : Option (Settling O)) → settling store cs id ≡ o → RightReply nodes (outcome_reply store id o)
  outcome_right nodes cs h id None e = tt
  outcome_right nodes cs h id (Some s) e = settled_right nodes cs h id s e

  step_right : (nodes : ℕ → Node C) (sent : List (Message C)) (i : ℕ)
      → ((p : ℕ) (c : C) → learned_command p (nodes i).facts ≡ Some c → IsChosen n nodes p c)
      → (input : Input C Q)
      → RightReply nodes (step store (config_of n i) (nodes i) sent input).reply
  step_right nodes sent i h input = go input
    where
      cs : AreChosen n nodes 1 (prefix (log_of (nodes i).facts))
      cs = chosen_prefix n nodes (log_of (nodes i).facts) h

      begun : (volatile : Volatile C) (p b : ℕ) (o : Option (ProposerStep C)) → RightReply nodes (start_reply store (config_of n i) volatile p b o).reply
      begun volatile p b None = tt
      begun volatile p b (Some move) = tt

      proposed : (c : C) (o : Option ℕ) → RightReply nodes (submit_at store (config_of n i) (nodes i) c o).reply
      proposed c None = tt
      proposed c (Some p) =
          let node = nodes i in
          begun node.volatile p (ballot i (suc (greatest_round (used_round node.facts) node.volatile.proposer))) (propose (config_of n i) (used_round node.facts) node.volatile.proposer p c)

      submit : (c : C) (o : Option (Settling O))
          → settling store (prefix (log_of (nodes i).facts)) (store.id_of c) ≡ o
          → RightReply nodes (submit_unless_settled store (config_of n i) (nodes i) c o).reply
      submit c None e = proposed c (next_position (log_of (nodes i).facts))
      submit c (Some s) e = settled_right nodes (prefix (log_of (nodes i).facts)) cs (store.id_of c) s e

      go : (input : Input C Q) → RightReply nodes (step store (config_of n i) (nodes i) sent input).reply
      go (Deliver which) = tt
      go (Submit c) = submit c (settling store (prefix (log_of (nodes i).facts)) (store.id_of c)) refl
      go (Question k q) = question_right nodes (prefix (log_of (nodes i).facts)) cs k q
      go (Outcome id) = outcome_right nodes (prefix (log_of (nodes i).facts)) cs id (settling store (prefix (log_of (nodes i).facts)) id) refl
      go CatchUp = tt
      go Status = tt

  abbrev pub AllRight : World C O Q V → Type 0
  AllRight w = (r : Reply O Q V) → Has w.replies r → RightReply w.nodes r

  happens_right : (P : C → Type 0) (w : World C O Q V) (e : Event C Q) → SafeWorld n P w → AllRight w → AllRight (after_event n store w e)
  happens_right P w (Handle i input) h all =
      let s = step store (config_of n i) (w.nodes i) w.sent input in
      by_test AllRight (is_node n i) (with_step w i s) w
      (λ _ r k. right_later w.nodes (with_step w i s).nodes (grows w.nodes i s.effect.facts s.effect.volatile) r (⊎_elim
      (λ (old : Has w.replies r). all r old)
      (elim [ inl e ↦ subst (RightReply w.nodes) e (step_right w.nodes w.sent i (λ p c l. h.chosen i p c (learned_is (w.nodes i).facts p c l)) input) | inr m ↦ absurd m ])
      (has_cases w.replies (s.reply ∷ []) r k)))
      (λ _. all)
  happens_right P w (Restart i) h all =
      by_test AllRight (is_node n i) (with_restart w i) w
      (λ _ r k. right_later w.nodes (with_restart w i).nodes
      (λ a f. put_all (λ j node. Has (w.nodes j).facts f → Has node.facts f) w.nodes i
      (record { facts = (w.nodes i).facts; volatile = initial }) (λ x. x) (λ j _ x. x) a) r
      (all r k))
      (λ _. all)
  happens_right P w (Stop i input) h all =
      let facts = (step store (config_of n i) (w.nodes i) w.sent input).effect.facts in
      by_test AllRight (is_node n i) (with_stop w i facts) w
      (λ _ r k. right_later w.nodes (with_stop w i facts).nodes (grows w.nodes i facts initial) r (all r k))
      (λ _. all)

  run_right : (P : C → Type 0) (es : List (Event C Q)) (w : World C O Q V) → n ≤ 9
      → ((c : C) → Has (submitted_commands es) c → P c) → SafeWorld n P w → AllRight w
      → AllRight (after_events n store es w)
  run_right P [] w most holds h all = all
  run_right P (e ∷ es) w most holds h all =
      run_right P es (after_event n store w e) most (λ c k. holds c (rest_submitted e es c k))
      (happens_safe n store P w e most (λ c k. holds c (first_submitted e es c k)) h)
      (happens_right P w e h all)

-- the theorem
pub equal_verdicts : {C O T Q V : Type 0} (n : ℕ) (store : Store C O T Q V) (es : List (Event C Q)) → n ≤ 9 → Verdicts n store (after_run n store es)
equal_verdicts {C} {O} {T} {Q} {V} n store es most =
    record {
      right = λ k q v h. all (Answered k q v) h;
      equal = λ k q u v h l.
          let x = all (Answered k q u) h in
          let y = all (Answered k q v) l in
          x.verdict ∙ ap (λ cs. store.answer (tables store cs) q) (one k x.commands y.commands x.chosen y.chosen) ∙ sym y.verdict;
      settled = λ id p o h. all (Settled id p o) h;
      one = one;
    }
  where
    all : AllRight n store (after_run n store es)
    all = run_right n store (λ c. Has (submitted_commands es) c) es start_world most (λ c k. k) (start_safe n (λ c. Has (submitted_commands es) c)) (λ r h. absurd h)

    one : (k : ℕ) (cs ds : List C) → FirstChosen n (after_run n store es).nodes k cs → FirstChosen n (after_run n store es).nodes k ds → cs ≡ ds
    one k cs ds h l = same_chosen n (after_run n store es).nodes (agreement n store es most) 1 cs ds (h.0 ∙ sym l.0) h.1 l.1
