-- A turn of a node, as events of the world.
use Rattle.std.proofs.Common.{◌≡◌, ◌≢◌, ◌∙◌, ◌==◌, ℕ, Bool, true, false, List, [], ◌∷◌, ◌++◌, map, refl, sym, ap, subst, append_assoc, if◌then◌else◌, true≢false}
use Rattle.std.proofs.lemmas.Bool.Decides.{Decides-eqb}
use Rattle.std.proofs.lemmas.List.{append-nil}
use Rattle.ts_synod.specs.declared.message.Fact.{Fact}
use Rattle.ts_synod.specs.declared.message.Message.{Message}
use Rattle.ts_synod.specs.Config.{is_node}
use Rattle.ts_synod.specs.Lists.{update_at}
use Rattle.ts_synod.specs.Store.{Store}
use Rattle.ts_synod.specs.Node.{Input, Node, Step, initial, step}
use Rattle.ts_synod.specs.Turn.{IsAfterCrash, IsAfterTurn, Turn, events_of_turn, node_after, step_then, turn}
use Rattle.ts_synod.specs.World.{Event, Handle, Restart, World, after_event, after_events, config_of, with_restart, with_step}
use Rattle.ts_synod.proofs.Sets.{by_test, put_same}

-- a place that is put twice has what was put last
twice : {A : Type 0} (b : Bool) (u v x : A) → (if b then v else (if b then u else x)) ≡ (if b then v else x)
twice true u v x = refl
twice false u v x = refl

put_again : {A : Type 0} (f : ℕ → A) (i : ℕ) (u v : A) (j : ℕ) → update_at (update_at f i u) i v j ≡ update_at f i v j
put_again f i u v j = twice (j == i) u v (f j)

-- what is there already may be put
put_itself : {A : Type 0} (f : ℕ → A) (i : ℕ) (v : A) → f i ≡ v → (j : ℕ) → f j ≡ update_at f i v j
put_itself f i v is j = by_test (λ x. f j ≡ x) (j == i) v (f j) (λ e. ap f ((Decides-eqb j i).0 e) ∙ is) (λ e. refl)

either_way : {A : Type 0} (b : Bool) (u v x y : A) → u ≡ v → (b ≡ false → x ≡ y) → (if b then u else x) ≡ (if b then v else y)
either_way true u v x y same other = same
either_way false u v x y same other = other refl

else_of : {A : Type 0} (b : Bool) (v y x : A) → x ≡ (if b then v else y) → b ≡ false → x ≡ y
else_of true v y x is e = absurd (true≢false e)
else_of false v y x is e = is

module _ {C O T Q V : Type 0} (store : Store C O T Q V) (n i : ℕ) (member : is_node n i ≡ true) where
  -- the event of an input
  handled : (w : World C O Q V) (input : Input C Q) → after_event n store w (Handle i input) ≡ with_step w i (step store (config_of n i) (w.nodes i) w.sent input)
  handled w input = ap (λ b. if b then with_step w i (step store (config_of n i) (w.nodes i) w.sent input) else w) member

  pub turn_is_events : (inputs : List (Input C Q)) (w : World C O Q V) → IsAfterTurn w (after_events n store (events_of_turn i inputs) w) i (turn store (config_of n i) (w.nodes i) w.sent inputs)
  turn_is_events [] w = record {
    nodes = put_itself w.nodes i _ (ap (λ fs. record { facts = fs; volatile = (w.nodes i).volatile }) (sym (append-nil (w.nodes i).facts)));
    sent = sym (append-nil w.sent);
    replies = sym (append-nil w.replies);
  }
  turn_is_events (input ∷ inputs) w =
      let s = step store (config_of n i) (w.nodes i) w.sent input in
      let mid = with_step w i s in
      let here : mid.nodes i ≡ node_after (w.nodes i) s = put_same w.nodes i (node_after (w.nodes i) s) i refl in
      let t = turn store (config_of n i) (node_after (w.nodes i) s) mid.sent inputs in
      let new = after_events n store (events_of_turn i inputs) mid in
      let rest : IsAfterTurn mid new i t = subst (λ (node : Node C). IsAfterTurn mid new i (turn store (config_of n i) node mid.sent inputs)) here (turn_is_events inputs mid) in
      let all : IsAfterTurn w new i (step_then s t) = record {
        nodes = λ j. rest.nodes j ∙ put_again w.nodes i (node_after (w.nodes i) s) _ j
            ∙ ap (λ (fs : List (Fact C)). update_at w.nodes i (record { facts = fs; volatile = t.effect.volatile }) j)
            (ap (λ (node : Node C). node.facts ++ t.effect.facts) here ∙ append_assoc (w.nodes i).facts s.effect.facts t.effect.facts);
        sent = rest.sent ∙ append_assoc w.sent s.effect.messages t.effect.messages;
        replies = rest.replies ∙ append_assoc w.replies (s.reply ∷ []) t.replies;
      } in
      subst (λ (m : World C O Q V). IsAfterTurn w (after_events n store (events_of_turn i inputs) m) i (step_then s t)) (sym (handled w input)) all

  -- events, and one more
  one_more : (es : List (Event C Q)) (e : Event C Q) (w : World C O Q V) → after_events n store (es ++ e ∷ []) w ≡ after_event n store (after_events n store es w) e
  one_more [] e w = refl
  one_more (f ∷ es) e w = one_more es e (after_event n store w f)

  pub crash_is_events : (inputs : List (Input C Q)) (w : World C O Q V)
      → IsAfterCrash w (after_events n store (events_of_turn i inputs ++ Restart i ∷ []) w) i
      (turn store (config_of n i) (w.nodes i) w.sent inputs)
  crash_is_events inputs w =
      let t = turn store (config_of n i) (w.nodes i) w.sent inputs in
      let new = after_events n store (events_of_turn i inputs) w in
      let at : IsAfterTurn w new i t = turn_is_events inputs w in
      let here = at.nodes i ∙ put_same w.nodes i _ i refl in
      let restarted : IsAfterCrash w (with_restart new i) i t = record {
        nodes = λ j. either_way (j == i) _ _ (new.nodes j) (w.nodes j)
            (ap (λ (node : Node C). record { facts = node.facts; volatile = initial }) here)
            (else_of (j == i) _ (w.nodes j) (new.nodes j) (at.nodes j));
        sent = at.sent;
        replies = at.replies;
      } in
      let stopped : after_event n store new (Restart i) ≡ with_restart new i = ap (λ b. if b then with_restart new i else new) member in
      subst (λ (m : World C O Q V). IsAfterCrash w m i t) (sym (one_more (events_of_turn i inputs) (Restart i) w ∙ stopped)) restarted
