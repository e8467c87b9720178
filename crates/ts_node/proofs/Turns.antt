-- A turn, one input after another.
use Rattle.std.proofs.Common.{◌≡◌, ◌∙◌, ◌<◌, ◌+◌, ◌==◌, ◌++◌, ◌∷◌, ℕ, suc, List, [], Bool, true, false, Option, Some, length, take, map, slice_get, refl, sym, ap, arith, append_assoc, if◌then◌else◌}
use Rattle.std.proofs.lemmas.List.{append-nil, length-take, take-append-le, take_more}
use Rattle.std.specs.Prelude.{slice_index_or}
use Rattle.ts_synod.specs.declared.message.Message.{Message}
use Rattle.ts_synod.specs.Config.{Config}
use Rattle.ts_synod.specs.Laws.{node_with}
use Rattle.ts_synod.specs.Node as world
use Rattle.ts_synod.specs.Node.{Effect, step}
use Rattle.ts_synod.specs.Store.{Store}
use Rattle.ts_synod.specs.Turn.{node_after, turn}
use Rattle.ts_node.specs.Turn.{inputs_of, own_numbers}

-- what one thing does, and then another
abbrev pub and_then : {C : Type 0} → Effect C → Effect C → Effect C
and_then e f = record { facts = e.facts ++ f.facts; messages = e.messages ++ f.messages; volatile = f.volatile }

and_then_assoc : {C : Type 0} (e f g : Effect C) → and_then e (and_then f g) ≡ and_then (and_then e f) g
and_then_assoc e f g = λ i. record { facts = sym (append_assoc e.facts f.facts g.facts) i; messages = sym (append_assoc e.messages f.messages g.messages) i; volatile = g.volatile }

none_then : {C : Type 0} (e : Effect C) (v : world.Volatile C) → and_then e (record { facts = []; messages = []; volatile = e.volatile }) ≡ e
none_then e v = λ i. record { facts = append-nil e.facts i; messages = append-nil e.messages i; volatile = e.volatile }

map_push : {A B : Type 0} (f : A → B) (xs : List A) (x : A) → map f (xs ++ x ∷ []) ≡ map f xs ++ f x ∷ []
map_push f [] x = refl
map_push f (y ∷ xs) x = ap (λ ys. f y ∷ ys) (map_push f xs x)

-- a number behind those before it
get_behind : {A : Type 0} (xs ys : List A) (k : ℕ) → slice_get (xs ++ ys) (length xs + k) ≡ slice_get ys k
get_behind [] ys k = let e : 0 + k ≡ k = omega arith in ap (slice_get ys) e
get_behind (x ∷ xs) ys k = let e : suc (length xs) + k ≡ suc (length xs + k) = omega arith in ap (slice_get (x ∷ (xs ++ ys))) e ∙ get_behind xs ys k

chosen : (b : Bool) (k j : ℕ) (xs : List ℕ) → (if b then k ∷ (xs ++ (if true then j ∷ [] else [])) else (xs ++ j ∷ [])) ≡ (if b then k ∷ xs else xs) ++ j ∷ []
chosen true k j xs = refl
chosen false k j xs = refl

passed : (b : Bool) (k : ℕ) (xs ys : List ℕ) → xs ≡ ys → (if b then k ∷ xs else xs) ≡ (if b then k ∷ ys else ys)
passed b k xs ys e = ap (λ zs. if b then k ∷ zs else zs) e

module _ {C : Type 0} (me : ℕ) where
  own_more : (first : ℕ) (ms : List (Message C)) (m : Message C) → (m.to == me) ≡ true → own_numbers me first (ms ++ m ∷ []) ≡ own_numbers me first ms ++ (first + length ms) ∷ []
  own_more first [] m is = ap (λ (b : Bool). if b then first ∷ [] else []) is ∙ ap (λ k. k ∷ []) (let e : first ≡ first + 0 = omega arith in e)
  own_more first (n ∷ ms) m is =
      let e : suc first + length ms ≡ first + suc (length ms) = omega arith in
      passed (n.to == me) first _ _ (own_more (suc first) ms m is ∙ ap (λ k. own_numbers me (suc first) ms ++ k ∷ []) e)
      ∙ chosen (n.to == me) first (first + suc (length ms)) (own_numbers me (suc first) ms)

  other_more : (first : ℕ) (ms : List (Message C)) (m : Message C) → (m.to == me) ≡ false → own_numbers me first (ms ++ m ∷ []) ≡ own_numbers me first ms
  other_more first [] m is = ap (λ (b : Bool). if b then first ∷ [] else []) is
  other_more first (n ∷ ms) m is = passed (n.to == me) first _ _ (other_more (suc first) ms m is)

  module _ {Q : Type 0} (sent : List (Message C)) (event : world.Input C Q) (ms more : List (Message C)) (k : ℕ) (m : Message C) (within : k < length ms) (is : m ≡ slice_index_or ms k m) where
    upto : take (k + 1) (ms ++ more) ≡ take k ms ++ m ∷ []
    upto = take-append-le (k + 1) ms more (let l = within in omega arith) ∙ take_more ms k m within ∙ ap (λ (x : Message C). take k ms ++ x ∷ []) (sym is)

    so_long : length (take k ms) ≡ k
    so_long = let e = length-take k ms in let l = within in omega arith

    -- the inputs with the next message, which is one to the node itself
    pub inputs_own : (m.to == me) ≡ true → inputs_of me sent event (k + 1) (ms ++ more) ≡ inputs_of me sent event k ms ++ world.Deliver (length sent + k) ∷ []
    inputs_own own =
        ap (λ (xs : List (Message C)). event ∷ map world.Deliver (own_numbers me (length sent) xs)) upto
        ∙ ap (λ (ks : List ℕ). event ∷ map world.Deliver ks) (own_more (length sent) (take k ms) m own ∙ ap (λ j. own_numbers me (length sent) (take k ms) ++ (length sent + j) ∷ []) so_long)
        ∙ ap (λ (es : List (world.Input C Q)). event ∷ es) (map_push world.Deliver (own_numbers me (length sent) (take k ms)) (length sent + k))

    -- and where it is one to another
    pub inputs_other : (m.to == me) ≡ false → inputs_of me sent event (k + 1) ms ≡ inputs_of me sent event k ms
    inputs_other other =
        ap (λ (xs : List (Message C)). event ∷ map world.Deliver (own_numbers me (length sent) xs)) (take_more ms k m within ∙ ap (λ (x : Message C). take k ms ++ x ∷ []) (sym is))
        ∙ ap (λ (ks : List ℕ). event ∷ map world.Deliver ks) (other_more (length sent) (take k ms) m other)

module _ {C O T Q V : Type 0} (store : Store C O T Q V) (config : Config) where
  -- the step after a turn
  abbrev pub next : world.Node C → List (Message C) → Effect C → world.Input C Q → Effect C
  next node sent e input = (step store config (node_with (node.facts ++ e.facts) e.volatile) (sent ++ e.messages) input).effect

  next_same : (node other : world.Node C) (sent more : List (Message C)) (e f : Effect C)
      (input : world.Input C Q) → node.facts ++ e.facts ≡ other.facts ++ f.facts → sent
      ++ e.messages ≡ more ++ f.messages → e.volatile ≡ f.volatile
      → next node sent e input ≡ next other more f input
  next_same node other sent more e f input a b v = λ i. (step store config (node_with (a i) (v i)) (b i) input).effect

  -- a turn with one input more
  pub turn_more : (inputs : List (world.Input C Q)) (node : world.Node C) (sent : List (Message C)) (input : world.Input C Q)
      → (turn store config node sent (inputs ++ input ∷ [])).effect ≡ and_then (turn store config node sent inputs).effect (next node sent (turn store config node sent inputs).effect input)
  turn_more [] node sent input =
      let s = step store config node sent input in
      let nothing : Effect C = record { facts = []; messages = []; volatile = node.volatile } in
      none_then s.effect s.effect.volatile
      ∙ (λ i. (step store config (node_with (sym (append-nil node.facts) i) node.volatile) (sym (append-nil sent) i) input).effect)
  turn_more (first ∷ inputs) node sent input =
      let s = step store config node sent first in
      let t = turn store config (node_after node s) (sent ++ s.effect.messages) inputs in
      ap (and_then s.effect) (turn_more inputs (node_after node s) (sent ++ s.effect.messages) input)
      ∙ and_then_assoc s.effect t.effect (next (node_after node s) (sent ++ s.effect.messages) t.effect input)
      ∙ ap (and_then (and_then s.effect t.effect))
      (next_same (node_after node s) node (sent ++ s.effect.messages) sent t.effect
      (and_then s.effect t.effect) input (append_assoc node.facts s.effect.facts t.effect.facts)
      (append_assoc sent s.effect.messages t.effect.messages) refl)

  -- the turn of one input
  pub turn_one : (node : world.Node C) (sent : List (Message C)) (input : world.Input C Q) → (turn store config node sent (input ∷ [])).effect ≡ (step store config node sent input).effect
  turn_one node sent input = none_then (step store config node sent input).effect node.volatile

  -- the delivery of a message that the turn sent
  pub delivered : (node : world.Node C) (sent : List (Message C)) (e : Effect C) (k : ℕ) (m : Message C) → slice_get e.messages k ≡ Some m
      → next node sent e (world.Deliver (length sent + k)) ≡ world.on_message store config (node.facts ++ e.facts) e.volatile m
  delivered node sent e k m is = ap (λ (o : Option (Message C)). world.on_delivery store config (node_with (node.facts ++ e.facts) e.volatile) o) (get_behind sent e.messages k ∙ is)
