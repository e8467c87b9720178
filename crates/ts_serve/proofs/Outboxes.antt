-- Messages that wait, as far as there is room.
use Rattle.std.proofs.Common.{◌≡◌, ◌∙◌, refl, sym, ap, ℕ, suc, zero, ◌≤◌, ◌<◌, List, [], ◌∷◌, ◌++◌, map, take, length, append_assoc, arith, length-append, vec_capacity}
use Rattle.std.proofs.lemmas.List.{append-nil, take_all, take-append-le}
use Rattle.std.specs.Global.{Vec}
use Rattle.ts_synod.specs.declared.message.Message.{Message}
use Rattle.ts_command.specs.declared.command.Command.{Command}
use Rattle.ts_wire.specs.declared.frame.Frame.{Frame}
use Rattle.ts_wire.specs.declared.frame.Frame.TheVariants.{Peer}
use Rattle.ts_serve.specs.inside.Outbox.{IsOutbox, messages_in}

messages_in-peers : (messages : List (Message Command)) → messages_in (map Peer messages) ≡ messages
messages_in-peers [] = refl
messages_in-peers (m ∷ ms) = ap (λ l. m ∷ l) (messages_in-peers ms)

peers-append : (messages more : List (Message Command)) → map Peer (messages ++ more) ≡ map Peer messages ++ map Peer more
peers-append [] more = refl
peers-append (m ∷ ms) more = ap (λ l. Peer m ∷ l) (peers-append ms more)

take-peers : (n : ℕ) (messages : List (Message Command)) → take n (map Peer messages) ≡ map Peer (take n messages)
take-peers zero messages = refl
take-peers (suc n) [] = refl
take-peers (suc n) (m ∷ ms) = ap (λ l. Peer m ∷ l) (take-peers n ms)

pub length-peers : (messages : List (Message Command)) → length (map Peer messages) ≡ length messages
length-peers [] = refl
length-peers (m ∷ ms) = ap suc (length-peers ms)

-- what was cut before is cut the same with more after it
take_twice : {A : Type 0} (n : ℕ) (xs ys : List A) → take n (take n xs ++ ys) ≡ take n (xs ++ ys)
take_twice zero xs ys = refl
take_twice (suc n) [] ys = refl
take_twice (suc n) (x ∷ xs) ys = ap (λ l. x ∷ l) (take_twice n xs ys)

-- a message more
pub one_more : (old now : List Frame) (messages : List (Message Command)) (message : Message Command) (new : List Frame)
    → now ≡ take 256 (old ++ map Peer messages) → new ≡ take 256 (now ++ Peer message ∷ []) → new ≡ take 256 (old ++ map Peer (messages ++ message ∷ []))
one_more old now messages message new is later =
    later ∙ ap (λ l. take 256 (l ++ Peer message ∷ [])) is ∙ take_twice 256 (old ++ map Peer messages) (Peer message ∷ [])
    ∙ ap (take 256) (append_assoc old (map Peer messages) (Peer message ∷ []) ∙ ap (λ l. old ++ l) (sym (peers-append messages (message ∷ []))))

pub none_yet : (old : Vec Frame) → IsOutbox old → old.items ≡ take 256 (old.items ++ [])
none_yet old o = let few : length old.items ≤ 256 = o.few in sym (ap (take 256) (append-nil old.items) ∙ take_all 256 old.items few)

-- there is room
pub room : (old new : Vec Frame) (message : Message Command) → IsOutbox old → length old.items < 256
    → new.items ≡ old.items ++ Peer message ∷ []
    → new.items ≡ take 256 (old.items ++ Peer message ∷ [])
room old new message o some is =
    let few : length (old.items ++ Peer message ∷ []) ≤ 256 = omega (arith, length-append old.items (Peer message ∷ [])) in
    is ∙ sym (take_all 256 (old.items ++ Peer message ∷ []) few)

-- there is none
pub no_room : (old : Vec Frame) (message : Message Command) → IsOutbox old → 256 ≤ length old.items → old.items ≡ take 256 (old.items ++ Peer message ∷ [])
no_room old message o full =
    let few : length old.items ≤ 256 = o.few in
    sym (take-append-le 256 old.items (Peer message ∷ []) full ∙ take_all 256 old.items few)

pub holds_more : (old new : Vec Frame) (message : Message Command) → IsOutbox old
    → length old.items < 256 → new.items ≡ old.items ++ Peer message ∷ []
    → vec_capacity new ≡ vec_capacity old → IsOutbox new
holds_more old new message o some is same = record {
  peers = is ∙ ap (λ l. l ++ Peer message ∷ []) o.peers ∙ sym (peers-append (messages_in old.items) (message ∷ []))
      ∙ ap (λ l. map Peer l)
      (sym (ap messages_in (is ∙ ap (λ l. l ++ Peer message ∷ []) o.peers
      ∙ sym (peers-append (messages_in old.items) (message ∷ [])))
      ∙ messages_in-peers (messages_in old.items ++ message ∷ [])));
  few = omega (arith, ap length is, length-append old.items (Peer message ∷ []), some);
  room = omega (arith, o.room, same);
}

-- the messages are the first of all
pub first_stay : (old new : Vec Frame) (messages : List (Message Command)) → IsOutbox old
    → new.items ≡ take 256 (old.items ++ map Peer messages)
    → messages_in new.items ≡ take 256 (messages_in old.items ++ messages)
first_stay old new messages o is =
    ap messages_in (is ∙ ap (λ l. take 256 (l ++ map Peer messages)) o.peers ∙ ap (take 256) (sym (peers-append (messages_in old.items) messages)) ∙ take-peers 256 (messages_in old.items ++ messages))
    ∙ messages_in-peers (take 256 (messages_in old.items ++ messages))
