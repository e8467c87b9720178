-- What came of the messages so far, and of one more.
use Rattle.std.proofs.Common.{arith, rules, ◌≡◌, ◌≢◌, ◌⊎◌, ◌∙◌, ◌++◌, ◌∷◌, [], ℕ, Bool, List, true, false, ap, inl, inr, length, map, refl, subst, sym}
use Rattle.std.specs.Prelude.{◌&&◌, ◌||◌, filter, if◌then◌else◌, not}
use Rattle.std.specs.Global.{Vec}
use Rattle.std.proofs.lemmas.Bool.Decides.{nat_tests}
use Rattle.std.proofs.lemmas.List.{map-append}
use Rattle.std.proofs.lemmas.List.Folds.{list_all-append}
use Rattle.std.specs.Cmp.{first_so, second_so}
use Rattle.std.specs.Cmp.Derive.{both_true}
use Rattle.std.specs.List.{list_all}
use Rattle.ts_carrier.specs.declared.gate.Gate.{Gate}
use Rattle.ts_command.specs.declared.command.Command.{Command}
use Rattle.ts_synod.specs.declared.message.Message.{Message}
use Rattle.ts_peers.specs.Events.{HasHeard, HaveHeard}
use Rattle.ts_peers.specs.Frames.{BeginWithMessages, frame_of, is_to_another, is_to_itself}
use Rattle.ts_peers.specs.Waiting.{HasSorted, all_lines_pass, all_messages_pass}
use Rattle.ts_peers.specs.declared.line.Line.{Line}

-- What holds of all messages in the end, as far as it has come: those that are left are still to be
-- heard, and what passes among all does among them.
pub record SoFar (given : List ℕ) (now : ℕ) (old new : List Line) (before after : Gate) (own : List (List ℕ)) (rest : List (Message Command)) : Type 0 where
  pub messages : List (Message Command)
  pub begin : BeginWithMessages given messages
  pub lines : (test : ℕ → List ℕ → Bool) → all_lines_pass test old ≡ true → all_messages_pass test (filter is_to_another messages) ≡ true → all_lines_pass test new ≡ true
  pub itself : (test : List ℕ → Bool) → list_all (λ m. test (frame_of m)) (filter is_to_itself messages) ≡ true → list_all test own ≡ true
  pub heard : (last : Gate) → HaveHeard rest now after last → HaveHeard messages now before last
  pub left : (test : Message Command → Bool) → list_all test messages ≡ true → list_all test rest ≡ true

-- one of them is at hand, which was heard
pub record AtHand (given : List ℕ) (now : ℕ) (old new : List Line) (before after : Gate) (own : List (List ℕ)) (message : Message Command) (rest : List (Message Command)) : Type 0 where
  pub so : SoFar given now old new before after own rest
  pub here : (test : Message Command → Bool) → list_all test so.messages ≡ true → test message ≡ true

pub none_yet : (given : List ℕ) (now : ℕ) (lines : List Line) (gate : Gate) (messages : List (Message Command)) → BeginWithMessages given messages → SoFar given now lines lines gate gate [] messages
none_yet given now lines gate messages begin = record {
  messages = messages;
  begin = begin;
  lines = λ test old come. old;
  itself = λ test come. refl;
  heard = λ last more. more;
  left = λ test all. all;
}

-- none is left
pub at_the_end : (given : List ℕ) (now : ℕ) (old new : List Line) (before after : Gate) (own : List (List ℕ)) (rest : List (Message Command)) → length rest ≡ 0
    → SoFar given now old new before after own rest → HasSorted given now old new before after own
at_the_end given now old new before after own [] none so = record {
  messages = so.messages;
  begin = so.begin;
  lines = so.lines;
  itself = so.itself;
  heard = so.heard after refl;
}
at_the_end given now old new before after own (message ∷ rest) none so = search rules

-- the next one is heard
pub heard_one : (given : List ℕ) (now : ℕ) (old new newer : List Line) (before after later : Gate) (own : List (List ℕ)) (message : Message Command) (rest : List (Message Command))
    → newer ≡ new → HasHeard message now after later
    → SoFar given now old new before after own (message ∷ rest) → AtHand given now old newer before later own message rest
heard_one given now old new newer before after later own message rest same heard so = record {
  so = record {
    messages = so.messages;
    begin = so.begin;
    lines = λ test all come. subst (λ lines. all_lines_pass test lines ≡ true) (sym same) (so.lines test all come);
    itself = so.itself;
    heard = λ last more. so.heard last (later, heard, more);
    left = λ test all. second_so (test message) (list_all test rest) (so.left test all);
  };
  here = λ test all. first_so (test message) (list_all test rest) (so.left test all);
}

-- ---- what passes among those of one kind

kept : {A : Type 0} (p q : A → Bool) (xs : List A) → list_all p (filter q xs) ≡ true → list_all (λ x. not (q x) || p x) xs ≡ true
kept p q [] all = refl
kept p q (x ∷ xs) all = one_more (q x) all (kept p q xs) where
  one_more : (b : Bool) → list_all p (if b then x ∷ filter q xs else filter q xs) ≡ true
      → (list_all p (filter q xs) ≡ true → list_all (λ x. not (q x) || p x) xs ≡ true)
      → ((not b || p x) && list_all (λ x. not (q x) || p x) xs) ≡ true
  one_more true all rest = both_true (first_so (p x) (list_all p (filter q xs)) all) (rest (second_so (p x) (list_all p (filter q xs)) all))
  one_more false all rest = both_true refl (rest all)

is_kind : (b p : Bool) → b ≡ true → (not b || p) ≡ true → p ≡ true
is_kind true p is either = either
is_kind false p is either = search rules

pub to_itself_is : (message : Message Command) → message.from ≡ message.to → is_to_itself message ≡ true
to_itself_is message same = grind (arith, nat_tests, same)

pub to_another_is : (message : Message Command) → message.from ≢ message.to → is_to_another message ≡ true
to_another_is message other = grind (arith, nat_tests, other)

-- the one at hand passes what those of its kind pass
at_hand_passes : (given : List ℕ) (now : ℕ) (old new : List Line) (before after : Gate) (own : List (List ℕ)) (message : Message Command) (rest : List (Message Command))
    (at : AtHand given now old new before after own message rest) (p q : Message Command → Bool)
    → q message ≡ true → list_all p (filter q at.so.messages) ≡ true → p message ≡ true
at_hand_passes given now old new before after own message rest at p q is all =
    is_kind (q message) (p message) is (at.here (λ m. not (q m) || p m) (kept p q at.so.messages all))

-- ---- what becomes of the one at hand

-- it came to a line
pub to_line : (given : List ℕ) (now : ℕ) (old new newer : List Line) (before after later : Gate) (own : List (List ℕ)) (message : Message Command) (rest : List (Message Command)) (frame : List ℕ)
    → frame ≡ frame_of message → message.from ≢ message.to
    → ((test : ℕ → List ℕ → Bool) → all_lines_pass test new ≡ true → test message.to frame ≡ true → all_lines_pass test newer ≡ true)
    → later ≡ after
    → AtHand given now old new before after own message rest → SoFar given now old newer before later own rest
to_line given now old new newer before after later own message rest frame is other handed same at = record {
  messages = at.so.messages;
  begin = at.so.begin;
  lines = λ test all come. handed test (at.so.lines test all come)
      (subst (λ octets. test message.to octets ≡ true) (sym is)
      (at_hand_passes given now old new before after own message rest at (λ m. test m.to (frame_of m)) is_to_another (to_another_is message other) come));
  itself = at.so.itself;
  heard = λ last more. at.so.heard last (subst (λ gate. HaveHeard rest now gate last) same more);
  left = at.so.left;
}

-- it came to the node itself
pub to_itself : (given : List ℕ) (now : ℕ) (old new : List Line) (before after : Gate) (own newer : List (List ℕ)) (message : Message Command) (rest : List (Message Command)) (frame : List ℕ)
    → frame ≡ frame_of message → message.from ≡ message.to → newer ≡ own ++ frame ∷ []
    → AtHand given now old new before after own message rest → SoFar given now old new before after newer rest
to_itself given now old new before after own newer message rest frame is to_own come at = record {
  messages = at.so.messages;
  begin = at.so.begin;
  lines = at.so.lines;
  itself = λ test all.
      let one = subst (λ octets. test octets ≡ true) (sym is)
      (at_hand_passes given now old new before after own message rest at (λ m. test (frame_of m)) is_to_itself (to_itself_is message to_own) all) in
      subst (λ octets. list_all test octets ≡ true) (sym come)
      (list_all-append test own (frame ∷ []) ∙ both_true (at.so.itself test all) (both_true one refl));
  heard = at.so.heard;
  left = at.so.left;
}

-- the same, of the frames themselves, where memory may be refused
pub added : (given : List ℕ) (now : ℕ) (old new : List Line) (before after : Gate) (own newer : List (Vec ℕ)) (message : Message Command) (rest : List (Message Command)) (frame : Vec ℕ)
    → frame.items ≡ frame_of message → message.from ≡ message.to → (newer ≡ own ++ frame ∷ []) ⊎ (newer ≡ own)
    → AtHand given now old new before after (map (λ frame. frame.items) own) message rest → SoFar given now old new before after (map (λ frame. frame.items) newer) rest
added given now old new before after own newer message rest frame is to_own (inl more) at =
    to_itself given now old new before after (map (λ frame. frame.items) own) (map (λ frame. frame.items) newer) message rest frame.items is to_own
    (ap (map (λ frame. frame.items)) more ∙ map-append (λ frame. frame.items) own (frame ∷ [])) at
added given now old new before after own newer message rest frame is to_own (inr same) at =
    subst (λ frames. SoFar given now old new before after (map (λ frame. frame.items) frames) rest) (sym same) at.so
