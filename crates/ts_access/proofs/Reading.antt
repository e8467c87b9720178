-- Lines that add keys, one after another.
use Rattle.std.proofs.Common.{◌≡◌, ◌∙◌, ◌+◌, ◌≤◌, ℕ, List, [], ◌∷◌, ◌++◌, length, refl, sym, ap, subst}
use Rattle.std.proofs.Common.{append_assoc, arith, length-append, Option, Some, None, MatchOption, inr, Bor, IfSome, option_map, ◌<◌}
use Rattle.std.specs.Prelude.{⊤}
use Rattle.std.proofs.lemmas.List.{append-nil}
use Rattle.ts_access.specs.Keys.{Adds, AddsLine, IsRefused, IsWrongLine, StopsAt}
use Rattle.ts_access.specs.Pieces.{lines_of, pieces_behind}
use Rattle.ts_access.specs.declared.fault.KeysFault.{KeysFault}
use Rattle.ts_access.specs.declared.fault.KeysFault.TheVariants as faults
use Rattle.ts_access.specs.declared.key.Key.{Key}
use Rattle.ts_access.specs.declared.piece.Mark.TheVariants.{LineFeed}

-- one more line at the end
adds_one_more : (a b c : List Key) (lines : List (List ℕ)) (line : List ℕ) → Adds a lines b
    → AddsLine b line c → Adds a (lines ++ line ∷ []) c
adds_one_more a b c [] line adds one =
    (c, subst (λ (k : List Key). AddsLine k line c) adds one, refl)
adds_one_more a b c (l ∷ lines) line adds one =
    (adds.0, adds.1, adds_one_more adds.0 b c lines line adds.2 one)

-- so many lines were read, and these octets are left
pub record ReadsOn (text : List ℕ) (left : Option (List ℕ)) (keys : List Key) (number : ℕ)
    : Type 0 where
  pub before : List (List ℕ)
  pub lines : lines_of text ≡ before ++ pieces_behind LineFeed left
  pub first : Adds [] before keys
  pub count : number ≡ length before
  pub room : MatchOption left ⊤ (λ octets. number + length octets ≤ length text)

pub starts : (text : List ℕ) → ReadsOn text (Some text) [] 0
starts text = record {
  before = [];
  lines = refl;
  first = refl;
  count = refl;
  room = omega arith;
}

pub fewer_left : (left : Option (Bor (List ℕ))) (n : ℕ) → IfSome left (λ r. length r.now < n)
    → MatchOption (option_map (λ (r : Bor (List ℕ)). r.now) left) ⊤ (λ octets. length octets + 1 ≤ n)
fewer_left None n fewer = tt
fewer_left (Some r) n fewer = omega (arith, fewer)

pub goes_on : (text octets line : List ℕ) (behind : Option (List ℕ)) (keys more : List Key)
    (number : ℕ) → ReadsOn text (Some octets) keys number
    → lines_of octets ≡ line ∷ pieces_behind LineFeed behind
    → MatchOption behind ⊤ (λ rest. length rest + 1 ≤ length octets)
    → AddsLine keys line more → ReadsOn text behind more (number + 1)
goes_on text octets line None keys more number r split fewer adds = record {
  before = r.before ++ line ∷ [];
  lines = r.lines ∙ ap (λ (l : List (List ℕ)). r.before ++ l) split
      ∙ sym (append_assoc r.before (line ∷ []) (pieces_behind LineFeed None));
  first = adds_one_more [] keys more r.before line r.first adds;
  count = omega (arith, r.count, length-append r.before (line ∷ []));
  room = tt;
}
goes_on text octets line (Some rest) keys more number r split fewer adds = record {
  before = r.before ++ line ∷ [];
  lines = r.lines ∙ ap (λ (l : List (List ℕ)). r.before ++ l) split
      ∙ sym (append_assoc r.before (line ∷ []) (pieces_behind LineFeed (Some rest)));
  first = adds_one_more [] keys more r.before line r.first adds;
  count = omega (arith, r.count, length-append r.before (line ∷ []));
  room = omega (arith, r.room, fewer);
}

pub ends : (text : List ℕ) (keys : List Key) (number : ℕ) → ReadsOn text None keys number
    → Adds [] (lines_of text) keys
ends text keys number r =
    subst (λ (l : List (List ℕ)). Adds [] l keys) (sym (append-nil r.before) ∙ sym r.lines) r.first

refused : (text : List ℕ) (fault : KeysFault) → StopsAt text fault → IsRefused text fault
refused text faults.Memory s = tt
refused text (faults.Line n) s = s
refused text (faults.Twice n) s = s
refused text faults.TooMany s = inr s

pub stops : (text octets line : List ℕ) (behind : Option (List ℕ)) (keys : List Key)
    (number : ℕ) (fault : KeysFault) → ReadsOn text (Some octets) keys number
    → lines_of octets ≡ line ∷ pieces_behind LineFeed behind
    → IsWrongLine keys line (number + 1) fault → IsRefused text fault
stops text octets line behind keys number fault r split wrong =
    refused text fault (record {
      before = r.before;
      line = line;
      more = pieces_behind LineFeed behind;
      keys = keys;
      lines = r.lines ∙ ap (λ (l : List (List ℕ)). r.before ++ l) split;
      first = r.first;
      wrong = subst (λ k. IsWrongLine keys line (k + 1) fault) r.count wrong;
    })
