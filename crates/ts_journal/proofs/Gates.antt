-- What the two writes of an append leave.
use Rattle.std.proofs.Common.{◌≡◌, ◌⊎◌, inl, inr, ℕ, ◌+◌, ◌<◌, List, [], ◌∷◌, ◌++◌, length, get_or, take, drop, sym, ◌∙◌, ap, arith, append_assoc, length-append, take-append-drop, length-take}
use Rattle.std.proofs.lemmas.List.{take_at, drop_at, drop_more}
use Rattle.std.proofs.lemmas.Bool.{cases_eq}
use Rattle.ts_disk.specs.Disk.{Torn, overwrite}
use Rattle.ts_journal.specs.Gate.{HasClosedGate, HasOpenGate}

-- where a closed gate follows the first octets, there is one octet more than these
pub within : (end : ℕ) (image : List ℕ) → HasClosedGate (take end image) image → end < length image
within end image closed = omega (arith, ap length closed.1, length-append (take end image) (0 ∷ closed.0), length-take end image)

pub front_length : (end : ℕ) (image : List ℕ) → HasClosedGate (take end image) image → length (take end image) ≡ end
front_length end image closed = omega (arith, within end image closed, length-take end image)

module _ (front rest image : List ℕ) (end : ℕ) (is : image ≡ front ++ 0 ∷ rest) (size : length front ≡ end) where
  one_more : length (front ++ 0 ∷ []) ≡ end + 1
  one_more = omega (arith, size, length-append front (0 ∷ []))

  regrouped : image ≡ (front ++ 0 ∷ []) ++ rest
  regrouped = is ∙ sym (append_assoc front (0 ∷ []) rest)

  start : take (end + 1) image ≡ front ++ 0 ∷ []
  start = ap (take (end + 1)) regrouped ∙ take_at (front ++ 0 ∷ []) rest (end + 1) one_more

  -- the gate stays closed while something is written after it
  pub torn_behind : (n : ℕ) (c : List ℕ) → Torn (end + 1) n image c → HasClosedGate front c
  torn_behind n c torn = (drop (end + 1) c, sym (take-append-drop (end + 1) c) ∙ ap (λ (l : List ℕ). l ++ drop (end + 1) c) (torn.before ∙ start) ∙ append_assoc front (0 ∷ []) (drop (end + 1) c))

  pub written_behind : (text : List ℕ) → overwrite image (end + 1) text ≡ front ++ (0 ∷ text ++ drop (end + 1 + length text) image)
  written_behind text =
      let tail = drop (end + 1 + length text) image in
      append_assoc (take (end + 1) image) text tail ∙ ap (λ (l : List ℕ). l ++ (text ++ tail)) start ∙ append_assoc front (0 ∷ []) (text ++ tail)

module _ (front more image : List ℕ) (end gate : ℕ) (is : image ≡ front ++ (gate ∷ more)) (size : length front ≡ end) where
  length_is : length image ≡ end + 1 + length more
  length_is = omega (arith, ap length is, size, length-append front (gate ∷ more))

  one_more' : length (front ++ gate ∷ []) ≡ end + 1
  one_more' = omega (arith, size, length-append front (gate ∷ []))

  before_gate : take end image ≡ front
  before_gate = ap (take end) is ∙ take_at front (gate ∷ more) end size

  behind_gate : drop (end + 1) image ≡ more
  behind_gate = ap (drop (end + 1)) (is ∙ sym (append_assoc front (gate ∷ []) more)) ∙ drop_at (front ++ gate ∷ []) more (end + 1) one_more'

  -- only the gate's octet is torn
  pub torn_gate : (c : List ℕ) → Torn end 1 image c → c ≡ front ++ get_or c end 0 ∷ more
  torn_gate c torn =
      sym (take-append-drop end c) ∙ ap (λ (l : List ℕ). l ++ drop end c) (torn.before ∙ before_gate)
      ∙ ap (λ (l : List ℕ). front ++ l) (drop_more c end 0 (omega (arith, torn.no_shorter, length_is)) ∙ ap (λ (l : List ℕ). get_or c end 0 ∷ l) (torn.after ∙ behind_gate))

  pub written_gate : (next : ℕ) → overwrite image end (next ∷ []) ≡ front ++ (next ∷ more)
  written_gate next = append_assoc (take end image) (next ∷ []) (drop (end + 1) image)
      ∙ ap (λ (l : List ℕ). l ++ (next ∷ drop (end + 1) image)) before_gate
      ∙ ap (λ (l : List ℕ). front ++ (next ∷ l)) behind_gate

-- a gate is closed, or it is open and the text follows it
pub either : (front text rest c : List ℕ) (gate : ℕ) → c ≡ front ++ (gate ∷ text ++ rest) → HasClosedGate front c ⊎ HasOpenGate front text c
either front text rest c gate is = elim (cases_eq gate 0) [
  | inl shut ↦ inl (text ++ rest, is ∙ ap (λ g. front ++ (g ∷ text ++ rest)) shut)
  | inr wide ↦ inr (gate, rest, wide, is)
]
