-- Answering an Ask: what is left to be given, command by command.
use Rattle.std.proofs.Common.{◌≡◌, ◌∙◌, ◌+◌, ◌-◌, ◌<◌, ◌≤◌, ◌++◌, ◌∷◌, ℕ, zero, suc, List, [], Option, Some, None, ap, refl, sym, append-nil, arith}
use Rattle.std.proofs.lemmas.List.{append_assoc}
use Rattle.ts_synod.specs.declared.message.Body.TheVariants.{Give}
use Rattle.ts_synod.specs.declared.message.Message.{Message}
use Rattle.ts_synod.specs.Config.{Config}
use Rattle.ts_synod.specs.Messages.{send}
use Rattle.ts_synod.specs.Log.{gives, leading}

-- what is left of the answer for n positions from p on, once so many are given
abbrev pub left : {C : Type 0} → Config → ℕ → ℕ → ℕ → (ℕ → Option C) → ℕ → List (Message C)
left config from p n learned given = gives config from (p + given) (leading (n - given) (p + given) learned)

module _ {C : Type 0} (config : Config) (from : ℕ) (learned : ℕ → Option C) where
  one : (k p : ℕ) (c : C) → learned p ≡ Some c → gives config from p (leading (suc k) p learned) ≡ send config.me from (Give p c) ∷ gives config from (suc p) (leading k (suc p) learned)
  one k p c e = ap (λ (o : Option C). gives config from p (elim o [ None ↦ [] | Some d ↦ d ∷ leading k (suc p) learned ])) e

  none : (k p : ℕ) → learned p ≡ None → gives config from p (leading k p learned) ≡ []
  none zero p e = refl
  none (suc k) p e = ap (λ (o : Option C). gives config from p (elim o [ None ↦ [] | Some d ↦ d ∷ leading k (suc p) learned ])) e

  pub begins : (p n : ℕ) → left config from p n learned 0 ≡ gives config from p (leading n p learned)
  begins p n =
      let start : p + 0 ≡ p = omega arith in
      let all : n - 0 ≡ n = omega arith in
      rw (start, all) refl

  pub goes_on : (p n given : ℕ) (c : C) (messages more : List (Message C)) → given < n
      → learned (p + given) ≡ Some c → more ≡ messages ++ send config.me from (Give (p + given) c)
      ∷ [] → more ++ left config from p n learned (given + 1) ≡ messages
      ++ left config from p n learned given
  goes_on p n given c messages more inside e is =
      let k = n - (given + 1) in
      let m = send config.me from (Give (p + given) c) in
      let rest = left config from p n learned (given + 1) in
      let one_less : n - given ≡ suc k = omega arith in
      let next : suc (p + given) ≡ p + (given + 1) = omega arith in
      let same : left config from p n learned given ≡ m
      ∷ rest = ap (λ l. gives config from (p + given) (leading l (p + given) learned)) one_less
      ∙ one k (p + given) c e ∙ ap (λ q. m ∷ gives config from q (leading k q learned)) next in
      ap (λ ms. ms ++ rest) is ∙ append_assoc messages (m ∷ []) rest ∙ ap (λ later. messages ++ later) (sym same)

  pub breaks_off : (p n given : ℕ) → learned (p + given) ≡ None → left config from p n learned given ≡ []
  breaks_off p n given e = none (n - given) (p + given) e

  pub is_done : (p n given : ℕ) → n ≤ given → left config from p n learned given ≡ []
  is_done p n given outside =
      let done : n - given ≡ 0 = omega arith in
      ap (λ m. gives config from (p + given) (leading m (p + given) learned)) done

  pub ends : (messages rest whole : List (Message C)) → rest ≡ [] → messages ++ rest ≡ whole → messages ≡ whole
  ends messages rest whole e h = sym (append-nil messages) ∙ ap (λ r. messages ++ r) (sym e) ∙ h
