-- Which texts are addresses.
use Rattle.std.proofs.Common.{◌≡◌, ◌↔◌, ◌⊎◌, inl, inr, ℕ, Bool, true, false, IsTrue, List, Option, Some, None, Result, Ok, Err, refl, sym, ◌∙◌}
use Rattle.std.proofs.lemmas.Bool.{false≢true}
use Rattle.std.specs.Borrow.{Bor}
use Rattle.std.specs.Prelude.{MatchOption, is_some, is_ok}
use Rattle.std.specs.Net.Grammar.{IsSocketV6Text, Parses}
use Rattle.std.specs.declared.net.SocketAddrV6.{SocketAddrV6}
use Rattle.ts_cli.specs.Values.{IsAddress, IsAddressed}

-- a text that is not a host and a port is an address exactly where `std` reads it as one of IPv6
pub addressed : {E : Type 0} (text : List ℕ) (o : Option (Bor (List ℕ) × ℕ)) (r : Result SocketAddrV6 E) (some ok : Bool)
    → MatchOption o ((host : List ℕ) (port : ℕ) → ¬ (IsAddress text host port)) (λ found. IsAddress text found.0.now found.1)
    → Parses IsSocketV6Text text r → some ≡ is_some o → ok ≡ is_ok r → some ≡ false → IsTrue ok ↔ IsAddressed text
unfolding IsAddressed
addressed text (Some found) r some ok h p s k is_none = absurd (false≢true (sym is_none ∙ s))
addressed text None (Ok a) some ok h p s k is_none = (λ t. inr (a, p), λ a. k)
addressed text None (Err e) some ok h p s k is_none = (λ t. absurd (false≢true (sym k ∙ t)), λ a. elim a [ inl b ↦ absurd (h b.0 b.1 b.2) | inr b ↦ absurd (p b.0 b.1) ])

pub by_host : (text : List ℕ) (o : Option (Bor (List ℕ) × ℕ))
    → MatchOption o ((host : List ℕ) (port : ℕ) → ¬ (IsAddress text host port))
    (λ found. IsAddress text found.0.now found.1) → is_some o ≡ true → IsAddressed text
unfolding IsAddressed
by_host text None h s = absurd (false≢true s)
by_host text (Some found) h s = inl (found.0.now, found.1, h)
