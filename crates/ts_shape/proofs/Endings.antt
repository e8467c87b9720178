-- The end of an input.
use Rattle.std.proofs.Common.{◌≡◌, ℕ, List, [], ◌∷◌, Ok, refl}
use Rattle.ts_der.specs.Element.{Place}
use Rattle.ts_der.specs.Reading.{end_at}

pub end-ok : (here : Place) (u : Unit {0}) → end_at here ≡ Ok u → here.rest ≡ []
unfolding end_at
end-ok here u e = by_rest here.rest here.at e
  where
    by_rest : (rest : List ℕ) (at : ℕ) → end_at (record { rest = rest; at = at }) ≡ Ok u → rest ≡ []
    by_rest [] at e = refl
    by_rest (o ∷ rest) at e = absurd cc

pub end-again : (at : ℕ) → end_at (record { rest = []; at = at }) ≡ Ok tt
unfolding end_at
end-again at = refl
