use Rattle.std.proofs.Common.{◌≡◌, ◌<◌, ◌∷◌, ℕ, List, Bool, true, false, not, get_or, length, refl, sym, subst, ap, ◌∙◌, arith}
use Rattle.std.proofs.lemmas.Grind.{get_or-set_at}
use Rattle.ts_shape.specs.Repeats.{end_of, HaveEnds}
use Rattle.ts_shape.proofs.KeyTables.{flag-new, flag-more}
use Rattle.ts_shape.proofs.repeats.LastOctets.is_new.Goals as goal
use lib.ListN.{set}

unmet : (b : Bool) → not b ≡ true → b ≡ false
unmet false e = refl
unmet true e = absurd cc

more : (ends : List Bool) (i : ℕ) (key : List ℕ) (keys : List (List ℕ)) → i ≡ end_of key → i < length ends → HaveEnds keys ends → HaveEnds (key ∷ keys) (set ends i true)
more ends i key keys e lt have = (get_or-set_at ends i (end_of key) true false (sym e) lt, flag-more end_of ends i keys lt have)

pub returns-clause-none : goal.returns-clause-none
returns-clause-none c = λ keys have new.
    let ends = c.self.inside.seen in
    flag-new end_of ends c.args.key.now keys (subst (HaveEnds keys) (sym c.self.view_is) have) (ap (λ (n : ℕ). get_or ends n false) (sym c.end_of-end.ensures.end) ∙ unmet _ new)

pub returns-clause-more : goal.returns-clause-more
returns-clause-more c = λ keys have.
    let told = c.self.told in
    let octet = c.end_of-end.ensures.octet in
    more c.self.inside.seen c.end_of-end.result c.args.key.now keys c.end_of-end.ensures.end (omega arith) (subst (HaveEnds keys) (sym c.self.view_is) have)
