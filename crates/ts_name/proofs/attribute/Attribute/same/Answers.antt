use Rattle.std.proofs.Common.{◌≡◌, ◌∙◌, sym, true, false, rules}
use Rattle.std.proofs.lemmas.Bool.{false≢true, eqb-true, eq-eqb}
use Rattle.std.proofs.lemmas.Bool.Decides.{Decides-eqb}
use Rattle.std.proofs.lemmas.Slice.Eq.{slice_eq-Decides}
use Rattle.ts_name.specs.Canon.{is_text}
use Rattle.ts_name.specs.View.{attr_of}
use Rattle.ts_name.proofs.AttributeForms.{same_kind, both_text, not_both_text}
use Rattle.ts_name.proofs.attribute.Attribute.same.Goals as goal
use Rattle.ts_name.proofs.attribute.Attribute.same.Goals.{else-is_text-via-then-is_text+else-is_text-2, else-is_text-via-else-is_text}

pub returns-then-ne : goal.returns-then-ne
returns-then-ne c = (λ t. absurd (false≢true t), λ e. let k = same_kind (attr_of c.args.self) (attr_of c.args.other) e in search rules)

pub returns-then-is_text-2 : goal.returns-then-is_text-2
returns-then-is_text-2 c =
    let k : c.args.self.kind.now ≡ c.args.other.kind.now = search rules in
    let e = both_text (attr_of c.args.self) (attr_of c.args.other) k (sym c.is_text.ensures ∙ c.if-is_text.true) (sym c.is_text-then-is_text.ensures ∙ c.if-is_text-2.true) in
    (λ t. e.0 (c.same_text.ensures.0 t), λ s. c.same_text.ensures.1 (e.1 s))

pub returns-then-self-other : goal.returns-then-self-other
returns-then-self-other c =
    let k : c.args.self.kind.now ≡ c.args.other.kind.now = search rules in
    let n : is_text c.args.self.tag ≡ true → is_text c.args.other.tag ≡ false = elim c.else-is_text.branch [
      | else-is_text-via-then-is_text+else-is_text-2 w ↦ λ t. sym w.is_text-then-is_text.ensures ∙ w.if-is_text-2.false
      | else-is_text-via-else-is_text w ↦ λ t. absurd (false≢true (sym w.if-is_text.false ∙ c.is_text.ensures ∙ t))
    ] in
    let e = not_both_text (attr_of c.args.self) (attr_of c.args.other) k n in
    let d = slice_eq-Decides Decides-eqb c.args.self.value.now c.args.other.value.now c.eq.result c.eq.ensures in
    (λ t. e.0 (c.if-self-other.true, d.0 t), λ s. d.1 (e.1 s).1)

pub returns-else-self-other : goal.returns-else-self-other
returns-else-self-other c =
    let k : c.args.self.kind.now ≡ c.args.other.kind.now = search rules in
    let n : is_text c.args.self.tag ≡ true → is_text c.args.other.tag ≡ false = elim c.else-is_text.branch [
      | else-is_text-via-then-is_text+else-is_text-2 w ↦ λ t. sym w.is_text-then-is_text.ensures ∙ w.if-is_text-2.false
      | else-is_text-via-else-is_text w ↦ λ t. absurd (false≢true (sym w.if-is_text.false ∙ c.is_text.ensures ∙ t))
    ] in
    let e = not_both_text (attr_of c.args.self) (attr_of c.args.other) k n in
    (λ t. absurd (c.if-self-other.false (eqb-true _ _ t)), λ s. eq-eqb _ _ (e.1 s).0)
