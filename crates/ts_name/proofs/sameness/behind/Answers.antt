use Rattle.std.proofs.Common.{◌≡◌, List, [], ◌∷◌, ◌++◌, refl, sym, ap, subst, ◌∙◌, append-nil}
use Rattle.ts_name.specs.Canon.{Attr, CanonAttr}
use Rattle.ts_name.specs.NameView.{attributes_in}
use Rattle.ts_name.specs.Sameness.{canon_name, IsWithin}
use Rattle.ts_name.proofs.Items.{goes}
use Rattle.ts_name.proofs.NameLists.{canon-append, rest-within, not_longer, first-same, same-more}
use Rattle.ts_name.proofs.sameness.behind.Goals as goal

pub loop-wanted-init : goal.loop-wanted-init
loop-wanted-init c = (tt, tt, [], [], sym c.into_iter-wanted-iterator.ensures.into_iter_gives, refl, refl)

pub returns-in_err-first : goal.returns-in_err-first
returns-in_err-first c = rw (c.from_residual.ensures) (λ within.
    let i = c.loop-wanted.invariant in
    let w = attributes_in c.in-Some.wanted in
    let front = i.4 ∙ ap (λ (xs : List (List Attr)). i.2 ++ xs) c.in-Some.ensures.steps in
    let name = i.5 ∙ ap (λ (xs : List (List Attr)). i.3 ++ xs) c.in_err-first.ensures.steps.0 in
    not_longer w c.next.new.self
    (rest-within i.3 i.2 [] (w ∷ c.next.new.self) i.6
    (subst (λ (n : List (List Attr)). IsWithin n (i.2 ++ w ∷ c.next.new.self)) name
    (subst (λ (f : List (List Attr)). IsWithin c.args.name f) front within))))

pub returns-then-not-same : goal.returns-then-not-same
returns-then-not-same c = λ within.
    let i = c.loop-wanted.invariant in
    let w = attributes_in c.in-Some.wanted in
    let x = attributes_in c.in_ok-first.first in
    let front = i.4 ∙ ap (λ (xs : List (List Attr)). i.2 ++ xs) c.in-Some.ensures.steps in
    let name = i.5 ∙ ap (λ (xs : List (List Attr)). i.3 ++ xs) c.in_ok-first.ensures.steps in
    let rest = rest-within i.3 i.2 (x ∷ c.next-in-loop-wanted.new.self) (w ∷ c.next.new.self) i.6
    (subst (λ (n : List (List Attr)). IsWithin n (i.2 ++ w ∷ c.next.new.self)) name
    (subst (λ (f : List (List Attr)). IsWithin c.args.name f) front within)) in
    let t = c.if-not-same.ensures.1 (first-same x w c.next-in-loop-wanted.new.self c.next.new.self rest) in
    absurd cc

pub loop-wanted-preserved : goal.loop-wanted-preserved
loop-wanted-preserved c =
    let i = c.loop-wanted.invariant in
    let w = attributes_in c.in-Some.wanted in
    let x = attributes_in c.in_ok-first.first in
    let front = i.4 ∙ ap (λ (xs : List (List Attr)). i.2 ++ xs) c.in-Some.ensures.steps in
    let name = i.5 ∙ ap (λ (xs : List (List Attr)). i.3 ++ xs) c.in_ok-first.ensures.steps in (
      tt,
      tt,
      i.2 ++ w ∷ [],
      i.3 ++ x
          ∷ [],
      goes c.args.front i.2 c.next.new.self w front,
      goes c.args.name i.3
          c.next-in-loop-wanted.new.self x name,
      same-more i.3 i.2 x w i.6 (c.if-not-same.ensures.0 refl),
    )

pub returns : goal.returns
returns c =
    let i = c.loop-wanted.invariant in
    let front : c.args.front ≡ i.2 = i.4 ∙ (ap (λ (xs : List (List Attr)). i.2 ++ xs) c.in-None.ensures.steps.0 ∙ append-nil i.2) in
    ap canon_name i.5 ∙ (canon-append i.3 c.loop-wanted.rest ∙ ap (λ (xs : List (List CanonAttr)). xs ++ canon_name c.loop-wanted.rest) (i.6 ∙ ap canon_name (sym front)))
