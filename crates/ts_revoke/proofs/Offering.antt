-- A list that is for none of the reasons of the points of pass 1 is used at none of them.
use Rattle.std.proofs.Common.{◌≡◌, ℕ, ◌+◌, Bool, true, false, cond, not, ◌&&◌, ◌||◌, List, [], ◌∷◌, Option, Some, None, refl, sym, ◌∙◌, ap, true≢false, if◌then◌else◌}
use Rattle.ts_ext.specs.declared.reason_flag.ReasonFlag.{ReasonFlag}
use Rattle.ts_ext.specs.declared.reason_set.ReasonSet.{ReasonSet}
use Rattle.ts_ext.specs.NamedBits.{holds, no_reasons}
use Rattle.ts_ext.specs.Points.{Point, ListScope}
use Rattle.ts_crl.specs.List.{CertificateList}
use Rattle.ts_crl.specs.Profile.{scope_of}
use Rattle.ts_revoke.specs.inside.ByList.{offered_by, offered, is_for_some, is_reached, first_reached, reached_reasons, at_place, found_by, reasons_by}
use Rattle.ts_revoke.specs.Decision.{revoking}
use Rattle.ts_revoke.specs.Listed.{listed}
use Rattle.ts_revoke.specs.Question.{StatusQuestion}
use Rattle.ts_revoke.specs.Reasons.{union, intersection, is_subset}
use Rattle.ts_revoke.specs.Usable.{serves, is_named, is_own, reasons_in, scope_reasons, mask_of}
use Rattle.ts_revoke.proofs.Sets.{holds-union, holds-intersection, holds-none, within_holds, within_from, none-union}

-- no reason is both in the scope and in the set
abbrev pub Apart : Option ListScope → ReasonSet → Type 0
Apart scope s = (flag : ReasonFlag) → holds flag (scope_reasons scope) ≡ true → holds flag s ≡ true → ⊥

and_true : (x y : Bool) → x ≡ true → y ≡ true → (x && y) ≡ true
and_true true y a b = b
and_true false y a b = absurd (true≢false (sym a))

left_true : (x y : Bool) → (x && y) ≡ true → x ≡ true
left_true true y e = refl
left_true false y e = e

right_true : (x y : Bool) → (x && y) ≡ true → y ≡ true
right_true true y e = e
right_true false y e = absurd (true≢false (sym e))

or_true : (x y : Bool) → y ≡ true → (x || y) ≡ true
or_true true y e = refl
or_true false y e = e

negated : (b : Bool) → not b ≡ false → b ≡ true
negated true e = refl
negated false e = absurd (true≢false e)

pub apart_from : (scope : Option ListScope) (s : ReasonSet) → is_for_some scope s ≡ false → Apart scope s
apart_from scope s e flag a b =
    let both = holds-intersection (scope_reasons scope) s flag ∙ and_true _ _ a b in
    true≢false (sym (within_holds (intersection (scope_reasons scope) s) no_reasons (negated _ e) flag both) ∙ holds-none flag)

unreached : (scope : Option ListScope) (p : Point) → Apart scope (offered_by p) → is_reached scope p ≡ false
unfolding is_reached
unreached scope p apart = by_own (is_own p) apart
  where
    by_own : (b : Bool) → Apart scope (if b then reasons_in p.reasons else no_reasons) → (b && (not (is_subset (mask_of p scope) no_reasons) && is_named p scope)) ≡ false
    by_own false h = refl
    by_own true h =
        ap (λ w. not w && is_named p scope)
        (within_from (mask_of p scope) no_reasons (λ flag m.
        let both = sym (holds-intersection (scope_reasons scope) (reasons_in p.reasons) flag) ∙ m in
        absurd (h flag (left_true _ _ both) (right_true _ _ both))))

apart_first : (scope : Option ListScope) (p : Point) (ps : List Point) → Apart scope (offered (p ∷ ps)) → Apart scope (offered_by p)
apart_first scope p ps apart flag a b = apart flag a (holds-union (offered_by p) (offered ps) flag ∙ ap (λ x. x || holds flag (offered ps)) b)

apart_rest : (scope : Option ListScope) (p : Point) (ps : List Point) → Apart scope (offered (p ∷ ps)) → Apart scope (offered ps)
apart_rest scope p ps apart flag a b = apart flag a (holds-union (offered_by p) (offered ps) flag ∙ or_true _ _ b)

none_reached : (scope : Option ListScope) (i : ℕ) (ps : List Point) → Apart scope (offered ps) → first_reached scope i ps ≡ None
none_reached scope i [] apart = refl
none_reached scope i (p ∷ ps) apart =
    ap (λ b. cond b (Some i) (first_reached scope (i + 1) ps)) (unreached scope p (apart_first scope p ps apart)) ∙ none_reached scope (i + 1) ps (apart_rest scope p ps apart)

no_mask : (scope : Option ListScope) (ps : List Point) → Apart scope (offered ps) → reached_reasons scope ps ≡ no_reasons
no_mask scope [] apart = refl
no_mask scope (p ∷ ps) apart =
    ap (λ b. union (if b then mask_of p scope else no_reasons) (reached_reasons scope ps)) (unreached scope p (apart_first scope p ps apart))
    ∙ none-union (reached_reasons scope ps)
    ∙ no_mask scope ps (apart_rest scope p ps apart)

-- where no reason is offered no list is for one
pub none_for_some : (scope : Option ListScope) (s : ReasonSet) → is_subset s no_reasons ≡ true → is_for_some scope s ≡ false
none_for_some scope s e =
    ap not
    (within_from (intersection (scope_reasons scope) s) no_reasons (λ flag both.
    within_holds s no_reasons e flag (right_true _ _ (sym (holds-intersection (scope_reasons scope) s flag) ∙ both))))

-- such a list finds nothing, whether it serves or not, and is for no reason
pub finds_none : (q : StatusQuestion) (ps : List Point) (l : CertificateList) → is_for_some (scope_of l) (offered ps) ≡ false → found_by q ps l ≡ None
unfolding found_by
finds_none q ps l e = ap (λ n. if serves q l then at_place n (revoking (listed q l)) else None)
    (none_reached (scope_of l) 0 ps (apart_from (scope_of l) (offered ps) e))
    ∙ nowhere (serves q l) (revoking (listed q l))
  where
    nowhere : (s : Bool) (reason : Option ℕ) → (if s then at_place None reason else None) ≡ None
    nowhere true reason = refl
    nowhere false reason = refl

pub covers_none : (q : StatusQuestion) (ps : List Point) (l : CertificateList) → is_for_some (scope_of l) (offered ps) ≡ false → reasons_by q ps l ≡ no_reasons
unfolding reasons_by
covers_none q ps l e = ap (λ s. if serves q l then s else no_reasons) (no_mask (scope_of l) ps (apart_from (scope_of l) (offered ps) e)) ∙ same (serves q l)
  where
    same : (s : Bool) → (if s then no_reasons else no_reasons) ≡ no_reasons
    same true = refl
    same false = refl

-- nor does one that does not serve
pub refused_finds_none : (q : StatusQuestion) (ps : List Point) (l : CertificateList) → serves q l ≡ false → found_by q ps l ≡ None
unfolding found_by
refused_finds_none q ps l e = ap (λ b. if b then at_place (first_reached (scope_of l) 0 ps) (revoking (listed q l)) else None) e

pub refused_covers_none : (q : StatusQuestion) (ps : List Point) (l : CertificateList) → serves q l ≡ false → reasons_by q ps l ≡ no_reasons
unfolding reasons_by
refused_covers_none q ps l e = ap (λ b. if b then reached_reasons (scope_of l) ps else no_reasons) e
