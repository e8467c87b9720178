-- The two passes, list by list, so that each list is looked at once in a pass, whatever points the
-- certificate has.
use Rattle.std.specs.Prelude.{ℕ, ◌&&◌, not, nat_lt, Bool, List, [], ◌∷◌, Option, Some, None}
use Rattle.std.specs.Prelude.{option_map, if◌then◌else◌}
use Rattle.std.specs.List.{position_from}
use Rattle.ts_ext.specs.declared.reason_set.ReasonSet.{ReasonSet}
use Rattle.ts_ext.specs.NamedBits.{no_reasons}
use Rattle.ts_ext.specs.Points.{Point, ListScope}
use Rattle.ts_crl.specs.List.{CertificateList}
use Rattle.ts_crl.specs.Profile.{scope_of}
use Rattle.ts_revoke.specs.declared.found.Found.{Found}
use Rattle.ts_revoke.specs.declared.verdict.Status.{Status}
use Rattle.ts_revoke.specs.declared.verdict.Status.TheVariants.{Good, Revoked, Undetermined}
use Rattle.ts_revoke.specs.Decision.{revoking, decided}
use Rattle.ts_revoke.specs.Listed.{listed}
use Rattle.ts_revoke.specs.Question.{StatusQuestion}
use Rattle.ts_revoke.specs.Reasons.{union, intersection, is_all, is_subset}
use Rattle.ts_revoke.specs.Usable.{serves, is_named, reasons_in, scope_reasons, mask_of, is_usable}
use Rattle.ts_revoke.specs.Usable.{is_own, all_points, issuer_point}

-- ---- pass 1

-- the reasons of the points that pass 1 may take, and whether a list of this scope is for one of
-- them; no name is looked at
abbrev pub offered_by : Point → ReasonSet
offered_by p = if is_own p then reasons_in p.reasons else no_reasons

abbrev pub offered : List Point → ReasonSet
offered [] = no_reasons
offered (p ∷ ps) = union (offered_by p) (offered ps)

abbrev pub is_for_some : Option ListScope → ReasonSet → Bool
is_for_some scope reasons = not (is_subset (intersection (scope_reasons scope) reasons) no_reasons)

-- whether pass 1 takes the point with a list of this scope, if that serves
unfoldable pub is_reached : Option ListScope → Point → Bool
is_reached scope p = is_own p && (not (is_subset (mask_of p scope) no_reasons) && is_named p scope)

-- the place of the first such point
abbrev pub first_reached : Option ListScope → ℕ → List Point → Option ℕ
first_reached scope i points = position_from (is_reached scope) i points

-- the reasons that the list is for at all of them
abbrev pub reached_mask : Option ListScope → Point → ReasonSet
reached_mask scope p = if is_reached scope p then mask_of p scope else no_reasons

abbrev pub reached_reasons : Option ListScope → List Point → ReasonSet
reached_reasons scope [] = no_reasons
reached_reasons scope (p ∷ ps) = union (reached_mask scope p) (reached_reasons scope ps)

-- a place, and a reason that revokes there
abbrev pub at_place : Option ℕ → Option ℕ → Option Found
at_place None reason = None
at_place (Some place) None = None
at_place (Some place) (Some reason) = Some (record { place = place; reason = reason })

-- of two, that at the lesser place; of two at one place the first
unfoldable pub earlier : Option Found → Option Found → Option Found
earlier None b = b
earlier (Some a) None = Some a
earlier (Some a) (Some b) = if nat_lt b.place a.place then Some b else Some a

-- what one list finds, and the reasons that it is for
unfoldable pub found_by : StatusQuestion → List Point → CertificateList → Option Found
found_by q points l = if serves q l
    then at_place (first_reached (scope_of l) 0 points) (revoking (listed q l)) else None

unfoldable pub reasons_by : StatusQuestion → List Point → CertificateList → ReasonSet
reasons_by q points l = if serves q l then reached_reasons (scope_of l) points else no_reasons

-- list after list
abbrev pub found_after : StatusQuestion → List Point → Option Found → List CertificateList
    → Option Found
found_after q points best [] = best
found_after q points best (l ∷ ls) = found_after q points (earlier best (found_by q points l)) ls

abbrev pub reasons_after : StatusQuestion → List Point → ReasonSet → List CertificateList
    → ReasonSet
reasons_after q points reasons [] = reasons
reasons_after q points reasons (l ∷ ls) =
    reasons_after q points (union reasons (reasons_by q points l)) ls

-- ---- pass 2

-- whether pass 2 takes the list at a point, when these reasons are covered
unfoldable pub is_taken : StatusQuestion → Point → ReasonSet → CertificateList → Bool
is_taken q p covered l = not (is_subset (mask_of p (scope_of l)) covered) && is_usable q p l

-- the reason that it revokes for, and the reasons that it is for
unfoldable pub revoked_at : StatusQuestion → Point → ReasonSet → CertificateList → Option ℕ
revoked_at q p covered l = if is_taken q p covered l then revoking (listed q l) else None

unfoldable pub reasons_at : StatusQuestion → Point → ReasonSet → CertificateList → ReasonSet
reasons_at q p covered l = if is_taken q p covered l then mask_of p (scope_of l) else no_reasons

abbrev pub end_of : ReasonSet → Status
end_of reasons = if is_all reasons then Good else Undetermined

abbrev pub or_revoked : Option ℕ → Status → Status
or_revoked (Some reason) other = Revoked reason
or_revoked None other = other

abbrev pub status_after : StatusQuestion → Point → ReasonSet → ReasonSet → List CertificateList
    → Status
status_after q p covered reasons [] = end_of reasons
status_after q p covered reasons (l ∷ ls) = or_revoked (revoked_at q p covered l)
    (status_after q p covered (union reasons (reasons_at q p covered l)) ls)

-- ---- both passes

abbrev pub by_list : StatusQuestion → Status
by_list q =
    let points = all_points q.certificate in
    let reasons = reasons_after q points no_reasons q.lists in
    decided (option_map (λ (f : Found). f.reason) (found_after q points None q.lists)) reasons
    (status_after q (issuer_point q.certificate) reasons reasons q.lists)
