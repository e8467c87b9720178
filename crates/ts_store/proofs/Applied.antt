-- What a command changes, where it is applied: the tables that the store's definition makes have the contents that the change gives.
use Rattle.std.proofs.Common.{◌≡◌, ◌⊎◌, ⊎_elim, ◌∙◌, ◌∷◌, ◌++◌, ℕ, Bool, true, false, cond, not, List, [], get_or, Option, Some, None, Result, Ok, Err, length, refl, sym, ap, subst}
use Rattle.std.specs.Prelude.{IfOk, is_some, slice_set, nat_le}
use Rattle.std.specs.declared.alloc.AllocError.{AllocError}
use Rattle.std.specs.List.{remove}
use Rattle.std.specs.Result.{result_unwrap_or}
use Rattle.sha2.specs.Sha256.{sha256}
use Rattle.ts_crl.specs.List.{CertificateList}
use Rattle.ts_crl.specs.OwnedView.{no_list}
use Rattle.ts_crl.specs.Profile.{is_delta}
use Rattle.ts_crl.specs.Table.{crl_of}
use Rattle.ts_store.specs.Anchors.{add_unless, new_anchor, new_refusal, refuse_if}
use Rattle.ts_store.specs.Lists.{stored_crl, list_in, is_newer, has_slot, has_id, replace_slot, put_by, put_list, place_by, drop_at}
use Rattle.ts_store.specs.Tables.{Tables, change as change_by, with_anchors, with_complete, with_deltas, load_as, drop_either}
use Rattle.ts_store.specs.declared.anchor.TrustAnchor.{TrustAnchor}
use Rattle.ts_command.specs.declared.command.Command.{Command}
use Rattle.ts_command.specs.declared.command.Command.TheVariants.{DropCrl}
use Rattle.ts_command.specs.declared.outcome.Refusal.{Refusal}
use Rattle.ts_command.specs.declared.outcome.Refusal.TheVariants.{Malformed, OlderCrl, StoreFull, NoCrl}
use Rattle.ts_store.specs.declared.stored.StoredCrl.{StoredCrl}
use Rattle.ts_store.specs.Contents.{Contents, contents_of}
use Rattle.ts_store.specs.inside.Places.{crl_change_at, crl_change_in, crl_removal_at, crl_removal_in}
use Rattle.ts_store.specs.inside.Taken.{apply_change}
use Rattle.ts_store.specs.declared.taken.TableChange.{TableChange}
use Rattle.ts_store.specs.declared.taken.TableChange.TheVariants.{AddsAnchor}
use Rattle.ts_store.specs.declared.taken.Kind.TheVariants.{Complete, Delta}
use Rattle.ts_store.specs.declared.taken.KeptCommand.{KeptCommand}
use Rattle.ts_store.specs.declared.taken.KeptCommand.TheVariants.{Anchor, Crl, Other}
use Rattle.ts_store.specs.declared.taken.TakenCommand.{TakenCommand}
use Rattle.ts_store.proofs.Slots.{is-found, is-within, not-found, set-there}

-- ---- a call that answered

ok_is : {X E : Type 0} (x y : X) → ◌≡◌ {A = Result X E} (Ok x) (Ok y) → x ≡ y
ok_is x y e = cc

not_err : {X E : Type 0} (x : X) (e : E) → ◌≡◌ {A = Result X E} (Err e) (Ok x) → ⊥
not_err x e is = absurd cc

pub not_ok : {X E : Type 0} (x : X) (e : E) → ◌≡◌ {A = Result X E} (Ok x) (Err e) → ⊥
not_ok x e is = absurd cc

-- what was read is the octets
pub kept_is : {X E F : Type 0} (octets x : X) (memory : E) (fault : Option F) → (fault ≡ None → (◌≡◌ {A = Result X E} (Ok x) (Ok octets)) ⊎ (◌≡◌ {A = Result X E} (Ok x) (Err memory)))
    → ((f : F) → fault ≡ Some f → ⊥) → x ≡ octets
kept_is octets x memory None kept refused = ⊎_elim (λ e. ok_is x octets e) (λ e. absurd (cc e)) (kept refl)
kept_is octets x memory (Some f) kept refused = absurd (refused f refl)

-- ---- a certificate

is_added : (certificate : List ℕ) (b : Bool) (r : Option Refusal) (old new : Tables)
    → with_anchors old (refuse_if b Malformed (add_unless r certificate old.anchors)) ≡ Ok new
    → record old { anchors = old.anchors ++ new_anchor certificate ∷ [] } ≡ new
is_added certificate true r old new e = absurd (not_err new Malformed e)
is_added certificate false None old new e = ok_is (record old { anchors = old.anchors ++ new_anchor certificate ∷ [] }) new e
is_added certificate false (Some x) old new e = absurd (not_err new x e)

pub added : (id octets : List ℕ) (anchor : TrustAnchor) → anchor ≡ new_anchor octets
    → (b : Bool) (old new : Tables)
    → with_anchors old (refuse_if b Malformed
    (add_unless (new_refusal (sha256 octets) old.anchors) octets old.anchors)) ≡ Ok new
    → apply_change AddsAnchor (Anchor id anchor) (contents_of old) ≡ contents_of new
added id octets anchor is b old new e =
    (λ i. record {
      anchors = old.anchors ++ is i ∷ [];
      complete =
          (contents_of old).complete;
      deltas = (contents_of old).deltas;
    })
    ∙ ap contents_of (is_added octets b (new_refusal (sha256 octets) old.anchors) old new e)

-- octets that are no certificate are not added
pub not_added : {F : Type 0} (certificate : List ℕ) (fault : Option F) → (fault ≡ None → ⊥)
    → (r : Option Refusal) (old new : Tables)
    → with_anchors old (refuse_if (is_some fault) Malformed (add_unless r certificate old.anchors))
    ≡ Ok new → contents_of old ≡ contents_of new
not_added certificate None fails r old new e = absurd (fails refl)
not_added certificate (Some f) fails r old new e = absurd (not_err new Malformed e)

-- ---- a list in a table

unless : {X : Type 0} (b : Bool) (refusal : Refusal) (x next : X) → ◌≡◌ {A = Result X Refusal} (refuse_if b refusal (Ok x)) (Ok next) → x ≡ next
unless true refusal x next e = absurd (not_err next refusal e)
unless false refusal x next e = ok_is x next e

-- where a list goes
abbrev placed : StoredCrl → List StoredCrl → Option ℕ → List StoredCrl
placed new lists None = lists ++ new ∷ []
placed new lists (Some i) = slice_set lists i new

put_replaced : (new held : StoredCrl) (lists next : List StoredCrl) → put_by new lists (Some held) ≡ Ok next → replace_slot new lists ≡ next
put_replaced new held lists next e = unless (not (is_newer (list_in new) (list_in held))) OlderCrl (replace_slot new lists) next e

put_there : (new : StoredCrl) (lists next : List StoredCrl) (o : Option ℕ) → o ≡ place_by (has_slot (list_in new)) lists → put_list new lists ≡ Ok next → placed new lists o ≡ next
put_there new lists next None is e =
    unless (nat_le 1024 (length lists)) StoreFull (lists ++ new ∷ []) next (subst (λ f. put_by new lists f ≡ Ok next) (not-found (has_slot (list_in new)) lists is) e)
put_there new lists next (Some i) is e =
    let more = is-within (has_slot (list_in new)) lists i is in
    set-there new lists i is more ∙ put_replaced new (get_or lists i new) lists next (subst (λ f. put_by new lists f ≡ Ok next) (is-found (has_slot (list_in new)) lists i new is more) e)

-- the contents where a list is put among the complete ones, or the deltas
into_complete : (id crl : List ℕ) (old new : Tables) (lists : List StoredCrl) (o : Option ℕ)
    → placed (stored_crl crl) old.complete o ≡ lists → record old { complete = lists } ≡ new
    → apply_change (crl_change_at Complete o) (Crl id (stored_crl crl))
    (contents_of old) ≡ contents_of new
into_complete id crl old new lists None there e =
    ap (λ l. let c : Contents = record { anchors = old.anchors; complete = l; deltas = old.deltas } in c) there ∙ ap contents_of e
into_complete id crl old new lists (Some i) there e =
    ap (λ l. let c : Contents = record { anchors = old.anchors; complete = l; deltas = old.deltas } in c) there ∙ ap contents_of e

into_deltas : (id crl : List ℕ) (old new : Tables) (lists : List StoredCrl) (o : Option ℕ)
    → placed (stored_crl crl) old.deltas o ≡ lists → record old { deltas = lists } ≡ new
    → apply_change (crl_change_at Delta o) (Crl id (stored_crl crl)) (contents_of old) ≡ contents_of
    new
into_deltas id crl old new lists None there e =
    ap (λ l. let c : Contents = record { anchors = old.anchors; complete = old.complete; deltas = l } in c) there ∙ ap contents_of e
into_deltas id crl old new lists (Some i) there e =
    ap (λ l. let c : Contents = record { anchors = old.anchors; complete = old.complete; deltas = l } in c) there ∙ ap contents_of e

complete_put : (id crl : List ℕ) (old new : Tables) (r : Result (List StoredCrl) Refusal)
    (o : Option ℕ) → ((next : List StoredCrl) → r ≡ Ok next
    → placed (stored_crl crl) old.complete o ≡ next) → with_complete old r ≡ Ok new
    → apply_change (crl_change_at Complete o) (Crl id (stored_crl crl))
    (contents_of old) ≡ contents_of new
complete_put id crl old new (Ok next) o there e = into_complete id crl old new next o (there next refl) (ok_is (record old { complete = next }) new e)
complete_put id crl old new (Err refusal) o there e = absurd (not_err new refusal e)

deltas_put : (id crl : List ℕ) (old new : Tables) (r : Result (List StoredCrl) Refusal)
    (o : Option ℕ) → ((next : List StoredCrl) → r ≡ Ok next
    → placed (stored_crl crl) old.deltas o ≡ next) → with_deltas old r ≡ Ok new
    → apply_change (crl_change_at Delta o) (Crl id (stored_crl crl)) (contents_of old) ≡ contents_of
    new
deltas_put id crl old new (Ok next) o there e = into_deltas id crl old new next o (there next refl) (ok_is (record old { deltas = next }) new e)
deltas_put id crl old new (Err refusal) o there e = absurd (not_err new refusal e)

by_kind : (id crl : List ℕ) (c : CertificateList) (old new : Tables) (b : Bool)
    → list_in (stored_crl crl) ≡ c → cond b (with_deltas old (put_list (stored_crl crl) old.deltas))
    (with_complete old (put_list (stored_crl crl) old.complete)) ≡ Ok new
    → apply_change (cond b (crl_change_at Delta (place_by (has_slot c) old.deltas))
    (crl_change_at Complete (place_by (has_slot c) old.complete))) (Crl id (stored_crl crl))
    (contents_of old) ≡ contents_of new
by_kind id crl c old new true is e =
    deltas_put id crl old new (put_list (stored_crl crl) old.deltas)
    (place_by (has_slot c) old.deltas)
    (λ next h. put_there (stored_crl crl) old.deltas next (place_by (has_slot c) old.deltas)
    (ap (λ l. place_by (has_slot l) old.deltas) (sym is)) h) e
by_kind id crl c old new false is e =
    complete_put id crl old new (put_list (stored_crl crl) old.complete)
    (place_by (has_slot c) old.complete)
    (λ next h. put_there (stored_crl crl) old.complete next (place_by (has_slot c) old.complete)
    (ap (λ l. place_by (has_slot l) old.complete) (sym is)) h) e

pub loaded : (id octets : List ℕ) (crl : StoredCrl) (c : CertificateList) (change : TableChange)
    (old new : Tables) → crl ≡ stored_crl octets → crl_of octets ≡ Ok c
    → change ≡ crl_change_in c old → load_as octets old (crl_of octets) ≡ Ok new
    → apply_change change (Crl id crl) (contents_of old) ≡ contents_of new
loaded id octets crl c change old new kept read is e =
    let by : load_as octets old (Ok c) ≡ Ok new = subst (λ r. load_as octets old r ≡ Ok new) read e in
    (λ i. apply_change (is i) (Crl id (kept i)) (contents_of old)) ∙ by_kind id octets c old new (is_delta c) (ap (λ r. result_unwrap_or r no_list) read) by

-- ---- a list that is dropped

pub dropped : (kept : KeptCommand) (o p : Option ℕ) (old new : Tables)
    → drop_either old (drop_at old.complete o) (drop_at old.deltas p) ≡ Ok new
    → apply_change (crl_removal_at o p) kept (contents_of old) ≡ contents_of new
dropped kept (Some i) p old new e = ap contents_of (ok_is (record old { complete = remove old.complete i }) new e)
dropped kept None (Some i) old new e = ap contents_of (ok_is (record old { deltas = remove old.deltas i }) new e)
dropped kept None None old new e = absurd (not_err new NoCrl e)

-- a copy of a command that drops a list
pub drop_taken : (r : Result TakenCommand AllocError) (command : Command) (old : Tables)
    (id crl : List ℕ) (change : TableChange)
    → IfOk r (λ t. t ≡ record { kept = Other command; change = change }) → command ≡ DropCrl id crl
    → change ≡ crl_removal_in crl old
    → IfOk r (λ t. (new : Tables) → change_by command old ≡ Ok new → apply_change t.change t.kept (contents_of old) ≡ contents_of new)
drop_taken (Ok t) command old id crl change is drops removes = λ new e.
    let by : change_by (DropCrl id crl) old ≡ Ok new = subst (λ d. change_by d old ≡ Ok new) drops e in
    ap (λ (x : TakenCommand). apply_change x.change x.kept (contents_of old)) is
    ∙ ap (λ x. apply_change x (Other command) (contents_of old)) removes
    ∙ dropped (Other command) (place_by (has_id crl) old.complete) (place_by (has_id crl) old.deltas) old new by
drop_taken (Err e) command old id crl change is drops removes = tt
