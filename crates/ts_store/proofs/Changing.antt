-- The store before and after a command.
use Rattle.std.specs.Prelude.{is_some}
use Rattle.std.proofs.Common.{◌≡◌, ◌⊎◌, ⊎_elim, ℕ, suc, Bool, true, false, cond, List, refl, sym, ◌∙◌, ap, subst, Option, Some, None, Result, Ok, Err}
use Rattle.sha2.specs.Sha256.{sha256}
use Rattle.ts_crl.specs.declared.owned.OwnedCrl.{OwnedCrl}
use Rattle.ts_crl.specs.declared.owned.OwnedCrlFault.{OwnedCrlFault}
use Rattle.ts_crl.specs.declared.owned.OwnedCrlFault.TheVariants.{Memory}
use Rattle.ts_crl.specs.Fault.{ListFault}
use Rattle.ts_crl.specs.List.{CertificateList}
use Rattle.ts_crl.specs.Profile.{is_delta}
use Rattle.ts_crl.specs.Table.{crl_of}
use Rattle.ts_store.specs.Anchors.{add_anchor}
use Rattle.ts_store.specs.Changes.{Becomes}
use Rattle.ts_command.specs.Commands.{id_of}
use Rattle.ts_store.specs.Ids.{first_of, with_first, without}
use Rattle.ts_store.specs.Lists.{stored_crl, put_list}
use Rattle.ts_store.specs.Store.{StoreState, make, step_by, step}
use Rattle.ts_store.specs.Tables.{Tables, with_anchors, with_complete, with_deltas, load_as, load_crl, change}
use Rattle.ts_store.specs.declared.anchor.TrustAnchor.{TrustAnchor}
use Rattle.ts_command.specs.declared.command.Command.{Command}
use Rattle.ts_command.specs.declared.command.Command.TheVariants.{AddAnchor}
use Rattle.ts_store.specs.declared.ids.FirstCommand.{FirstCommand}
use Rattle.ts_command.specs.declared.outcome.Outcome.TheVariants.{Applied, Refused}
use Rattle.ts_command.specs.declared.outcome.Refusal.{Refusal}
use Rattle.ts_store.specs.declared.stored.StoredCrl.{StoredCrl}
use Rattle.ts_store.proofs.Held.{is-free, is-settled, some-held}

-- ---- one table of the tables

anchors-changed : (refusal : Option Refusal) (old : Tables) (new : List TrustAnchor)
    (r : Result (List TrustAnchor) Refusal) → Becomes refusal old.anchors new r
    → Becomes refusal old (record old { anchors = new }) (with_anchors old r)
anchors-changed refusal old new (Ok x) (none, is) = (none, λ i. record old { anchors = is i })
anchors-changed refusal old new (Err e) (some, is) = (some, λ i. record old { anchors = is i })

complete-changed : (refusal : Option Refusal) (old : Tables) (new : List StoredCrl)
    (r : Result (List StoredCrl) Refusal) → Becomes refusal old.complete new r
    → Becomes refusal old (record old { complete = new }) (with_complete old r)
complete-changed refusal old new (Ok x) (none, is) = (none, λ i. record old { complete = is i })
complete-changed refusal old new (Err e) (some, is) = (some, λ i. record old { complete = is i })

deltas-changed : (refusal : Option Refusal) (old : Tables) (new : List StoredCrl)
    (r : Result (List StoredCrl) Refusal) → Becomes refusal old.deltas new r
    → Becomes refusal old (record old { deltas = new }) (with_deltas old r)
deltas-changed refusal old new (Ok x) (none, is) = (none, λ i. record old { deltas = is i })
deltas-changed refusal old new (Err e) (some, is) = (some, λ i. record old { deltas = is i })

pub anchor-added : (refusal : Option Refusal) (old self : Tables) (new : List TrustAnchor)
    (id certificate octets : List ℕ) (command : Command) → old ≡ self
    → command ≡ AddAnchor id certificate → octets ≡ certificate
    → Becomes refusal old.anchors new (add_anchor octets old.anchors) → Becomes refusal self (record old { anchors = new }) (change command self)
anchor-added refusal old self new id certificate octets command same is octets_are becomes =
    let added = subst (λ (o : List ℕ). Becomes refusal old.anchors new (add_anchor o old.anchors)) octets_are becomes in
    let whole = anchors-changed refusal old new (add_anchor certificate old.anchors) added in
    let there = subst (λ (t : Tables). Becomes refusal t (record old { anchors = new }) (change (AddAnchor id certificate) t)) same whole in
    subst (λ (m : Command). Becomes refusal self (record old { anchors = new }) (change m self)) (sym is) there

-- ---- a list

abbrev ok_or : OwnedCrl → Result OwnedCrl OwnedCrlFault → OwnedCrl
ok_or x (Ok y) = y
ok_or x (Err e) = x

-- what is kept are the octets
pub crl-is : (octets : OwnedCrl) (crl : OwnedCrl) (o : Option ListFault)
    → (o ≡ None → (◌≡◌ {A = Result OwnedCrl OwnedCrlFault} (Ok crl) (Ok octets))
    ⊎ (◌≡◌ {A = Result OwnedCrl OwnedCrlFault} (Ok crl) (Err Memory)))
    → ((f : ListFault) → o ≡ Some f → ⊥) → crl ≡ octets
crl-is octets crl None kept refused = ⊎_elim (λ e. ap (ok_or crl) e) (λ e. absurd (cc e)) (kept refl)
crl-is octets crl (Some f) kept refused = absurd (refused f refl)

loads : (octets : List ℕ) (tables : Tables) (crl : List ℕ) (c : CertificateList) → crl ≡ octets → crl_of crl ≡ Ok c → load_crl octets tables ≡ load_as octets tables (Ok c)
loads octets tables crl c same read = ap (load_as octets tables) (ap crl_of (sym same) ∙ read)

by_kind : (refusal : Option Refusal) (old new : Tables) (b : Bool)
    (deltas complete : Result Tables Refusal) → b ≡ true → Becomes refusal old new deltas
    → Becomes refusal old new (cond b deltas complete)
by_kind refusal old new true deltas complete is becomes = becomes
by_kind refusal old new false deltas complete is becomes = absurd cc

by_other : (refusal : Option Refusal) (old new : Tables) (b : Bool)
    (deltas complete : Result Tables Refusal) → b ≡ false → Becomes refusal old new complete
    → Becomes refusal old new (cond b deltas complete)
by_other refusal old new true deltas complete is becomes = absurd cc
by_other refusal old new false deltas complete is becomes = becomes

pub delta-loaded : (refusal : Option Refusal) (old self : Tables) (new : List StoredCrl)
    (octets crl id : List ℕ) (c : CertificateList) → old ≡ self → crl ≡ octets → id ≡ sha256 octets
    → crl_of crl ≡ Ok c → is_delta c ≡ true
    → Becomes refusal old.deltas new (put_list (record { id = id; crl = crl }) old.deltas) → Becomes refusal self (record old { deltas = new }) (load_crl octets self)
delta-loaded refusal old self new octets crl id c same crl_is id_is read delta becomes =
    let put = subst (λ (s : StoredCrl). Becomes refusal old.deltas new (put_list s old.deltas)) (λ i. record { id = id_is i; crl = crl_is i }) becomes in
    let whole = by_kind refusal old (record old { deltas = new }) (is_delta c)
    (with_deltas old (put_list (stored_crl octets) old.deltas))
    (with_complete old (put_list (stored_crl octets) old.complete)) delta
    (deltas-changed refusal old new (put_list (stored_crl octets) old.deltas) put) in
    let there = subst (λ (r : Result Tables Refusal). Becomes refusal old (record old { deltas = new }) r) (sym (loads octets old crl c crl_is read)) whole in
    subst (λ (t : Tables). Becomes refusal t (record old { deltas = new }) (load_crl octets t)) same there

pub complete-loaded : (refusal : Option Refusal) (old self : Tables) (new : List StoredCrl)
    (octets crl id : List ℕ) (c : CertificateList) → old ≡ self → crl ≡ octets → id ≡ sha256 octets
    → crl_of crl ≡ Ok c → is_delta c ≡ false
    → Becomes refusal old.complete new (put_list (record { id = id; crl = crl }) old.complete) → Becomes refusal self (record old { complete = new }) (load_crl octets self)
complete-loaded refusal old self new octets crl id c same crl_is id_is read delta becomes =
    let put = subst (λ (s : StoredCrl). Becomes refusal old.complete new (put_list s old.complete)) (λ i. record { id = id_is i; crl = crl_is i }) becomes in
    let whole = by_other refusal old (record old { complete = new }) (is_delta c)
    (with_deltas old (put_list (stored_crl octets) old.deltas))
    (with_complete old (put_list (stored_crl octets) old.complete)) delta
    (complete-changed refusal old new (put_list (stored_crl octets) old.complete) put) in
    let there = subst (λ (r : Result Tables Refusal). Becomes refusal old (record old { complete = new }) r) (sym (loads octets old crl c crl_is read)) whole in
    subst (λ (t : Tables). Becomes refusal t (record old { complete = new }) (load_crl octets t)) same there

-- ---- ids

pub undone : (id : List ℕ) (first : FirstCommand) (ids held free : List (List ℕ × FirstCommand)) → None ≡ first_of id ids → held ≡ with_first id first ids → free ≡ without id held → free ≡ ids
undone id first ids held free none is freed = freed ∙ (ap (without id) is ∙ is-free id first ids (sym none))

pub has-room : (id : List ℕ) (first : FirstCommand) (ids held : List (List ℕ × FirstCommand)) → held ≡ with_first id first ids → is_some (first_of id held) ≡ true
has-room id first ids held is = ap (λ (l : List (List ℕ × FirstCommand)). is_some (first_of id l)) is ∙ some-held id first ids

pub settled : (id : List ℕ) (first second : FirstCommand)
    (ids held after : List (List ℕ × FirstCommand)) → None ≡ first_of id ids
    → held ≡ with_first id first ids → after ≡ with_first id second held
    → after ≡ with_first id second ids
settled id first second ids held after none is then = then ∙ (ap (with_first id second) is ∙ is-settled id first second ids (sym none))

-- ---- a command with a new id

pub applied : (position : ℕ) (command : Command) (state self : StoreState)
    (refusal : Option Refusal) (new : Tables) (id : List ℕ) (ids : List (List ℕ × FirstCommand))
    → state ≡ self → position ≡ suc self.taken → id ≡ id_of command → None ≡ first_of id state.ids
    → refusal ≡ None → Becomes refusal state.tables new (change command state.tables) → ids ≡ with_first id (record { position = position; outcome = Applied }) state.ids
    → step position command self ≡ record { state = record { tables = new; ids = ids; taken = position }; outcome = Applied }
applied position command state self refusal new id ids same next id_is none unrefused becomes held =
    subst (λ (s : StoreState). step position command s ≡ record { state = record { tables = new; ids = ids; taken = position }; outcome = Applied }) same
    (ap (step_by position command state) (ap (λ (k : List ℕ). first_of k state.ids) (sym id_is) ∙ sym none) ∙ by (change command state.tables) becomes)
  where
    here : position ≡ suc state.taken
    here = next ∙ ap (λ (s : StoreState). suc s.taken) (sym same)

    there : ids ≡ with_first (id_of command) (record { position = position; outcome = Applied }) state.ids
    there = held ∙ ap (λ (k : List ℕ). with_first k (record { position = position; outcome = Applied }) state.ids) id_is

    by : (r : Result Tables Refusal) → Becomes refusal state.tables new r → make position command state r ≡ record { state = record { tables = new; ids = ids; taken = position }; outcome = Applied }
    by (Ok tables) (unless, is) = λ i. record { state = record { tables = sym is i; ids = sym there i; taken = sym here i }; outcome = Applied }
    by (Err r) (some, is) = absurd (let e = sym unrefused ∙ some in cc)

pub refused : (position : ℕ) (command : Command) (state self : StoreState)
    (refusal : Option Refusal) (r : Refusal) (new : Tables) (id : List ℕ)
    (ids : List (List ℕ × FirstCommand)) → state ≡ self → position ≡ suc self.taken
    → id ≡ id_of command → None ≡ first_of id state.ids
    → refusal ≡ Some r → Becomes refusal state.tables new (change command state.tables) → ids ≡ with_first id (record { position = position; outcome = Refused r }) state.ids
    → step position command self ≡ record { state = record { tables = new; ids = ids; taken = position }; outcome = Refused r }
refused position command state self refusal r new id ids same next id_is none some becomes held =
    subst (λ (s : StoreState). step position command s ≡ record { state = record { tables = new; ids = ids; taken = position }; outcome = Refused r }) same
    (ap (step_by position command state) (ap (λ (k : List ℕ). first_of k state.ids) (sym id_is) ∙ sym none) ∙ by (change command state.tables) becomes)
  where
    here : position ≡ suc state.taken
    here = next ∙ ap (λ (s : StoreState). suc s.taken) (sym same)

    there : ids ≡ with_first (id_of command) (record { position = position; outcome = Refused r }) state.ids
    there = held ∙ ap (λ (k : List ℕ). with_first k (record { position = position; outcome = Refused r }) state.ids) id_is

    some_or : Option Refusal → Refusal
    some_or None = r
    some_or (Some x) = x

    by : (a : Result Tables Refusal) → Becomes refusal state.tables new a → make position command state a ≡ record { state = record { tables = new; ids = ids; taken = position }; outcome = Refused r }
    by (Ok tables) (unless, is) = absurd (let e = sym unless ∙ some in cc)
    by (Err x) (also, is) =
        let one : x ≡ r = ap some_or (sym also ∙ some) in
        (λ i. record {
          state =
              record {
                tables = sym is i;
                ids =
                    with_first (id_of command) (record { position = position; outcome = Refused (one i) })
                    state.ids;
                taken = sym here i;
              };
          outcome = Refused (one i);
        })
        ∙ (λ i. record { state = record { tables = new; ids = sym there i; taken = position }; outcome = Refused r })
