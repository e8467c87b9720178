-- The table of trust anchors, and what commands do to it.
use Rattle.std.specs.Prelude.{ℕ, Bool, nat_le, List, [], ◌∷◌, ◌++◌, length, Option, Some, None}
use Rattle.std.specs.Prelude.{is_some, option_map, zero, suc, Result, Ok, Err, if◌then◌else◌}
use Rattle.std.specs.List.{remove}
use Rattle.std.specs.Str.{bytes_eq}
use Rattle.sha2.specs.Sha256.{sha256}
use Rattle.ts_cert.specs.Table.{certificate_fault}
use Rattle.ts_store.specs.declared.anchor.TrustAnchor.{TrustAnchor}
use Rattle.ts_command.specs.declared.outcome.Refusal.{Refusal}
use Rattle.ts_command.specs.declared.outcome.Refusal.TheVariants.{AnchorThere, NoAnchor, Malformed}
use Rattle.ts_command.specs.declared.outcome.Refusal.TheVariants.{StoreFull}

-- this refusal where a test holds, else what follows
abbrev pub refuse_if : {A : Type 0} → Bool → Refusal → Result A Refusal → Result A Refusal
refuse_if test refusal follows = if test then Err refusal else follows

-- the place of the anchor with this id, if there is one
abbrev pub place_of : List ℕ → List TrustAnchor → Option ℕ
place_of id [] = None
place_of id (anchor ∷ anchors) = if bytes_eq anchor.id id then Some 0
    else option_map suc (place_of id anchors)

-- an anchor of this certificate, for any purpose
abbrev pub new_anchor : List ℕ → TrustAnchor
new_anchor certificate = record
    { id = sha256 certificate; certificate = certificate; purposes = None }

-- why an anchor with this id is not added
abbrev pub new_refusal : List ℕ → List TrustAnchor → Option Refusal
new_refusal id anchors = if is_some (place_of id anchors) then Some AnchorThere
    else (if nat_le 256 (length anchors) then Some StoreFull else None)

abbrev pub add_unless : Option Refusal → List ℕ → List TrustAnchor
    → Result (List TrustAnchor) Refusal
add_unless None certificate anchors = Ok (anchors ++ new_anchor certificate ∷ [])
add_unless (Some refusal) certificate anchors = Err refusal

-- AddAnchor: a new anchor goes last
abbrev pub add_anchor : List ℕ → List TrustAnchor → Result (List TrustAnchor) Refusal
add_anchor certificate anchors =
    refuse_if (is_some (certificate_fault certificate)) Malformed
    (add_unless (new_refusal (sha256 certificate) anchors) certificate anchors)

-- WithdrawAnchor: the rest keeps its order
abbrev pub withdraw_at : List TrustAnchor → Option ℕ → Result (List TrustAnchor) Refusal
withdraw_at anchors None = Err NoAnchor
withdraw_at anchors (Some i) = Ok (remove anchors i)

abbrev pub withdraw_anchor : List ℕ → List TrustAnchor → Result (List TrustAnchor) Refusal
withdraw_anchor id anchors = withdraw_at anchors (place_of id anchors)

-- the anchors with other purposes at this place
abbrev pub with_purposes : List TrustAnchor → ℕ → Option (List (List ℕ)) → List TrustAnchor
with_purposes [] i purposes = []
with_purposes (anchor ∷ anchors) zero purposes = record anchor { purposes = purposes } ∷ anchors
with_purposes (anchor ∷ anchors) (suc i) purposes = anchor ∷ with_purposes anchors i purposes

-- SetPurposes
abbrev pub set_at : List TrustAnchor → Option (List (List ℕ)) → Option ℕ
    → Result (List TrustAnchor) Refusal
set_at anchors purposes None = Err NoAnchor
set_at anchors purposes (Some i) = Ok (with_purposes anchors i purposes)

abbrev pub set_purposes : List ℕ → Option (List (List ℕ)) → List TrustAnchor
    → Result (List TrustAnchor) Refusal
set_purposes id purposes anchors = set_at anchors purposes (place_of id anchors)
