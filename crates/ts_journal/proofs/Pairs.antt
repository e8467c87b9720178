-- The disk in use changes, and the other stays.
use Rattle.std.proofs.Common.{◌≡◌, ◌≢◌, inl, inr, ⊎_elim, ℕ, Bool, true, false, cond, List, [], ◌∷◌, ◌++◌, take, refl, sym, ◌∙◌, subst, append_assoc}
use Rattle.std.specs.List.{flat_map}
use Rattle.ts_disk.specs.Disk.{State, IsDisk, IsDurable, EveryImage}
use Rattle.ts_journal.specs.Gate.{HasOpenGate}
use Rattle.ts_journal.specs.Images.{Header, Member, member_of, IsRight, head, block, IsBody, Stands, IsShut, Behind, InUse, OpensFrom, BeforeOrAfter, EveryPair, entry}
use Rattle.ts_journal.specs.Settled.{next, IsSpare, header_of, member_in, Holds, disk_a, disk_b}
use Rattle.ts_journal.specs.declared.journal.Journal.{Journal}
use Rattle.ts_journal.specs.declared.journal.Stage.{Stage}
use Rattle.ts_journal.specs.declared.journal.Stage.TheVariants.{Live, Closed as StageClosed, Begun, Copying}
use Rattle.ts_journal.proofs.Extend.{Appends}
use Rattle.ts_journal.proofs.Journals.{stands_before, stands_after}

-- a disk that is being written is shut
pub shut_while : (h : Header) (bodies : List (List ℕ)) (image : List ℕ) → Stands h 0 bodies image → IsShut image
shut_while h bodies image stands = (
  head h,
  refl,
  (
    flat_map block stands.blocks ++ (0 ∷ stands.closed.0),
    stands.closed.1 ∙ append_assoc (head h) (0 ∷ flat_map block stands.blocks) (0 ∷ stands.closed.0),
  ),
)

pub spare_durable : (stage : Stage) (h : Header) (copied : List (List ℕ)) (end : ℕ) (disk : State) → IsSpare stage h copied end disk → IsDurable disk
spare_durable Live h copied end disk is = is.0
spare_durable StageClosed h copied end disk is = is.0
spare_durable Begun h copied end disk is = is.0
spare_durable Copying h copied end disk is = is.0.durable

pub spare_behind : (stage : Stage) (h : Header) (copied : List (List ℕ)) (end : ℕ) (disk : State) → IsSpare stage h copied end disk → Behind h disk.read
spare_behind Live h copied end disk is = inr is.1
spare_behind StageClosed h copied end disk is = inl is.1
spare_behind Begun h copied end disk is = inl is.1
spare_behind Copying h copied end disk is = inl (shut_while (next h) copied disk.read is.0.stands)

-- the images of a disk on which nothing happens
pub still : (disk : State) → IsDisk disk → IsDurable disk → (c : List ℕ) → disk.left_since disk.moment c → c ≡ disk.read
still disk is durable c left = durable c (is.only_now c left)

-- the disk in use changes: at every moment P of its image and of what the other holds
used_moves : {D : Type 0} (state : D → State) (swapped : Bool) (old new spare : D) (P : List ℕ → Type 0) (Q : List ℕ → List ℕ → Type 0) → IsDisk (state spare) → IsDurable (state spare)
    → EveryImage P (state old) (state new) → ((c : List ℕ) → P c → swapped ≡ false → Q c (state spare).read) → ((c : List ℕ) → P c → swapped ≡ true → Q (state spare).read c)
    → EveryPair Q (state (cond swapped spare old)) (state (cond swapped old spare)) (state (cond swapped spare new)) (state (cond swapped new spare))
used_moves state true old new spare P Q is durable run first second ca cb left_a left_b =
    subst (λ c. Q c cb) (sym (still (state spare) is durable ca left_a)) (second cb (run.each cb left_b) refl)
used_moves state false old new spare P Q is durable run first second ca cb left_a left_b =
    subst (λ c. Q ca c) (sym (still (state spare) is durable cb left_b)) (first ca (run.each ca left_a) refl)

pub from : (member : Member) (swapped : Bool) (bodies : List (List ℕ)) (image other : List ℕ)
    → InUse member bodies image other
    → (swapped ≡ false → OpensFrom member swapped bodies image other)
    × (swapped ≡ true → OpensFrom member swapped bodies other image)
from member true bodies image other used = ((λ is. absurd (cc is)), (λ is. used))
from member false bodies image other used = ((λ is. used), (λ is. absurd (cc is)))

in_use : (h : Header) (live : ℕ) (bodies : List (List ℕ)) (image other : List ℕ) → IsRight h → live ≢ 0 → Behind h other → Stands h live bodies image → InUse (member_of h) bodies image other
in_use h live bodies image other right wide behind stands = record { header = h; owner = refl; right = right; live = live; is_live = wide; stands = stands; behind = behind }

-- at each moment of an append to the disk in use
pub moves : {D : Type 0} (state : D → State) → ((d : D) → IsDisk (state d))
    → (j : Journal D) (new : D) (bodies copied : List (List ℕ)) (body octets : List ℕ)
    → octets ≡ entry body → Holds state bodies copied j → IsBody body
    → EveryImage (Appends j.end octets (state j.current).read) (state j.current) (state new)
    → EveryPair (BeforeOrAfter (member_in j) j.swapped bodies body) (state (disk_a j)) (state (disk_b j)) (state (cond j.swapped j.spare new)) (state (cond j.swapped new j.spare))
moves state lawful j new bodies copied body octets are holds fits run =
    let h = header_of j in
    let behind = spare_behind j.stage h copied j.copy_end (state j.spare) holds.spare in
    let durable = spare_durable j.stage h copied j.copy_end (state j.spare) holds.spare in
    let after = bodies ++ body ∷ [] in
    let used = λ (bs : List (List ℕ)) (c : List ℕ) (stands : Stands h holds.live bs c). from
    (member_in j) j.swapped bs c (state j.spare).read
    (in_use h holds.live bs c (state j.spare).read holds.right holds.is_live behind stands) in
    let opens = λ (c : List ℕ) (wide : HasOpenGate (take j.end (state j.current).read) octets c).
    stands_after h holds.live bodies body j.end (state j.current) c holds.journal fits
    (subst (λ t. HasOpenGate (take j.end (state j.current).read) t c) are wide) in
    used_moves state j.swapped j.current new j.spare (Appends j.end octets (state j.current).read) (BeforeOrAfter (member_in j) j.swapped bodies body) (lawful j.spare) durable run
    (λ c either is. ⊎_elim
    (λ shut. inl ((used bodies c
    (stands_before h holds.live bodies j.end (state j.current) c holds.journal shut)).0 is))
    (λ wide. inr ((used after c (opens c wide)).0 is)) either)
    (λ c either is. ⊎_elim
    (λ shut. inl ((used bodies c
    (stands_before h holds.live bodies j.end (state j.current) c holds.journal shut)).1 is))
    (λ wide. inr ((used after c (opens c wide)).1 is)) either)
