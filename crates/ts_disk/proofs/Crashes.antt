-- What a crash leaves of a disk in memory is one of the images that it may leave.
use Rattle.std.proofs.Common.{◌≡◌, ℕ, ◌+◌, ◌<◌, List, [], ◌∷◌, length, drop, get_or, replicate, nat_le, refl, ap, sym, ◌∙◌, subst}
use Rattle.std.proofs.lemmas.List.{drop_more, length-replicate}
use Rattle.ts_disk.specs.declared.call.DiskCall.{DiskCall}
use Rattle.ts_disk.specs.declared.call.DiskCall.TheVariants.{Read, Write, Sync}
use Rattle.ts_disk.specs.declared.crash.Torn.TheVariants.{Old, New, Byte}
use Rattle.ts_disk.specs.declared.crash.Torn as enum
use Rattle.ts_disk.specs.Disk.{State, Torn}
use Rattle.ts_disk.specs.Past.{after, after_all}
use Rattle.ts_disk.specs.Crash.{written_within, torn_by, read_after, left_after, left_of}
use Rattle.ts_disk.specs.Replays.{torn_if, torn_nothing}

is_torn : (torn : enum.Torn) (at : ℕ) (image octets : List ℕ) → Torn at (length octets) image (torn_by torn image at octets)
is_torn Old at image octets = torn_nothing at (length octets) image
is_torn New at image octets = torn_if (nat_le at (length image)) at image octets refl
is_torn (Byte octet) at image octets =
    let filled = replicate (length octets) octet in
    subst (λ n. Torn at n image (written_within image at filled)) (length-replicate (length octets) octet) (torn_if (nat_le at (length image)) at image filled refl)

pub is_left : (torn : enum.Torn) (s : State) (left : List ℕ) (calls : List DiskCall) → s.may_leave left → (after_all s calls).may_leave (left_of torn s.read left calls)
is_left torn s left [] is = is
is_left torn s left (Read ∷ calls) is = is_left torn s left calls is
is_left torn s left (Write at v ∷ calls) is = is_left torn (after s (Write at v)) (torn_by torn left at v.items) calls (left, is, is_torn torn at left v.items)
is_left torn s left (Sync ∷ calls) is = is_left torn (after s Sync) s.read calls refl

-- where all that was written is left, it leaves what a read gives
pub all_left : (s : State) (calls : List DiskCall) → left_of New s.read s.read calls ≡ (after_all s calls).read
all_left s [] = refl
all_left s (Read ∷ calls) = all_left s calls
all_left s (Write at v ∷ calls) = all_left (after s (Write at v)) calls
all_left s (Sync ∷ calls) = all_left (after s Sync) calls

-- one call more of those that are left
pub next_left : (torn : enum.Torn) (read left later_read later_left : List ℕ) (calls : List DiskCall) (i : ℕ) (call : DiskCall) → i < length calls → call ≡ get_or calls i call
    → later_read ≡ read_after read call → later_left ≡ left_after torn read left call
    → left_of torn later_read later_left (drop (i + 1) calls) ≡ left_of torn read left (drop i calls)
next_left torn read left later_read later_left calls i call le is reads lefts =
    let more : drop i calls ≡ call ∷ drop (i + 1) calls = drop_more calls i call le ∙ ap (λ x. x ∷ drop (i + 1) calls) (sym is) in
    ap (λ r. left_of torn r later_left (drop (i + 1) calls)) reads
    ∙ ap (λ l. left_of torn (read_after read call) l (drop (i + 1) calls)) lefts
    ∙ ap (left_of torn read left) (sym more)
