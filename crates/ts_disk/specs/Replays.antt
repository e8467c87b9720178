-- The laws of a disk hold along the calls of a disk in memory.
use Rattle.std.proofs.Common.{append_assoc, ◌≡◌, inl, inr, ⊎_elim, ℕ, ◌+◌, ◌≤◌, ◌<◌, ◌^◌, true}
use Rattle.std.proofs.Common.{false, Bool, cond, List, [], ◌∷◌, ◌++◌, length, take, drop, refl, ap}
use Rattle.std.proofs.Common.{sym, ◌∙◌, subst, arith, Vec, length-append, length-take, length-drop}
use Rattle.std.proofs.Common.{nat_le}
use Rattle.std.proofs.lemmas.List.{take_at, drop_at}
use Rattle.std.proofs.lemmas.Bool.Decides.{nat_tests}
use Rattle.std.specs.declared.alloc.Global.{Global}
use Rattle.ts_disk.specs.Disk.{State, IsDisk, IsDurable, Call, Same, Torn, overwrite}
use Rattle.ts_disk.specs.Past.{start, next, after, after_all, history}
use Rattle.ts_disk.specs.declared.call.DiskCall.{DiskCall}
use Rattle.ts_disk.specs.declared.call.DiskCall.TheVariants.{Read, Write, Sync}

-- the same past, seen by its octets and its count
abbrev pub seen : List ℕ → ℕ → State → State
seen octets failures past = record {
  read = octets;
  may_leave = past.may_leave;
  moment = past.moment;
  left_since = past.left_since;
  failures = failures;
}

-- the laws of a disk but for its size
pub record IsPast (s : State) : Type 0 where
  pub read_is_left : s.may_leave s.read
  pub counts_now : (t : ℕ) (c : List ℕ) → t ≤ s.moment → s.may_leave c → s.left_since t c
  pub only_now : (c : List ℕ) → s.left_since s.moment c → s.may_leave c

start_past : (image : List ℕ) → IsPast (start image)
start_past image = record {
  read_is_left = refl;
  counts_now = λ t c le left. left;
  only_now = λ c left. left;
}

next_past : (old : State) (image : List ℕ) (may_leave : List ℕ → Type 0) → may_leave image
    → IsPast (next old image may_leave)
next_past old image may_leave left = record {
  read_is_left = left;
  counts_now = λ t c le now. inr now;
  only_now = λ c since. ⊎_elim (λ past. absurd (omega (arith, past.0))) (λ now. now) since;
}

torn_same : (at n : ℕ) (c : List ℕ) → Torn at n c c
torn_same at n c = record {
  before = refl;
  after = refl;
  no_shorter = omega arith;
  no_longer = omega arith;
}

pub torn_written : (at : ℕ) (old octets : List ℕ) → at ≤ length old
    → Torn at (length octets) old (overwrite old at octets)
torn_written at old octets le =
    let front : length (take at old) ≡ at = omega (arith, length-take at old, le) in
    let both : length (take at old ++ octets) ≡ at + length octets =
    omega (arith, front, length-append (take at old) octets) in
    record {
      before = grouped front;
      after = drop_at (take at old ++ octets) (drop (at + length octets) old)
          (at + length octets) both;
      no_shorter = omega (
        arith,
        both,
        length-append (take at old ++ octets)
            (drop (at + length octets) old),
        length-drop (at + length octets) old,
      );
      no_longer = omega (
        arith,
        both,
        length-append (take at old ++ octets)
            (drop (at + length octets) old),
        length-drop (at + length octets) old,
      );
    }
  where
    grouped : length (take at old) ≡ at → take at (overwrite old at octets) ≡ take at old
    grouped front = ap (take at) (append_assoc (take at old) octets
        (drop (at + length octets) old)) ∙ take_at (take at old)
        (octets ++ drop (at + length octets) old) at front

pub torn_if : (b : Bool) (at : ℕ) (old octets : List ℕ) → nat_le at (length old) ≡ b
    → Torn at (length octets) old (cond b (overwrite old at octets) old)
torn_if true at old octets is = torn_written at old octets (grind (arith, nat_tests))
torn_if false at old octets is = torn_same at (length octets) old

after_past : (s : State) (call : DiskCall) → IsPast s → IsPast (after s call)
after_past s Read is = is
after_past s (Write at octets) is = next_past s _ _
    (s.read, is.read_is_left, torn_if (nat_le at (length s.read)) at s.read octets.items refl)
after_past s Sync is = next_past s s.read (λ c. c ≡ s.read) refl

all_past : (s : State) (calls : List DiskCall) → IsPast s → IsPast (after_all s calls)
all_past s [] is = is
all_past s (call ∷ calls) is = all_past (after s call) calls (after_past s call is)

pub seen_disk : (first : List ℕ) (calls : List DiskCall) (octets : List ℕ) (failures : ℕ)
    → length octets < 2 ^ 63 → octets ≡ (history first calls).read
    → IsDisk (seen octets failures (history first calls))
seen_disk first calls octets failures bounded is =
    let past = all_past (start first) calls (start_past first) in
    record {
      bounded = bounded;
      read_is_left = subst (history first calls).may_leave
          (sym is) past.read_is_left;
      counts_now = past.counts_now;
      only_now = past.only_now;
    }

after_last : (s : State) (calls : List DiskCall) (call : DiskCall)
    → (after_all s (calls ++ call ∷ [])).read ≡ (after (after_all s calls) call).read
after_last s [] call = refl
after_last s (c ∷ calls) call = after_last (after s c) calls call

moment_after_last : (s : State) (calls : List DiskCall) (call : DiskCall)
    → (after_all s (calls ++ call ∷ [])).moment ≡ (after (after_all s calls) call).moment
moment_after_last s [] call = refl
moment_after_last s (c ∷ calls) call = moment_after_last (after s c) calls call

-- one call more, and the moment after it: a write and a sync take the disk to the next one
pub moment_after : (first : List ℕ) (calls later : List DiskCall) (call : DiskCall)
    → later ≡ calls ++ call ∷ []
    → (history first later).moment ≡ (after (history first calls) call).moment
moment_after first calls later call is =
    ap (λ cs. (history first cs).moment) is ∙ moment_after_last (start first) calls call

-- one call more, whose record goes on
pub read_same : (first : List ℕ) (calls : List DiskCall)
    → (history first (calls ++ Read ∷ [])).read ≡ (history first calls).read
read_same first calls = after_last (start first) calls Read

pub sync_same : (first : List ℕ) (calls : List DiskCall)
    → (history first (calls ++ Sync ∷ [])).read ≡ (history first calls).read
sync_same first calls = after_last (start first) calls Sync

cond_true : {A : Type 0} (b : Bool) (x y : A) → b ≡ true → cond b x y ≡ x
cond_true b x y is = ap (λ b. cond b x y) is

pub write_same : (first : List ℕ) (calls : List DiskCall) (at : ℕ) (v : Vec ℕ Global)
    → at ≤ length (history first calls).read
    → (history first (calls ++ Write at v ∷ [])).read
    ≡ overwrite (history first calls).read at v.items
write_same first calls at v le =
    let past = history first calls in
    after_last (start first) calls (Write at v) ∙ cond_true (nat_le at (length past.read))
    (overwrite past.read at v.items) past.read (grind (arith, nat_tests))

-- what a call does to the images
next_call : (s : State) (image : List ℕ) (may_leave : List ℕ → Type 0)
    (step : List ℕ → List ℕ → Type 0)
    → ((c : List ℕ) → may_leave c → (d : List ℕ) × s.may_leave d × step d c)
    → Call step s (next s image may_leave)
next_call s image may_leave step images = record {
  images = images;
  later = omega arith;
  nothing_else = λ t c le since. ⊎_elim (λ past. inl past.1) (λ now. inr now) since;
  keeps = λ t c le left. inl (le, left);
}

no_call : (s : State) (step : List ℕ → List ℕ → Type 0) → ((c : List ℕ) → step c c) → Call step s s
no_call s step same = record {
  images = λ c left. (c, left, same c);
  later = omega arith;
  nothing_else = λ t c le left. inl left;
  keeps = λ t c le left. left;
}

read_call : (s : State) (calls : List DiskCall)
    → Call Same (after_all s calls) (after_all s (calls ++ Read ∷ []))
read_call s [] = no_call s Same (λ c. refl)
read_call s (c ∷ calls) = read_call (after s c) calls

write_call : (s : State) (calls : List DiskCall) (at : ℕ) (v : Vec ℕ Global)
    → Call (Torn at (length v.items)) (after_all s calls) (after_all s (calls ++ Write at v ∷ []))
write_call s [] at v = next_call s _ _ (Torn at (length v.items)) (λ c left. left)
write_call s (c ∷ calls) at v = write_call (after s c) calls at v

sync_call : (s : State) (calls : List DiskCall) → IsPast s
    → Call Same (after_all s calls) (after_all s (calls ++ Sync ∷ []))
sync_call s [] is = next_call s s.read (λ c. c ≡ s.read) Same
    (λ c left. (s.read, is.read_is_left, sym left))
sync_call s (c ∷ calls) is = sync_call (after s c) calls (after_past s c is)

synced : (s : State) (calls : List DiskCall) (c : List ℕ)
    → (after_all s (calls ++ Sync ∷ [])).may_leave c → c ≡ (after_all s (calls ++ Sync ∷ [])).read
synced s [] c left = left
synced s (call ∷ calls) c left = synced (after s call) calls c left

-- the same for what is seen of them
see : (step : List ℕ → List ℕ → Type 0) (old new : State) (octets others : List ℕ) (m n : ℕ)
    → Call step old new → Call step (seen octets m old) (seen others n new)
see step old new octets others m n call = record {
  images = call.images;
  later = call.later;
  nothing_else = call.nothing_else;
  keeps = call.keeps;
}

pub kept_call : (step : List ℕ → List ℕ → Type 0) (first : List ℕ) (calls later : List DiskCall)
    (octets others : List ℕ) (m n : ℕ) → ((c : List ℕ) → step c c) → later ≡ calls
    → Call step (seen octets m (history first calls)) (seen others n (history first later))
kept_call step first calls later octets others m n same is =
    see step (history first calls) (history first later) octets others m n
    (subst (λ cs. Call step (history first calls) (history first cs)) (sym is)
    (no_call (history first calls) step same))

pub reads : (first : List ℕ) (calls later : List DiskCall) (octets others : List ℕ) (m n : ℕ)
    → later ≡ calls ++ Read ∷ [] → Call Same (seen octets m (history first calls))
    (seen others n (history first later))
reads first calls later octets others m n is =
    see Same (history first calls) (history first later) octets others m n
    (subst (λ cs. Call Same (history first calls) (history first cs)) (sym is)
    (read_call (start first) calls))

pub syncs : (first : List ℕ) (calls later : List DiskCall) (octets others : List ℕ) (m n : ℕ)
    → later ≡ calls ++ Sync ∷ [] → Call Same (seen octets m (history first calls))
    (seen others n (history first later))
syncs first calls later octets others m n is =
    see Same (history first calls) (history first later) octets others m n
    (subst (λ cs. Call Same (history first calls) (history first cs)) (sym is)
    (sync_call (start first) calls (start_past first)))

pub writes : (first : List ℕ) (calls later : List DiskCall) (octets others : List ℕ) (m n : ℕ)
    (at size : ℕ) (v : Vec ℕ Global) → size ≡ length v.items → later ≡ calls ++ Write at v ∷ []
    → Call (Torn at size) (seen octets m (history first calls))
    (seen others n (history first later))
writes first calls later octets others m n at size v sized is =
    subst (λ k. Call (Torn at k) (seen octets m (history first calls))
    (seen others n (history first later))) (sym sized)
    (see (Torn at (length v.items)) (history first calls) (history first later) octets others m n
    (subst (λ cs. Call (Torn at (length v.items)) (history first calls) (history first cs))
    (sym is) (write_call (start first) calls at v)))

pub torn_nothing : (at n : ℕ) (c : List ℕ) → Torn at n c c
torn_nothing = torn_same

pub is_synced : (first : List ℕ) (calls later : List DiskCall) (octets : List ℕ) (m : ℕ)
    → later ≡ calls ++ Sync ∷ [] → octets ≡ (history first later).read
    → IsDurable (seen octets m (history first later))
is_synced first calls later octets m is read c left =
    subst (λ cs. (d : List ℕ) → (history first cs).may_leave d → d ≡ (history first cs).read)
    (sym is) (synced (start first) calls) c left ∙ sym read
