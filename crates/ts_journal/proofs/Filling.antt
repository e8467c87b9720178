-- What is on two disks while a journal is written that has bodies from the start.
use Rattle.std.proofs.Common.{◌^◌, ◌<◌, Result, Ok, Err, OnOk, ◌≡◌, ◌≢◌, ◌≤◌, ◌⊎◌, inl, inr, ⊎_elim}
use Rattle.std.proofs.Common.{ℕ, false, List, [], ◌∷◌, ◌++◌, length, replicate, drop, refl, sym}
use Rattle.std.proofs.Common.{◌∙◌, ap, subst, arith, append_assoc, length-append}
use Rattle.std.specs.List.{flat_map}
use Rattle.ts_disk.specs.Disk.{State, IsDisk, IsDurable, Call, Same, Torn, overwrite, EveryImage}
use Rattle.ts_journal.specs.Images.{Header, Member, head, Block, block, bodies_in, IsFresh, IsText, front, Stands, IsShut, Begins, IsUnused, InUse, OpensFrom, AllOrNone, AnyPair, EveryPair}
use Rattle.ts_journal.proofs.Blocks.{one_bodies}
use Rattle.ts_journal.proofs.Gates.{written_gate}
use Rattle.ts_journal.proofs.Moments.{weaker, and_then, started, goes_on}
use Rattle.ts_journal.proofs.Others.{torn_live}
use Rattle.ts_journal.proofs.Choices.{live_not_shut}

-- ---- one disk

-- 25 octets 00 over what is there
pub closed_first : (old : List ℕ) → IsShut (overwrite old 0 (replicate 25 0))
closed_first old = (replicate 24 0, refl, (drop 25 old, refl))

-- a write of a header and a live gate over no more leaves no more
torn_short : (old c : List ℕ) (n : ℕ) → n ≤ 25 → length old ≤ 25 → Torn 0 n old c → IsUnused c
torn_short old c n small short torn = inl (omega (arith, torn.no_longer, short, small))

-- a fresh disk is unused
pub rests : (disk : State) → IsDisk disk → IsFresh disk → EveryImage IsUnused disk disk
rests disk is fresh = started IsUnused disk is fresh.durable (inl fresh.short)

-- each image is unused, from the first write on
pub record Unused (old new : State) : Type 0 where
  pub run : EveryImage IsUnused old new
  pub now : (c : List ℕ) → new.may_leave c → IsUnused c

pub zeros : (old new : State) (n : ℕ) → n ≤ 25 → IsDisk old → IsFresh old → Call (Torn 0 n) old new → Unused old new
zeros old new n small is fresh call =
    let now : (c : List ℕ) → new.may_leave c → IsUnused c = λ c left.
    let from = call.images c left in
    torn_short old.read c n small fresh.short (subst (λ d. Torn 0 n d c) (fresh.durable from.0 from.1) from.2) in
    record { run = goes_on IsUnused (Torn 0 n) old old new (rests old is fresh) call now; now = now }

pub synced : (old mid new : State) → Unused old mid → Call Same mid new → Unused old new
synced old mid new unused call =
    let now : (c : List ℕ) → new.may_leave c → IsUnused c = λ c left. let from = call.images c left in subst IsUnused from.2 (unused.now from.0 from.1) in
    record { run = goes_on IsUnused Same old mid new unused.run call now; now = now }

pub laid : (old mid new : State) → Unused old mid → EveryImage IsShut mid new → EveryImage IsUnused old new
laid old mid new unused run = and_then IsUnused old mid new unused.run (weaker IsShut IsUnused mid new (λ c shut. inr shut) run)

-- ---- the two disks

-- the bodies stand after a header and a closed live gate
pub stands_shut : (h : Header) (blocks : List Block) (text image : List ℕ) → IsText blocks text → Begins (head h) text image → Stands h 0 (bodies_in blocks) image
stands_shut h blocks text image is begun = record {
  blocks = blocks;
  whole = is.whole;
  are = refl;
  closed = (
    begun.0,
    begun.1 ∙ ap (λ t. head h ++ (0 ∷ t ++ begun.0)) is.is ∙ ap (λ l. head h ++ (0 ∷ l)) (append_assoc (flat_map block blocks) (0 ∷ []) begun.0)
        ∙ sym (append_assoc (head h) (0 ∷ flat_map block blocks) (0 ∷ begun.0)),
  );
}

-- an unused image is not in use
not_used : (m : Member) (bodies : List (List ℕ)) (image other : List ℕ) → IsUnused image → InUse m bodies image other → ⊥
not_used m bodies image other (inl short) u =
    absurd (omega (
      arith,
      short,
      ap length u.stands.closed.1,
      length-append
          (front u.header u.live u.stands.blocks) (0 ∷ u.stands.closed.0),
      length-append (head u.header)
          (u.live ∷ flat_map block u.stands.blocks),
    ))
not_used m bodies image other (inr shut) u = live_not_shut u.header image
    (record {
      right = u.right;
      live = u.live;
      wide = u.is_live;
      rest =
          flat_map block u.stands.blocks ++ 0 ∷ u.stands.closed.0;
      is = u.stands.closed.1
          ∙ append_assoc (head u.header) (u.live ∷ flat_map block u.stands.blocks)
          (0 ∷ u.stands.closed.0);
    }) shut

-- an image is unused, or all the bodies stand on it
abbrev pub Filled : Header → List (List ℕ) → List ℕ → Type 0
Filled h bodies image = IsUnused image ⊎ ((live : ℕ) × (live ≢ 0) × Stands h live bodies image)

all_or_none : (h : Header) (bodies : List (List ℕ)) (a b : List ℕ) → Filled h bodies a → IsUnused b → AllOrNone bodies a b
all_or_none h bodies a b (inl unused) other m others (inl u) = absurd (not_used m others a b unused u)
all_or_none h bodies a b (inr wide) other m others (inl u) = one_bodies h u.header wide.0 u.live bodies others a wide.2 u.stands
all_or_none h bodies a b filled other m others (inr u) = absurd (not_used m others b a other u)

pub pairs : (h : Header) (bodies : List (List ℕ)) (a b new_a new_b : State) → EveryImage (Filled h bodies) a new_a → EveryImage IsUnused b new_b → EveryPair (AllOrNone bodies) a b new_a new_b
pairs h bodies a b new_a new_b first second ca cb left_a left_b = all_or_none h bodies ca cb (first.each ca left_a) (second.each cb left_b)

pub nothing_yet : (h : Header) (bodies : List (List ℕ)) (old new : State) → EveryImage IsUnused old new → EveryImage (Filled h bodies) old new
nothing_yet h bodies old new run = weaker IsUnused (Filled h bodies) old new (λ c unused. inl unused) run

-- a pair of fresh disks does not open
pub none_yet : (bodies : List (List ℕ)) (a b : State) → IsDisk a → IsDisk b → IsFresh a → IsFresh b → EveryPair (AllOrNone bodies) a b a b
none_yet bodies a b is other first second =
    let h : Header = record { node = 1; nodes = 1; group = 0; generation = 1 } in
    pairs h bodies a b a b (nothing_yet h bodies a a (rests a is first)) (rests b other second)

-- the live gate is opened last
pub opens_gate : (h : Header) (bodies : List (List ℕ)) (old mid new : State)
    → EveryImage IsUnused old mid → Stands h 0 bodies mid.read
    → EveryImage (Torn 24 1 mid.read) mid new → EveryImage (Filled h bodies) old new
opens_gate h bodies old mid new run stands torn =
    and_then (Filled h bodies) old mid new (nothing_yet h bodies old mid run)
    (weaker (Torn 24 1 mid.read) (Filled h bodies) mid new (λ c t. ⊎_elim (λ shut. inl (inr shut)) (λ wide. inr wide) (torn_live h bodies mid.read c stands t)) torn)

live_first : (h : Header) (text old new : List ℕ) → (begun : Begins (head h) text old) → new ≡ overwrite old 24 (1 ∷ []) → (rest : List ℕ) × (new ≡ head h ++ (1 ∷ text ++ rest))
live_first h text old new begun is = (begun.0, is ∙ written_gate (head h) (text ++ begun.0) old 24 0 begun.1 refl 1)

opens : (m : Member) (group : ℕ) (blocks : List Block) (text first : List ℕ) (a b : State)
    → 1 ≤ m.node → m.node ≤ m.nodes → m.nodes ≤ 9 → group < 2 ^ 32 → IsText blocks text
    → IsDurable a → IsDurable b
    → Begins (head (record { node = m.node; nodes = m.nodes; group = group; generation = 1 })) text
    first → a.read ≡ overwrite first 24 (1 ∷ []) → IsShut b.read
    → AnyPair (OpensFrom m false (bodies_in blocks)) a b
unfolding stands_shut
opens m group blocks text first a b from to most small is one other begun a_is shut ca cb left_a left_b =
    let h : Header = record { node = m.node; nodes = m.nodes; group = group; generation = 1 } in
    let s = stands_shut h blocks text first is begun in
    let live : Stands h 1 (bodies_in blocks) a.read = record {
      blocks = blocks;
      whole = is.whole;
      are = refl;
      closed = (
        s.closed.0,
        a_is ∙ written_gate (head h) (flat_map block blocks ++ (0 ∷ s.closed.0)) first 24 0 (s.closed.1 ∙ append_assoc (head h) (0 ∷ flat_map block blocks) (0 ∷ s.closed.0)) refl 1
            ∙ sym (append_assoc (head h) (1 ∷ flat_map block blocks) (0 ∷ s.closed.0)),
      );
    } in
    subst (λ c. InUse m (bodies_in blocks) c cb) (sym (one ca left_a)) (subst (λ c. InUse m (bodies_in blocks) a.read c) (sym (other cb left_b))
    (record {
      header = h;
      owner = refl;
      right =
          record {
            node_from = from;
            node_to = to;
            nodes_to = most;
            group_to = small;
            generation_to =
                omega arith;
          };
      live = 1;
      is_live = omega arith;
      stands = live;
      behind = inl shut;
    }))

-- the same, where the last write is answered
pub gate_opened : {T E : Type 0} (h : Header) (text old new : List ℕ) (result : Result T E)
    → Begins (head h) text old → OnOk result (new ≡ overwrite old 24 (1 ∷ []))
    → OnOk result ((rest : List ℕ) × (new ≡ head h ++ (1 ∷ text ++ rest)))
gate_opened h text old new (Ok x) begun is = live_first h text old new begun is
gate_opened h text old new (Err e) begun is = tt

pub opens_now : {T E : Type 0} (m : Member) (group : ℕ) (text first : List ℕ) (a b : State) (result : Result T E) → 1 ≤ m.node → m.node ≤ m.nodes → m.nodes ≤ 9 → group < 2 ^ 32 → IsDurable b
    → Begins (head (record { node = m.node; nodes = m.nodes; group = group; generation = 1 })) text
    first → Begins (head (record
    { node = m.node; nodes = m.nodes; group = group; generation = 0 })) (0 ∷ []) b.read
    → OnOk result (IsDurable a) → OnOk result (a.read ≡ overwrite first 24 (1 ∷ []))
    → OnOk result ((blocks : List Block) → IsText blocks text → AnyPair (OpensFrom m false (bodies_in blocks)) a b)
opens_now m group text first a b (Ok x) from to most small other begun shut durable is = λ blocks text_is.
    opens m group blocks text first a b from to most small text_is durable other begun is (head (record { node = m.node; nodes = m.nodes; group = group; generation = 0 }), refl, (0 ∷ shut.0, shut.1))
opens_now m group text first a b (Err e) from to most small other begun shut durable is = tt
