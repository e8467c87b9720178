-- The other disk changes, and the one in use stays.
use Rattle.std.proofs.Common.{Result, Ok, Err, OnOk, ◌≤◌, ◌≡◌, ◌≢◌, ◌⊎◌, inl, inr, ⊎_elim, ℕ, ◌+◌}
use Rattle.std.proofs.Common.{◌<◌, ◌^◌, Bool, true, false, cond, not, List, [], ◌∷◌, ◌++◌, get_or}
use Rattle.std.proofs.Common.{take, refl, sym, ◌∙◌, subst, arith, append_assoc, length-append}
use Rattle.std.proofs.lemmas.Bool.{cases_eq}
use Rattle.std.specs.List.{flat_map}
use Rattle.ts_disk.specs.Disk.{State, IsDisk, IsDurable, EveryImage, Torn, overwrite}
use Rattle.ts_journal.specs.Gate.{HasOpenGate}
use Rattle.ts_journal.specs.Images.{Header, member_of, IsRight, head, block, IsBody, Stands, IsShut, IsEarlier, Behind, InUse, Opens, AnyPair, OpensFrom, OneOrOther, EveryPair, entry}
use Rattle.ts_journal.specs.Settled.{IsJournal, IsSpare, next, header_of, member_in, Holds, disk_a, disk_b}
use Rattle.ts_journal.specs.declared.journal.Stage.TheVariants.{Copying}
use Rattle.ts_journal.specs.declared.journal.Journal.{Journal}
use Rattle.ts_journal.proofs.Extend.{Appends}
use Rattle.ts_journal.proofs.Gates.{torn_gate, written_gate}
use Rattle.ts_journal.proofs.Journals.{stands_before, stands_after}
use Rattle.ts_journal.proofs.Moments.{weaker}
use Rattle.ts_journal.proofs.Pairs.{still, shut_while, from}

-- at every moment P of the other's image, and what the disk in use holds
other_moves : {D : Type 0} (state : D → State) (swapped : Bool) (current old new : D) (P : List ℕ → Type 0) (Q : List ℕ → List ℕ → Type 0) → IsDisk (state current) → IsDurable (state current)
    → EveryImage P (state old) (state new) → ((c : List ℕ) → P c → swapped ≡ false → Q (state current).read c) → ((c : List ℕ) → P c → swapped ≡ true → Q c (state current).read)
    → EveryPair Q (state (cond swapped old current)) (state (cond swapped current old)) (state (cond swapped new current)) (state (cond swapped current new))
other_moves state true current old new P Q is durable run first second ca cb left_a left_b =
    subst (λ c. Q ca c) (sym (still (state current) is durable cb left_b)) (second ca (run.each ca left_a) refl)
other_moves state false current old new P Q is durable run first second ca cb left_a left_b =
    subst (λ c. Q c cb) (sym (still (state current) is durable ca left_a)) (first cb (run.each cb left_b) refl)

used_by : {D : Type 0} (state : D → State) (j : Journal D) (bodies copied : List (List ℕ))
    (other : List ℕ) → Holds state bodies copied j → Behind (header_of j) other
    → InUse (member_in j) bodies (state j.current).read other
used_by state j bodies copied other holds behind =
    record {
      header = header_of j;
      owner = refl;
      right = holds.right;
      live = holds.live;
      is_live =
          holds.is_live;
      stands = holds.journal.stands;
      behind = behind;
    }

-- at each moment of a step before the last, the journal opens from the disk in use
pub behind_moves : {D : Type 0} (state : D → State) → ((d : D) → IsDisk (state d))
    → (j : Journal D) (new : D) (bodies copied : List (List ℕ)) → Holds state bodies copied j
    → EveryImage (Behind (header_of j)) (state j.spare) (state new)
    → EveryPair (OpensFrom (member_in j) j.swapped bodies) (state (disk_a j)) (state (disk_b j)) (state (cond j.swapped new j.current)) (state (cond j.swapped j.current new))
behind_moves state lawful j new bodies copied holds run =
    other_moves state j.swapped j.current j.spare new (Behind (header_of j)) (OpensFrom (member_in j) j.swapped bodies) (lawful j.current) holds.journal.durable run
    (λ c behind is. (from (member_in j) j.swapped bodies (state j.current).read c (used_by state j bodies copied c holds behind)).0 is)
    (λ c behind is. (from (member_in j) j.swapped bodies (state j.current).read c (used_by state j bodies copied c holds behind)).1 is)

pub shut_is_behind : (h : Header) (old new : State) → EveryImage IsShut old new → EveryImage (Behind h) old new
shut_is_behind h old new run = weaker IsShut (Behind h) old new (λ c shut. inl shut) run

-- while bodies are appended to a disk that is shut
pub copying_is_behind : (h k : Header) (bodies : List (List ℕ)) (body : List ℕ) (end : ℕ) (octets : List ℕ) (old new : State) → IsJournal h 0 bodies end old → IsBody body → octets ≡ entry body
    → EveryImage (Appends end octets old.read) old new → EveryImage (Behind k) old new
copying_is_behind h k bodies body end octets old new j fits are run =
    weaker (Appends end octets old.read) (Behind k) old new
    (λ c either. inl (⊎_elim (λ shut. shut_while h bodies c (stands_before h 0 bodies end old c j shut))
    (λ wide. shut_while h (bodies ++ body ∷ []) c (stands_after h 0 bodies body end old c j fits (subst (λ t. HasOpenGate (take end old.read) t c) are wide))) either)) run

-- a header and a closed gate stand for no bodies
pub begun_journal : (h : Header) (live : ℕ) (disk : State) (rest : List ℕ) → IsDurable disk → disk.read ≡ head h ++ (live ∷ 0 ∷ rest) → IsJournal h live [] 25 disk
begun_journal h live disk rest durable is = record {
  durable = durable;
  stands = record { blocks = []; whole = tt; are = refl; closed = (rest, is ∙ sym (append_assoc (head h) (live ∷ []) (0 ∷ rest))) };
  ends = refl;
}

-- the gate of the other disk is torn: it stays shut, or it is live, and all its bodies stand
abbrev pub Switches : Header → List (List ℕ) → List ℕ → Type 0
Switches h copied image = IsShut image ⊎ ((live : ℕ) × (live ≢ 0) × Stands h live copied image)

gate_is : (h : Header) (copied : List (List ℕ)) (old c : List ℕ) → (s : Stands h 0 copied old)
    → (gate : ℕ) → c ≡ head h ++ (gate ∷ flat_map block s.blocks ++ (0 ∷ s.closed.0))
    → Stands h gate copied c
gate_is h copied old c s gate is = record { blocks = s.blocks; whole = s.whole; are = s.are; closed = (s.closed.0, is ∙ sym (append_assoc (head h) (gate ∷ flat_map block s.blocks) (0 ∷ s.closed.0))) }

split : (h : Header) (copied : List (List ℕ)) (old : List ℕ) → (s : Stands h 0 copied old) → old ≡ head h ++ (0 ∷ flat_map block s.blocks ++ (0 ∷ s.closed.0))
split h copied old s = s.closed.1 ∙ append_assoc (head h) (0 ∷ flat_map block s.blocks) (0 ∷ s.closed.0)

pub torn_live : (h : Header) (copied : List (List ℕ)) (old c : List ℕ) → Stands h 0 copied old → Torn 24 1 old c → Switches h copied c
torn_live h copied old c s torn =
    let is = torn_gate (head h) (flat_map block s.blocks ++ (0 ∷ s.closed.0)) old 24 0 (split h copied old s) refl c torn in
    let stands = gate_is h copied old c s (get_or c 24 0) is in
    elim (cases_eq (get_or c 24 0) 0) [
      | inl shut ↦ inl (shut_while h copied c (subst (λ g. Stands h g copied c) shut stands))
      | inr wide ↦ inr (get_or c 24 0, wide, stands)
    ]

pub earlier : (h : Header) (live : ℕ) (bodies : List (List ℕ)) (image : List ℕ) → IsRight h → live ≢ 0 → Stands h live bodies image → IsEarlier (next h) image
earlier h live bodies image right wide s =
    (h.generation, live, flat_map block s.blocks ++ (0 ∷ s.closed.0), right, wide, omega arith, s.closed.1 ∙ append_assoc (head h) (live ∷ flat_map block s.blocks) (0 ∷ s.closed.0))

pub next_right : (h : Header) → IsRight h → h.generation + 1 < 2 ^ 64 → IsRight (next h)
next_right h right room = record { node_from = right.node_from; node_to = right.node_to; nodes_to = right.nodes_to; group_to = right.group_to; generation_to = room }

-- a rewrite of which all bodies are on the other disk
pub record IsReady {D : Type 0} (state : D → State) (bodies copied : List (List ℕ)) (j : Journal D) : Type 0 where
  pub holds : Holds state bodies copied j
  pub journal : IsJournal (next (header_of j)) 0 copied j.copy_end (state j.spare)
  pub not_last : j.generation + 1 < 2 ^ 64

-- at each moment of the last step
one_of : {D : Type 0} (state : D → State) (j : Journal D) (bodies copied : List (List ℕ))
    (c : List ℕ) → IsReady state bodies copied j → Switches (next (header_of j)) copied c
    → InUse (member_in j) bodies (state j.current).read c
    ⊎ InUse (member_in j) copied c (state j.current).read
one_of state j bodies copied c ready (inl shut) = inl (used_by state j bodies copied c ready.holds (inl shut))
one_of state j bodies copied c ready (inr wide) =
    let s = ready.holds in inr (record {
      header = next (header_of j);
      owner = refl;
      right = next_right (header_of j) s.right ready.not_last;
      live = wide.0;
      is_live = wide.1;
      stands = wide.2;
      behind = inr (earlier (header_of j) s.live bodies (state j.current).read s.right s.is_live s.journal.stands);
    })

pub switch_moves : {D : Type 0} (state : D → State) → ((d : D) → IsDisk (state d))
    → (j : Journal D) (new : D) (bodies copied : List (List ℕ)) → IsReady state bodies copied j
    → EveryImage (Torn 24 1 (state j.spare).read) (state j.spare) (state new)
    → EveryPair (OneOrOther (member_in j) bodies copied) (state (disk_a j)) (state (disk_b j)) (state (cond j.swapped new j.current)) (state (cond j.swapped j.current new))
switch_moves state lawful j new bodies copied ready torn =
    let h = next (header_of j) in
    let run = weaker (Torn 24 1 (state j.spare).read) (Switches h copied) (state j.spare) (state new) (λ c t. torn_live h copied (state j.spare).read c ready.journal.stands t) torn in
    other_moves state j.swapped j.current j.spare new (Switches h copied) (OneOrOther (member_in j) bodies copied) (lawful j.current) ready.holds.journal.durable run
    (λ c s is. ⊎_elim (λ u. inl (inl u)) (λ u. inr (inr u)) (one_of state j bodies copied c ready s))
    (λ c s is. ⊎_elim (λ u. inl (inr u)) (λ u. inr (inl u)) (one_of state j bodies copied c ready s))

-- the same, where the two have changed places
pub switched_moves : {D : Type 0} (state : D → State) → ((d : D) → IsDisk (state d))
    → (j : Journal D) (new x y : D) (bodies copied : List (List ℕ)) → x ≡ new → y ≡ j.current
    → IsReady state bodies copied j
    → EveryImage (Torn 24 1 (state j.spare).read) (state j.spare) (state new)
    → EveryPair (OneOrOther (member_in j) bodies copied) (state (disk_a j)) (state (disk_b j)) (state (cond (not j.swapped) y x)) (state (cond (not j.swapped) x y))
switched_moves state lawful j new x y bodies copied x_is y_is ready torn =
    let Q = OneOrOther (member_in j) bodies copied in
    let run = turned j.swapped Q (state (disk_a j)) (state (disk_b j)) (switch_moves state lawful j new bodies copied ready torn) in
    subst (λ d. EveryPair Q (state (disk_a j)) (state (disk_b j)) (state (cond (not j.swapped) y d)) (state (cond (not j.swapped) d y))) (sym x_is)
    (subst (λ d. EveryPair Q (state (disk_a j)) (state (disk_b j)) (state (cond (not j.swapped) d new)) (state (cond (not j.swapped) new d))) (sym y_is) run)
  where
    turned : (swapped : Bool) (Q : List ℕ → List ℕ → Type 0) (a b : State)
        → EveryPair Q a b (state (cond swapped new j.current)) (state (cond swapped j.current new))
        → EveryPair Q a b (state (cond (not swapped) j.current new))
        (state (cond (not swapped) new j.current))
    turned true Q a b run = run
    turned false Q a b run = run

-- the live gate of a disk on which all stands is opened
pub live_journal : (h : Header) (bodies : List (List ℕ)) (end : ℕ) (old new : State)
    → IsJournal h 0 bodies end old → IsDurable new → new.read ≡ overwrite old.read 24 (1 ∷ [])
    → IsJournal h 1 bodies end new
live_journal h bodies end old new j durable is = record {
  durable = durable;
  stands = record {
    blocks = j.stands.blocks;
    whole = j.stands.whole;
    are = j.stands.are;
    closed = (
      j.stands.closed.0,
      is
          ∙ written_gate (head h) (flat_map block j.stands.blocks ++ (0 ∷ j.stands.closed.0)) old.read
          24 0 (split h bodies old.read j.stands) refl 1
          ∙ sym (append_assoc (head h) (1 ∷ flat_map block j.stands.blocks) (0 ∷ j.stands.closed.0)),
    );
  };
  ends = length-append (head h) (1 ∷ flat_map block j.stands.blocks) ∙ sym (length-append (head h) (0 ∷ flat_map block j.stands.blocks)) ∙ j.ends;
}

-- two disks after a format
pub formatted : {D T E : Type 0} (state : D → State) (a b : D) (result : Result T E) (node nodes group : ℕ) (rest more : List ℕ) → 1 ≤ node → node ≤ nodes → nodes ≤ 9 → group < 2 ^ 32
    → IsDurable (state a) → (state a).read ≡ head (record { node = node; nodes = nodes; group = group; generation = 1 }) ++ (1 ∷ 0 ∷ rest)
    → OnOk result (IsDurable (state b)) → OnOk result ((state b).read ≡ head (record { node = node; nodes = nodes; group = group; generation = 0 }) ++ (0 ∷ 0 ∷ more))
    → OnOk result (AnyPair (Opens (record { node = node; nodes = nodes }) []) (state a) (state b))
formatted state a b (Err e) node nodes group rest more from to most small a_durable a_is b_durable b_is = tt
formatted state a b (Ok x) node nodes group rest more from to most small a_durable a_is b_durable b_is = λ ca cb left_a left_b.
    let h : Header = record { node = node; nodes = nodes; group = group; generation = 1 } in
    let right : IsRight h = record { node_from = from; node_to = to; nodes_to = most; group_to = small; generation_to = omega arith } in
    let j = begun_journal h 1 (state a) rest a_durable a_is in
    let shut : IsShut (state b).read = (head (record { node = node; nodes = nodes; group = group; generation = 0 }), refl, (0 ∷ more, b_is)) in
    subst (λ c. Opens (member_of h) [] c cb) (sym (a_durable ca left_a)) (subst (λ c. Opens (member_of h) [] (state a).read c) (sym (b_durable cb left_b))
    (inl (record { header = h; owner = refl; right = right; live = 1; is_live = omega arith; stands = j.stands; behind = inl shut })))

pub ready : {D : Type 0} (state : D → State) (bodies copied : List (List ℕ)) (j : Journal D) → Holds state bodies copied j → j.stage ≡ Copying → IsReady state bodies copied j
ready state bodies copied j holds stage =
    let k = subst (λ st. IsSpare st (header_of j) copied j.copy_end (state j.spare)) stage holds.spare in
    record { holds = holds; journal = k.0; not_last = k.1 }
