-- What the steps of a rewrite leave on the other disk.
use Rattle.std.proofs.Common.{Result, Ok, Err, OnOk, ◌≡◌, inl, inr, ℕ, ◌+◌, ◌≤◌, List, [], ◌∷◌}
use Rattle.std.proofs.Common.{◌++◌, length, get_or, take, drop, refl, sym, ◌∙◌, ap, subst, arith}
use Rattle.std.proofs.Common.{length-append, length-take, take-append-drop}
use Rattle.std.proofs.lemmas.List.{drop_at}
use Rattle.std.proofs.lemmas.Bool.{cases_eq}
use Rattle.ts_disk.specs.Disk.{State, IsDisk, IsDurable, Call, Same, Torn, overwrite, EveryImage}
use Rattle.ts_journal.specs.Images.{Header, at_generation, head, IsShut, IsEarlier, Behind, Begins}
use Rattle.ts_journal.proofs.Gates.{torn_behind, written_behind, torn_gate, written_gate}
use Rattle.ts_journal.proofs.Moments.{started, goes_on}

-- the live gate of an earlier generation is torn: it is shut, or as it was
pub torn_shut : (h : Header) (image c : List ℕ) → IsEarlier h image → Torn 24 1 image c → Behind h c
torn_shut h image c is torn =
    let octets = head (at_generation h is.0) in
    let torn_is : c ≡ octets ++ (get_or c 24 0 ∷ is.2) = torn_gate octets is.2 image 24 is.1 is.6 refl c torn in
    elim (cases_eq (get_or c 24 0) 0) [
      | inl shut ↦ inl (octets, refl, (is.2, torn_is ∙ ap (λ g. octets ++ (g ∷ is.2)) shut))
      | inr wide ↦ inr (is.0, get_or c 24 0, is.2, is.3, wide, is.5, torn_is)
    ]

pub written_shut : (h : Header) (image : List ℕ) → IsEarlier h image → IsShut (overwrite image 24 (0 ∷ []))
written_shut h image is = (head (at_generation h is.0), refl, (is.2, written_gate (head (at_generation h is.0)) is.2 image 24 is.1 is.6 refl 0))

-- the octets before a closed live gate are torn
pub torn_head : (image c : List ℕ) → IsShut image → Torn 0 24 image c → IsShut c
torn_head image c is torn =
    let rest = is.2.0 in
    let split : drop 24 c ≡ 0 ∷ rest = torn.after ∙ ap (drop 24) is.2.1 ∙ drop_at is.0 (0 ∷ rest) 24 is.1 in
    (take 24 c, omega (arith, length-take 24 c, torn.no_shorter, ap length is.2.1, length-append is.0 (0 ∷ rest), is.1), (rest, sym (take-append-drop 24 c) ∙ ap (λ l. take 24 c ++ l) split))

-- what follows it is torn
pub torn_rest : (image c : List ℕ) (n : ℕ) → IsShut image → Torn 25 n image c → IsShut c
torn_rest image c n is torn = (is.0, is.1, torn_behind is.0 is.2.0 image 24 is.2.1 is.1 n c torn)

pub long : (image : List ℕ) → IsShut image → 25 ≤ length image
long image is = omega (arith, ap length is.2.1, length-append is.0 (0 ∷ is.2.0), is.1)

headed : (octets image : List ℕ) → length octets ≡ 24 → (is : IsShut image) → overwrite image 0 octets ≡ octets ++ (0 ∷ is.2.0)
headed octets image sized is =
    let n : 0 + length octets ≡ 24 = omega (arith, sized) in
    ap (λ n. octets ++ drop n image) n ∙ ap (λ l. octets ++ l) (ap (drop 24) is.2.1 ∙ drop_at is.0 (0 ∷ is.2.0) 24 is.1)

pub begins : (octets text image : List ℕ) → length octets ≡ 24 → IsShut image → Begins octets text (overwrite (overwrite image 0 octets) 25 text)
begins octets text image sized is =
    (drop (25 + length text) (overwrite image 0 octets), written_behind octets is.2.0 (overwrite image 0 octets) 24 (headed octets image sized is) sized text)

-- each image is shut, from the first write on
pub record Shut (old new : State) : Type 0 where
  pub run : EveryImage IsShut old new
  pub now : (c : List ℕ) → new.may_leave c → IsShut c

pub head_writes : (old new : State) (n : ℕ) → n ≡ 24 → IsDisk old → IsDurable old → IsShut old.read → Call (Torn 0 n) old new → Shut old new
head_writes old new n sized is durable shut call =
    let now : (c : List ℕ) → new.may_leave c → IsShut c = λ c left.
    let from = call.images c left in
    torn_head old.read c shut (subst (λ d. Torn 0 24 d c) (durable from.0 from.1) (subst (λ m. Torn 0 m from.0 c) sized from.2)) in
    record { run = goes_on IsShut (Torn 0 n) old old new (started IsShut old is durable shut) call now; now = now }

pub rest_writes : (old mid new : State) (n : ℕ) → Shut old mid → Call (Torn 25 n) mid new → Shut old new
rest_writes old mid new n shut call =
    let now : (c : List ℕ) → new.may_leave c → IsShut c = λ c left. let from = call.images c left in torn_rest from.0 c n (shut.now from.0 from.1) from.2 in
    record { run = goes_on IsShut (Torn 25 n) old mid new shut.run call now; now = now }

pub syncs : (old mid new : State) → Shut old mid → Call Same mid new → Shut old new
syncs old mid new shut call =
    let now : (c : List ℕ) → new.may_leave c → IsShut c = λ c left. let from = call.images c left in subst IsShut from.2 (shut.now from.0 from.1) in
    record { run = goes_on IsShut Same old mid new shut.run call now; now = now }

pub on_ok : {T E P : Type 0} (r : Result T E) → P → OnOk r P
on_ok (Ok x) p = p
on_ok (Err e) p = tt
