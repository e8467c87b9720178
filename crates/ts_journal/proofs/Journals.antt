-- What is on a disk while bodies are appended to it.
use Rattle.std.proofs.Common.{◌≡◌, ℕ, ◌+◌, ◌<◌, List, [], ◌∷◌, ◌++◌, length, take, sym, ◌∙◌, ap, subst, arith, append_assoc, length-append}
use Rattle.std.proofs.lemmas.List.{take_at, append-nil, map-append}
use Rattle.std.proofs.lemmas.Grind.{flat_map-append}
use Rattle.std.specs.List.{flat_map, AllByRecursion}
use Rattle.std.specs.Int.{to_be_bytes, w32}
use Rattle.ts_disk.specs.Disk.{State, IsDurable}
use Rattle.ts_journal.proofs.Gates.{front_length}
use Rattle.ts_journal.specs.Gate.{HasClosedGate, HasOpenGate}
use Rattle.ts_journal.specs.Images.{Header, Block, block, head, IsBody, IsWholeBlock, front, Stands, entry}
use Rattle.ts_journal.specs.Settled.{IsJournal}

all_push : (P : Block → Type 0) (blocks : List Block) (b : Block) → AllByRecursion P blocks → P b → AllByRecursion P (blocks ++ b ∷ [])
all_push P [] b each last = (last, tt)
all_push P (x ∷ blocks) b each last = (each.0, all_push P blocks b each.1 last)

pub at_front : (h : Header) (live : ℕ) (bodies : List (List ℕ)) (end : ℕ) (disk : State) (j : IsJournal h live bodies end disk) → take end disk.read ≡ front h live j.stands.blocks
at_front h live bodies end disk j = ap (take end) j.stands.closed.1 ∙ take_at (front h live j.stands.blocks) (0 ∷ j.stands.closed.0) end j.ends

pub stands_before : (h : Header) (live : ℕ) (bodies : List (List ℕ)) (end : ℕ) (disk : State)
    (c : List ℕ) → IsJournal h live bodies end disk → HasClosedGate (take end disk.read) c
    → Stands h live bodies c
stands_before h live bodies end disk c j closed = record {
  blocks = j.stands.blocks;
  whole = j.stands.whole;
  are = j.stands.are;
  closed = subst (λ f. HasClosedGate f c) (at_front h live bodies end disk j) closed;
}

pub is_closed : (h : Header) (live : ℕ) (bodies : List (List ℕ)) (end : ℕ) (disk : State) → IsJournal h live bodies end disk → HasClosedGate (take end disk.read) disk.read
is_closed h live bodies end disk j = subst (λ f. HasClosedGate f disk.read) (sym (at_front h live bodies end disk j)) j.stands.closed

-- front, and a block after it
front_push : (h : Header) (live : ℕ) (blocks : List Block) (b : Block) → front h live (blocks ++ b ∷ []) ≡ front h live blocks ++ block b
front_push h live blocks b =
    ap (λ l. head h ++ (live ∷ l)) (flat_map-append block blocks (b ∷ []) ∙ ap (λ l. flat_map block blocks ++ l) (append-nil (block b)))
    ∙ sym (append_assoc (head h) (live ∷ flat_map block blocks) (block b))

-- a gate, what follows it up to a closed gate, and the rest
joins : (f tail rest c : List ℕ) (gate : ℕ) → c ≡ f ++ (gate ∷ (tail ++ 0 ∷ []) ++ rest) → c ≡ (f ++ (gate ∷ tail)) ++ (0 ∷ rest)
joins f tail rest c gate is = is ∙ ap (λ l. f ++ (gate ∷ l)) (append_assoc tail (0 ∷ []) rest) ∙ sym (append_assoc f (gate ∷ tail) (0 ∷ rest))

pub stands_after : (h : Header) (live : ℕ) (bodies : List (List ℕ)) (body : List ℕ) (end : ℕ)
    (disk : State) (c : List ℕ) → IsJournal h live bodies end disk → IsBody body
    → HasOpenGate (take end disk.read) (entry body) c → Stands h live (bodies ++ body ∷ []) c
stands_after h live bodies body end disk c j fits opened =
    let b : Block = record { gate = opened.0; body = body } in
    let tail : List ℕ = to_be_bytes w32 (length body) ++ body in record {
      blocks = j.stands.blocks ++ b ∷ [];
      whole = all_push IsWholeBlock j.stands.blocks b j.stands.whole (record { is_open = opened.2; fits = fits });
      are = map-append (λ (x : Block). x.body) j.stands.blocks (b ∷ []) ∙ ap (λ l. l ++ body ∷ []) j.stands.are;
      closed = (
        opened.1,
        joins (take end disk.read) tail opened.1 c opened.0 opened.3
            ∙ ap (λ l. l ++ (0 ∷ opened.1)) (ap (λ f. f ++ block b) (at_front h live bodies end disk j) ∙ sym (front_push h live j.stands.blocks b)),
      );
    }

-- the journal after an append
journal_after : (h : Header) (live : ℕ) (bodies : List (List ℕ)) (body : List ℕ) (end : ℕ)
    (old new : State) → IsJournal h live bodies end old → IsBody body → IsDurable new
    → HasOpenGate (take end old.read) (entry body) new.read
    → IsJournal h live (bodies ++ body ∷ []) (end + length (entry body)) new
unfolding stands_after
journal_after h live bodies body end old new j fits durable opened =
    let b : Block = record { gate = opened.0; body = body } in
    let tail : List ℕ = to_be_bytes w32 (length body) ++ body in record {
      durable = durable;
      stands = stands_after h live bodies body end old new.read j fits opened;
      ends = omega (arith, j.ends, ap length (front_push h live j.stands.blocks b), length-append (front h live j.stands.blocks) (block b), length-append tail (0 ∷ []));
    }

-- the same, where the parts are known by equations
pub journal_next : (h : Header) (live : ℕ) (bodies : List (List ℕ)) (body : List ℕ) (end size : ℕ)
    (octets : List ℕ) (old new : State) → IsJournal h live bodies end old → IsBody body
    → octets ≡ entry body → size ≡ length octets
    → IsDurable new → HasOpenGate (take end old.read) octets new.read → IsJournal h live (bodies ++ body ∷ []) (end + size) new
journal_next h live bodies body end size octets old new j fits are sized durable opened =
    let after = journal_after h live bodies body end old new j fits durable (subst (λ t. HasOpenGate (take end old.read) t new.read) are opened) in
    subst (λ n. IsJournal h live (bodies ++ body ∷ []) n new) (ap (λ n. end + n) (sym (sized ∙ ap length are))) after

-- the octets fit after the gate
pub opened_size : (end : ℕ) (octets old new : List ℕ) → HasClosedGate (take end old) old → HasOpenGate (take end old) octets new → end + length octets < length new
opened_size end octets old new closed opened =
    omega (arith, front_length end old closed, ap length opened.3, length-append (take end old) (opened.0 ∷ octets ++ opened.1), length-append octets opened.1)
