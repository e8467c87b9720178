-- What an image of one disk, and a pair of images, stand for: a header, a live gate, blocks, and a
-- closed gate.
use Rattle.std.specs.Prelude.{◌≡◌, ◌≢◌, ◌⊎◌, ◌<◌, ◌≤◌, ◌^◌, ℕ, Bool, true, false, List, [], ◌∷◌}
use Rattle.std.specs.Prelude.{◌++◌, length, map}
use Rattle.std.specs.List.{flat_map, AllByRecursion}
use Rattle.std.specs.Int.{to_be_bytes, w32, w64}
use Rattle.ts_disk.specs.Disk.{State, IsDurable}
use Rattle.ts_journal.specs.Gate.{HasClosedGate}

-- whose journal it is, of how many nodes and of which group, and how often it was rewritten
pub record Header : Type 0 where
  pub node : ℕ
  pub nodes : ℕ
  pub group : ℕ
  pub generation : ℕ

-- the same node's, of this generation
abbrev pub at_generation : Header → ℕ → Header
at_generation h generation = record
    { node = h.node; nodes = h.nodes; group = h.group; generation = generation }

-- a node, by its number, and how many nodes there are
pub record Member : Type 0 where
  pub node : ℕ
  pub nodes : ℕ

abbrev pub member_of : Header → Member
member_of h = record { node = h.node; nodes = h.nodes }

-- the 24 octets before the live gate
abbrev pub head : Header → List ℕ
head h = 0x54 ∷ 0x53 ∷ 0x52 ∷ 0x45 ∷ 0x43 ∷ 0 ∷ 0 ∷ 2 ∷ h.node ∷ h.nodes ∷ 0 ∷ 0
    ∷ (to_be_bytes w32 h.group ++ to_be_bytes w64 h.generation)

-- 1 to 9 nodes, and node among them
pub record IsRight (h : Header) : Type 0 where
  pub node_from : 1 ≤ h.node
  pub node_to : h.node ≤ h.nodes
  pub nodes_to : h.nodes ≤ 9
  pub group_to : h.group < 2 ^ 32
  pub generation_to : h.generation < 2 ^ 64

-- a body is not empty, and has at most 4,194,500 octets
pub record IsBody (body : List ℕ) : Type 0 where
  pub some : 1 ≤ length body
  pub short : length body ≤ 4194500

-- a gate, and the body after it
pub record Block : Type 0 where
  pub gate : ℕ
  pub body : List ℕ

-- the gate, four octets of length, and the body
abbrev pub block : Block → List ℕ
block b = b.gate ∷ (to_be_bytes w32 (length b.body) ++ b.body)

-- its gate is open, and its body has a length that a body may have
pub record IsWholeBlock (b : Block) : Type 0 where
  pub is_open : b.gate ≢ 0
  pub fits : IsBody b.body

-- their bodies
abbrev pub bodies_in : List Block → List (List ℕ)
bodies_in blocks = map (λ b. b.body) blocks

-- header, live gate and blocks
abbrev pub front : Header → ℕ → List Block → List ℕ
front h live blocks = head h ++ (live ∷ flat_map block blocks)

-- Whole blocks of these bodies follow the live gate, and then a closed gate. What follows it has no
-- meaning.
pub record Stands (h : Header) (live : ℕ) (bodies : List (List ℕ)) (image : List ℕ) : Type 0 where
  pub blocks : List Block
  pub whole : AllByRecursion IsWholeBlock blocks
  pub are : bodies_in blocks ≡ bodies
  pub closed : HasClosedGate (front h live blocks) image

-- its live gate is closed: nothing else of it is looked at
abbrev pub IsShut : List ℕ → Type 0
IsShut image = (octets : List ℕ) × (length octets ≡ 24) × HasClosedGate octets image

-- it is live, the same node's, of an earlier generation
abbrev pub IsEarlier : Header → List ℕ → Type 0
IsEarlier h image = (generation : ℕ) × (live : ℕ) × (rest : List ℕ)
    × IsRight (at_generation h generation) × (live ≢ 0) × (generation < h.generation)
    × (image ≡ head (at_generation h generation) ++ (live ∷ rest))

-- what a disk that isn't in use holds
abbrev pub Behind : Header → List ℕ → Type 0
Behind h image = IsShut image ⊎ IsEarlier h image

-- these octets, a closed live gate, and a text
abbrev pub Begins : List ℕ → List ℕ → List ℕ → Type 0
Begins octets text image = (rest : List ℕ) × (image ≡ octets ++ (0 ∷ text ++ rest))

-- not in use: nothing follows a header and a live gate, or the live gate is closed
abbrev pub IsUnused : List ℕ → Type 0
IsUnused image = (length image ≤ 25) ⊎ IsShut image

-- The first image is that of the disk in use: it is live, with the header of this member, and the
-- other is shut, or this member's and of an earlier generation.
pub record InUse (member : Member) (bodies : List (List ℕ)) (image other : List ℕ) : Type 0 where
  pub header : Header
  pub owner : member_of header ≡ member
  pub right : IsRight header
  pub live : ℕ
  pub is_live : live ≢ 0
  pub stands : Stands header live bodies image
  pub behind : Behind header other

-- the pair of images opens to these bodies, as the journal of this member
abbrev pub Opens : Member → List (List ℕ) → List ℕ → List ℕ → Type 0
Opens member bodies a b = InUse member bodies a b ⊎ InUse member bodies b a

-- the pair opens to these bodies, from the disk that is in use: the second where the two are
-- swapped
abbrev pub OpensFrom : Member → Bool → List (List ℕ) → List ℕ → List ℕ → Type 0
OpensFrom member true bodies a b = InUse member bodies b a
OpensFrom member false bodies a b = InUse member bodies a b

-- the pair opens to the bodies before, or to those and the new one
abbrev pub BeforeOrAfter : Member → Bool → List (List ℕ) → List ℕ → List ℕ → List ℕ → Type 0
BeforeOrAfter member swapped bodies body a b =
    OpensFrom member swapped bodies a b ⊎ OpensFrom member swapped (bodies ++ body ∷ []) a b

-- the pair opens to the bodies of one list or of another
abbrev pub OneOrOther : Member → List (List ℕ) → List (List ℕ) → List ℕ → List ℕ → Type 0
OneOrOther member bodies others a b = Opens member bodies a b ⊎ Opens member others a b

-- At every moment since the disks were these, every pair of images is P.
abbrev pub EveryPair : (List ℕ → List ℕ → Type 0) → State → State → State → State → Type 0
EveryPair P a b new_a new_b = (ca cb : List ℕ) → new_a.left_since a.moment ca
    → new_b.left_since b.moment cb → P ca cb

-- what follows the gate of a new block: its length, its body, and a closed gate
abbrev pub entry : List ℕ → List ℕ
entry body = to_be_bytes w32 (length body) ++ body ++ 0 ∷ []

-- a durable disk that holds nothing after a header and a live gate, as an empty one does
pub record IsFresh (disk : State) : Type 0 where
  pub durable : IsDurable disk
  pub short : length disk.read ≤ 25

-- a text is these blocks, and a closed gate after them
pub record IsText (blocks : List Block) (text : List ℕ) : Type 0 where
  pub whole : AllByRecursion IsWholeBlock blocks
  pub is : text ≡ flat_map block blocks ++ 0 ∷ []

-- a pair of images that opens, as the journal of any member, opens to these bodies: there are all
-- of them or none
abbrev pub AllOrNone : List (List ℕ) → List ℕ → List ℕ → Type 0
AllOrNone bodies a b = (member : Member) (others : List (List ℕ)) → Opens member others a b
    → others ≡ bodies

-- each pair of images that a crash now may leave is P
abbrev pub AnyPair : (List ℕ → List ℕ → Type 0) → State → State → Type 0
AnyPair P a b = (ca cb : List ℕ) → a.may_leave ca → b.may_leave cb → P ca cb
