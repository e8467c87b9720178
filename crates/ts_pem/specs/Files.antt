-- What callers see of blocks, and what a file holds: DER, or a text of blocks.
use Rattle.std.specs.Prelude.{◌≡◌, ℕ, Bool, true, false, if◌then◌else◌, List, [], ◌∷◌, map, filter}
use Rattle.std.specs.Prelude.{Result, Ok, Err}
use Rattle.std.specs.List.{list_any}
use Rattle.ts_pem.specs.declared.block.Block.{Block}
use Rattle.ts_pem.specs.declared.block.Label.{Label}
use Rattle.ts_pem.specs.declared.block.Label.TheVariants.{Certificate, Crl}
use Rattle.ts_pem.specs.declared.fault.PemFault.{PemFault}
use Rattle.ts_pem.specs.declared.fault.PemFault.TheVariants.{OutOfMemory}
use Rattle.ts_pem.specs.Pem.{PemBlock, blocks_of, lines, is_begin}

abbrev pub block_in : Block → PemBlock
block_in b = record { label = b.label; octets = b.octets.items }

-- a call answers what a reading gives, or memory was refused
abbrev pub Gives : {X Y : Type 0} → (X → Y) → Result X PemFault → Result Y PemFault → Type 0
Gives view (Ok x) reading = reading ≡ Ok (view x)
Gives view (Err OutOfMemory) reading = Unit {0}
Gives view (Err fault) reading = reading ≡ Err fault

-- a text has a line that begins a block of whatever label
abbrev pub has_begin : List ℕ → Bool
has_begin octets = list_any (λ line. is_begin line) (lines octets)

-- the octets of the blocks of a label
abbrev pub is_labelled : Label → Label → Bool
is_labelled Certificate Certificate = true
is_labelled Certificate Crl = false
is_labelled Crl Certificate = false
is_labelled Crl Crl = true

abbrev pub labelled_of : Label → List PemBlock → List (List ℕ)
labelled_of label blocks = map (λ b. b.octets) (filter (λ b. is_labelled label b.label) blocks)

abbrev pub values_labelled : Label → Result (List PemBlock) PemFault → Result (List (List ℕ))
    PemFault
values_labelled label (Ok blocks) = Ok (labelled_of label blocks)
values_labelled label (Err fault) = Err fault

-- the values of a label that a file holds: of a text those of its blocks, and else the file as it
-- is
abbrev pub values_of : Label → List ℕ → Result (List (List ℕ)) PemFault
values_of label octets =
    if has_begin octets then values_labelled label (blocks_of octets) else Ok (octets ∷ [])
