-- The blocks of lines, line by line.
use Rattle.std.proofs.Common.{◌≡◌, ℕ, ◌+◌, List, [], ◌∷◌, refl, ap, sym, ◌∙◌}
use Rattle.std.specs.Prelude.{Result, Ok, Err}
use Rattle.ts_pem.specs.declared.fault.PemFault.{PemFault}
use Rattle.ts_pem.specs.declared.fault.PemFault.TheVariants.{NoEnd, NoBegin, OtherEnd, NotBase64, OutOfMemory}
use Rattle.ts_pem.specs.Pem.{Reading, PemBlock, step, without_blanks, blocks_from, at_end, and_then}
use Rattle.ts_pem.specs.Files.{Gives}

pub is_done : (n : ℕ) (r : Reading) → blocks_from n [] r ≡ at_end r.blocks r.open_block
unfolding blocks_from
is_done n r = refl

-- a fault of one reading is that of another
pub Gives-fault : {X Y Z W : Type 0} (view : X → Y) (other : Z → W) (fault : PemFault)
    (s : Result Y PemFault) (t : Result W PemFault)
    → (s ≡ Err fault → t ≡ Err fault) → Gives view (Err fault) s → Gives other (Err fault) t
Gives-fault view other (NoEnd line) s t passes given = passes given
Gives-fault view other (NoBegin line) s t passes given = passes given
Gives-fault view other (OtherEnd line) s t passes given = passes given
Gives-fault view other (NotBase64 line) s t passes given = passes given
Gives-fault view other OutOfMemory s t passes given = tt

-- the reading of a whole text, at its next line
at_line : (n : ℕ) (all : List (List ℕ)) (line cut : List ℕ) (rest : List (List ℕ)) (r : Reading)
    (whole : Result (List PemBlock) PemFault) → whole ≡ blocks_from n all r → all ≡ line ∷ rest
    → cut ≡ without_blanks line
    → whole ≡ and_then (step n cut r.blocks r.open_block) (blocks_from (n + 1) rest)
unfolding blocks_from
at_line n all line cut rest r whole same split trim =
    same ∙ ap (λ (ls : List (List ℕ)). blocks_from n ls r) split
    ∙ ap (λ (t : List ℕ). and_then (step n t r.blocks r.open_block) (blocks_from (n + 1) rest))
    (sym trim)

after : (s : Result Reading PemFault) (t : Result Reading PemFault)
    (next : Reading → Result (List PemBlock) PemFault) → s ≡ t → and_then s next ≡ and_then t next
after s t next is = ap (λ (u : Result Reading PemFault). and_then u next) is

-- it goes on with the rest
pub goes_on : (n : ℕ) (all : List (List ℕ)) (line cut : List ℕ) (rest : List (List ℕ))
    (r next : Reading) (whole : Result (List PemBlock) PemFault) → whole ≡ blocks_from n all r
    → all ≡ line ∷ rest → cut ≡ without_blanks line → step n cut r.blocks r.open_block ≡ Ok next
    → whole ≡ blocks_from (n + 1) rest next
goes_on n all line cut rest r next whole same split trim is =
    at_line n all line cut rest r whole same split trim
    ∙ after (step n cut r.blocks r.open_block) (Ok next) (blocks_from (n + 1) rest) is

-- or the line has the fault of the text
pub breaks_off : {X : Type 0} (n : ℕ) (all : List (List ℕ)) (line cut : List ℕ)
    (rest : List (List ℕ)) (r : Reading) (whole : Result (List PemBlock) PemFault)
    (fault : PemFault) (view : X → List PemBlock) → whole ≡ blocks_from n all r
    → all ≡ line ∷ rest → cut ≡ without_blanks line
    → Gives (λ (x : Reading). x) (Err fault) (step n cut r.blocks r.open_block)
    → Gives view (Err fault) whole
breaks_off n all line cut rest r whole fault view same split trim given =
    Gives-fault (λ (x : Reading). x) view fault (step n cut r.blocks r.open_block) whole
    (λ (e : step n cut r.blocks r.open_block ≡ Err fault).
    at_line n all line cut rest r whole same split trim
    ∙ after (step n cut r.blocks r.open_block) (Err fault) (blocks_from (n + 1) rest) e) given

-- after the last line the reading is at its end
pub ends : (n : ℕ) (all : List (List ℕ)) (line cut : List ℕ) (r next : Reading)
    (whole : Result (List PemBlock) PemFault) → whole ≡ blocks_from n all r → all ≡ line ∷ []
    → cut ≡ without_blanks line → step n cut r.blocks r.open_block ≡ Ok next
    → whole ≡ at_end next.blocks next.open_block
ends n all line cut r next whole same split trim is =
    goes_on n all line cut [] r next whole same split trim is ∙ is_done (n + 1) next
