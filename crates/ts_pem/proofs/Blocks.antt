-- The reading of lines gives the blocks of the relation.
use Rattle.std.proofs.Common.{◌≡◌, ℕ, ◌+◌, Bool, true, false, List, [], ◌∷◌, ◌++◌, refl, ap, sym, ◌∙◌, subst, append_assoc}
use Rattle.std.specs.Prelude.{Option, Some, None, Result, Ok, Err, IfOk, MatchResult}
use Rattle.std.specs.List.{list_all, AllByRecursion}
use Rattle.std.specs.Str.{bytes_eq}
use Rattle.std.proofs.lemmas.List.{append-nil}
use Rattle.ts_pem.specs.declared.block.Label.{Label}
use Rattle.ts_pem.specs.declared.fault.PemFault.{PemFault}
use Rattle.ts_pem.specs.declared.fault.PemFault.TheVariants.{NoEnd, NoBegin, OtherEnd, NotBase64, OutOfMemory}
use Rattle.ts_pem.specs.Pem.{Reading, PemBlock, Open, without_blanks, blocks_from}
use Rattle.ts_pem.specs.Pem.{label_of, end_line, is_end}
use Rattle.ts_pem.specs.Pem.{is_begin, is_stray, is_symbol, decode, blocks_of, lines}
use Rattle.ts_pem.specs.Files.{Gives}
use Rattle.ts_pem.specs.Blocks.{AreBlocks, IsOutside, IsInside, base64_of}
use Rattle.ts_pem.proofs.Symbols.{not_own_end, not_end, not_begin}

-- the reading outside of all blocks, and within one
abbrev pub out_of : List PemBlock → Reading
out_of done = record { blocks = done; open_block = None }

abbrev pub within : List PemBlock → Open → Reading
within done o = record { blocks = done; open_block = Some o }

-- a line that begins no block is passed over
over_one : (n : ℕ) (line : List ℕ) (rest : List (List ℕ)) (done : List PemBlock) → IsOutside line
    → blocks_from n (line ∷ rest) (out_of done) ≡ blocks_from (n + 1) rest (out_of done)
unfolding blocks_from
over_one n line rest done none =
    rw (none.0, none.1) refl

-- a line of base64 is put behind those before
take_one : (n : ℕ) (line : List ℕ) (rest : List (List ℕ)) (done : List PemBlock) (o : Open)
    → IsInside line → blocks_from n (line ∷ rest) (within done o)
    ≡ blocks_from (n + 1) rest (within done (record o { body = o.body ++ without_blanks line }))
unfolding blocks_from
take_one n line rest done o all =
    let a = not_own_end o.label (without_blanks line) all in
    let b = not_end (without_blanks line) all in
    let d = not_begin (without_blanks line) all in
    rw (a, b, d, all) refl

begins_one : (n : ℕ) (line : List ℕ) (rest : List (List ℕ)) (done : List PemBlock) (label : Label)
    → label_of (without_blanks line) ≡ Some label → blocks_from n (line ∷ rest) (out_of done)
    ≡ blocks_from (n + 1) rest (within done (record { label = label; line = n; body = [] }))
unfolding blocks_from
begins_one n line rest done label is =
    rw is refl

ends_one : (n : ℕ) (line : List ℕ) (rest : List (List ℕ)) (done : List PemBlock) (o : Open)
    (octets : List ℕ) → bytes_eq (without_blanks line) (end_line o.label) ≡ true
    → decode o.body ≡ Some octets → blocks_from n (line ∷ rest) (within done o)
    ≡ blocks_from (n + 1) rest (out_of (done ++ record { label = o.label; octets = octets } ∷ []))
unfolding blocks_from
ends_one n line rest done o octets is encodes = rw (is, encodes) refl

-- ---- the blocks of the relation are read

skip : (before rest : List (List ℕ)) (n : ℕ) (done : List PemBlock) → AllByRecursion IsOutside before
    → (m : ℕ) × (blocks_from n (before ++ rest) (out_of done) ≡ blocks_from m rest (out_of done))
skip [] rest n done all = (n, refl)
skip (line ∷ before) rest n done all =
    let h = skip before rest (n + 1) done all.1 in
    (h.0, over_one n line (before ++ rest) done all.0 ∙ h.1)

gather : (body rest : List (List ℕ)) (n : ℕ) (done : List PemBlock) (o : Open)
    → AllByRecursion IsInside body → (m : ℕ) × (blocks_from n (body ++ rest) (within done o)
    ≡ blocks_from m rest (within done (record o { body = o.body ++ base64_of body })))
gather [] rest n done o all =
    (n, ap (λ (b : List ℕ). blocks_from n rest (within done (record o { body = b }))) (sym (append-nil o.body)))
gather (line ∷ body) rest n done o all =
    let next : Open = record o { body = o.body ++ without_blanks line } in
    let h = gather body rest (n + 1) done next all.1 in (
      h.0,
      take_one n line (body ++ rest) done o all.0 ∙ h.1
          ∙ ap (λ (b : List ℕ). blocks_from h.0 rest (within done (record o { body = b })))
          (append_assoc o.body (without_blanks line) (base64_of body)),
    )

over_all : (lines : List (List ℕ)) (n : ℕ) (done : List PemBlock) → AllByRecursion IsOutside lines
    → blocks_from n lines (out_of done) ≡ Ok done
unfolding blocks_from
over_all [] n done all = refl
over_all (line ∷ lines) n done all =
    over_one n line lines done all.0 ∙ over_all lines (n + 1) done all.1

pub are_read : (blocks : List PemBlock) (lines : List (List ℕ)) (n : ℕ) (done : List PemBlock)
    → AreBlocks lines blocks → blocks_from n lines (out_of done) ≡ Ok (done ++ blocks)
are_read [] lines n done all = over_all lines n done all ∙ ap Ok (sym (append-nil done))
are_read (block ∷ blocks) lines n done h =
    let f = h.1 in
    let o : ℕ → Open = λ m. record { label = block.label; line = m; body = [] } in
    let s = skip f.before (f.begin ∷ (f.body ++ f.end ∷ h.0)) n done f.outside in
    let b = begins_one s.0 f.begin (f.body ++ f.end ∷ h.0) done block.label f.begins in
    let g = gather f.body (f.end ∷ h.0) (s.0 + 1) done (o s.0) f.inside in
    let e = ends_one g.0 f.end h.0 done (record (o s.0) { body = base64_of f.body }) block.octets
    f.ends f.encodes in
    ap (λ (ls : List (List ℕ)). blocks_from n ls (out_of done)) f.lines_are ∙ s.1 ∙ b ∙ g.1 ∙ e
    ∙ are_read blocks h.0 (g.0 + 1) (done ++ block ∷ []) h.2
    ∙ ap Ok (append_assoc done (block ∷ []) blocks)

-- ---- what is read are the blocks of the relation

-- the rest of a block that is open, and the blocks after it
record Closes (lines : List (List ℕ)) (done : List PemBlock) (o : Open) (all : List PemBlock)
    : Type 0 where
  body : List (List ℕ)
  end : List ℕ
  rest : List (List ℕ)
  octets : List ℕ
  blocks : List PemBlock
  lines_are : lines ≡ body ++ end ∷ rest
  inside : AllByRecursion IsInside body
  encodes : decode (o.body ++ base64_of body) ≡ Some octets
  ends : bytes_eq (without_blanks end) (end_line o.label) ≡ true
  all_are : all ≡ done ++ record { label = o.label; octets = octets } ∷ blocks
  are_blocks : AreBlocks rest blocks

-- the claims on lines that are read to their end, outside of all blocks and within one
abbrev Out : List (List ℕ) → Type 0
Out lines = (n : ℕ) (done all : List PemBlock) → blocks_from n lines (out_of done) ≡ Ok all
    → (blocks : List PemBlock) × (all ≡ done ++ blocks) × AreBlocks lines blocks

abbrev In : List (List ℕ) → Type 0
In lines = (n : ℕ) (done : List PemBlock) (o : Open) (all : List PemBlock)
    → blocks_from n lines (within done o) ≡ Ok all → Closes lines done o all

passed : (line : List ℕ) (lines : List (List ℕ)) (blocks : List PemBlock) → IsOutside line
    → AreBlocks lines blocks → AreBlocks (line ∷ lines) blocks
passed line lines [] none all = (none, all)
passed line lines (block ∷ blocks) none h = (
  h.0,
  record {
    before = line ∷ h.1.before;
    begin = h.1.begin;
    body = h.1.body;
    end = h.1.end;
    lines_are = ap (λ (ls : List (List ℕ)). line ∷ ls) h.1.lines_are;
    outside = (none, h.1.outside);
    begins = h.1.begins;
    inside = h.1.inside;
    encodes = h.1.encodes;
    ends = h.1.ends;
  },
  h.2,
)

-- a line that ends a block where none is open is a fault
no_begin : (n : ℕ) (line : List ℕ) (rest : List (List ℕ)) (done : List PemBlock) → label_of (without_blanks line) ≡ None
    → is_stray (without_blanks line) ≡ true → blocks_from n (line ∷ rest) (out_of done) ≡ Err (NoBegin n)
unfolding blocks_from
no_begin n line rest done none stray = rw (none, stray) refl

err_ok : (r : Result (List PemBlock) PemFault) (fault : PemFault) (all : List PemBlock)
    → r ≡ Err fault → r ≡ Ok all → ⊥
err_ok r fault all e f = cc

out_case : (line : List ℕ) (lines : List (List ℕ)) → Out lines → In lines → (n : ℕ)
    (done all : List PemBlock) → blocks_from n (line ∷ lines) (out_of done) ≡ Ok all
    → (o : Option Label) (stray : Bool) → label_of (without_blanks line) ≡ o → is_stray (without_blanks line) ≡ stray
    → (blocks : List PemBlock) × (all ≡ done ++ blocks) × AreBlocks (line ∷ lines) blocks
out_case line lines out in' n done all e None true is stray = absurd (err_ok _ _ all (no_begin n line lines done is stray) e)
out_case line lines out in' n done all e None false is stray =
    let h = out (n + 1) done all (sym (over_one n line lines done (is, stray)) ∙ e) in
    (h.0, h.1, passed line lines h.0 (is, stray) h.2)
out_case line lines out in' n done all e (Some label) any is stray =
    let o : Open = record { label = label; line = n; body = [] } in
    let h = in' (n + 1) done o all (sym (begins_one n line lines done label is) ∙ e) in (
      record { label = label; octets = h.octets } ∷ h.blocks,
      h.all_are,
      (
        h.rest,
        record {
          before = [];
          begin = line;
          body = h.body;
          end = h.end;
          lines_are = ap (λ (ls : List (List ℕ)). line ∷ ls) h.lines_are;
          outside = tt;
          begins = is;
          inside = h.inside;
          encodes = h.encodes;
          ends = h.ends;
        },
        h.are_blocks,
      ),
    )

-- a block that ends with no base64 is a fault
not_decoded : (n : ℕ) (line : List ℕ) (rest : List (List ℕ)) (done : List PemBlock) (o : Open)
    → bytes_eq (without_blanks line) (end_line o.label) ≡ true → decode o.body ≡ None
    → blocks_from n (line ∷ rest) (within done o) ≡ Err (NotBase64 n)
unfolding blocks_from
not_decoded n line rest done o is none = rw (is, none) refl

-- and so is a line that is neither the end nor base64
not_inside : (n : ℕ) (line : List ℕ) (rest : List (List ℕ)) (done : List PemBlock) (o : Open)
    → bytes_eq (without_blanks line) (end_line o.label) ≡ false → list_all is_symbol (without_blanks line) ≡ false
    → (a b : Bool) → is_end (without_blanks line) ≡ a → is_begin (without_blanks line) ≡ b
    → (fault : PemFault) × (blocks_from n (line ∷ rest) (within done o) ≡ Err fault)
unfolding blocks_from
not_inside n line rest done o other odd true b ends begins = (OtherEnd n, rw (other, ends) refl)
not_inside n line rest done o other odd false true ends begins =
    (NoEnd o.line, rw (other, ends, begins) refl)
not_inside n line rest done o other odd false false ends begins =
    (NotBase64 n, rw (other, ends, begins, odd) refl)

in_case : (line : List ℕ) (lines : List (List ℕ)) → Out lines → In lines → (n : ℕ)
    (done : List PemBlock) (o : Open) (all : List PemBlock)
    → blocks_from n (line ∷ lines) (within done o) ≡ Ok all → (own all_symbols : Bool)
    (octets : Option (List ℕ)) → bytes_eq (without_blanks line) (end_line o.label) ≡ own
    → list_all is_symbol (without_blanks line) ≡ all_symbols → decode o.body ≡ octets
    → Closes (line ∷ lines) done o all
in_case line lines out in' n done o all e true symbols None own is none =
    absurd (err_ok _ _ all (not_decoded n line lines done o own none) e)
in_case line lines out in' n done o all e true symbols (Some octets) own is encodes =
    let block : PemBlock = record { label = o.label; octets = octets } in
    let h = out (n + 1) (done ++ block ∷ []) all (sym (ends_one n line lines done o octets own encodes) ∙ e) in
    record {
      body = [];
      end = line;
      rest = lines;
      octets = octets;
      blocks = h.0;
      lines_are = refl;
      inside = tt;
      encodes = ap decode (append-nil o.body) ∙ encodes;
      ends = own;
      all_are = h.1 ∙ append_assoc done (block ∷ []) h.0;
      are_blocks = h.2;
    }
in_case line lines out in' n done o all e false true octets own is encodes =
    let next : Open = record o { body = o.body ++ without_blanks line } in
    let h = in' (n + 1) done next all (sym (take_one n line lines done o is) ∙ e) in
    record {
      body = line ∷ h.body;
      end = h.end;
      rest = h.rest;
      octets = h.octets;
      blocks = h.blocks;
      lines_are = ap (λ (ls : List (List ℕ)). line ∷ ls) h.lines_are;
      inside = (is, h.inside);
      encodes = ap decode (sym (append_assoc o.body (without_blanks line) (base64_of h.body))) ∙ h.encodes;
      ends = h.ends;
      all_are = h.all_are;
      are_blocks = h.are_blocks;
    }
in_case line lines out in' n done o all e false false octets own is encodes =
    let h = not_inside n line lines done o own is (is_end (without_blanks line)) (is_begin (without_blanks line)) refl refl in
    absurd (err_ok _ h.0 all h.1 e)

claims : (lines : List (List ℕ)) → Out lines × In lines
unfolding blocks_from
claims [] = (
  λ n done all e. let same : done ≡ all = cc in ([], sym same ∙ sym (append-nil done), tt),
  λ n done o all e. absurd (err_ok _ _ all refl e),
)
claims (line ∷ lines) =
    let h = claims lines in (
      λ n done all e. out_case line lines h.0 h.1 n done all e (label_of (without_blanks line)) (is_stray (without_blanks line)) refl refl,
      λ n done o all e. in_case line lines h.0 h.1 n done o all e
          (bytes_eq (without_blanks line) (end_line o.label)) (list_all is_symbol (without_blanks line))
          (decode o.body) refl refl refl,
    )

pub are_blocks : (lines : List (List ℕ)) (blocks : List PemBlock)
    → blocks_from 1 lines (out_of []) ≡ Ok blocks → AreBlocks lines blocks
are_blocks lines blocks e =
    let h = (claims lines).0 1 [] blocks e in subst (AreBlocks lines) (sym h.1) h.2

-- ---- what a call answers

pub found_of : {V : Type 0} (view : V → List PemBlock) (r : Result V PemFault) (text : List ℕ)
    → Gives view r (blocks_of text) → IfOk r (λ v. AreBlocks (lines text) (view v))
found_of view (Ok v) text h = are_blocks (lines text) (view v) h
found_of view (Err fault) text h = tt

pub only_of : {V : Type 0} (view : V → List PemBlock) (r : Result V PemFault) (text : List ℕ)
    → Gives view r (blocks_of text) → (blocks : List PemBlock) → AreBlocks (lines text) blocks
    → MatchResult r (λ v. view v ≡ blocks) (λ fault. fault ≡ OutOfMemory)
only_of view (Ok v) text h blocks all =
    let e = are_read blocks (lines text) 1 [] all in
    let same : Ok (view v) ≡ Ok blocks = sym h ∙ e in cc
only_of view (Err OutOfMemory) text h blocks all = refl
only_of view (Err (NoEnd n)) text h blocks all = absurd (err_ok _ _ _ h (are_read blocks (lines text) 1 [] all))
only_of view (Err (NoBegin n)) text h blocks all = absurd (err_ok _ _ _ h (are_read blocks (lines text) 1 [] all))
only_of view (Err (OtherEnd n)) text h blocks all = absurd (err_ok _ _ _ h (are_read blocks (lines text) 1 [] all))
only_of view (Err (NotBase64 n)) text h blocks all = absurd (err_ok _ _ _ h (are_read blocks (lines text) 1 [] all))
