-- Lines that are read octet by octet.
use Rattle.std.proofs.Common.{◌≡◌, ◌∙◌, refl, sym, ap, subst, inl, inr, ℕ, ◌+◌, List, [], ◌∷◌, ◌++◌, Option, Some, ◌≢◌, Err, rules}
use Rattle.std.specs.Io.KnownBytes.{Appends}
use Rattle.std.proofs.KnownBytes.{Appends-nil, Appends-trans}
use Rattle.ts_script.specs.declared.script.WrongLine.{WrongLine}
use Rattle.ts_script.specs.declared.script.TheConstants.{LINE_FEED}
use Rattle.ts_lab.specs.declared.scanner.Scanner.{Scanner}
use Rattle.ts_script.specs.Pieces.{onto_first, all_onto_first}
use Rattle.ts_script.specs.Known.{Entry, known_in}
use Rattle.ts_script.specs.CheckLine.{RefusesCheck}
use Rattle.ts_script.specs.Objects.{a_certificate, a_crl, Refuses as RefusesObject}
use Rattle.ts_lab.specs.Says.{Says, Refuses, RefusesAs, Kind, skipped, cert_kind, crl_kind, check_kind, node_kind, unknown_kind, kind_of, RefusesNodes}
use Rattle.ts_script.specs.declared.script.LineFault.{LineFault}
use Rattle.ts_lab.specs.Script.{lines_of, Run}
use Rattle.ts_lab.specs.declared.scanner.Stop.{Stop}
use Rattle.ts_lab.specs.declared.scanner.Stop.TheVariants.{Wrong, Write}
use Rattle.ts_script.specs.declared.script.LineFault.TheVariants.{Memory}
use Rattle.ts_lab.specs.inside.Scanner.{Ends, Owes, Scans, Finishes, HasSaid}

-- a line that has ended
pub line_ended : (line : List ℕ) (lines : List (List ℕ)) → all_onto_first line ([] ∷ lines) ≡ line ∷ lines
line_ended [] lines = refl
line_ended (x ∷ xs) lines = ap (onto_first x) (line_ended xs lines)

-- one that has not
pub line_begun : (line : List ℕ) (x : ℕ) (lines : List (List ℕ)) → all_onto_first (line ++ x ∷ []) lines ≡ all_onto_first line (onto_first x lines)
line_begun [] x lines = refl
line_begun (y ∷ ys) x lines = ap (onto_first y) (line_begun ys x lines)

-- an octet that ends no line begins the first one
begun_lines : (x : ℕ) (xs : List ℕ) → (x ≢ LINE_FEED) → lines_of (x ∷ xs) ≡ onto_first x (lines_of xs)
begun_lines x xs other = search (rules, other)

-- there is a first line
first_exists : (line : List ℕ) (x : ℕ) (ps : List (List ℕ)) → (l : List ℕ) × (ls : List (List ℕ)) × (all_onto_first line (onto_first x ps) ≡ l ∷ ls)
first_exists [] x [] = (x ∷ [], [], refl)
first_exists [] x (p ∷ ps) = (x ∷ p, ps, refl)
first_exists (y ∷ ys) x ps = let f = first_exists ys x ps in (y ∷ f.0, f.1, ap (onto_first y) f.2)

-- the line has ended and said its text
pub ends_said : (n : ℕ) (known after : List Entry) (line said : List ℕ) (before mid : Option (List ℕ)) → Says known line said after → Appends before mid said
    → (rest : List ℕ) (whole : Option (List ℕ)) (wrong : Option WrongLine) → Ends (n + 1) after [] mid rest whole wrong → Ends n known line before (LINE_FEED ∷ rest) whole wrong
unfolding Ends
ends_said n known after line said before mid says written rest whole wrong e = (
  said ++ e.0,
  subst (λ lines. Run n known lines (said ++ e.0) wrong) (sym (line_ended line (lines_of rest))) (inr (after, said, e.0, says, e.1, refl)),
  Appends-trans before mid whole said e.0 written e.2,
)

-- the line has ended and is refused
pub ends_refused : (known : List Entry) (line : List ℕ) (contents : Option (List ℕ)) (w : WrongLine) → Refuses known line w.fault
    → (rest : List ℕ) → Ends w.number known line contents (LINE_FEED ∷ rest) contents (Some w)
unfolding Ends
ends_refused known line contents w refuses rest = (
  [],
  subst (λ lines. Run w.number known lines [] (Some w)) (sym (line_ended line (lines_of rest))) (inl (w, refl, refl, refuses, refl)),
  Appends-nil contents,
)

-- a line that is refused ends what is scanned
pub scans_refused : (T U : Type 0) (old mid new : Scanner) (before after : Option (List ℕ)) (stop : Stop)
    → Finishes {T = T} old mid before after (Err stop) → Scans {T = U} old new before after (LINE_FEED ∷ []) (Err stop)
scans_refused T U old mid new before after Write h = tt
scans_refused T U old mid new before after (Wrong w) h = λ rest.
    subst (λ a. Owes old before (LINE_FEED ∷ rest) a (Some w)) (sym h.silent)
    (subst (λ n. Ends n (known_in old.known) old.line.items before (LINE_FEED ∷ rest) before (Some w)) h.number
    (ends_refused (known_in old.known) old.line.items before w h.refuses rest))

-- a line that said its text is behind what is scanned
pub scans_said : (old mid new : Scanner) (before after : Option (List ℕ)) → HasSaid old mid before after
    → new.number ≡ old.number + 1 → new.line.items ≡ [] → new.known ≡ mid.known
    → (rest : List ℕ) (whole : Option (List ℕ)) (wrong : Option WrongLine) → Owes new after rest whole wrong → Owes old before (LINE_FEED ∷ rest) whole wrong
scans_said old mid new before after h number line known rest whole wrong e =
    let f = subst (λ n. Ends n (known_in new.known) new.line.items after rest whole wrong) number e in
    let g = subst (λ l. Ends (old.number + 1) (known_in new.known) l after rest whole wrong) line f in
    let k = subst (λ s. Ends (old.number + 1) (known_in s) [] after rest whole wrong) known g in
    ends_said old.number (known_in old.known) (known_in mid.known) old.line.items h.text before after h.says h.written rest whole wrong k

-- an octet that does not end the line
pub scans_begun : (n : ℕ) (known : List Entry) (line : List ℕ) (x : ℕ) → (x ≢ LINE_FEED) → (before : Option (List ℕ))
    → (rest : List ℕ) (whole : Option (List ℕ)) (wrong : Option WrongLine) → Ends n known (line ++ x ∷ []) before rest whole wrong → Ends n known line before (x ∷ rest) whole wrong
unfolding Ends
scans_begun n known line x other before rest whole wrong e =
    (e.0, subst (λ lines. Run n known lines e.0 wrong) (line_begun line x (lines_of rest) ∙ ap (all_onto_first line) (sym (begun_lines x rest other))) e.1, e.2)

-- any line may be refused when out of memory
forgotten : (kind : Kind) (known : List Entry) (line : List ℕ) (fault : LineFault) → fault ≡ Memory → RefusesAs kind known line fault
forgotten skipped known line fault is = is
forgotten cert_kind known line fault is = subst (RefusesObject a_certificate known line) (sym is) tt
forgotten crl_kind known line fault is = subst (RefusesObject a_crl known line) (sym is) tt
forgotten check_kind known line fault is = subst RefusesCheck (sym is) tt
forgotten node_kind known line fault is = subst RefusesNodes (sym is) tt
forgotten unknown_kind known line fault is = inr is

-- the octets of a line that no memory was had for
pub scans_forgotten : (n : ℕ) (known : List Entry) (line : List ℕ) (x : ℕ) → (x ≢ LINE_FEED) → (before : Option (List ℕ)) (w : WrongLine) → w.number ≡ n → w.fault ≡ Memory
    → (rest : List ℕ) → Ends n known line before (x ∷ rest) before (Some w)
unfolding Ends
scans_forgotten n known line x other before w number fault rest =
    let first = first_exists line x (lines_of rest) in
    let lines = ap (all_onto_first line) (begun_lines x rest other) ∙ first.2 in
    let refuses = forgotten (kind_of first.0) known first.0 w.fault fault in
    ([], subst (λ ls. Run n known ls [] (Some w)) (sym lines) (inl (w, refl, number, refuses, refl)), Appends-nil before)
