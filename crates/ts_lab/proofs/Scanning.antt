-- Scanning piece by piece.
use Rattle.std.proofs.Common.{◌≡◌, ◌≢◌, ◌∙◌, refl, sym, ap, subst, ℕ, List, [], ◌∷◌, ◌++◌, Option, None, Some, Result, Ok, Err, OnOk, IfErr, IfSome, inl, inr, append-nil}
use Rattle.std.specs.Io.KnownBytes.{Appends, Consumes, IsAtEnd, Keeps}
use Rattle.std.proofs.KnownBytes.{Appends-nil}
use Rattle.ts_script.specs.declared.script.WrongLine.{WrongLine}
use Rattle.ts_script.specs.declared.script.LineFault.TheVariants.{Memory}
use Rattle.ts_script.specs.declared.script.TheConstants.{LINE_FEED}
use Rattle.ts_lab.specs.declared.scanner.Scanner.{Scanner}
use Rattle.ts_lab.specs.declared.scanner.Stop.{Stop}
use Rattle.ts_lab.specs.declared.scanner.Stop.TheVariants.{Wrong, Write}
use Rattle.ts_script.specs.Known.{Entry, known_in}
use Rattle.ts_lab.specs.Says.{Says, Refuses}
use Rattle.ts_lab.specs.Script.{Run}
use Rattle.ts_script.specs.Pieces.{onto_first, all_onto_first}
use Rattle.ts_lab.specs.inside.Lab.{IsRead, IsStep, done_in, fed_in}
use Rattle.ts_lab.specs.declared.stream.StreamFault.{StreamFault}
use Rattle.ts_lab.specs.declared.scanner.ScanStep.{ScanStep}
use Rattle.ts_lab.specs.declared.scanner.ScanStep.TheVariants.{More}
use Rattle.ts_lab.specs.inside.Scanner.{Ends, Owes, Scans, Finishes, Closes, IsScanOf}
use Rattle.ts_lab.proofs.Reading.{scans_begun, scans_forgotten}

-- an octet was taken, or there was no memory for it
pub scans_pushed : (T : Type 0) (r : Result T Stop) (old new : Scanner) (x : ℕ) (before : Option (List ℕ)) → (x ≢ LINE_FEED)
    → new.number ≡ old.number → new.known ≡ old.known → OnOk r (new.line.items ≡ old.line.items ++ x ∷ [])
    → IfErr r (λ stop. stop ≡ Wrong (record { number = old.number; fault = Memory })) → Scans {T = T} old new before before (x ∷ []) r
scans_pushed T (Ok _) old new x before other number known line fault = λ rest whole wrong e.
    let f = subst (λ n. Ends n (known_in new.known) new.line.items before rest whole wrong) number e in
    let g = subst (λ k. Ends old.number (known_in k) new.line.items before rest whole wrong) known f in
    let h = subst (λ l. Ends old.number (known_in old.known) l before rest whole wrong) line g in
    scans_begun old.number (known_in old.known) old.line.items x other before rest whole wrong h
scans_pushed T (Err stop) old new x before other number known line fault =
    subst (λ s. Scans {T = T} old new before before (x ∷ []) (Err s)) (sym fault)
    (λ rest. scans_forgotten old.number (known_in old.known) old.line.items x other before (record { number = old.number; fault = Memory }) refl refl rest)

-- a piece of which an octet ends what is scanned
pub scans_stopped : (T U : Type 0) (old mid new : Scanner) (start before after : Option (List ℕ)) (piece behind : List ℕ) (x : ℕ) (left : List ℕ) (stop : Stop)
    → ((rest : List ℕ) (whole : Option (List ℕ)) (wrong : Option WrongLine) → Owes mid before (left ++ rest) whole wrong → Owes old start (piece ++ rest) whole wrong)
    → left ≡ x ∷ behind → Scans {T = T} mid new before after (x ∷ []) (Err stop) → Scans {T = U} old new start after piece (Err stop)
scans_stopped T U old mid new start before after piece behind x left Write so_far split h = tt
scans_stopped T U old mid new start before after piece behind x left (Wrong w) so_far split h = λ rest.
    so_far rest after (Some w) (subst (λ l. Owes mid before (l ++ rest) after (Some w)) (sym split) (h (behind ++ rest)))

-- a line of which nothing follows
line_last : (x : ℕ) (xs : List ℕ) → all_onto_first (x ∷ xs) [] ≡ (x ∷ xs) ∷ []
line_last x [] = refl
line_last x (y ∷ ys) = ap (onto_first x) (line_last y ys)

-- the last line has ended and said its text
pub ends_last : (n : ℕ) (known after : List Entry) (line said : List ℕ) (before mid : Option (List ℕ)) → Says known line said after → Appends before mid said
    → Ends n known line before [] mid None
unfolding Ends
ends_last n known after [] said before mid says written = ([], (refl, refl), subst (Appends before mid) says.0 written)
ends_last n known after (x ∷ xs) said before mid says written =
    (said, subst (λ ls. Run n known ls said None) (sym (line_last x xs)) (inr (after, said, [], says, (refl, refl), sym (append-nil said))), written)

-- or is refused
pub ends_last_refused : (known : List Entry) (line : List ℕ) (contents : Option (List ℕ)) (w : WrongLine) → Refuses known line w.fault → (line ≢ [])
    → Ends w.number known line contents [] contents (Some w)
unfolding Ends
ends_last_refused known [] contents w refuses some = absurd (some refl)
ends_last_refused known (x ∷ xs) contents w refuses some =
    ([], subst (λ ls. Run w.number known ls [] (Some w)) (sym (line_last x xs)) (inl (w, refl, refl, refuses, refl)), Appends-nil contents)

-- what ending a script does
pub closes : (T : Type 0) (r : Result T Stop) (old new : Scanner) (before after : Option (List ℕ)) → old.line.items ≢ [] → Finishes {T = T} old new before after r → Closes {T = T} old before after r
closes T (Ok u) old new before after some h =
    ends_last old.number (known_in old.known) (known_in new.known) old.line.items h.text before after h.says h.written
closes T (Err Write) old new before after some h = tt
closes T (Err (Wrong w)) old new before after some h =
    let e = ends_last_refused (known_in old.known) old.line.items before w h.refuses some in
    let f = subst (λ n. Ends n (known_in old.known) old.line.items before [] before (Some w)) h.number e in
    subst (λ a. Owes old before [] a (Some w)) (sym h.silent) f

-- a script that ends where a line would begin
pub closes_empty : (n : ℕ) (known : List Entry) (line : List ℕ) (before : Option (List ℕ)) → line ≡ [] → Ends n known line before [] before None
unfolding Ends
closes_empty n known line before none = subst (λ l. Ends n known l before [] before None) (sym none) ([], (refl, refl), Appends-nil before)

-- a script was read to its end
read_to_end : (old : Scanner) (left now script start before after : Option (List ℕ)) (wrong : Option WrongLine) → Consumes left now [] → IsAtEnd now
    → Owes old before [] after wrong → IsScanOf script left start before old → IfSome script (λ xs. IsRead xs start after wrong)
unfolding Ends
read_to_end old left now None start before after wrong took end h scan = tt
read_to_end old None now (Some xs) start before after wrong took end h scan = absurd scan
read_to_end old (Some l) None (Some xs) start before after wrong took end h scan = absurd took
read_to_end old (Some l) (Some m) (Some xs) start before after wrong took end h scan =
    scan after wrong (subst (λ l. Ends old.number (known_in old.known) old.line.items before l after wrong) (sym (took ∙ end)) h)

pub step_done : (T : Type 0) (r : Result T Stop) (q : Result ScanStep StreamFault) (old new : Scanner) (left now before after : Option (List ℕ)) → q ≡ done_in r
    → Consumes left now [] → IsAtEnd now → Closes {T = T} old before after r → IsStep left now before after old new q
step_done T (Ok u) q old new left now before after is took end h =
    subst (IsStep left now before after old new) (sym is) (λ script start scan. read_to_end old left now script start before after None took end h scan)
step_done T (Err Write) q old new left now before after is took end h = subst (IsStep left now before after old new) (sym is) tt
step_done T (Err (Wrong w)) q old new left now before after is took end h =
    subst (IsStep left now before after old new) (sym is) (λ script start scan. read_to_end old left now script start before after (Some w) took end h scan)

-- a piece has a wrong line
read_stopped : (old : Scanner) (left now script start before after : Option (List ℕ)) (piece : List ℕ) (wrong : Option WrongLine) → Consumes left now piece
    → ((rest : List ℕ) → Owes old before (piece ++ rest) after wrong) → IsScanOf script left start before old → IfSome script (λ xs. IsRead xs start after wrong)
unfolding Ends
read_stopped old left now None start before after piece wrong took h scan = tt
read_stopped old None now (Some xs) start before after piece wrong took h scan = absurd scan
read_stopped old (Some l) None (Some xs) start before after piece wrong took h scan = absurd took
read_stopped old (Some l) (Some m) (Some xs) start before after piece wrong took h scan =
    scan after wrong (subst (λ l. Ends old.number (known_in old.known) old.line.items before l after wrong) (sym took) (h m))

-- or none
read_on : (old new : Scanner) (left now script start before after : Option (List ℕ)) (piece : List ℕ) → Consumes left now piece
    → ((rest : List ℕ) (whole : Option (List ℕ)) (wrong : Option WrongLine) → Owes new after rest whole wrong → Owes old before (piece ++ rest) whole wrong)
    → IsScanOf script left start before old → IsScanOf script now start after new
read_on old new left now None start before after piece took h scan = tt
read_on old new None now (Some xs) start before after piece took h scan = absurd scan
read_on old new (Some l) None (Some xs) start before after piece took h scan = absurd took
read_on old new (Some l) (Some m) (Some xs) start before after piece took h scan = λ whole wrong e.
    scan whole wrong (subst (λ l. Ends old.number (known_in old.known) old.line.items before l whole wrong) (sym took) (h m whole wrong e))

pub step_fed : (T : Type 0) (r : Result T Stop) (q : Result ScanStep StreamFault) (old new : Scanner) (left now before after : Option (List ℕ)) (piece : List ℕ) → q ≡ fed_in r
    → Consumes left now piece → Scans {T = T} old new before after piece r → IsStep left now before after old new q
step_fed T (Ok u) q old new left now before after piece is took h =
    subst (IsStep left now before after old new) (sym is) (λ script start scan. read_on old new left now script start before after piece took h scan)
step_fed T (Err Write) q old new left now before after piece is took h = subst (IsStep left now before after old new) (sym is) tt
step_fed T (Err (Wrong w)) q old new left now before after piece is took h =
    subst (IsStep left now before after old new) (sym is) (λ script start scan. read_stopped old left now script start before after piece (Some w) took h scan)

idle_unknown : (s : Scanner) (script : Option (List ℕ)) (m : List ℕ) (start before : Option (List ℕ)) → IsScanOf script None start before s → IsScanOf script (Some m) start before s
idle_unknown s None m start before scan = tt
idle_unknown s (Some xs) m start before scan = absurd scan

-- nothing was read
pub step_idle : (q : Result ScanStep StreamFault) (s : Scanner) (left now before : Option (List ℕ)) → q ≡ Ok More → Keeps left now → IsStep left now before before s s q
step_idle q s None None before is keeps = subst (IsStep None None before before s s) (sym is) (λ script start scan. scan)
step_idle q s None (Some m) before is keeps = subst (IsStep None (Some m) before before s s) (sym is) (λ script start scan. idle_unknown s script m start before scan)
step_idle q s (Some l) None before is keeps = absurd keeps
step_idle q s (Some l) (Some m) before is keeps =
    subst (IsStep (Some l) (Some m) before before s s) (sym is) (λ script start scan. subst (λ n. IsScanOf script (Some n) start before s) (sym keeps) scan)
