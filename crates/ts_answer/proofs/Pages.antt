-- The rows of a page are in their ranges.
use Rattle.std.proofs.Common.{◌≡◌, ◌∙◌, ◌≤◌, ◌<◌, ◌+◌, ℕ, suc, zero, true, Bool, false, List, []}
use Rattle.std.proofs.Common.{◌∷◌, ◌++◌, map, take, drop, length, sym, ap, subst, arith}
use Rattle.std.proofs.Common.{length-append, length-take, Option, Some, None, Result, Ok, Err}
use Rattle.std.proofs.Common.{if◌then◌else◌}
use Rattle.std.specs.Prelude.{nat_le, IfOk, OnOk, OnErr, not}
use Rattle.std.specs.Int.{to_be_bytes, w16, w32}
use Rattle.std.specs.List.{AllByRecursion, remove, find}
use Rattle.std.proofs.lemmas.Bool.{le-leb}
use Rattle.sha2.specs.Sha256.{sha256}
use Rattle.sha2.proofs.Facts256.{length-sha256}
use Rattle.ts_codec.specs.Parts.{blob16}
use Rattle.ts_codec.proofs.Truths.{both_true, all_true}
use Rattle.ts_crl.specs.Fault.{ListFault}
use Rattle.ts_crl.specs.List.{CertificateList}
use Rattle.ts_crl.specs.Profile.{is_delta}
use Rattle.ts_crl.specs.Table.{crl_of}
use Rattle.ts_question.specs.declared.reply.Reply.{Reply}
use Rattle.ts_question.specs.Rows.{AnchorLine, CrlLine, CommandLine, anchor_encoding, crl_encoding, command_encoding, moment_encoding}
use Rattle.ts_store.specs.Anchors.{add_unless, new_anchor, new_refusal, place_of, refuse_if, set_at, with_purposes, withdraw_at}
use Rattle.ts_command.specs.Commands.{CommandFits, id_of}
use Rattle.ts_store.specs.Ids.{first_of}
use Rattle.ts_store.specs.Lists.{drop_at, drop_list, has_id, has_slot, is_newer, list_in, place_by, put_by, put_list, replace_slot, stored_crl}
use Rattle.ts_store.specs.Store.{StoreState, step, step_by, make, after, store_after, empty}
use Rattle.ts_store.specs.Tables.{Tables, change, drop_either, load_as, with_anchors, with_complete, with_deltas}
use Rattle.ts_store.specs.declared.anchor.TrustAnchor.{TrustAnchor}
use Rattle.ts_store.specs.declared.stored.StoredCrl.{StoredCrl}
use Rattle.ts_command.specs.declared.command.Command.{Command}
use Rattle.ts_command.specs.declared.command.Command.TheVariants.{AddAnchor, WithdrawAnchor, LoadCrl, DropCrl, SetPurposes, Noop}
use Rattle.ts_store.specs.declared.ids.FirstCommand.{FirstCommand}
use Rattle.ts_command.specs.declared.outcome.Outcome.{Outcome}
use Rattle.ts_command.specs.declared.outcome.Refusal.{Refusal}
use Rattle.ts_store.specs.Outcome.{outcome_after}
use Rattle.ts_store.specs.Contents.{Contents, contents_of}
use Rattle.ts_listing.specs.Listing.{anchor_row, anchor_rows, crl_row, crl_rows, first_octets, listing, store_rows}
use Rattle.ts_listing.specs.Log.{about_of, command_row, log_from, log_rows}
use Rattle.ts_listing.specs.Page.{page}
use Rattle.ts_answer.specs.inside.Ranges.{AreTaken, InRange}
use Rattle.ts_answer.proofs.Alls.{all_append, all_front, all_behind, all_mapped}

abbrev IsShort : List ℕ → Type 0
IsShort row = length row ≤ 65535

-- a page of short rows
pub page_in_range : (from : ℕ) (rows : List (List ℕ)) → AllByRecursion IsShort rows → InRange (page from rows)
page_in_range from rows short k =
    both_true _ _ (le-leb (length (take 64 (drop from rows))) 64 (omega (arith, length-take 64 (drop from rows))))
    (all_true (λ (r : List ℕ). nat_le (length r) 65535) IsShort (λ r h. le-leb (length r) 65535 h)
    (take 64 (drop from rows))
    (all_front IsShort 64 (drop from rows) (all_behind IsShort from rows short)))

length_cut : (octets : List ℕ) → length (first_octets octets) ≤ 4096
length_cut octets = omega (arith, length-take 4096 octets)

-- a part, and so many octets behind it
blob : (octets rest : List ℕ) → length (blob16 octets ++ rest) ≡ 2 + length octets + length rest
blob octets rest = omega (arith, length-append (blob16 octets) rest, length-append (to_be_bytes w16 (length octets)) octets)

-- ---- commands

command_length : (l : CommandLine) → length l.id ≤ 32 → length l.about ≤ 32 → length l.purposes ≤ 4096 → IsShort (command_encoding l)
command_length l a b c =
    let last = l.outcome ∷ to_be_bytes w32 l.detail in
    let purposes = blob l.purposes last in
    let about = blob l.about (blob16 l.purposes ++ last) in
    let size = length-append (to_be_bytes w32 l.size) (blob16 l.about ++ (blob16 l.purposes ++ last)) in
    let id = length-append l.id (l.kind ∷ (to_be_bytes w32 l.size ++ (blob16 l.about ++ (blob16 l.purposes ++ last)))) in
    omega (arith, a, b, c, purposes, about, size, id)

about_short : (c : Command) → CommandFits c → length (about_of c) ≤ 32
about_short (AddAnchor id certificate) fit = omega (arith, length-sha256 certificate)
about_short (WithdrawAnchor id anchor) fit = let e = fit.fields in omega (arith, e)
about_short (LoadCrl id crl) fit = omega (arith, length-sha256 crl)
about_short (DropCrl id crl) fit = let e = fit.fields in omega (arith, e)
about_short (SetPurposes id anchor purposes) fit = let e = fit.fields.0 in omega (arith, e)
about_short (Noop id) fit = omega arith

command_short : (c : Command) (o : Outcome) → CommandFits c → IsShort (command_encoding (command_row c o))
command_short c o fit = let e = fit.id in command_length (command_row c o) (omega (arith, e)) (about_short c fit) (length_cut _)

log_short : (before cs : List Command) → AllByRecursion CommandFits cs → AllByRecursion IsShort (map command_encoding (log_from before cs))
unfolding log_from
log_short before [] fit = tt
log_short before (c ∷ cs) fit = (command_short c (outcome_after before c) fit.0, log_short (before ++ c ∷ []) cs fit.1)

pub log_in_range : (from : ℕ) (commands : List Command) → AllByRecursion CommandFits commands → InRange (page from (log_rows commands))
log_in_range from commands fit = page_in_range from (log_rows commands) (log_short [] commands fit)

-- ---- what a store holds

abbrev HasId : TrustAnchor → Type 0
HasId a = length a.id ≤ 32

abbrev HasListId : StoredCrl → Type 0
HasListId k = length k.id ≤ 32

-- the ids of what tables hold are digests
record AreDigests (tables : Tables) : Type 0 where
  anchors : AllByRecursion HasId tables.anchors
  complete : AllByRecursion HasListId tables.complete
  deltas : AllByRecursion HasListId tables.deltas

is_digest : (octets : List ℕ) → length (sha256 octets) ≤ 32
is_digest octets = omega (arith, length-sha256 octets)

unless : {A : Type 0} (P : A → Type 0) (b : Bool) (why : Refusal) (r : Result A Refusal) → IfOk r P → IfOk (refuse_if b why r) P
unless P true why r h = tt
unless P false why r h = h

removed : {A : Type 0} (P : A → Type 0) (i : ℕ) (xs : List A) → AllByRecursion P xs → AllByRecursion P (remove xs i)
removed P i xs h = all_append P (take i xs) (drop (suc i) xs) (all_front P i xs h) (all_behind P (suc i) xs h)

added : (o : Option Refusal) (certificate : List ℕ) (anchors : List TrustAnchor) → AllByRecursion HasId anchors → IfOk (add_unless o certificate anchors) (AllByRecursion HasId)
added None certificate anchors h = all_append HasId anchors (new_anchor certificate ∷ []) h (is_digest certificate, tt)
added (Some why) certificate anchors h = tt

withdrawn : (anchors : List TrustAnchor) (o : Option ℕ) → AllByRecursion HasId anchors → IfOk (withdraw_at anchors o) (AllByRecursion HasId)
withdrawn anchors None h = tt
withdrawn anchors (Some i) h = removed HasId i anchors h

other_purposes : (anchors : List TrustAnchor) (i : ℕ) (p : Option (List (List ℕ))) → AllByRecursion HasId anchors → AllByRecursion HasId (with_purposes anchors i p)
other_purposes [] i p h = tt
other_purposes (a ∷ anchors) zero p h = h
other_purposes (a ∷ anchors) (suc i) p h = (h.0, other_purposes anchors i p h.1)

purposes_set : (anchors : List TrustAnchor) (p : Option (List (List ℕ))) (o : Option ℕ) → AllByRecursion HasId anchors → IfOk (set_at anchors p o) (AllByRecursion HasId)
purposes_set anchors p None h = tt
purposes_set anchors p (Some i) h = other_purposes anchors i p h

in_place : (new : StoredCrl) (lists : List StoredCrl) → HasListId new → AllByRecursion HasListId lists → AllByRecursion HasListId (replace_slot new lists)
in_place new [] is h = tt
in_place new (held ∷ lists) is h = elim (has_slot (list_in new) held) as (λ b. AllByRecursion HasListId (if b then new ∷ lists else held ∷ replace_slot new lists)) [
  | true ↦ (is, h.1)
  | false ↦ (h.0, in_place new lists is h.1)
]

list_put : (new : StoredCrl) (lists : List StoredCrl) (o : Option StoredCrl) → HasListId new → AllByRecursion HasListId lists → IfOk (put_by new lists o) (AllByRecursion HasListId)
list_put new lists None is h = unless (AllByRecursion HasListId) (nat_le 1024 (length lists)) _ (Ok (lists ++ new ∷ [])) (all_append HasListId lists (new ∷ []) h (is, tt))
list_put new lists (Some held) is h = unless (AllByRecursion HasListId) (not (is_newer (list_in new) (list_in held))) _ (Ok (replace_slot new lists)) (in_place new lists is h)

dropped : (lists : List StoredCrl) (o : Option ℕ) → AllByRecursion HasListId lists → IfOk (drop_at lists o) (AllByRecursion HasListId)
dropped lists None h = tt
dropped lists (Some i) h = removed HasListId i lists h

module _ (t : Tables) (fit : AreDigests t) where
  other_anchors : (r : Result (List TrustAnchor) Refusal) → IfOk r (AllByRecursion HasId) → IfOk (with_anchors t r) AreDigests
  other_anchors (Ok anchors) h = record { anchors = h; complete = fit.complete; deltas = fit.deltas }
  other_anchors (Err why) h = tt

  other_complete : (r : Result (List StoredCrl) Refusal) → IfOk r (AllByRecursion HasListId) → IfOk (with_complete t r) AreDigests
  other_complete (Ok lists) h = record { anchors = fit.anchors; complete = h; deltas = fit.deltas }
  other_complete (Err why) h = tt

  other_deltas : (r : Result (List StoredCrl) Refusal) → IfOk r (AllByRecursion HasListId) → IfOk (with_deltas t r) AreDigests
  other_deltas (Ok lists) h = record { anchors = fit.anchors; complete = fit.complete; deltas = h }
  other_deltas (Err why) h = tt

  loaded : (octets : List ℕ) (r : Result CertificateList ListFault) → IfOk (load_as octets t r) AreDigests
  loaded octets (Err fault) = tt
  loaded octets (Ok c) = elim (is_delta c) as (λ b. IfOk (if b then with_deltas t (put_list (stored_crl octets) t.deltas) else with_complete t (put_list (stored_crl octets) t.complete)) AreDigests) [
    | true ↦ other_deltas (put_list (stored_crl octets) t.deltas) (list_put (stored_crl octets) t.deltas (find (has_slot (list_in (stored_crl octets))) t.deltas) (is_digest octets) fit.deltas)
    | false ↦ other_complete (put_list (stored_crl octets) t.complete)
        (list_put (stored_crl octets) t.complete
        (find (has_slot (list_in (stored_crl octets))) t.complete) (is_digest octets) fit.complete)
  ]

  either_dropped : (r s : Result (List StoredCrl) Refusal) → IfOk r (AllByRecursion HasListId) → IfOk s (AllByRecursion HasListId) → IfOk (drop_either t r s) AreDigests
  either_dropped (Ok lists) s h k = record { anchors = fit.anchors; complete = h; deltas = fit.deltas }
  either_dropped (Err why) s h k = other_deltas s k

  changed : (c : Command) → IfOk (change c t) AreDigests
  changed (AddAnchor id certificate) =
      other_anchors _ (unless (AllByRecursion HasId) _ _
      (add_unless (new_refusal (sha256 certificate) t.anchors) certificate t.anchors)
      (added (new_refusal (sha256 certificate) t.anchors) certificate t.anchors fit.anchors))
  changed (WithdrawAnchor id anchor) = other_anchors _ (withdrawn t.anchors (place_of anchor t.anchors) fit.anchors)
  changed (LoadCrl id crl) = loaded crl (crl_of crl)
  changed (DropCrl id crl) = either_dropped (drop_list crl t.complete) (drop_list crl t.deltas)
      (dropped t.complete (place_by (has_id crl) t.complete) fit.complete)
      (dropped t.deltas (place_by (has_id crl) t.deltas) fit.deltas)
  changed (SetPurposes id anchor purposes) = other_anchors _ (purposes_set t.anchors purposes (place_of anchor t.anchors) fit.anchors)
  changed (Noop id) = fit

made : (p : ℕ) (c : Command) (s : StoreState) (r : Result Tables Refusal) → AreDigests s.tables → IfOk r AreDigests → AreDigests (make p c s r).state.tables
made p c s (Ok tables) fit h = h
made p c s (Err why) fit h = fit

stepped : (p : ℕ) (c : Command) (s : StoreState) (o : Option FirstCommand) → AreDigests s.tables → AreDigests (step_by p c s o).state.tables
stepped p c s (Some first) fit = fit
stepped p c s None fit = made p c s (change c s.tables) fit (changed s.tables fit c)

all_stepped : (s : StoreState) (cs : List Command) → AreDigests s.tables → AreDigests (after s cs).tables
all_stepped s [] fit = fit
all_stepped s (c ∷ cs) fit = all_stepped (step (suc s.taken) c s).state cs (stepped (suc s.taken) c s (first_of (id_of c) s.ids) fit)

anchor_length : (l : AnchorLine) → length l.id ≤ 32 → length l.subject ≤ 4096 → length l.purposes ≤ 4096 → IsShort (anchor_encoding l)
anchor_length l a b c =
    let purposes = length-append (to_be_bytes w16 (length l.purposes)) l.purposes in
    let subject = blob l.subject (blob16 l.purposes) in
    let id = length-append l.id (blob16 l.subject ++ blob16 l.purposes) in
    omega (arith, a, b, c, purposes, subject, id)

crl_length : (l : CrlLine) → length l.id ≤ 32 → length l.issuer ≤ 4096 → length l.number ≤ 4096 → length l.base ≤ 4096 → length l.scope ≤ 4096 → IsShort (crl_encoding l)
unfolding moment_encoding
crl_length l a b c d e =
    let entries = length-append (to_be_bytes w32 l.entries) (to_be_bytes w32 l.size) in
    let r1 = to_be_bytes w32 l.entries ++ to_be_bytes w32 l.size in
    let next = length-append (moment_encoding l.next_update) r1 in
    let r2 = moment_encoding l.next_update ++ r1 in
    let this = length-append (moment_encoding l.this_update) r2 in
    let r3 = moment_encoding l.this_update ++ r2 in
    let scope = blob l.scope r3 in
    let base = blob l.base (blob16 l.scope ++ r3) in
    let number = blob l.number (blob16 l.base ++ (blob16 l.scope ++ r3)) in
    let issuer = blob l.issuer (blob16 l.number ++ (blob16 l.base ++ (blob16 l.scope ++ r3))) in
    let id = length-append l.id (blob16 l.issuer ++ (blob16 l.number ++ (blob16 l.base ++ (blob16 l.scope ++ r3)))) in
    omega (arith, a, b, c, d, e, entries, next, this, scope, base, number, issuer, id)

store_short : (t : Tables) → AreDigests t → AllByRecursion IsShort (store_rows (contents_of t))
store_short t fit =
    let lists = all_mapped HasListId IsShort (λ k. crl_encoding (crl_row k)) (λ k h. crl_length (crl_row k) h (length_cut _) (length_cut _) (length_cut _) (length_cut _)) in
    all_append IsShort (anchor_rows t.anchors) (crl_rows t.complete ++ crl_rows t.deltas)
    (all_mapped HasId IsShort (λ a. anchor_encoding (anchor_row a)) (λ a h. anchor_length (anchor_row a) h (length_cut _) (length_cut _)) t.anchors fit.anchors)
    (all_append IsShort (crl_rows t.complete) (crl_rows t.deltas) (lists t.complete fit.complete) (lists t.deltas fit.deltas))

pub store_in_range : (from : ℕ) (commands : List Command) → InRange (page from (listing (store_after commands)))
store_in_range from commands = page_in_range from (listing (store_after commands))
    (store_short (store_after commands).tables
    (all_stepped empty commands (record { anchors = tt; complete = tt; deltas = tt })))

pub store_page_in_range : {E : Type 0} (r : Result Reply E) (from : ℕ) (contents : Contents)
    (commands : List Command) → contents ≡ contents_of (store_after commands).tables
    → IfOk r (λ reply. reply ≡ page from (store_rows contents)) → IfOk r InRange
store_page_in_range (Ok reply) from contents commands same is = subst InRange (sym (is ∙ ap (λ (x : Contents). page from (store_rows x)) same)) (store_in_range from commands)
store_page_in_range (Err e) from contents commands same is = tt

-- ---- the commands that were taken

pub log_page_in_range : {E : Type 0} (r : Result Reply E) (from k : ℕ) (commands : List Command) → AreTaken commands → IfOk r (λ reply. reply ≡ page from (log_rows (take k commands))) → IfOk r InRange
log_page_in_range (Ok reply) from k commands taken is = subst InRange (sym is) (log_in_range from (take k commands) (all_front CommandFits k commands taken.fit))
log_page_in_range (Err e) from k commands taken is = tt

pub none_taken : (commands : List Command) → commands ≡ [] → AreTaken commands
none_taken commands none = subst AreTaken (sym none) (record { few = omega arith; fit = tt })

pub taken_more : {X E : Type 0} (r : Result X E) (commands new : List Command) (command : Command)
    → OnOk r (new ≡ commands ++ command ∷ []) → OnErr r (new ≡ commands) → length commands < 1000000
    → CommandFits command → AreTaken commands → AreTaken new
taken_more (Ok x) commands new command ok err few fit are = subst AreTaken (sym ok) (record {
  few = omega (arith, few, length-append commands (command ∷ []));
  fit = all_append CommandFits commands (command ∷ []) are.fit (fit, tt);
})
taken_more (Err e) commands new command ok err few fit are = subst AreTaken (sym err) are
