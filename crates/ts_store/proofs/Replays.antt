-- The store after commands, one by one, and the contents of its tables.
use Rattle.std.proofs.Common.{◌≡◌, ⊎_elim, ◌∙◌, ◌+◌, ◌<◌, ◌≤◌, ◌++◌, ◌∷◌, ℕ, suc, Bool, true, false, List, [], Option, Some, None, Result, Ok, Err, length, take, refl, sym, ap, arith, length-append}
use Rattle.std.specs.Prelude.{nat_le}
use Rattle.std.proofs.lemmas.Bool.{leb-true, leb-false}
use Rattle.std.proofs.lemmas.List.{take-append-le, take_all}
use Rattle.std.proofs.Math.Seq.{take-length}
use Rattle.ts_command.specs.Commands.{id_of}
use Rattle.ts_store.specs.Ids.{first_of}
use Rattle.ts_store.specs.Store.{StoreState, Step, step, step_by, make, after, store_after, empty}
use Rattle.ts_store.specs.Tables.{Tables, change}
use Rattle.ts_command.specs.declared.command.Command.{Command}
use Rattle.ts_store.specs.declared.ids.FirstCommand.{FirstCommand}
use Rattle.ts_command.specs.declared.outcome.Outcome.{Outcome}
use Rattle.ts_command.specs.declared.outcome.Outcome.TheVariants.{Applied, Repeated, Refused}
use Rattle.ts_command.specs.declared.outcome.Refusal.{Refusal}
use Rattle.ts_store.proofs.Steps.{unchanged, taken, joined}
use Rattle.ts_store.specs.Contents.{Contents, no_contents, contents_of}
use Rattle.ts_store.specs.inside.History.{IsHistory, change_if, commands_in, replay}
use Rattle.ts_store.specs.Outcome.{outcome_after}
use Rattle.ts_store.specs.inside.Taken.{apply_change, command_in}
use Rattle.ts_store.specs.declared.taken.TableChange.{TableChange}
use Rattle.ts_store.specs.declared.taken.KeptCommand.{KeptCommand}
use Rattle.ts_store.specs.declared.taken.TakenCommand.{TakenCommand}

-- ---- how many commands a store took

taken_from : (s : StoreState) (cs : List Command) → (after s cs).taken ≡ s.taken + length cs
taken_from s [] = omega arith
taken_from s (c ∷ cs) =
    let e = taken_from (step (suc s.taken) c s).state cs in
    let f = taken (suc s.taken) c s in
    omega (arith, e, f)

pub taken_all : (cs : List Command) → (store_after cs).taken ≡ length cs
taken_all cs = let e = taken_from empty cs in omega (arith, e)

-- one more command
pub store_more : (cs : List Command) (c : Command) → store_after (cs ++ c ∷ []) ≡ (step (suc (length cs)) c (store_after cs)).state
store_more cs c = joined empty cs (c ∷ []) ∙ ap (λ n. (step (suc n) c (store_after cs)).state) (taken_all cs)

-- what the command of the next position makes of a store
module _ (s t : StoreState) (cs : List Command) (c : Command) (n : ℕ) (o : Outcome) (is : s ≡ store_after cs) (next : n ≡ suc (length cs)) (done : step n c s ≡ record { state = t; outcome = o }) where
  made_of : record { state = t; outcome = o } ≡ step (suc (length cs)) c (store_after cs)
  made_of = sym done ∙ (λ i. step (next i) c (is i))

  pub came_to : o ≡ outcome_after cs c
  unfolding outcome_after
  came_to = ap (λ (x : Step). x.outcome) made_of

  pub store_is : (ds : List Command) → ds ≡ cs ++ c ∷ [] → t ≡ store_after ds
  store_is ds more = ap (λ (x : Step). x.state) made_of ∙ sym (store_more cs c) ∙ ap store_after (sym more)

-- ---- a command that is applied changes the tables, and no other does

applied : (p : ℕ) (c : Command) (s : StoreState) → (step p c s).outcome ≡ Applied → change c s.tables ≡ Ok (step p c s).state.tables
applied p c s = by (first_of (id_of c) s.ids)
  where
    made : (r : Result Tables Refusal) → (make p c s r).outcome ≡ Applied → r ≡ Ok (make p c s r).state.tables
    made (Ok tables) e = refl
    made (Err refusal) e = absurd (cc e)

    by : (o : Option FirstCommand) → (step_by p c s o).outcome ≡ Applied → change c s.tables ≡ Ok (step_by p c s o).state.tables
    by (Some first) e = absurd (cc e)
    by None e = made (change c s.tables) e

changes : (p : ℕ) (c : Command) (s t : StoreState) (o : Outcome) (kept : KeptCommand)
    (x : TableChange) → step p c s ≡ record { state = t; outcome = o }
    → ((new : Tables) → change c s.tables ≡ Ok new
    → apply_change x kept (contents_of s.tables) ≡ contents_of new)
    → apply_change (change_if o x) kept (contents_of s.tables) ≡ contents_of t.tables
changes p c s t Applied kept x done makes = makes t.tables (applied p c s (ap (λ (y : Step). y.outcome) done) ∙ ap (λ (y : Step). let r : Result Tables Refusal = Ok y.state.tables in r) done)
changes p c s t (Repeated q) kept x done makes =
    ⊎_elim (λ e. absurd (cc (e, ap (λ (y : Step). y.outcome) done)))
    (λ e. ap contents_of (sym e ∙ ap (λ (y : Step). y.state.tables) done)) (unchanged p c s)
changes p c s t (Refused r) kept x done makes =
    ⊎_elim (λ e. absurd (cc (e, ap (λ (y : Step). y.outcome) done)))
    (λ e. ap contents_of (sym e ∙ ap (λ (y : Step). y.state.tables) done)) (unchanged p c s)

-- ---- one more command

replayed_more : (c : Contents) (ts : List TakenCommand) (t : TakenCommand) → replay c (ts ++ t ∷ []) ≡ apply_change t.change t.kept (replay c ts)
replayed_more c [] t = refl
replayed_more c (u ∷ ts) t = replayed_more (apply_change u.change u.kept c) ts t

commands_more : (ts : List TakenCommand) (t : TakenCommand) → commands_in (ts ++ t ∷ []) ≡ commands_in ts ++ command_in t.kept ∷ []
commands_more [] t = refl
commands_more (u ∷ ts) t = ap (λ l. command_in u.kept ∷ l) (commands_more ts t)

pub commands_count : (ts : List TakenCommand) → length (commands_in ts) ≡ length ts
commands_count [] = refl
commands_count (t ∷ ts) = ap suc (commands_count ts)

module _ (ts : List TakenCommand) (s t : StoreState) (kept : KeptCommand) (x : TableChange)
    (c : Command) (n : ℕ) (o : Outcome) (was : IsHistory ts s) (room : length ts < 1000000)
    (same : command_in kept ≡ c) (next : n ≡ s.taken + 1)
    (makes : (new : Tables) → change c s.tables ≡ Ok new → apply_change x kept (contents_of s.tables) ≡ contents_of new) (done : step n c s ≡ record { state = t; outcome = o }) where
  abbrev one : TakenCommand
  one = record { kept = kept; change = change_if o x }

  abbrev more : List TakenCommand
  more = ts ++ one ∷ []

  is_next : n ≡ suc (length (commands_in ts))
  is_next = let e = commands_count ts in omega (arith, next, was.counted, e)

  are_more : commands_in more ≡ commands_in ts ++ c ∷ []
  are_more = commands_more ts one ∙ ap (λ d. commands_in ts ++ d ∷ []) same

  now_is : t ≡ store_after (commands_in more)
  now_is = store_is s t (commands_in ts) c n o was.now is_next done (commands_in more) are_more

  longer : length more ≡ suc (length ts)
  longer = omega (arith, length-append ts (one ∷ []))

  before : replay no_contents ts ≡ contents_of s.tables
  before =
      ap (replay no_contents) (sym (take-length ts)) ∙ was.past (length ts) (omega arith)
      ∙ ap (λ l. contents_of (store_after (commands_in l)).tables) (take-length ts) ∙ ap (λ (y : StoreState). contents_of y.tables) (sym was.now)

  after_all : replay no_contents more ≡ contents_of (store_after (commands_in more)).tables
  after_all =
      replayed_more no_contents ts one ∙ ap (apply_change (change_if o x) kept) before ∙ changes n c s t o kept x done makes ∙ ap (λ (y : StoreState). contents_of y.tables) now_is

  past_by : (k : ℕ) → k ≤ length more → (b : Bool) → nat_le k (length ts) ≡ b → replay no_contents (take k more) ≡ contents_of (store_after (commands_in (take k more))).tables
  past_by k low true is =
      let few = leb-true k (length ts) is in
      let e : take k more ≡ take k ts = take-append-le k ts (one ∷ []) few in
      ap (replay no_contents) e ∙ was.past k few ∙ ap (λ l. contents_of (store_after (commands_in l)).tables) (sym e)
  past_by k low false is =
      let many = leb-false k (length ts) is in
      let e : take k more ≡ more = take_all k more (omega (arith, many, longer)) in
      ap (replay no_contents) e ∙ after_all ∙ ap (λ l. contents_of (store_after (commands_in l)).tables) (sym e)

  pub goes_on : IsHistory more t
  goes_on = record {
    now = now_is;
    counted = ap (λ (y : StoreState). y.taken) now_is ∙ taken_all (commands_in more) ∙ commands_count more;
    few = omega (arith, room, longer);
    past = λ k low. past_by k low (nat_le k (length ts)) refl;
  }
