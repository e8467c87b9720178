-- Runs of calls, one after the other.
use Rattle.std.proofs.Common.{inl, inr, ⊎_elim, ℕ, List, sym, subst, arith}
use Rattle.ts_disk.specs.Disk.{State, IsDisk, IsDurable, Call, EveryImage}

-- what is weaker
pub weaker : (P Q : List ℕ → Type 0) (old new : State) → ((c : List ℕ) → P c → Q c) → EveryImage P old new → EveryImage Q old new
weaker P Q old new implies run = record {
  later = run.later;
  each = λ c left. implies c (run.each c left);
  before = λ t c le left. ⊎_elim (λ past. inl past) (λ now. inr (implies c now)) (run.before t c le left);
}

-- one run and then another
pub and_then : (P : List ℕ → Type 0) (old mid new : State) → EveryImage P old mid → EveryImage P mid new → EveryImage P old new
and_then P old mid new first second = record {
  later = omega (arith, first.later, second.later);
  each = λ c left. ⊎_elim (first.each c) (λ now. now) (second.before old.moment c first.later left);
  before = λ t c le left. ⊎_elim (first.before t c le) (λ now. inr now) (second.before t c (omega (arith, le, first.later)) left);
}

-- before the first call, of a disk that is durable
pub started : (P : List ℕ → Type 0) (disk : State) → IsDisk disk → IsDurable disk → P disk.read → EveryImage P disk disk
started P disk is durable here = record {
  later = omega arith;
  each = λ c left. subst P (sym (durable c (is.only_now c left))) here;
  before = λ t c le left. inl left;
}

-- one call more, after which each image is P
pub goes_on : (P : List ℕ → Type 0) (step : List ℕ → List ℕ → Type 0) (old mid new : State) → EveryImage P old mid → Call step mid new → ((c : List ℕ) → new.may_leave c → P c) → EveryImage P old new
goes_on P step old mid new run call now = record {
  later = omega (arith, run.later, call.later);
  each = λ c left. ⊎_elim (run.each c) (now c) (call.nothing_else old.moment c run.later left);
  before = λ t c le left. ⊎_elim (run.before t c le) (λ here. inr (now c here)) (call.nothing_else t c (omega (arith, le, run.later)) left);
}
