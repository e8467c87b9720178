-- What a loop counts: how many connections are open, and what became of the others. A count stays
-- at 2^64 - 1.
use Rattle.std.specs.Prelude.{◌+◌, ◌-◌, ◌^◌, ℕ, min, max}
use Rattle.ts_sockets.specs.declared.counts.Counts.{Counts}
use Rattle.ts_sockets.specs.declared.counts.Why.{Why}
use Rattle.ts_sockets.specs.declared.counts.Why.TheVariants.{Denied, Ended, Failed, Late, MadeRoom}

abbrev pub sum : ℕ → ℕ → ℕ
sum a b = min (2 ^ 64 - 1) (a + b)

abbrev pub nothing : Counts
nothing = record {
  accepted = 0;
  refused = 0;
  made_room = 0;
  failed_accepts = 0;
  taken = 0;
  ended = 0;
  late = 0;
  denied = 0;
  failed = 0;
  «open» = 0;
  most = 0;
}

-- one more is open
abbrev pub opened : Counts → Counts
opened c = record c {
  accepted = sum c.accepted 1;
  «open» = sum c.«open» 1;
  most = max c.most (sum c.«open» 1);
}

-- one was closed at once
abbrev pub refused : Counts → Counts
refused c = record c { refused = sum c.refused 1 }

-- one less is open, for this reason
abbrev pub closed : Why → Counts → Counts
closed Ended c = record c { «open» = c.«open» - 1; ended = sum c.ended 1 }
closed Late c = record c { «open» = c.«open» - 1; late = sum c.late 1 }
closed Denied c = record c { «open» = c.«open» - 1; denied = sum c.denied 1 }
closed Failed c = record c { «open» = c.«open» - 1; failed = sum c.failed 1 }
closed MadeRoom c = record c { «open» = c.«open» - 1; made_room = sum c.made_room 1 }

-- how many are over: they ended, were late, were denied, failed, made room, or were closed at once
abbrev pub over : Counts → ℕ
over c = min (2 ^ 64 - 1) (c.ended + c.late + c.denied + c.failed + c.made_room + c.refused)
