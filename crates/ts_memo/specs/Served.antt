-- The checks between which the user of a server chooses.
use Rattle.std.specs.Prelude.{ℕ, Bool, ◌||◌, List}
use Rattle.ts_sig.specs.Key.{Key}
use Rattle.ts_sig.specs.StandIn.{stand_in_accepts}
use Rattle.ts_sig.specs.Table.{table_accepts}
use Rattle.ts_check.specs.Native.{native_accepts}
use Rattle.ts_memo.specs.declared.served.ServedCheck.{ServedCheck}
use Rattle.ts_memo.specs.declared.served.ServedCheck.TheVariants.{Native, NativeOrTable, StandIn}

-- what each takes
abbrev pub served_accepts : ServedCheck → List ℕ → Key → List ℕ → List ℕ → Bool
served_accepts (Native memo) identifier key signed signature =
    native_accepts identifier key signed signature
served_accepts (NativeOrTable memo table) identifier key signed signature =
    native_accepts identifier key signed signature
    || table_accepts table identifier key signed signature
served_accepts StandIn identifier key signed signature =
    stand_in_accepts identifier key signed signature
