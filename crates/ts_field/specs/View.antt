-- What contracts see of an algorithm identifier that is borrowed and of a time that is kept (RFC
-- 5280 4.1.1.2, 4.1.2.5): octets, without where they lie in memory.
use Rattle.std.specs.Option.{option_copied}
use Rattle.ts_field.specs.declared.algorithm.AlgorithmIdentifier.{AlgorithmIdentifier}
use Rattle.ts_field.specs.declared.time.Time.{Time}
use Rattle.ts_field.specs.declared.time.Stamp.{Stamp}
use Rattle.ts_field.specs.Algorithm.{Algorithm}

abbrev pub algorithm_in : AlgorithmIdentifier → Algorithm
algorithm_in a = record {
  algorithm = a.algorithm.now;
  parameters = option_copied a.parameters;
  whole = a.whole.now;
}

abbrev pub time_in : Stamp → Time
time_in s = record { form = s.form; moment = s.seconds }
