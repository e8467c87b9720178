use Rattle.ts_guard.proofs.OneReading.{one_reading}
use Rattle.ts_guard.proofs.laws.one_reading.Goals as goal

pub returns-clause-contents : goal.returns-clause-contents
returns-clause-contents c key context octets contents others fault other s t =
    (one_reading key context octets contents others fault other s t).contents_alike

pub returns-clause-fault : goal.returns-clause-fault
returns-clause-fault c key context octets contents others fault other s t =
    (one_reading key context octets contents others fault other s t).faults_alike
