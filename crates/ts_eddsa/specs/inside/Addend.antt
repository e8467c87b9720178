-- How the code adds a point: what of it is computed once for many sums.
use Rattle.std.specs.Prelude.{ℕ}
use Rattle.ts_eddsa.specs.Field.{plus, minus, times, d}
use Rattle.ts_eddsa.specs.Points.{Point, completion}

-- Y - X, Y + X, 2 d T and 2 Z
pub record PreparedPoint : Type 0 where
  pub low : ℕ
  pub high : ℕ
  pub scaled : ℕ
  pub twice : ℕ

abbrev pub prepared_point : ℕ → ℕ → ℕ → ℕ → PreparedPoint
prepared_point low high scaled twice =
    record { low = low; high = high; scaled = scaled; twice = twice }

abbrev pub addend_of : Point → PreparedPoint
addend_of q = prepared_point (minus q.y q.x) (plus q.y q.x) (times (plus d d) q.t) (plus q.z q.z)

-- the sum, which is that of points (specs/Points)
unfoldable pub sum_by : Point → PreparedPoint → Point
sum_by q r =
    let a = times (minus q.y q.x) r.low in
    let b = times (plus q.y q.x) r.high in
    let c = times q.t r.scaled in
    let m = times q.z r.twice in
    completion (minus b a) (minus m c) (plus m c) (plus b a)
