-- Equal numbers have one line.
use Prim.Native.Nat.{ℕ}
use mathlib.Core.Path.{◌≡◌}
use Rattle.report.specs.Report.{told_line}

pub told_same : (sign : ℕ) {number list place n l p : ℕ} → number ≡ n → list ≡ l → place ≡ p → told_line sign n l p ≡ told_line sign number list place
told_same sign en el ep = cc
