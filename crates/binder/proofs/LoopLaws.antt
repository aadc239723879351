-- What a loop over the numbers below `n` has left. Assumes nothing.
use Rattle.std.proofs.Common.{ℕ, ◌+◌, ◌-◌, ◌<◌, arith}

-- a turn leaves less
pub counts_down : {i n : ℕ} → i < n → n - (i + 1) < n - i
counts_down h = omega arith
