-- Refusals in checking order, as numbers; 0 is no refusal. Document 01, "Refused, in checking order". Assumes nothing.
use Rattle.std.specs.Prelude.{Bool, true, false, ℕ, zero, suc}

-- where the test holds, what follows; else the number
unfoldable pub require : Bool → ℕ → ℕ → ℕ
require true n rest = rest
require false n rest = n

-- the refusal met so far, else what follows
unfoldable pub after : ℕ → ℕ → ℕ
after zero rest = rest
after (suc n) rest = suc n
