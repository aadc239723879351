-- What a function answers that keeps no more items of a list than its table has room for. Document 01, "The object record": "The record keeps
-- up to 16 load segments" and "up to 64 needed offsets". Assumes nothing.
use Rattle.std.specs.Prelude.{List, ◌≡◌, ℕ, ◌≤◌, ◌<◌, length, take, Result, MatchResult}
use Rattle.words.specs.CopyVec.{CopyVec}

-- all items, `n` at most; as an error the first `n` of more
abbrev pub FirstOf : {A : Type 0} → ℕ → List A → Result (CopyVec A) (CopyVec A) → Type 0
FirstOf n xs r = MatchResult r (λ v. (length xs ≤ n) × (v.items ≡ xs)) (λ v. (n < length xs) × (v.items ≡ take n xs))
