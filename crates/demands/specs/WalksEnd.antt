-- No walk of a hash table that is not refused is cut off. Document 01, refusal 12: "the walk of any bucket, followed to its end"; `walk`
-- (object/specs/HashTable) takes a number of steps, and this says that more steps reach nothing more. Assumes nothing.
use Rattle.std.specs.Prelude.{Bool, true, List, [], ◌≡◌, ℕ, ◌+◌, ◌^◌, ◌≤◌, ◌<◌, eqb, length}
use Rattle.words.specs.Choice.{pick}
use Rattle.words.specs.Memory.{mem}
use Rattle.words.specs.Words.{le_at}
use Rattle.object.specs.declared.hash_tables.HashTable.{HashTable}
use Rattle.object.specs.HashTable.{bucket_count, bucket_at, fuel, walk, reached}
use Rattle.object.specs.HashCheck.{table_ok}

-- with `k` more steps each bucket's walk gives the same list, where table bytes lie in an image of at most 2^28 bytes
abbrev pub WalksEnd : Type 0
WalksEnd =
    (is_t : ℕ → Bool) (image : List ℕ) → ((i : ℕ) → is_t i ≡ true → i < length image) → length image ≤ 2 ^ 28
    → (symbols strings : ℕ) (t : HashTable) → table_ok is_t image symbols strings t ≡ true
    → (i : ℕ) → i < bucket_count t
    → (k : ℕ)
    → pick (eqb (le_at 4 (mem image) (bucket_at t i)) 0) [] (walk image t (fuel image t + k) (le_at 4 (mem image) (bucket_at t i)))
    ≡ reached image t i
