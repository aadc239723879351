-- What a hash table that is not refused has. No contract cites this file. Assumes nothing.
use mathlib.Core.Path.{◌≡◌}
use mathlib.Core.Bool.{Bool, true}
use mathlib.Core.List.{List}
use Prim.Native.Nat.{ℕ, ◌<◌}
use lib.ListN.{length}
use Rattle.words.specs.Choice.{both, every, below}
use Rattle.words.specs.Memory.{mem}
use Rattle.words.specs.Words.{le_at}
use Rattle.words.proofs.Choice.{both_true}
use Rattle.object.specs.declared.hash_tables.HashTable.{HashTable}
use Rattle.object.specs.TableBytes.{table_bytes}
use Rattle.object.specs.HashTable.{bucket_count, bucket_at, reached}
use Rattle.object.specs.HashCheck.{start_of, table_size, numbers_ok, bucket_ok, length_ok, step_ok, walk_ok, table_ok}
use Rattle.object.proofs.Ranges.{below_at}

module _ (is_t : ℕ → Bool) (m : List ℕ) (symbols strings : ℕ) (t : HashTable) (ok : table_ok is_t m symbols strings t ≡ true) where
  pub clauses : (numbers_ok t ≡ true) × (table_bytes is_t (start_of t) (table_size t) ≡ true)
      × (below (walk_ok is_t m symbols strings t) (bucket_count t) ≡ true)
  unfolding table_ok
  clauses =
      let w = below (walk_ok is_t m symbols strings t) (bucket_count t) in
      let h = both_true (numbers_ok t) (both (table_bytes is_t (start_of t) (table_size t)) w) ok in
      let h' = both_true (table_bytes is_t (start_of t) (table_size t)) w h.1 in
      (h.0, h'.0, h'.1)

  pub walk_clauses : (i : ℕ) → i < bucket_count t
      → (bucket_ok t (le_at 4 (mem m) (bucket_at t i)) ≡ true) × (length_ok t (length (reached m t i)) ≡ true)
      × (every (step_ok is_t m symbols strings t) (reached m t i) ≡ true)
  unfolding walk_ok
  walk_clauses i l =
      let a = bucket_ok t (le_at 4 (mem m) (bucket_at t i)) in
      let b = length_ok t (length (reached m t i)) in
      let d = every (step_ok is_t m symbols strings t) (reached m t i) in
      let h = both_true a (both b d) (below_at (walk_ok is_t m symbols strings t) (bucket_count t) i clauses.2 l) in
      let h' = both_true b d h.1 in
      (h.0, h'.0, h'.1)
