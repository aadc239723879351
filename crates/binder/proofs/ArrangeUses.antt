-- What a caller of `arrange` reads off its contract, and when the table stands for needs that are given otherwise. Assumes nothing.
use Rattle.std.proofs.Common.{◌≡◌, ℕ, zero, suc, ◌+◌, ◌*◌, ◌<◌, ◌≤◌, min, List, [], ◌∷◌, length, get_or, refl, ap, arith}
use Rattle.words.specs.Choice.{pick}
use Rattle.words.specs.Memory as memory
use Rattle.words.specs.Memory.{Mem, mem, tab, from}
use Rattle.model.specs.Order.{listed, order_of, keep}
use Rattle.model.proofs.OrderSame.{order_same}
use Rattle.model.proofs.OrderUses.{order_range}
use Rattle.binder.specs.Steps.Table.{needs_row, Ordered}

-- the i-th object of the order
pub object_at :
    {table : List ℕ} {libraries : ℕ} {r : List ℕ} → Ordered table libraries r → (i : ℕ) → i < length r
    → get_or r i 0 ≡ get_or (order_of (needs_row table) (min libraries 62)) i 0
object_at {table} {libraries} {r} o i h =
    ap (λ (l : List ℕ). get_or l i 0) o.list

-- it is the program or a library
pub object_range :
    {table : List ℕ} {libraries : ℕ} {r : List ℕ} → Ordered table libraries r → (i : ℕ) → i < length r
    → (1 ≤ get_or r i 0) × (get_or r i 0 < min libraries 62 + 2)
object_range {table} {libraries} {r} o i h =
    rw (object_at o i h) (order_range (needs_row table) (min libraries 62) i (omega (arith, o.count)))

-- a row of 64 that holds a list of needs, and then zeros, has its libraries
pub keep_row :
    (count n : ℕ) (ks : List ℕ) (m : Mem) → length ks ≤ n → ((i : ℕ) → i < n → m i ≡ mem ks i) → keep count (tab n m) ≡ keep count ks
unfolding memory.tab memory.mem
keep_row count zero [] m l same = refl
keep_row count zero (k ∷ ks) m l same = absurd (omega arith)
keep_row count (suc n) [] m l same =
    rw (same 0 (omega arith)) (keep_row count n [] (λ i. m (suc i)) (omega arith) (λ i h. same (suc i) (omega arith)))
keep_row count (suc n) (k ∷ ks) m l same =
    rw (same 0 (omega arith))
    (ap (λ (l : List ℕ). pick (listed count k) (k ∷ l) l) (keep_row count n ks (λ i. m (suc i)) (omega arith) (λ i h. same (suc i) (omega arith))))

-- so a table whose rows hold the needs of the libraries has their order
pub table_order :
    (needs : ℕ → List ℕ) (table : List ℕ) (count : ℕ)
    → ((k : ℕ) → 2 ≤ k → k < count + 2 → length (needs k) ≤ 64)
    → ((k : ℕ) → 2 ≤ k → k < count + 2 → (i : ℕ) → i < 64 → mem table (k * 64 + i) ≡ mem (needs k) i)
    → order_of (needs_row table) count ≡ order_of needs count
table_order needs table count short holds =
    order_same (needs_row table) needs count
    (λ k a b. keep_row count 64 (needs k) (from (k * 64) (mem table)) (short k a b) (holds k a b))
