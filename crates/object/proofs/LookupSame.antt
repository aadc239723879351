-- The invariance law (`view_same`): if a hash table is not refused in an image, a lookup gives the same in every image of the same length
-- that has the same table bytes. No contract cites this file. Assumes nothing.
use Rattle.std.specs.Prelude.{Option, Some, None}
use mathlib.Core.Path.{◌≡◌, refl, sym, ap, ◌∙◌}
use mathlib.Core.Bool.{Bool, true, false, not}
use mathlib.Core.List.{List, [], ◌∷◌}
use mathlib.Core.Logic.{⊎_elim}
use Prim.Native.Nat.{ℕ, zero, suc, ◌+◌, ◌*◌, ◌/◌, ◌%◌, ◌≤◌, ◌<◌}
use native.Mathlib.Nat.{not-suc-le-zero, add_assoc, add-zero, mod-lt}
use native.Mathlib.Omega.{arith}
use borrow.Author.Tests.{eqb-true, eqb-false, ltb-true, not-true}
use lib.Dec.{eqb, leb}
use lib.ListN.{length}
use Rattle.words.specs.Choice.{both, pick, every}
use Rattle.words.specs.Memory.{mem}
use Rattle.words.specs.Words.{le_at}
use Rattle.words.specs.Names.{name_at}
use Rattle.words.specs.Hash.{gnu_hash, elf_hash}
use Rattle.words.proofs.Choice.{both_true}
use Rattle.words.proofs.Slices.{mem_past}
use Rattle.words.proofs.Words.{le_at_same}
use Rattle.words.proofs.NameLaws.{name_more, name_stop, name_none}
use Rattle.object.specs.declared.hash_tables.HashTable.{HashTable}
use Rattle.object.specs.declared.hash_tables.HashTable.TheVariants.{Without, SysV, Gnu}
use Rattle.object.specs.declared.hash_tables.View.{View}
use Rattle.object.specs.TableBytes.{table_bytes, table_name, Agree}
use Rattle.object.specs.Symbol.{symbol_from, symbol_at, symbol_name}
use Rattle.object.specs.HashTable.{sysv_at, gnu_at, bucket_count, bucket_at, chain_at, is_last, next_symbol, fuel, walk, walk_from, reached, may_hold, bucket_of, is_hit, is_exported_hit, first_in, find_by, lookup_by, lookup_in, answer_of, answer_by, answer_in}
use Rattle.object.specs.HashCheck.{start_of, table_size, numbers_ok, chain_ok, symbol_ok, step_ok, walk_ok, table_ok}
use Rattle.object.specs.SymbolCount.{highest, last_reached, past_walk, table_count, count_of}
use Rattle.object.proofs.Ranges.{split, below_at, below_all}
use Rattle.object.proofs.CountLaws.{highest_of}
use Rattle.object.proofs.CheckLaws.{clauses, walk_clauses}

-- ---- names

pub name_zero : (xs : List ℕ) (i : ℕ) → mem xs i ≡ 0 → name_at xs i ≡ []
unfolding mem
name_zero xs i z =
    ⊎_elim (λ (l : i < length xs). name_stop xs i l z) (λ (l : length xs ≤ i). name_none xs i l) (split i (length xs))

pub not_past : (xs : List ℕ) (i : ℕ) → (mem xs i ≡ 0 → ⊥) → i < length xs
not_past xs i nz =
    ⊎_elim (λ (l : i < length xs). l) (λ (l : length xs ≤ i). absurd (nz (mem_past xs i l))) (split i (length xs))

-- the first byte of a name
pub name_first : (xs : List ℕ) (i : ℕ) → (mem xs i ≡ 0 → ⊥) → name_at xs i ≡ mem xs i ∷ name_at xs (i + 1)
unfolding mem
name_first xs i nz = name_more xs i (not_past xs i nz) nz

-- a name of no bytes stands at a 0
pub name_nil : (xs : List ℕ) (i : ℕ) → length (name_at xs i) ≡ 0 → mem xs i ≡ 0
name_nil xs i e = go (eqb (mem xs i) 0) refl
  where
    go : (t : Bool) → eqb (mem xs i) 0 ≡ t → mem xs i ≡ 0
    go true q = eqb-true (mem xs i) 0 q
    go false q = absurd (omega (arith, ap length (name_first xs i (eqb-false (mem xs i) 0 q))))

-- a name goes by its bytes and the zero after them
pub name_cong : (n : ℕ) (xs ys : List ℕ) (i : ℕ) → length (name_at xs i) ≡ n
    → ((k : ℕ) → k ≤ n → mem ys (i + k) ≡ mem xs (i + k)) → name_at ys i ≡ name_at xs i
name_cong zero xs ys i e same =
    let here : mem ys i ≡ mem xs i = rw add-zero at (same 0 (omega arith)) in
    name_zero ys i (here ∙ name_nil xs i e) ∙ sym (name_zero xs i (name_nil xs i e))
name_cong (suc n) xs ys i e same =
    let here : mem ys i ≡ mem xs i = rw add-zero at (same 0 (omega arith)) in
    let nz : (mem xs i ≡ 0 → ⊥) = λ z. omega (arith, ap length (name_zero xs i z)) in
    let nz' : (mem ys i ≡ 0 → ⊥) = λ z. nz (sym here ∙ z) in
    let lx = name_first xs i nz in
    let ly = name_first ys i nz' in
    let rest : name_at ys (i + 1) ≡ name_at xs (i + 1) =
    name_cong n xs ys (i + 1) (omega (arith, ap length lx)) (λ k h. rw (add_assoc i 1 k) (same (1 + k) (omega arith))) in
    ly ∙ rw (here, rest) (sym lx)

-- ---- lists of symbols

-- two tests that agree where `ok` holds find the same in a list where it holds of each
pub first_cong : (p q ok : ℕ → Bool) → ((s : ℕ) → ok s ≡ true → q s ≡ p s)
    → (l : List ℕ) → every ok l ≡ true → first_in q l ≡ first_in p l
unfolding every first_in
first_cong p q ok same [] e = refl
first_cong p q ok same (s ∷ l) e =
    let h = both_true (ok s) (every ok l) e in
    rw (same s h.0, first_cong p q ok same l h.1)

-- what is found is in the list
pub first_ok : (p ok : ℕ → Bool) (l : List ℕ) (s : ℕ) → every ok l ≡ true → first_in p l ≡ Some s → ok s ≡ true
unfolding every first_in
first_ok p ok [] s e f = let z : ◌≡◌ {A = ℕ} 0 1 = cc in absurd (omega arith)
first_ok p ok (x ∷ l) s e f =
    let h = both_true (ok x) (every ok l) e in
    go (p x) f h.0 (λ f'. first_ok p ok l s h.1 f')
  where
    go : (b : Bool) → pick b (Some x) (first_in p l) ≡ Some s → ok x ≡ true → (first_in p l ≡ Some s → ok s ≡ true) → ok s ≡ true
    go true f o ih = let q : x ≡ s = cc in rw q at o
    go false f o ih = ih f

pub every_more : (p q : ℕ → Bool) → ((s : ℕ) → p s ≡ true → q s ≡ true) → (l : List ℕ) → every p l ≡ true → every q l ≡ true
unfolding every
every_more p q h [] e = refl
every_more p q h (s ∷ l) e =
    let b = both_true (p s) (every p l) e in
    rw (h s b.0) (every_more p q h l b.1)

not_zero : (n : ℕ) → not (eqb n 0) ≡ true → 0 < n
not_zero n e = let nz = eqb-false n 0 (not-true (eqb n 0) e) in go n nz
  where
    go : (n : ℕ) → (n ≡ 0 → ⊥) → 0 < n
    go n nz = omega arith

-- ---- two images with the same table bytes

module _ (is_t : ℕ → Bool) (m m' : List ℕ) (agree : Agree is_t m m') where
  pub byte_same : (at n k : ℕ) → table_bytes is_t at n ≡ true → k < n → mem m' (at + k) ≡ mem m (at + k)
  unfolding table_bytes
  byte_same at n k b h = agree (at + k) (below_at (λ j. is_t (at + j)) n k b h)

  -- a number within a range of table bytes
  pub number_same : (w at n k : ℕ) → table_bytes is_t at n ≡ true → k + w ≤ n → le_at w (mem m') (at + k) ≡ le_at w (mem m) (at + k)
  number_same w at n k b h =
      le_at_same w (mem m') (mem m) (at + k) (at + k) (λ j l. rw (add_assoc at k j) (byte_same at n (k + j) b (omega arith)))

  pub number_here : (w at n : ℕ) → table_bytes is_t at n ≡ true → w ≤ n → le_at w (mem m') at ≡ le_at w (mem m) at
  number_here w at n b h = rw add-zero at (number_same w at n 0 b (omega arith))

  pub name_same : (at : ℕ) → table_name is_t m at ≡ true → name_at m' at ≡ name_at m at
  unfolding table_name
  name_same at b =
      name_cong (length (name_at m at)) m m' at refl
      (λ k h. byte_same at (length (name_at m at) + 1) k b (omega arith))

  -- a symbol that passes, and its name
  module _ (symbols strings s : ℕ) (ok : symbol_ok is_t m symbols strings s ≡ true) where
    parts : (table_bytes is_t (symbols + 24 * s) 24 ≡ true) × (table_name is_t m (strings + le_at 4 (mem m) (symbols + 24 * s)) ≡ true)
    unfolding symbol_ok
    parts = both_true _ _ ok

    pub symbol_name_same : symbol_name m' symbols strings s ≡ symbol_name m symbols strings s
    symbol_name_same =
        rw (number_here 4 (symbols + 24 * s) 24 parts.0 (omega arith))
        (name_same (strings + le_at 4 (mem m) (symbols + 24 * s)) parts.1)

    field : (w k : ℕ) → k + w ≤ 24 → le_at w (mem m') (symbols + 24 * s + k) ≡ le_at w (mem m) (symbols + 24 * s + k)
    field w k h = number_same w (symbols + 24 * s) 24 k parts.0 h

    byte : (k : ℕ) → k < 24 → mem m' (symbols + 24 * s + k) ≡ mem m (symbols + 24 * s + k)
    byte k h = byte_same (symbols + 24 * s) 24 k parts.0 h

    pub symbol_same : symbol_at m' symbols s ≡ symbol_at m symbols s
    unfolding symbol_from
    symbol_same =
        rw (
          field 4 0 (omega arith),
          byte 4 (omega arith),
          byte 5 (omega arith),
          field 2 6 (omega arith),
          field 8 8 (omega arith),
          field 8 16 (omega arith),
        )

    pub symbol_ok_same : symbol_ok is_t m' symbols strings s ≡ true
    unfolding symbol_ok table_name
    symbol_ok_same =
        let at = strings + le_at 4 (mem m) (symbols + 24 * s) in
        rw (parts.0, number_here 4 (symbols + 24 * s) 24 parts.0 (omega arith), name_same at parts.1) parts.1

  -- the walk, where the chain words of its symbols are the same
  pub walk_same : (t : HashTable) (ok : ℕ → Bool)
      → ((s : ℕ) → ok s ≡ true → le_at 4 (mem m') (chain_at t s) ≡ le_at 4 (mem m) (chain_at t s))
      → (n s : ℕ) → every ok (walk m t n s) ≡ true → walk m' t n s ≡ walk m t n s
  unfolding walk every
  walk_same t ok same zero s e = refl
  walk_same t ok same (suc n) s e =
      let w = le_at 4 (mem m) (chain_at t s) in
      let h = both_true (ok s) (every ok (pick (is_last t w) [] (walk m t n (next_symbol t s w)))) e in
      rw (same s h.0) (go (is_last t w) h.1 (λ e'. walk_same t ok same n (next_symbol t s w) e'))
    where
      go : (b : Bool) {l l' : List ℕ} → every ok (pick b [] l) ≡ true → (every ok l ≡ true → l' ≡ l)
          → s ∷ pick b [] l' ≡ s ∷ pick b [] l
      go true e ih = refl
      go false {l} {l'} e ih = ap (λ (r : List ℕ). s ∷ r) (ih e)

  fuel_same : (t : HashTable) → length m' ≡ length m → fuel m' t ≡ fuel m t
  fuel_same Without e = refl
  fuel_same (SysV at n c) e = refl
  fuel_same (Gnu at n symoffset b shift) e = rw e

  -- the words of a bucket, and those of a chain that a walk may read
  bucket_word_lem : (t : HashTable) → table_bytes is_t (start_of t) (table_size t) ≡ true → (i : ℕ) → i < bucket_count t
      → le_at 4 (mem m') (bucket_at t i) ≡ le_at 4 (mem m) (bucket_at t i)
  bucket_word_lem Without b i l = absurd (not-suc-le-zero l)
  bucket_word_lem (SysV at n c) b i l = number_same 4 at (8 + 4 * n + 4 * c) (8 + 4 * i) b (omega arith)
  bucket_word_lem (Gnu at n symoffset w shift) b i l = number_same 4 at (16 + 8 * w + 4 * n) (16 + 8 * w + 4 * i) b (omega arith)

  chain_word_lem : (t : HashTable) → table_bytes is_t (start_of t) (table_size t) ≡ true → (s : ℕ) → chain_ok is_t t s ≡ true
      → le_at 4 (mem m') (chain_at t s) ≡ le_at 4 (mem m) (chain_at t s)
  unfolding chain_ok
  chain_word_lem Without b s o = let z : ◌≡◌ {A = ℕ} 0 1 = cc in absurd (omega arith)
  chain_word_lem (SysV at n c) b s o =
      let k : s < c = ltb-true s c o in
      number_same 4 at (8 + 4 * n + 4 * c) (8 + 4 * n + 4 * s) b (omega arith)
  chain_word_lem (Gnu at n symoffset w shift) b s o = number_here 4 (chain_at (Gnu at n symoffset w shift) s) 4 o (omega arith)

  -- the bucket of a name is one of the table's, and the bloom test reads table bytes
  bucket_in : (t : HashTable) → numbers_ok t ≡ true → (g e : ℕ) → may_hold m t g ≡ true → bucket_of t g e < bucket_count t
  unfolding numbers_ok may_hold
  bucket_in Without k g e h = let z : ◌≡◌ {A = ℕ} 0 1 = cc in absurd (omega arith)
  bucket_in (SysV at n c) k g e h = mod-lt e (not_zero n k)
  bucket_in (Gnu at n symoffset w shift) k g e h =
      mod-lt g (not_zero n (both_true (not (eqb n 0)) (both (not (eqb w 0)) (leb shift 31)) k).0)

  may_same : (t : HashTable) → numbers_ok t ≡ true → table_bytes is_t (start_of t) (table_size t) ≡ true → (g : ℕ) → may_hold m' t g ≡ may_hold m t g
  unfolding numbers_ok may_hold
  may_same Without k b g = refl
  may_same (SysV at n c) k b g = refl
  may_same (Gnu at n symoffset w shift) k b g =
      let z = both_true (not (eqb n 0)) (both (not (eqb w 0)) (leb shift 31)) k in
      let l : g / 64 % w < w = mod-lt (g / 64) (not_zero w (both_true (not (eqb w 0)) (leb shift 31) z.1).0) in
      rw (number_same 8 at (16 + 8 * w + 4 * n) (16 + 8 * (g / 64 % w)) b (omega arith))

  -- ---- a table that is not refused

  module _ (symbols strings : ℕ) (t : HashTable) (ok : table_ok is_t m symbols strings t ≡ true) (len : length m' ≡ length m) where
    bytes : table_bytes is_t (start_of t) (table_size t) ≡ true
    bytes = (clauses is_t m symbols strings t ok).1

    numbers : numbers_ok t ≡ true
    numbers = (clauses is_t m symbols strings t ok).0

    passes : (i : ℕ) → i < bucket_count t → every (step_ok is_t m symbols strings t) (reached m t i) ≡ true
    passes i l = (walk_clauses is_t m symbols strings t ok i l).2

    step_parts : (s : ℕ) → step_ok is_t m symbols strings t s ≡ true
        → (chain_ok is_t t s ≡ true) × (symbol_ok is_t m symbols strings s ≡ true)
    step_parts s o = both_true (chain_ok is_t t s) (symbol_ok is_t m symbols strings s) o

    step_same : (s : ℕ) → step_ok is_t m symbols strings t s ≡ true → step_ok is_t m' symbols strings t s ≡ true
    step_same s o = rw (step_parts s o).0 (symbol_ok_same symbols strings s (step_parts s o).1)

    -- the walk from a bucket's word
    from_same : (w : ℕ) → every (step_ok is_t m symbols strings t) (walk_from m t w) ≡ true → walk_from m' t w ≡ walk_from m t w
    unfolding walk_from every
    from_same w e = rw (fuel_same t len) (go (eqb w 0) e)
      where
        go : (z : Bool) → every (step_ok is_t m symbols strings t) (pick z [] (walk m t (fuel m t) w)) ≡ true
            → pick z [] (walk m' t (fuel m t) w) ≡ pick z [] (walk m t (fuel m t) w)
        go true e = refl
        go false e =
            walk_same t (step_ok is_t m symbols strings t) (λ s o. chain_word_lem t bytes s (step_parts s o).0) (fuel m t) w e

    -- the walk of every bucket
    pub reached_same : (i : ℕ) → i < bucket_count t → reached m' t i ≡ reached m t i
    reached_same i l =
        rw (bucket_word_lem t bytes i l) (from_same (le_at 4 (mem m) (bucket_at t i)) (passes i l))

    -- and the check
    pub table_same : table_ok is_t m' symbols strings t ≡ true
    unfolding table_ok walk_ok
    table_same =
        rw (numbers, bytes)
        (below_all (walk_ok is_t m' symbols strings t) (bucket_count t)
        (λ i l.
        let c = walk_clauses is_t m symbols strings t ok i l in
        rw (bucket_word_lem t bytes i l, c.0, reached_same' i l, c.1)
        (every_more (step_ok is_t m symbols strings t) (step_ok is_t m' symbols strings t) step_same (reached m t i) c.2)))
      where
        reached_same' : (i : ℕ) → i < bucket_count t → walk_from m' t (le_at 4 (mem m) (bucket_at t i)) ≡ reached m t i
        reached_same' i l = from_same (le_at 4 (mem m) (bucket_at t i)) (passes i l)

    hit_same : (name : List ℕ) (g s : ℕ) → step_ok is_t m symbols strings t s ≡ true
        → is_hit m' symbols strings t name g s ≡ is_hit m symbols strings t name g s
    unfolding is_hit
    hit_same name g s o =
        let h = step_parts s o in
        rw (chain_word_lem t bytes s h.0, symbol_name_same symbols strings s h.1)

    exported_same : (name : List ℕ) (g s : ℕ) → step_ok is_t m symbols strings t s ≡ true
        → is_exported_hit m' symbols strings t name g s ≡ is_exported_hit m symbols strings t name g s
    unfolding is_exported_hit
    exported_same name g s o = rw (hit_same name g s o, symbol_same symbols strings s (step_parts s o).1)

    bucket_same : (name : List ℕ) (g i : ℕ) → i < bucket_count t
        → first_in (is_exported_hit m' symbols strings t name g) (reached m' t i) ≡ first_in (is_exported_hit m symbols strings t name g) (reached m t i)
    bucket_same name g i l =
        rw (reached_same i l)
        (first_cong (is_exported_hit m symbols strings t name g) (is_exported_hit m' symbols strings t name g) (step_ok is_t m symbols strings t)
        (λ s o. exported_same name g s o) (reached m t i) (passes i l))

    -- the lookup of every name
    pub find_same : (name : List ℕ) (g e : ℕ) → find_by m' symbols strings t name g e ≡ find_by m symbols strings t name g e
    unfolding find_by
    find_same name g e =
        rw (may_same t numbers bytes g)
        (go (may_hold m t g) (λ h. bucket_same name g (bucket_of t g e) (bucket_in t numbers g e h)))
      where
        go : (b : Bool) {x y : Option ℕ} → (b ≡ true → x ≡ y) → pick b x None ≡ pick b y None
        go true h = h refl
        go false h = refl

    -- a hit passes the check
    pub found_ok : (name : List ℕ) (g e s : ℕ) → find_by m symbols strings t name g e ≡ Some s → symbol_ok is_t m symbols strings s ≡ true
    unfolding find_by
    found_ok name g e s f =
        go (may_hold m t g) f
        (λ h f'.
        (step_parts s (first_ok (is_exported_hit m symbols strings t name g) (step_ok is_t m symbols strings t) (reached m t (bucket_of t g e)) s
        (passes (bucket_of t g e) (bucket_in t numbers g e h)) f')).1)
      where
        go : (b : Bool) {x : Option ℕ} {A : Type 0} → pick b x None ≡ Some s → (b ≡ true → x ≡ Some s → A) → A
        go true f h = h refl f
        go false f h = let z : ◌≡◌ {A = ℕ} 0 1 = cc in absurd (omega arith)

    -- the object's answer
    answer_of_lem : (f : Option ℕ) → ((s : ℕ) → f ≡ Some s → symbol_ok is_t m symbols strings s ≡ true)
        → answer_of m' symbols f ≡ answer_of m symbols f
    unfolding answer_of
    answer_of_lem None o = refl
    answer_of_lem (Some s) o = rw (symbol_same symbols strings s (o s refl))

    pub answer_same : (name : List ℕ) (g e : ℕ)
        → answer_of m' symbols (find_by m' symbols strings t name g e) ≡ answer_of m symbols (find_by m symbols strings t name g e)
    answer_same name g e =
        ap (answer_of m' symbols) (find_same name g e)
        ∙ answer_of_lem (find_by m symbols strings t name g e) (λ s f. found_ok name g e s f)

    -- the symbol count
    past_same : (w : ℕ) → every (step_ok is_t m symbols strings t) (walk_from m t w) ≡ true → past_walk m' t w ≡ past_walk m t w
    unfolding walk_from
    past_same w e = rw (fuel_same t len) (go (eqb w 0) e)
      where
        go : (z : Bool) → every (step_ok is_t m symbols strings t) (pick z [] (walk m t (fuel m t) w)) ≡ true
            → pick z None (Some (last_reached (walk m' t (fuel m t) w) w + 1)) ≡ pick z None (Some (last_reached (walk m t (fuel m t) w) w + 1))
        go true e = refl
        go false e =
            ap (λ (l : List ℕ). Some (last_reached l w + 1))
            (walk_same t (step_ok is_t m symbols strings t) (λ s o. chain_word_lem t bytes s (step_parts s o).0) (fuel m t) w e)

    highest_same : (n : ℕ) → n ≤ bucket_count t → highest m' t n ≡ highest m t n
    unfolding highest
    highest_same zero l = refl
    highest_same (suc n) l = rw (highest_same n (omega arith), bucket_word_lem t bytes n (omega arith))

    pub highest_past : past_walk m' t (highest m' t (bucket_count t)) ≡ past_walk m t (highest m t (bucket_count t))
    highest_past =
        rw (highest_same (bucket_count t) (omega arith))
        (highest_of m t (λ w. past_walk m' t w ≡ past_walk m t w) refl (bucket_count t)
        (λ i l. past_same (le_at 4 (mem m) (bucket_at t i)) (passes i l)))

  count_of_lem : (symbols strings : ℕ) (t : HashTable) → table_ok is_t m symbols strings t ≡ true → length m' ≡ length m
      → table_count m' t ≡ table_count m t
  unfolding table_count
  count_of_lem symbols strings Without ok len = refl
  count_of_lem symbols strings (SysV at n c) ok len = refl
  count_of_lem symbols strings (Gnu at n symoffset w shift) ok len = highest_past symbols strings (Gnu at n symoffset w shift) ok len

  -- the headers, should they be read again
  pub sysv_header : (at size : ℕ) → table_bytes is_t at size ≡ true → 8 ≤ size → sysv_at m' at ≡ sysv_at m at
  sysv_header at size b h = rw (number_same 4 at size 0 b (omega arith), number_same 4 at size 4 b (omega arith))

  pub gnu_header : (at size : ℕ) → table_bytes is_t at size ≡ true → 16 ≤ size → gnu_at m' at ≡ gnu_at m at
  gnu_header at size b h =
      rw (
        number_same 4 at size 0 b (omega arith),
        number_same 4 at size 4 b (omega arith),
        number_same 4 at size 8 b (omega arith),
        number_same 4 at size 12 b (omega arith),
      )

-- ---- the law

-- Where a view's hash table is not refused in an image, every image of the same length with the same table bytes gives the same lookup and
-- the same answer for every name (with any hashes), the same walk of every bucket and the same symbol count, and the table is not refused
-- in it either.
pub view_same :
    (is_t : ℕ → Bool) (m m' : List ℕ) (v : View)
    → table_ok is_t m v.symbols v.strings v.table ≡ true
    → Agree is_t m m'
    → length m' ≡ length m
    → ((name : List ℕ) (g e : ℕ) → lookup_by m' v name g e ≡ lookup_by m v name g e)
    × ((name : List ℕ) (g e : ℕ) → answer_by m' v name g e ≡ answer_by m v name g e)
    × ((i : ℕ) → i < bucket_count v.table → reached m' v.table i ≡ reached m v.table i)
    × (count_of m' v ≡ count_of m v)
    × (table_ok is_t m' v.symbols v.strings v.table ≡ true)
unfolding count_of
view_same is_t m m' v ok agree len = (
  λ name g e. find_same is_t m m' agree v.symbols v.strings v.table ok len name g e,
  λ name g e. answer_same is_t m m' agree v.symbols v.strings v.table ok len name g e,
  λ i l. reached_same is_t m m' agree v.symbols v.strings v.table ok len i l,
  rw (count_of_lem is_t m m' agree v.symbols v.strings v.table ok len),
  table_same is_t m m' agree v.symbols v.strings v.table ok len,
)

-- with the name's own hashes
pub lookup_same : (is_t : ℕ → Bool) (m m' : List ℕ) (v : View) → table_ok is_t m v.symbols v.strings v.table ≡ true
    → Agree is_t m m' → length m' ≡ length m → (name : List ℕ) → lookup_in m' v name ≡ lookup_in m v name
lookup_same is_t m m' v ok agree len name = (view_same is_t m m' v ok agree len).0 name (gnu_hash name) (elf_hash name)

pub answer_in_same : (is_t : ℕ → Bool) (m m' : List ℕ) (v : View) → table_ok is_t m v.symbols v.strings v.table ≡ true
    → Agree is_t m m' → length m' ≡ length m → (name : List ℕ) → answer_in m' v name ≡ answer_in m v name
answer_in_same is_t m m' v ok agree len name = (view_same is_t m m' v ok agree len).1 name (gnu_hash name) (elf_hash name)
