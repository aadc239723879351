-- Runs of table bytes, and the name that starts in one: it is in table bytes if a zero byte follows in the run. No contract cites this file.
-- Assumes nothing.
use mathlib.Core.Path.{◌≡◌, refl, sym, ap, ◌∙◌}
use mathlib.Core.Bool.{Bool, true, false, not}
use mathlib.Core.List.{List}
use mathlib.Core.Logic.{◌⊎◌, inl, inr, ⊎_elim}
use Prim.Native.Nat.{ℕ, zero, suc, ◌+◌, ◌-◌, ◌≤◌, ◌<◌, min}
use native.Mathlib.Omega.{arith}
use borrow.Author.Tests.{eqb-true, eqb-false, le-ltb, lt-ltb, ltb-true, ltb-false}
use lib.Dec.{eqb, ltb}
use lib.ListN.{length, get_or, take, drop, drop_of_length-le, get_or-eq_default}
use lib.Seq.{get_or-take}
use Rattle.words.specs.Choice.{every}
use Rattle.words.specs.Memory.{mem}
use Rattle.words.specs.Names.{name_at}
use Rattle.words.proofs.Choice.{both_true}
use Rattle.words.proofs.NameLaws.{name_more, name_stop, name_none}
use Rattle.object.specs.declared.program_header.Segment.{Segment}
use Rattle.object.specs.TableBytes.{is_table, table_bytes, table_name}
use Rattle.object.specs.Steps.LastZero.{LastZero, Nearer, spoils}
use Rattle.object.proofs.ListTests.{every_at, every_step}
use Rattle.object.proofs.Ranges.{split, spares, below_all, below_no}

-- ---- the length of a name

-- a zero byte ends it at the latest
pub name_upto : (m : List ℕ) (d p : ℕ) → mem m (p + d) ≡ 0 → length (name_at m p) ≤ d
unfolding mem
name_upto m zero p z =
    let e : p + 0 ≡ p = omega arith in
    ⊎_elim
    (λ (i : p < length m). let r : length (name_at m p) ≡ 0 = ap length (name_stop m p i (rw e at z)) in omega arith)
    (λ (o : length m ≤ p). let r : length (name_at m p) ≡ 0 = ap length (name_none m p o) in omega arith)
    (split p (length m))
name_upto m (suc d) p z =
    let e : p + suc d ≡ p + 1 + d = omega arith in
    ⊎_elim
    (λ (i : p < length m). go i (eqb (get_or m p 0) 0) refl (name_upto m d (p + 1) (rw e at z)))
    (λ (o : length m ≤ p). let r : length (name_at m p) ≡ 0 = ap length (name_none m p o) in omega arith)
    (split p (length m))
  where
    go : p < length m → (t : Bool) → eqb (get_or m p 0) 0 ≡ t → length (name_at m (p + 1)) ≤ d → length (name_at m p) ≤ suc d
    go i true q ih = let r : length (name_at m p) ≡ 0 = ap length (name_stop m p i (eqb-true (get_or m p 0) 0 q)) in omega arith
    go i false q ih =
        let r : length (name_at m p) ≡ suc (length (name_at m (p + 1))) = ap length (name_more m p i (eqb-false (get_or m p 0) 0 q)) in
        omega arith

-- bytes that are not 0 are in it
pub name_past : (m : List ℕ) (d p : ℕ) → ((q : ℕ) → p ≤ q → q < p + d → mem m q ≡ 0 → ⊥) → d ≤ length (name_at m p)
unfolding mem
name_past m zero p h = omega arith
name_past m (suc d) p h =
    ⊎_elim
    (λ (i : p < length m).
    let r : length (name_at m p) ≡ suc (length (name_at m (p + 1))) = ap length (name_more m p i (λ z. h p (omega arith) (omega arith) z)) in
    let ih = name_past m d (p + 1) (λ q l u. h q (omega arith) (omega arith)) in
    omega arith)
    (λ (o : length m ≤ p). absurd (h p (omega arith) (omega arith) (get_or-eq_default m 0 o)))
    (split p (length m))

-- ---- a name in a run

module _ (m : List ℕ) (is_t : ℕ → Bool) (p end : ℕ) (le : p ≤ end) where
  pub name_yes : (low : ℕ) → ((q : ℕ) → p ≤ q → q < end → is_t q ≡ true) → p < low → low ≤ end → mem m (low - 1) ≡ 0
      → table_name is_t m p ≡ true
  unfolding table_name table_bytes
  name_yes low all l h z =
      let e : low - 1 ≡ p + (low - 1 - p) = omega arith in
      let u = name_upto m (low - 1 - p) p (rw e at z) in
      below_all (λ k. is_t (p + k)) (length (name_at m p) + 1) (λ k kl. all (p + k) (omega arith) (omega arith))

  pub name_no : is_t end ≡ false → ((q : ℕ) → p ≤ q → q < end → mem m q ≡ 0 → ⊥) → table_name is_t m p ≡ false
  unfolding table_name table_bytes
  name_no stop none =
      let e : end ≡ p + (end - p) = omega arith in
      let u = name_past m (end - p) p (λ q l h. none q l (omega arith)) in
      below_no (λ k. is_t (p + k)) (length (name_at m p) + 1) (end - p) (omega arith) (rw e at stop)

  -- bytes in a run, and past its end
  pub bytes_yes : (k : ℕ) → ((q : ℕ) → p ≤ q → q < end → is_t q ≡ true) → p + k ≤ end → table_bytes is_t p k ≡ true
  unfolding table_bytes
  bytes_yes k all h = below_all (λ j. is_t (p + j)) k (λ j l. all (p + j) (omega arith) (omega arith))

  pub bytes_no : (k : ℕ) → is_t end ≡ false → end < p + k → table_bytes is_t p k ≡ false
  unfolding table_bytes
  bytes_no k stop h =
      let e : end ≡ p + (end - p) = omega arith in
      below_no (λ j. is_t (p + j)) k (end - p) (omega arith) (rw e at stop)

-- ---- the last zero byte, by its place in the part before `end`

module _ (m : List ℕ) (end : ℕ) (h : end ≤ length m) where
  part_at : (q : ℕ) → q < end → get_or (take end m) q 0 ≡ mem m q
  unfolding mem
  part_at q u = get_or-take end m q 0 u

  pub last_found : (k : ℕ) → k < end → get_or (take end m) k 0 ≡ 0
      → ((q : ℕ) → k < q → q < end → get_or (take end m) q 0 ≡ 0 → ⊥) → LastZero (mem m) end (k + 1)
  last_found k u z none = record {
    within = omega arith;
    none = λ q a b e. none q (omega arith) b (part_at q b ∙ e);
    zero = λ p. let f : k + 1 - 1 ≡ k = omega arith in rw f (sym (part_at k u) ∙ z);
  }

  pub last_nowhere : ((q : ℕ) → q < end → get_or (take end m) q 0 ≡ 0 → ⊥) → LastZero (mem m) end 0
  last_nowhere none = record {
    within = omega arith;
    none = λ q a b e. none q b (part_at q b ∙ e);
    zero = λ p. absurd (omega arith);
  }

-- ---- the run from `p`, by the segments before the `i`th

-- of the bytes before `end` the segments from the `i`th on decide
abbrev pub RestAt : ℕ → List Segment → ℕ → ℕ → ℕ → Type 0
RestAt span l i p end =
    (q : ℕ) → p ≤ q → q < end → is_table span l q ≡ every (λ s. spares s q) (drop i l)

-- what a segment leaves of a run is no more than it, and starts where it did
pub nearer_within : (s : Segment) (p end low z end' low' : ℕ) → p ≤ end → Nearer s p end low z end' low' → (p ≤ end') × (end' ≤ end)
nearer_within s p end low z end' low' h (n, inl (e, f)) = (omega arith, omega arith)
nearer_within s p end low z end' low' h (n, inr (inl (e, f, t))) = (omega arith, omega arith)
nearer_within s p end low z end' low' h (n, inr (inr (e, f, a, b, t))) = (omega arith, omega arith)

module _ (span : ℕ) (l : List Segment) (p : ℕ) where
  pub rest_start : RestAt span l 0 p span
  unfolding is_table
  rest_start q a u = rw (lt-ltb q span u)

  pub rest_end : (i end : ℕ) → RestAt span l i p end → length l ≤ i → (q : ℕ) → p ≤ q → q < end → is_table span l q ≡ true
  unfolding every
  rest_end i end r e q a u = r q a u ∙ rw (drop_of_length-le l e)

  pub rest_turn : (i end end' : ℕ) (d : Segment) → i < length l → RestAt span l i p end → end' ≤ end
      → ((q : ℕ) → p ≤ q → q < end' → spoils (get_or l i d) q ≡ false) → RestAt span l (i + 1) p end'
  rest_turn i end end' d h r le n q a u =
      r q a (omega arith) ∙ every_step l i d h (λ s. spares s q) true (ap not (n q a u))

pub record RunAt (m : List ℕ) (span : ℕ) (l : List Segment) (i p end low : ℕ) : Type 0 where
  pub within : p ≤ end
  pub inside : end ≤ span
  pub rest : RestAt span l i p end
  pub stop : is_table span l end ≡ false
  pub zero : p < low → (low ≤ end) × (mem m (low - 1) ≡ 0)
  pub none : (q : ℕ) → p ≤ q → low ≤ q → q < end → mem m q ≡ 0 → ⊥

module _ (m : List ℕ) (span : ℕ) (l : List Segment) (p : ℕ) where
  pub run_start : p < span → (low : ℕ) → LastZero (mem m) span low → RunAt m span l 0 p span low
  unfolding is_table
  run_start h low z = record {
    within = omega arith;
    inside = omega arith;
    rest = rest_start span l p;
    stop = rw (le-ltb span span (omega arith));
    zero = λ u. (z.within, z.zero (omega arith));
    none = λ q a b u. z.none q b u;
  }

  module _ (i end low : ℕ) (r : RunAt m span l i p end low) where
    pub run_end : length l ≤ i → (q : ℕ) → p ≤ q → q < end → is_table span l q ≡ true
    run_end e = rest_end span l p i end r.rest e

    module _ (d : Segment) (h : i < length l) where
      spoiled : (q : ℕ) → spoils (get_or l i d) q ≡ true → is_table span l q ≡ false
      unfolding is_table
      spoiled q e = go (is_table span l q) refl
        where
          go : (t : Bool) → is_table span l q ≡ t → is_table span l q ≡ false
          go false f = f
          go true f =
              let y = every_at (λ s. spares s q) l i d (both_true (ltb q span) (every (λ s. spares s q) (l)) f).1 h in
              let z : not true ≡ true = rw e at y in
              cc

      pub run_turn : (z₀ end' low' : ℕ) → LastZero (mem m) (min (get_or l i d).vaddr span) z₀
          → Nearer (get_or l i d) p end low z₀ end' low' → RunAt m span l (i + 1) p end' low'
      run_turn z₀ end' low' z n = go n.1
        where
          on : RestAt span l (i + 1) p end'
          on = rest_turn span l p i end end' d h r.rest (nearer_within (get_or l i d) p end low z₀ end' low' r.within n).1 n.0

          go : ((end' ≡ end) × (low' ≡ low))
              ⊎ (((end' ≡ p) × (low' ≡ 0) × (spoils (get_or l i d) p ≡ true))
              ⊎ ((end' ≡ (get_or l i d).vaddr) × (low' ≡ z₀) × (p < (get_or l i d).vaddr) × ((get_or l i d).vaddr < end) × (spoils (get_or l i d) (get_or l i d).vaddr ≡ true)))
              → RunAt m span l (i + 1) p end' low'
          go (inl (e, f)) = record {
            within = omega (arith, r.within);
            inside = omega (arith, r.inside);
            rest = on;
            stop = rw e r.stop;
            zero = λ u. rw (e, f) (r.zero (omega arith));
            none = λ q a b u. r.none q a (omega arith) (omega arith);
          }
          go (inr (inl (e, f, s))) = record {
            within = omega arith;
            inside = omega (arith, r.within, r.inside);
            rest = on;
            stop = rw e (spoiled p s);
            zero = λ u. absurd (omega arith);
            none = λ q a b u. absurd (omega arith);
          }
          go (inr (inr (e, f, a₀, b₀, s))) =
              let k : min (get_or l i d).vaddr span ≡ end' = omega (arith, r.inside) in
              let z' : LastZero (mem m) end' low' = rw (f, ← k) z in record {
                within = omega arith;
                inside = omega (arith, r.inside);
                rest = on;
                stop = rw e (spoiled (get_or l i d).vaddr s);
                zero = λ u. (z'.within, z'.zero (omega arith));
                none = λ q a b u. z'.none q b u;
              }

-- the name at the start of a whole run is in table bytes if a zero byte is in the run
pub name_of_run :
    (m : List ℕ) (span : ℕ) (l : List Segment) (q i end low : ℕ) → RunAt m span l i q end low
    → ((k : ℕ) → q ≤ k → k < end → is_table span l k ≡ true) → ltb q low ≡ table_name (is_table span l) m q
name_of_run m span l q i end low r all = go (ltb q low) refl
  where
    go : (t : Bool) → ltb q low ≡ t → t ≡ table_name (is_table span l) m q
    go true e =
        let h = ltb-true q low e in
        let z = r.zero h in
        sym (name_yes m (is_table span l) q end r.within low all h z.0 z.1)
    go false e =
        let h = ltb-false q low e in
        sym (name_no m (is_table span l) q end r.within r.stop (λ k a u. r.none k a (omega arith) u))
