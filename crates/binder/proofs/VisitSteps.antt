-- What the proof of `visit` rests on. Assumes nothing.
use Rattle.std.proofs.Common.{◌≡◌, ℕ, zero, suc, ◌+◌, ◌-◌, ◌*◌, ◌<◌, ◌≤◌, Bool, true, false, not, eqb, List, [], ◌∷◌, ◌++◌, length, get_or, drop, set, sym, refl, ap, ◌∙◌, subst, ⊎_elim, true≢false, arith, length-set, drop_of_length-le, drop-cons, get_or-set_other, get_or-set_same, length-append, eq-eqb, eqb-true}
use lib.ListN.{get_or-eq_default}
use borrow.Author.Tests.{eqb-false}
use Rattle.words.specs.Choice.{both, either}
use Rattle.words.specs.Memory as memory
use Rattle.words.specs.Memory.{mem, tab, from}
use Rattle.words.proofs.Slices.{mem_tab, length_tab}
use Rattle.model.specs.Order as order
use Rattle.model.specs.Order.{has, listed, fresh, last_first, visit}
use Rattle.model.proofs.OrderLaws.{decide, passed, fresh_moved, visit_fresh}
use Rattle.binder.specs.Steps.Table.{needs_row}
use Rattle.binder.specs.Steps.OrderState.{State, unmarked, used, Room, Marks, Visited}

-- the loop over the needs of k: those from i on are visited, from the last
pub record Turn (table : List ℕ) (depth k : ℕ) (w₀ w : State) (i : ℕ) : Type 0 where
  pub room : Room w
  pub within : used w ≤ used w₀
  pub small : i ≤ 64
  pub same : (libs : ℕ) (path : List ℕ) → Marks libs path w₀ → w.list ≡ last_first (visit (needs_row table) libs (depth - 1) path) (drop i (needs_row table k)) w₀.list
  pub marked : (libs : ℕ) (path : List ℕ) → Marks libs path w₀ → Marks libs path w

-- o with k marked
abbrev pub mark : State → ℕ → State
mark o k = record { list = o.list; seen = set o.seen k true }

-- w with k put at the end
abbrev pub put : State → ℕ → State
put w k = record { list = w.list ++ (k ∷ []); seen = w.seen }

-- a mark that was not set is set: one less is depth
pub marking : (s : List Bool) (k : ℕ) → get_or s k true ≡ false → unmarked s ≡ suc (unmarked (set s k true))
marking [] k h = absurd (true≢false h)
marking (true ∷ s) zero h = absurd (true≢false h)
marking (false ∷ s) zero h = refl
marking (true ∷ s) (suc k) h = marking s k h
marking (false ∷ s) (suc k) h = ap suc (marking s k h)

pub not-false : (b : Bool) → true ≡ not b → b ≡ false
not-false true h = absurd (true≢false h)
not-false false h = refl

pub not-true : (b : Bool) → false ≡ not b → b ≡ true
not-true true h = refl
not-true false h = absurd (true≢false (sym h))

-- the three ways out that change nothing
pub nothing_left : {table : List ℕ} {depth k : ℕ} {o : State} → depth ≡ 0 → Room o → Visited table depth k o o
unfolding order.visit
nothing_left {table} {depth} {k} {o} h r = record { room = r; within = omega arith; same = λ libs path m. rw h; marked = λ libs path m. m }

pub marked_already : {table : List ℕ} {depth k : ℕ} {o : State} → get_or o.seen k true ≡ true → Room o → Visited table depth k o o
marked_already {table} {depth} {k} {o} h r =
    record {
      room = r;
      within = omega arith;
      same = λ libs path m. sym (passed (needs_row table) libs depth path k o.list (not-false (fresh libs path k o.list) (sym h ∙ m k)));
      marked = λ libs path m. m;
    }

pub no_object : {table : List ℕ} {depth k : ℕ} {o : State} → 64 ≤ k → Room o → Visited table depth k o o
no_object {table} {depth} {k} {o} h r = marked_already (get_or-eq_default o.seen true (omega (arith, r.marks))) r

-- a mark that the code read, inside the list
pub read : {b : Bool} (s : List Bool) (k : ℕ) → k < length s → get_or s k false ≡ b → get_or s k true ≡ b
read [] k h e = absurd (omega arith)
read (x ∷ s) zero h e = e
read (x ∷ s) (suc k) h e = read s k (omega arith) e

pub room_mark : {o : State} (k : ℕ) → get_or o.seen k true ≡ false → Room o → Room (mark o k)
room_mark {o} k h r =
    let one_less = marking o.seen k h in
    record { fits = omega (arith, r.fits); marks = simp length-set r.marks }

-- the loop's first turn
pub first_turn : {table : List ℕ} {depth k : ℕ} {w : State} → Room w → Turn table depth k w w 64
first_turn {table} {depth} {k} {w} r =
    record {
      room = r;
      within = omega arith;
      small = omega arith;
      same = λ libs path m. rw (drop_of_length-le (needs_row table k) {i = 64} (omega (arith, length_tab 64 (from (k * 64) (mem table)))));
      marked = λ libs path m. m;
    }

-- the need j at place i of k
need_at_lem : (table : List ℕ) (k i : ℕ) {i' j : ℕ} → i < 64 → suc i ≡ i' → j ≡ mem table (k * 64 + i) → drop i (needs_row table k) ≡ j ∷ drop i' (needs_row table k)
unfolding memory.mem
need_at_lem table k i {i'} {j} hi e ej =
    drop-cons (needs_row table k) i 0 (omega (arith, length_tab 64 (from (k * 64) (mem table))))
    ∙ ap (λ (x : ℕ). x ∷ drop (suc i) (needs_row table k)) (mem_tab 64 (from (k * 64) (mem table)) i hi ∙ sym ej)
    ∙ ap (λ (m : ℕ). j ∷ drop m (needs_row table k)) e

-- a turn
pub next_turn : {table : List ℕ} {depth k : ℕ} {w₀ w w' : State} {i j : ℕ} → 0 < i → j ≡ mem table (k * 64 + (i - 1))
    → Turn table depth k w₀ w i → Visited table (depth - 1) j w w' → Turn table depth k w₀ w' (i - 1)
next_turn {table} {depth} {k} {w₀} {w} {w'} {i} {j} hi ej t v =
    let back : suc (i - 1) ≡ i = omega arith in
    let lt : i - 1 < 64 = omega (arith, t.small) in
    record {
      room = v.room;
      within = omega (arith, v.within, t.within);
      small = omega (arith, t.small);
      same = λ libs path m.
          let f : ℕ → List ℕ → List ℕ = visit (needs_row table) libs (depth - 1) path in
          v.same libs path (t.marked libs path m)
          ∙ ap (λ (l : List ℕ). f j l) (t.same libs path m)
          ∙ sym (ap (λ (l : List ℕ). last_first f l w₀.list) (need_at_lem table k (i - 1) lt back ej));
      marked = λ libs path m. v.marked libs path (t.marked libs path m);
    }

-- onto the path
pub marks_mark : (libs : ℕ) (path : List ℕ) (k : ℕ) (o : State) → k < length o.seen → Marks libs path o → Marks libs (k ∷ path) (mark o k)
marks_mark libs path k o hk m j = ⊎_elim
    (λ (t : eqb j k ≡ true). subst (λ (x : ℕ). get_or (mark o k).seen x true ≡ not (fresh libs (k ∷ path) x (mark o k).list)) (sym (eqb-true j k t))
    (get_or-set_same o.seen k true true hk ∙ sym (on_path (listed libs k) (eqb k k) (has k path) (has k o.list) (eq-eqb k k refl))))
    (λ (t : eqb j k ≡ false). get_or-set_other o.seen k j true true (eqb-false j k t) ∙ m j ∙ rw t)
    (decide (eqb j k))
  where
    on_path : (l e p q : Bool) → e ≡ true → not (both l (both (not (either e p)) (not q))) ≡ true
    on_path true e p q h = rw h
    on_path false e p q h = refl

-- there is a place for k
pub place : {table : List ℕ} {depth k i : ℕ} {o w : State} → get_or o.seen k true ≡ false → Room o → Turn table depth k (mark o k) w i → length w.list < 64
place {k} {o} {w} h r t = let one_less = marking o.seen k h in omega (arith, r.fits, t.within)

-- the needs are visited, and k is put at the end
pub finish : {table : List ℕ} {depth k i : ℕ} {o w : State} → (depth ≡ 0 → ⊥) → k < 64 → get_or o.seen k true ≡ false → Room o
    → i ≤ 0 → Turn table depth k (mark o k) w i → Visited table depth k o (put w k)
finish {table} {depth} {k} {i} {o} {w} hl hk hs r hi t =
    let one_less = marking o.seen k hs in
    let long : length (w.list ++ (k ∷ [])) ≡ length w.list + 1 = length-append w.list (k ∷ []) in
    let at0 : i ≡ 0 = omega arith in
    let deep : depth ≡ suc (depth - 1) = omega arith in
    record {
      room = record { fits = omega (arith, r.fits, t.within); marks = t.room.marks };
      within = omega (arith, t.within);
      same = λ libs path m.
          let f : fresh libs path k o.list ≡ true = not-true (fresh libs path k o.list) (sym hs ∙ m k) in
          let ks : List ℕ = needs_row table k in
          let g : ℕ → List ℕ → List ℕ = visit (needs_row table) libs (depth - 1) (k ∷ path) in
          let all : w.list ≡ last_first g ks o.list = t.same libs (k ∷ path) (marks_mark libs path k o (omega (arith, r.marks)) m) ∙ ap (λ (z : ℕ). last_first g (drop z ks) o.list) at0 in
          ap (λ (l : List ℕ). l ++ (k ∷ [])) all ∙ sym (visit_fresh (needs_row table) libs depth (depth - 1) path k o.list deep f);
      marked = λ libs path m j. t.marked libs (k ∷ path) (marks_mark libs path k o (omega (arith, r.marks)) m) j ∙ rw fresh_moved;
    }
