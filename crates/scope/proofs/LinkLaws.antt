-- The laws of the table of links: what is put is read, and what lies beside it is as it was. Assumes nothing.
use Prim.Native.Nat.{ℕ, zero, suc, ◌+◌, ◌-◌, ◌*◌, ◌%◌, ◌^◌, ◌≤◌, ◌<◌}
use mathlib.Core.Bool.{Bool, true, false}
use mathlib.Core.Path.{◌≡◌, refl, sym, ap, subst⁻¹, ◌∙◌}
use mathlib.Core.Logic.{◌⊎◌, inl, inr}
use mathlib.Core.List.{List, [], ◌∷◌, ◌++◌}
use native.Mathlib.Omega.{arith}
use native.Mathlib.Nat.{mod-eq_of_lt}
use lib.ListN.{length, take, drop, get_or, set, length-set, get_or-append}
use lib.Seq.{paste, length_paste_head, get_or-append-add, get_or-take, get_or-drop, length-take-le, get_or-set_same, get_or-set_other}
use Rattle.std.proofs.Common.{take_all, length-drop}
use lib.Pow.{pow-lt, pow_pos}
use native.Mathlib.Decide.{dec_lt}
use borrow.Author.Tests.{eq-eqb, ne_eqb, le-leb, lt-leb}
use Rattle.words.specs.Choice.{pick}
use Rattle.object.proofs.Ranges.{split}
use Rattle.object.specs.declared.hash_tables.HashTable.{HashTable}
use Rattle.object.specs.declared.hash_tables.HashTable.TheVariants.{Without, SysV, Gnu}
use Rattle.scope.specs.declared.links.Link.{Link}
use Rattle.scope.specs.Steps.Links.{hash_words, hash_of, narrow, nth, log_from, log_of, untested, testable, filter_words, filter_of, link_words, link_at, count_in, address_in, FilteredAt, FilteredBelow, Filtered, spliced, with_link}

module _ (d : List ℕ) (at : ℕ) (s : List ℕ) (n : ℕ) (hd : at + n ≤ length d) (hs : n ≤ length s) where
  -- an element that was pasted
  paste_in : (j : ℕ) → j < n → get_or (paste d at s n) (at + j) 0 ≡ get_or s j 0
  paste_in j h =
      let e : length (take at d) ≡ at = length-take-le at d (omega arith) in
      let hp : at + j < length (take at d ++ take n s) = rw (length_paste_head d at s n (omega arith) hs) (omega arith) in
      get_or-append (take at d ++ take n s) (drop (at + n) d) 0 (at + j) hp
      ∙ ap (λ (k : ℕ). get_or (take at d ++ take n s) (k + j) 0) (sym e)
      ∙ get_or-append-add (take at d) (take n s) j 0
      ∙ get_or-take n s j 0 h

  -- an element before what was pasted
  paste_below : (k : ℕ) → k < at → get_or (paste d at s n) k 0 ≡ get_or d k 0
  paste_below k h =
      let e : length (take at d) ≡ at = length-take-le at d (omega arith) in
      let hp : k < length (take at d ++ take n s) = rw (length_paste_head d at s n (omega arith) hs) (omega arith) in
      get_or-append (take at d ++ take n s) (drop (at + n) d) 0 k hp
      ∙ get_or-append (take at d) (take n s) 0 k (omega arith)
      ∙ get_or-take at d k 0 h

  -- an element past it
  paste_above : (j : ℕ) → get_or (paste d at s n) (at + n + j) 0 ≡ get_or d (at + n + j) 0
  paste_above j =
      let e : length (take at d ++ take n s) ≡ at + n = length_paste_head d at s n (omega arith) hs in
      ap (λ (k : ℕ). get_or (paste d at s n) (k + j) 0) (sym e)
      ∙ get_or-append-add (take at d ++ take n s) (drop (at + n) d) j 0
      ∙ get_or-drop (at + n) d j 0

-- a bit shifted inside a word
pub bit : (k width : ℕ) → k < width → 1 * 2 ^ k % 2 ^ width ≡ 2 ^ k
bit k width h =
    let e : 1 * 2 ^ k ≡ 2 ^ k = omega arith in
    rw e (mod-eq_of_lt (pow-lt h))

-- ---- the words of a link

-- the turns of the search for a logarithm
pub log_here : (k n : ℕ) → k < 32 → n ≡ 2 ^ k → k ≡ log_from (32 - k) k n
unfolding log_from
log_here k n h is =
    let s : 32 - k ≡ suc (31 - k) = omega arith in
    rw (s, eq-eqb _ _ is)

pub log_next : (k n : ℕ) → k < 32 → (n ≡ 2 ^ k → ⊥) → log_from (32 - k) k n ≡ log_from (32 - (k + 1)) (k + 1) n
unfolding log_from
log_next k n h ne =
    let s : 32 - k ≡ suc (32 - (k + 1)) = omega arith in
    rw (s, ne_eqb _ _ ne)

log_up : (k n : ℕ) → k ≤ 32 → ((i : ℕ) → i < k → n ≡ 2 ^ i → ⊥) → log_from 32 0 n ≡ log_from (32 - k) k n
log_up zero n h other = refl
log_up (suc k) n h other =
    let e : k + 1 ≡ suc k = omega arith in
    log_up k n (omega arith) (λ i l. other i (omega arith)) ∙ (rw e at (log_next k n (omega arith) (other k (omega arith))))

pub log_is : (k n : ℕ) → k < 32 → n ≡ 2 ^ k → k ≡ log_of n
unfolding log_of
log_is k n h is = log_here k n h is ∙ sym (log_up k n (omega arith) (λ i l e. let p : 2 ^ i < 2 ^ k = pow-lt l in absurd (omega (arith, p, e, is))))

-- between two powers there is none
pub log_none : (k n : ℕ) → 2 ^ k ≤ n → n < 2 * 2 ^ k → (n ≡ 2 ^ k → ⊥) → 64 ≡ log_of n
unfolding log_of log_from
log_none k n low high ne = sym (log_up 32 n (omega arith) (λ i l e. go i e (dec_lt i k) (dec_lt k i) (dec_lt (suc k) i)))
  where
    twice : 2 ^ suc k ≡ 2 * 2 ^ k
    twice = omega arith

    go : (i : ℕ) → n ≡ 2 ^ i → Dec (i < k) → Dec (k < i) → Dec (suc k < i) → ⊥
    go i e (yes l) u v = let p : 2 ^ i < 2 ^ k = pow-lt l in absurd (omega (arith, p, e, low))
    go i e (no l) (yes u) (yes v) = let p : 2 ^ suc k < 2 ^ i = pow-lt v in absurd (omega (arith, p, twice, e, high))
    go i e (no l) (yes u) (no v) = let s : i ≡ suc k = omega arith in let p = e ∙ ap (λ (j : ℕ). 2 ^ j) s in absurd (omega (arith, p, twice, high))
    go i e (no l) (no u) v = let s : i ≡ k = omega arith in ne (e ∙ ap (λ (j : ℕ). 2 ^ j) s)

pub log_zero : 64 ≡ log_of 0
unfolding log_of log_from
log_zero = sym (log_up 32 0 (omega arith) (λ i l e. let p = pow_pos i in absurd (omega (arith, p, e))))

-- what the six words of a hash table say
hash_back :
    (h : HashTable) → narrow h
    → hash_of (nth (hash_words h) 0) (nth (hash_words h) 1) (nth (hash_words h) 2) (nth (hash_words h) 3) (nth (hash_words h) 4) (nth (hash_words h) 5) ≡ h
hash_back Without f = refl
hash_back (SysV a b c) f = rw (mod-eq_of_lt f.0, mod-eq_of_lt f.1)
hash_back (Gnu a b c d e) f = rw (mod-eq_of_lt f.0, mod-eq_of_lt f.1, mod-eq_of_lt f.2, mod-eq_of_lt f.3)

pub hash_six :
    (h : HashTable)
    → nth (hash_words h) 0 ∷ nth (hash_words h) 1 ∷ nth (hash_words h) 2 ∷ nth (hash_words h) 3 ∷ nth (hash_words h) 4 ∷ nth (hash_words h) 5 ∷ [] ≡ hash_words h
hash_six Without = refl
hash_six (SysV a b c) = refl
hash_six (Gnu a b c d e) = refl

-- the words of a filter are three
three : (b : Bool) (x y z : ℕ) (l : List ℕ) → l ≡ pick b (x ∷ y ∷ z ∷ []) untested → nth l 0 ∷ nth l 1 ∷ nth l 2 ∷ [] ≡ l
three true x y z l e = rw e
three false x y z l e = rw e

pub filter_three :
    (offset span : ℕ) (h : HashTable)
    → nth (filter_of offset span h) 0 ∷ nth (filter_of offset span h) 1 ∷ nth (filter_of offset span h) 2 ∷ [] ≡ filter_of offset span h
unfolding filter_of filter_words
filter_three offset span Without = refl
filter_three offset span (SysV a b c) = refl
filter_three offset span (Gnu at b symoffset bloomwords shift) =
    three (testable offset span at bloomwords shift) (offset + at + 16) (log_of bloomwords) shift (filter_words offset span at bloomwords shift) refl

pub words_length : (s : Link) → length (link_words s) ≡ 16
unfolding link_words
words_length s = refl

module _ (t : List ℕ) (k : ℕ) (s : Link) (h : 16 * k + 16 ≤ length t) where
  one : (j : ℕ) → j < 16 → get_or (spliced t (16 * k) (link_words s)) (16 * k + j) 0 ≡ get_or (link_words s) j 0
  unfolding spliced
  one j l = paste_in t (16 * k) (link_words s) 16 h (omega (arith, words_length s)) j l

  -- what was put is read back
  pub splice_get : narrow s.view.table → link_at (spliced t (16 * k) (link_words s)) k ≡ s
  unfolding link_at link_words
  splice_get f =
      rw (
        one 0 (omega arith),
        one 1 (omega arith),
        one 2 (omega arith),
        one 3 (omega arith),
        one 4 (omega arith),
        one 5 (omega arith),
        one 6 (omega arith),
        one 7 (omega arith),
        one 8 (omega arith),
        one 9 (omega arith),
        hash_back s.view.table f,
      )

  -- a word of another object
  beside : (i : ℕ) → (i ≡ k → ⊥) → (j : ℕ) → j < 16 → get_or (spliced t (16 * k) (link_words s)) (16 * i + j) 0 ≡ get_or t (16 * i + j) 0
  unfolding spliced
  beside i ne j l = go (split i k) (split k i)
    where
      go : (i < k) ⊎ (k ≤ i) → (k < i) ⊎ (i ≤ k) → get_or (paste t (16 * k) (link_words s) 16) (16 * i + j) 0 ≡ get_or t (16 * i + j) 0
      go (inl q) z = paste_below t (16 * k) (link_words s) 16 h (omega (arith, words_length s)) (16 * i + j) (omega arith)
      go (inr q) (inl z) =
          let e : 16 * i + j ≡ 16 * k + 16 + (16 * i + j - (16 * k + 16)) = omega arith in
          subst⁻¹ (λ (m : ℕ). get_or (paste t (16 * k) (link_words s) 16) m 0 ≡ get_or t m 0) e
          (paste_above t (16 * k) (link_words s) 16 h (omega (arith, words_length s)) (16 * i + j - (16 * k + 16)))
      go (inr q) (inr z) = absurd (ne (omega arith))

  -- the link of another object is as it was
  pub splice_other : (i : ℕ) → (i ≡ k → ⊥) → link_at (spliced t (16 * k) (link_words s)) i ≡ link_at t i
  unfolding link_at
  splice_other i ne =
      rw (
        beside i ne 0 (omega arith),
        beside i ne 1 (omega arith),
        beside i ne 2 (omega arith),
        beside i ne 3 (omega arith),
        beside i ne 4 (omega arith),
        beside i ne 5 (omega arith),
        beside i ne 6 (omega arith),
        beside i ne 7 (omega arith),
        beside i ne 8 (omega arith),
        beside i ne 9 (omega arith),
      )

  -- words 10 to 12
  splice_filter : narrow s.view.table → FilteredAt (spliced t (16 * k) (link_words s)) k
  unfolding link_words
  splice_filter f =
      rw (splice_get f, one 10 (omega arith), one 11 (omega arith), one 12 (omega arith)) (filter_three s.offset s.span s.view.table)

  splice_beside : (i : ℕ) → (i ≡ k → ⊥) → FilteredAt t i → FilteredAt (spliced t (16 * k) (link_words s)) i
  splice_beside i ne before =
      rw (splice_other i ne, beside i ne 10 (omega arith), beside i ne 11 (omega arith), beside i ne 12 (omega arith)) before

-- ---- a table with a link put

module _ (t : List ℕ) (k : ℕ) (s : Link) where
  pub with_room : 16 * k + 16 ≤ length t → with_link t k s ≡ spliced t (16 * k) (link_words s)
  unfolding with_link
  with_room h = rw (le-leb _ _ h)

  pub with_none : length t < 16 * k + 16 → with_link t k s ≡ t
  unfolding with_link
  with_none h = rw (lt-leb _ _ h)

  pub put_get : narrow s.view.table → 16 * k + 16 ≤ length t → link_at (with_link t k s) k ≡ s
  put_get f h = ap (λ (x : List ℕ). link_at x k) (with_room h) ∙ splice_get t k s h f

  pub put_other : (i : ℕ) → (i ≡ k → ⊥) → link_at (with_link t k s) i ≡ link_at t i
  put_other i ne = go (split (length t) (16 * k + 16))
    where
      go : (length t < 16 * k + 16) ⊎ (16 * k + 16 ≤ length t) → link_at (with_link t k s) i ≡ link_at t i
      go (inl h) = ap (λ (x : List ℕ). link_at x i) (with_none h)
      go (inr h) = ap (λ (x : List ℕ). link_at x i) (with_room h) ∙ splice_other t k s h i ne

  -- the words of the filters, those of object `k` among them
  pub put_filtered : narrow s.view.table → 16 * k + 16 ≤ length t → FilteredBelow t k → FilteredBelow (with_link t k s) (k + 1)
  put_filtered f h before = rw (with_room h) (λ i l. go i l (split i k))
    where
      go : (i : ℕ) → i < k + 1 → (i < k) ⊎ (k ≤ i) → FilteredAt (spliced t (16 * k) (link_words s)) i
      go i l (inl q) = splice_beside t k s h i (omega arith) (before i q)
      go i l (inr q) =
          let e : i ≡ k = omega arith in
          rw e (splice_filter t k s h f)

  -- what `put_link` promises
  pub put_all :
      {x : List ℕ} → narrow s.view.table → x ≡ with_link t k s
      → (x ≡ with_link t k s)
      × ((16 * k + 16 ≤ length t → link_at x k ≡ s)
      × (((j : ℕ) → (j ≡ k → ⊥) → link_at x j ≡ link_at t j) × (16 * k + 16 ≤ length t → FilteredBelow t k → FilteredBelow x (k + 1))))
  put_all {x} f e = rw e (refl, (put_get f, (put_other, put_filtered f)))

-- ---- a table with the same words of objects

module _ (t t' : List ℕ) (row_word : (i : ℕ) → i < 1024 → get_or t' i 0 ≡ get_or t i 0) where
  pub link_same : (k : ℕ) → k < 64 → link_at t' k ≡ link_at t k
  unfolding link_at
  link_same k l =
      rw (
        row_word (16 * k + 0) (omega arith),
        row_word (16 * k + 1) (omega arith),
        row_word (16 * k + 2) (omega arith),
        row_word (16 * k + 3) (omega arith),
        row_word (16 * k + 4) (omega arith),
        row_word (16 * k + 5) (omega arith),
        row_word (16 * k + 6) (omega arith),
        row_word (16 * k + 7) (omega arith),
        row_word (16 * k + 8) (omega arith),
        row_word (16 * k + 9) (omega arith),
      )

  pub filter_same : (k : ℕ) → k < 64 → FilteredAt t k → FilteredAt t' k
  filter_same k l before =
      rw (
        link_same k l,
        row_word (16 * k + 10) (omega arith),
        row_word (16 * k + 11) (omega arith),
        row_word (16 * k + 12) (omega arith),
      )
      before

-- ---- a table with a count and an address put

module _ (t : List ℕ) (count address : ℕ) (long : 1026 ≤ length t) where
  abbrev with_set : List ℕ
  with_set = set (set t 1024 count) 1025 address

  -- a word of an object
  row_word : (i : ℕ) → i < 1024 → get_or with_set i 0 ≡ get_or t i 0
  row_word i l =
      get_or-set_other (set t 1024 count) 1025 i address 0 (λ e. omega arith) ∙ get_or-set_other t 1024 i count 0 (λ e. omega arith)

  count_put : count_in with_set ≡ count
  count_put = get_or-set_other (set t 1024 count) 1025 1024 address 0 (λ e. omega arith) ∙ get_or-set_same t 1024 count 0 (omega arith)

  address_put : address_in with_set ≡ address
  address_put =
      let n : length (set t 1024 count) ≡ length t = simp length-set in
      get_or-set_same (set t 1024 count) 1025 address 0 (omega arith)

  link_kept : (k : ℕ) → k < 64 → link_at with_set k ≡ link_at t k
  link_kept = link_same t with_set row_word

  filter_kept : (k : ℕ) → k < 64 → FilteredAt t k → FilteredAt with_set k
  filter_kept = filter_same t with_set row_word

  set_filtered : count ≤ 64 → FilteredBelow t count → Filtered with_set
  set_filtered few before =
      record {
        long = simp length-set long;
        few = omega (arith, count_put);
        rows = λ k l. filter_kept k (omega (arith, count_put)) (before k (omega (arith, count_put)));
      }

  -- what `put_set` promises
  pub set_all :
      {x : List ℕ} → count ≤ 64 → x ≡ with_set
      → ((count_in x ≡ count) × (address_in x ≡ address))
      × (((k : ℕ) → k < 64 → link_at x k ≡ link_at t k) × (FilteredBelow t count → Filtered x))
  set_all {x} few e = rw e ((count_put, address_put), (link_kept, set_filtered few))

-- ---- the words of an object are the first of the rest from them on

pub link_of_rest : (table : List ℕ) (k : ℕ) → link_at (take (length table - 16 * k) (drop (16 * k) table)) 0 ≡ link_at table k
unfolding link_at
link_of_rest table k =
    rw (take_all (length table - 16 * k) (drop (16 * k) table) (omega (arith, length-drop (16 * k) table))) (simp get_or-drop)
