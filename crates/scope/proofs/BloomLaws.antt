-- An object whose bloom filter rules a name out has no answer for it. No contract cites this file. Assumes nothing.
use Rattle.std.specs.Prelude.{None}
use mathlib.Core.Path.{◌≡◌, refl, sym, ap, subst, ◌∙◌}
use mathlib.Core.Bool.{Bool, true, false, not}
use mathlib.Core.List.{List, [], ◌∷◌}
use Prim.Native.Nat.{ℕ, zero, suc, ◌+◌, ◌*◌, ◌/◌, ◌%◌, ◌^◌, ◌≤◌, ◌<◌}
use native.Mathlib.Nat.{mod-lt, mod-eq_of_lt}
use native.Mathlib.Omega.{arith}
use borrow.Author.Tests.{eqb-true, leb-true}
use lib.Dec.{eqb, leb}
use lib.ListN.{take, drop, get_or}
use lib.Pow.{pow_pos}
use Rattle.words.specs.Choice.{pick, both}
use Rattle.words.specs.Memory.{mem}
use Rattle.words.specs.Words.{le_at}
use Rattle.words.proofs.Choice.{both_false}
use Rattle.words.proofs.Words.{le_at_part}
use Rattle.object.specs.declared.hash_tables.HashTable.{HashTable}
use Rattle.object.specs.declared.hash_tables.HashTable.TheVariants.{Without, SysV, Gnu}
use Rattle.object.specs.declared.hash_tables.View.{View}
use Rattle.object.specs.HashTable as table
use Rattle.object.specs.HashTable.{bloom_at, has_bits, may_hold, answer_by}
use Rattle.object.proofs.FindLaws.{find_not}
use Rattle.scope.specs.declared.links.Link.{Link}
use Rattle.scope.specs.Steps.Links.{log_from, log_of, untested, filter_words, filter_of, filter_at}
use Rattle.scope.specs.Steps.ScopeCode.{image_at, answer_at, Lacks}

-- what a test that fails does not tell
pub untold : {A : Type 0} → false ≡ true → A
untold z = let q : ◌≡◌ {A = ℕ} 0 1 = cc in absurd (omega arith)

-- two bits that are not both set
not_both : (a b : ℕ) → (a + b ≡ 2 → ⊥) → both (eqb a 1) (eqb b 1) ≡ false
not_both a b ne = go (eqb a 1) (eqb b 1) refl refl
  where
    go : (p q : Bool) → eqb a 1 ≡ p → eqb b 1 ≡ q → both p q ≡ false
    go false q e f = refl
    go true false e f = refl
    go true true e f = absurd (ne (omega (arith, eqb-true a 1 e, eqb-true b 1 f)))

-- the bloom word of an object's part, read in the arena
bits_out :
    (arena : List ℕ) (off span at n shift g w : ℕ) → bloom_at at n g + 8 ≤ span → w ≡ le_at 8 (mem arena) (off + bloom_at at n g)
    → (w / 2 ^ (g % 64) % 2 + w / 2 ^ (g / 2 ^ shift % 64) % 2 ≡ 2 → ⊥)
    → has_bits (le_at 8 (mem (take span (drop off arena))) (bloom_at at n g)) shift g ≡ false
bits_out arena off span at n shift g w fits is ne =
    rw (le_at_part 8 span off arena (bloom_at at n g) fits, ← is) (not_both (w / 2 ^ (g % 64) % 2) (w / 2 ^ (g / 2 ^ shift % 64) % 2) ne)

-- a table that cannot hold the name
miss : (image : List ℕ) (v : View) (name : List ℕ) (g e : ℕ) → may_hold image v.table g ≡ false → answer_by image v name g e ≡ None
unfolding table.answer_of
miss image v name g e h = rw (find_not image v.symbols v.strings v.table name g e h)

lacks_of : (arena : List ℕ) (s : Link) (g : ℕ) → may_hold (image_at arena s) s.view.table g ≡ false → Lacks arena s g
unfolding answer_at
lacks_of arena s g h name e = miss (image_at arena s) s.view name g e h

-- ---- the words of a filter

log_from_lem : (tries k n : ℕ) → log_from tries k n < 32 → n ≡ 2 ^ log_from tries k n
unfolding log_from
log_from_lem zero k n h = absurd (omega arith)
log_from_lem (suc tries) k n h = go (eqb n (2 ^ k)) refl h (log_from_lem tries (k + 1) n)
  where
    go :
        (b : Bool) → eqb n (2 ^ k) ≡ b → pick b k (log_from tries (k + 1) n) < 32 → (log_from tries (k + 1) n < 32 → n ≡ 2 ^ log_from tries (k + 1) n)
        → n ≡ 2 ^ pick b k (log_from tries (k + 1) n)
    go true e l next = eqb-true n (2 ^ k) e
    go false e l next = next l

-- a logarithm below 32 is one
log_is : (n : ℕ) → log_of n < 32 → n ≡ 2 ^ log_of n
unfolding log_of
log_is n h = log_from_lem 32 0 n h

-- the words `a`, `b` and `c` of a filter: `w` is its bloom word for the hash, and lacks a bit of it
module _
    (arena : List ℕ)
    (g w a b c : ℕ)
    (low : b < 32)
    (is : w ≡ le_at 8 (mem arena) (a % 2 ^ 32 + 8 * (g / 64 % 2 ^ b)))
    (ne : w / 2 ^ (g % 64) % 2 + w / 2 ^ (g / 2 ^ (c % 32) % 64) % 2 ≡ 2 → ⊥)
  where
    -- a filter of which the words say nothing has no such logarithm
    clash : {A : Type 0} → a ∷ b ∷ c ∷ [] ≡ untested → A
    clash e =
        let q : b ≡ 64 = ap (λ (l : List ℕ). get_or l 1 0) e in
        absurd (omega (arith, low))

    module _ (off span at bloomwords shift : ℕ) where
      abbrev NoBits : Type 0
      NoBits = has_bits (le_at 8 (mem (take span (drop off arena))) (bloom_at at bloomwords g)) shift g ≡ false

      tested :
          shift ≤ 31 → at + (16 + 8 * bloomwords) ≤ span → off + span ≤ 2 ^ 32 → a ≡ off + at + 16 → b ≡ log_of bloomwords → c ≡ shift → NoBits
      tested small inside short ea eb ec =
          let power : bloomwords ≡ 2 ^ b = rw eb (log_is bloomwords (omega (arith, low, eb))) in
          let some : 0 < bloomwords = rw power (pow_pos b) in
          let below : g / 64 % bloomwords < bloomwords = mod-lt (g / 64) some in
          let e1 : a % 2 ^ 32 ≡ a = mod-eq_of_lt (omega arith) in
          let e2 : g / 64 % 2 ^ b ≡ g / 64 % bloomwords = ap (λ (m : ℕ). g / 64 % m) (sym power) in
          let e3 : a % 2 ^ 32 + 8 * (g / 64 % 2 ^ b) ≡ off + bloom_at at bloomwords g = omega (arith, e1, e2, ea) in
          let e4 : c % 32 ≡ shift = omega arith in
          bits_out arena off span at bloomwords shift g w (omega (arith, below)) (is ∙ ap (le_at 8 (mem arena)) e3)
          (subst (λ (s : ℕ). w / 2 ^ (g % 64) % 2 + w / 2 ^ (g / 2 ^ s % 64) % 2 ≡ 2 → ⊥) e4 ne)

      no_bits : a ∷ b ∷ c ∷ [] ≡ filter_words off span at bloomwords shift → NoBits
      unfolding filter_words
      no_bits e = go (leb shift 31) (leb (at + (16 + 8 * bloomwords)) span) (leb (off + span) (2 ^ 32)) refl refl refl e
        where
          go :
              (p q r : Bool) → leb shift 31 ≡ p → leb (at + (16 + 8 * bloomwords)) span ≡ q → leb (off + span) (2 ^ 32) ≡ r
              → a ∷ b ∷ c ∷ [] ≡ pick (both p (both q r)) ((off + at + 16) ∷ log_of bloomwords ∷ shift ∷ []) untested → NoBits
          go true true true x y z l =
              tested (leb-true _ _ x) (leb-true _ _ y) (leb-true _ _ z) (ap (λ (l : List ℕ). get_or l 0 0) l) (ap (λ (l : List ℕ). get_or l 1 0) l) (ap (λ (l : List ℕ). get_or l 2 0) l)
          go true true false x y z l = clash l
          go true false r x y z l = clash l
          go false q r x y z l = clash l

    may_not : (off span : ℕ) (h : HashTable) → a ∷ b ∷ c ∷ [] ≡ filter_of off span h → may_hold (take span (drop off arena)) h g ≡ false
    unfolding filter_of table.may_hold
    may_not off span Without e = refl
    may_not off span (SysV at n nchain) e = clash e
    may_not off span (Gnu at n symoffset bloomwords shift) e =
        both_false (not (eqb n 0)) _ (both_false (not (eqb bloomwords 0)) _ (no_bits off span at bloomwords shift e))

    pub lacks_name : (s : Link) → a ∷ b ∷ c ∷ [] ≡ filter_at s → Lacks arena s g
    lacks_name s e = lacks_of arena s g (may_not s.offset s.span s.view.table e)
