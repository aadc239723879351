-- Marks of symbols whose walk is known to pass, for the check that walks no chain twice. Only private functions cite it. Assumes nothing.
use Rattle.std.specs.Prelude.{Bool, true, false, List, ◌⊎◌, ◌≡◌, ℕ, ◌+◌, ◌-◌, ◌*◌, ◌/◌, ◌%◌, ◌^◌, ◌≤◌, ◌<◌, length, get_or}
use Rattle.words.specs.Choice.{both, every}
use Rattle.object.specs.declared.hash_tables.HashTable.{HashTable}
use Rattle.object.specs.declared.hash_tables.HashTable.TheVariants.{Without, SysV, Gnu}
use Rattle.object.specs.declared.hash_tables.View.{View}
use Rattle.object.specs.declared.table_bytes.Bounds.{Bounds}
use Rattle.object.specs.declared.check.Walked.{Walked}
use Rattle.object.specs.declared.check.Walked.TheVariants.{Ended, Failed, Cut}
use Rattle.object.specs.TableBytes.{is_table}
use Rattle.object.specs.HashTable.{fuel, walk}
use Rattle.object.specs.HashCheck.{bucket_ok, length_ok, chain_ok, step_ok}
use Rattle.object.specs.Steps.FineRange.{TablesFine}

-- ---- marks: mark `j` is that of symbol `low + j * step`

-- whether mark `j` is set: a bit of a word
abbrev pub mark_bit : List ℕ → ℕ → ℕ
mark_bit seen j = get_or seen (j / 64) 0 / 2 ^ (j % 64) % 2

-- symbol `s` has a mark, and it is set
abbrev pub MarkAt : List ℕ → ℕ → ℕ → ℕ → Type 0
MarkAt seen low step s = (j : ℕ) × ((mark_bit seen j ≡ 1) × (s ≡ low + j * step))

-- a mark that is set was set before, or is that of `s`
abbrev pub NewMark : List ℕ → List ℕ → ℕ → ℕ → ℕ → Type 0
NewMark old new low step s = (j : ℕ) → mark_bit new j ≡ 1 → (mark_bit old j ≡ 1) ⊎ (s ≡ low + j * step)

-- the symbols whose marks are set have the property
abbrev pub Marked : List ℕ → ℕ → ℕ → (ℕ → Type 0) → Type 0
Marked seen low step P = (j : ℕ) → mark_bit seen j ≡ 1 → P (low + j * step)

-- ---- the walk from a symbol

-- it ends, and all of its symbols pass the test, however far it is followed
abbrev pub Passes : List ℕ → HashTable → (ℕ → Bool) → ℕ → Type 0
Passes m t p s = (n : ℕ) × ((k : ℕ) → (length (walk m t k s) ≤ n) × (every p (walk m t k s) ≡ true))

-- what following it came to: its end, or a symbol whose walk passes; a symbol that does not pass; as many symbols as a walk may have
abbrev pub WalkedTo : List ℕ → HashTable → (ℕ → Bool) → ℕ → Walked → Type 0
WalkedTo m t p s Ended = Passes m t p s
WalkedTo m t p s Failed = every p (walk m t (fuel m t) s) ≡ false
WalkedTo m t p s Cut = (every p (walk m t (fuel m t) s) ≡ true) × (length (walk m t (fuel m t) s) ≡ fuel m t)

-- the marks after the walk from `word` was marked: if it passes, and the walks from the marked symbols passed, so do they now
abbrev pub MarksMore : List ℕ → HashTable → ℕ → ℕ → List ℕ → List ℕ → ℕ → Type 0
MarksMore m t low step old new word =
    (p : ℕ → Bool) → Passes m t p word → Marked old low step (Passes m t p) → Marked new low step (Passes m t p)

-- the check of a bucket with the word `w`, other than 0
unfoldable pub word_ok : List ℕ → HashTable → (ℕ → Bool) → ℕ → Bool
word_ok m t p w = both (bucket_ok t w) (both (length_ok t (length (walk m t (fuel m t) w))) (every p (walk m t (fuel m t) w)))

-- ---- what a check goes by

-- the first symbol that the chain has a word for
abbrev pub lowest : HashTable → ℕ
lowest Without = 0
lowest (SysV at n c) = 0
lowest (Gnu at n symoffset b shift) = symoffset

-- what is asked of each symbol
abbrev pub step_in : Bounds → List ℕ → View → ℕ → Bool
step_in b m v = step_ok (is_table b.span (b.segments.now)) m v.symbols v.strings v.table

-- the first `chained` symbols of the chain pass as far as the chain goes
abbrev pub ChainedOk : (ℕ → Bool) → HashTable → ℕ → Type 0
ChainedOk is_t t chained = (s : ℕ) → s - lowest t < chained → chain_ok is_t t s ≡ true

pub record ShortcutsOk (b : Bounds) (m : List ℕ) (v : View) (fits ends chained low : ℕ) : Type 0 where
  pub tables : TablesFine (is_table b.span b.segments.now) m v.symbols v.strings b.span fits ends
  pub chain : ChainedOk (is_table b.span b.segments.now) v.table chained
  pub start : low ≡ lowest v.table
