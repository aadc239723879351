-- Symbols, names and chain words that need no further test of refusals 12, 14 and 15. No contract cites this file. Assumes nothing.
use Rattle.std.specs.Prelude.{Ok}
use mathlib.Core.Path.{◌≡◌, refl, ◌∙◌}
use mathlib.Core.Bool.{Bool, true}
use mathlib.Core.List.{List}
use Prim.Native.Nat.{ℕ, ◌+◌, ◌-◌, ◌*◌, ◌/◌, ◌≤◌, ◌<◌}
use native.Mathlib.Nat.{add-zero}
use native.Mathlib.Omega.{arith}
use borrow.Author.Tests.{lt-ltb}
use lib.ListN.{length}
use Rattle.words.specs.Memory.{mem}
use Rattle.words.specs.Words.{le_at}
use Rattle.object.specs.declared.hash_tables.HashTable.TheVariants.{SysV, Gnu}
use Rattle.object.specs.declared.hash_tables.View.{View}
use Rattle.object.specs.declared.table_bytes.Bounds.{Bounds}
use Rattle.object.specs.TableBytes.{is_table, table_bytes}
use Rattle.object.specs.Steps.LastZero.{RunOf}
use Rattle.object.specs.Symbol.{symbol_from, symbol_at}
use Rattle.object.specs.HashCheck.{chain_ok, symbol_ok}
use Rattle.object.specs.Record.{Record, is_table_of, index_ok, checked_symbol}
use Rattle.object.specs.Steps.Marks.{step_in, ChainedOk, ShortcutsOk}
use Rattle.object.specs.Steps.FineRange.{TablesFine, ChainedFine, FineOf}
use Rattle.object.proofs.LastZeroLaws.{name_yes, bytes_yes}
use Rattle.object.proofs.ReadingsSame.{name_ok_same}

-- bytes of a run
run_bytes :
    (image : List ℕ) (is_t : ℕ → Bool) (span p end low : ℕ) → RunOf is_t (mem image) span p end low → (k n : ℕ) → p + k + n ≤ end
    → table_bytes is_t (p + k) n ≡ true
run_bytes image is_t span p end low u k n h = bytes_yes image is_t (p + k) end (omega arith) n (λ q a b. u.bytes q (omega arith) b) h

module _ (image : List ℕ) (is_t : ℕ → Bool) (symbols strings span : ℕ) where
  -- nothing needs no test
  pub tables_none : TablesFine is_t image symbols strings span 0 0
  tables_none = record { bytes = λ s h. absurd (omega arith); names = λ n h. absurd (omega arith); inside = omega arith }

  -- the symbols of a run, and the names of one
  pub tables_runs :
      (end low end' low' : ℕ) → RunOf is_t (mem image) span symbols end low → RunOf is_t (mem image) span strings end' low'
      → TablesFine is_t image symbols strings span ((end - symbols) / 24) (low' - strings)
  tables_runs end low end' low' u v = record {
    bytes = λ s h. run_bytes image is_t span symbols end low u (24 * s) 24 (omega (arith, u.within));
    names = λ n h.
        name_yes image is_t (strings + n) end' (omega (arith, v.last.within)) low' (λ q a b. v.bytes q (omega arith) b) (omega arith)
        v.last.within (v.last.zero (omega arith));
    inside = omega (arith, u.within, u.inside);
  }

  -- such a symbol with such a name passes
  pub tables_pass : (fits ends : ℕ) → TablesFine is_t image symbols strings span fits ends → (s w : ℕ) → s < fits
      → w ≡ le_at 4 (mem image) (symbols + 24 * s) → w < ends → symbol_ok is_t image symbols strings s ≡ true
  unfolding symbol_ok
  tables_pass fits ends f s w h e k = rw (f.bytes s h, ← e) (f.names w k)

pub chained_runs :
    (image : List ℕ) (is_t : ℕ → Bool) (span at chain end low : ℕ) → RunOf is_t (mem image) span (at + chain) end low
    → ChainedFine is_t at chain ((end - (at + chain)) / 4)
chained_runs image is_t span at chain end low u d h =
    let e : at + chain + 4 * d ≡ at + (chain + 4 * d) = omega arith in
    rw e at (run_bytes image is_t span (at + chain) end low u (4 * d) 4 (omega (arith, u.within)))

-- what holds of the tables of a record holds of the record, as far as the symbols are below a known count
pub fine_tables : (image : List ℕ) (r : Record) (most fits ends : ℕ)
    → TablesFine (is_table_of r) image r.symbols r.strings r.span most ends
    → fits ≤ most → ((s : ℕ) → s < fits → index_ok r.known s ≡ true) → FineOf image r fits ends
fine_tables image r most fits ends f le known = record {
  index = known;
  symbols = λ s h. f.bytes s (omega arith);
  names = f.names;
  inside = omega (arith, f.inside);
}

-- a symbol that needs no test, with a name that needs none, is not refused
pub fine_checked : (image : List ℕ) (r : Record) (fits ends : ℕ) → FineOf image r fits ends
    → (index : ℕ) → index < fits → (symbol_at image r.symbols index).name < ends
    → checked_symbol image r index ≡ Ok (symbol_at image r.symbols index)
unfolding checked_symbol symbol_ok symbol_from
fine_checked image r fits ends f index h k =
    rw (f.index index h, f.symbols index h, rw add-zero at (f.names (symbol_at image r.symbols index).name k))

-- it goes by the table bytes
pub fine_same : (image image' : List ℕ) (r : Record) (fits ends : ℕ) → FineOf image r fits ends → length image' ≡ length image
    → ((i : ℕ) → is_table_of r i ≡ true → mem image' i ≡ mem image i) → FineOf image' r fits ends
fine_same image image' r fits ends f len agree = record {
  index = f.index;
  symbols = f.symbols;
  names = λ n h. name_ok_same (is_table_of r) image image' agree (r.strings + n) ∙ f.names n h;
  inside = f.inside;
}

-- ---- what the check of a hash table goes by

-- a symbol that all of it reaches passes
pub at_once : (b : Bounds) (m : List ℕ) (v : View) (fits ends chained low s : ℕ) → ShortcutsOk b m v fits ends chained low
    → s - low < chained → s < fits → le_at 4 (mem m) (v.symbols + 24 * s) < ends → step_in b m v s ≡ true
at_once b m v fits ends chained low s o l f e =
    rw (o.chain s (rw o.start at l))
    (tables_pass m (is_table b.span b.segments.now) v.symbols v.strings b.span fits ends o.tables s
    (le_at 4 (mem m) (v.symbols + 24 * s)) f refl e)

module _ (is_t : ℕ → Bool) (at n : ℕ) where
  pub chained_sysv : (c : ℕ) → ChainedOk is_t (SysV at n c) c
  unfolding chain_ok
  chained_sysv c s l = lt-ltb s c (omega arith)

  pub chained_gnu : (symoffset b shift chained : ℕ) → ChainedFine is_t at (16 + 8 * b + 4 * n) chained → ChainedOk is_t (Gnu at n symoffset b shift) chained
  unfolding chain_ok
  chained_gnu symoffset b shift chained h s l = h (s - symoffset) l
