-- The law of specs/Invariant: an object's readings hang on its table bytes alone. Assumes nothing.
use Rattle.std.specs.Prelude.{Err, Ok}
use mathlib.Core.Path.{◌≡◌, refl, sym, ap, ◌∙◌}
use mathlib.Core.Bool.{Bool, true, false}
use mathlib.Core.List.Memᴰ
use mathlib.Core.List.{List, [], ◌∷◌, Memᴰ}
use mathlib.Core.Logic.{⊎_elim}
use Prim.Native.Nat.{ℕ, zero, suc, ◌+◌, ◌*◌, ◌≤◌, ◌<◌}
use native.Mathlib.Omega.{arith}
use lib.ListN.{length}
use Rattle.words.specs.Choice.{pick, both, either, every}
use Rattle.words.specs.Memory.{mem}
use Rattle.words.specs.Words.{le_at}
use Rattle.words.proofs.Choice.{both_true}
use Rattle.words.specs.declared.refusal.Refusal.TheVariants as refusals
use Rattle.object.specs.TableBytes.{table_bytes, table_name, Agree}
use Rattle.object.specs.Symbol.{symbol_at}
use Rattle.object.specs.HashCheck.{symbol_ok, table_ok}
use Rattle.object.specs.Entries.{rela_at, relas_from, relrs_from}
use Rattle.object.specs.Record.{Record, view_of, is_table_of, needs_ok, relocations_ok, tables_ok, index_ok, checked_symbol}
use Rattle.object.specs.Invariant.{Invariance}
use Rattle.object.proofs.LookupSame.{number_same, number_here, name_same, symbol_same, symbol_name_same, view_same}

-- a test of every element, at an element
every_in : {A : Type 0} (p : A → Bool) (xs : List A) (x : A) → every p xs ≡ true → Memᴰ x xs → p x ≡ true
unfolding every
every_in p [] x e h = absurd (Memᴰ.not-nil h)
every_in p (y ∷ ys) x e h =
    let w = both_true (p y) (every p ys) e in
    ⊎_elim (λ (q : x ≡ y). rw q w.0) (λ (t : Memᴰ x ys). every_in p ys x w.1 t) (Memᴰ.cases_cons h)

module _ (is_t : ℕ → Bool) (m m' : List ℕ) (agree : Agree is_t m m') where
  back : Agree is_t m' m
  back i t = sym (agree i t)

  -- ---- a symbol and its name are in table bytes in both images or in neither

  pub name_ok_same : (at : ℕ) → table_name is_t m' at ≡ table_name is_t m at
  unfolding table_name
  name_ok_same at = go (table_name is_t m at) (table_name is_t m' at) refl refl
    where
      go : (a b : Bool) → table_name is_t m at ≡ a → table_name is_t m' at ≡ b → table_name is_t m' at ≡ table_name is_t m at
      go true b ea eb = ap (λ (n : List ℕ). table_bytes is_t at (length n + 1)) (name_same is_t m m' agree at ea)
      go false true ea eb = ap (λ (n : List ℕ). table_bytes is_t at (length n + 1)) (sym (name_same is_t m' m back at eb))
      go false false ea eb = eb ∙ sym ea

  pub symbol_ok_same :
      (symbols strings s : ℕ) → symbol_ok is_t m' symbols strings s ≡ symbol_ok is_t m symbols strings s
  unfolding symbol_ok
  symbol_ok_same symbols strings s = go (table_bytes is_t (symbols + 24 * s) 24) refl
    where
      go :
          (t : Bool) → table_bytes is_t (symbols + 24 * s) 24 ≡ t
          → both t (table_name is_t m' (strings + le_at 4 (mem m') (symbols + 24 * s)))
          ≡ both t (table_name is_t m (strings + le_at 4 (mem m) (symbols + 24 * s)))
      go true e =
          rw (number_here is_t m m' agree 4 (symbols + 24 * s) 24 e (omega arith))
          (name_ok_same (strings + le_at 4 (mem m) (symbols + 24 * s)))
      go false e = refl

  -- ---- entries

  rela_same : (table c i : ℕ) → table_bytes is_t table (24 * c) ≡ true → i < c → rela_at m' table i ≡ rela_at m table i
  unfolding rela_at
  rela_same table c i b h =
      rw (
        number_same is_t m m' agree 8 table (24 * c) (24 * i) b (omega arith),
        number_same is_t m m' agree 4 table (24 * c) (24 * i + 8) b (omega arith),
        number_same is_t m m' agree 4 table (24 * c) (24 * i + 12) b (omega arith),
        number_same is_t m m' agree 8 table (24 * c) (24 * i + 16) b (omega arith),
      )

  pub relas_same :
      (table c : ℕ) → table_bytes is_t table (24 * c) ≡ true → (n i : ℕ) → i + n ≤ c
      → relas_from m' table i n ≡ relas_from m table i n
  unfolding relas_from
  relas_same table c b zero i h = refl
  relas_same table c b (suc n) i h =
      rw (rela_same table c i b (omega arith), relas_same table c b n (i + 1) (omega arith))

  pub relrs_same :
      (table c : ℕ) → table_bytes is_t table (8 * c) ≡ true → (n i : ℕ) → i + n ≤ c
      → relrs_from m' table i n ≡ relrs_from m table i n
  unfolding relrs_from
  relrs_same table c b zero i h = refl
  relrs_same table c b (suc n) i h =
      rw (number_same is_t m m' agree 8 table (8 * c) (8 * i) b (omega arith), relrs_same table c b n (i + 1) (omega arith))

-- ---- the whole

module _ (host : Bool) (r : Record) (m m' : List ℕ) (ok : tables_ok host m r ≡ true) where
  parts : (needs_ok m r ≡ true) × (either host (relocations_ok r) ≡ true) × (table_ok (is_table_of r) m r.symbols r.strings r.table ≡ true)
  unfolding tables_ok
  parts =
      let a = both_true (needs_ok m r) _ ok in
      let b = both_true (either host (relocations_ok r)) _ a.1 in
      (a.0, b.0, b.1)

  tables :
      host ≡ false
      → (table_bytes (is_table_of r) r.rela (24 * r.relas) ≡ true)
      × (table_bytes (is_table_of r) r.plt (24 * r.plts) ≡ true)
      × (table_bytes (is_table_of r) r.relr (8 * r.relrs) ≡ true)
  unfolding relocations_ok
  tables z =
      let e = rw z at parts.1 in
      let a = both_true (table_bytes (is_table_of r) r.rela (24 * r.relas)) _ e in
      let b = both_true (table_bytes (is_table_of r) r.plt (24 * r.plts)) _ a.1 in
      (a.0, b.0, b.1)

pub invariance : Invariance
unfolding checked_symbol needs_ok
invariance host r m m' ok len agree =
    record {
      answers = (view_same is_t m m' (view_of r) whole.2 agree len).1;
      needs = λ n h. name_same is_t m m' agree (r.strings + n) (every_in (λ k. table_name is_t m (r.strings + k)) r.needed n whole.0 h);
      symbols = λ index.
          rw (symbol_ok_same is_t m m' agree r.symbols r.strings index) (symbol index (symbol_ok is_t m r.symbols r.strings index) refl);
      names = λ index h. symbol_name_same is_t m m' agree r.symbols r.strings index h;
      relas = λ z. relas_same is_t m m' agree r.rela r.relas (tables host r m m' ok z).0 r.relas 0 (omega arith);
      plts = λ z. relas_same is_t m m' agree r.plt r.plts (tables host r m m' ok z).1 r.plts 0 (omega arith);
      relrs = λ z. relrs_same is_t m m' agree r.relr r.relrs (tables host r m m' ok z).2 r.relrs 0 (omega arith);
    }
  where
    is_t : ℕ → Bool
    is_t = is_table_of r

    whole : (needs_ok m r ≡ true) × (either host (relocations_ok r) ≡ true) × (table_ok is_t m r.symbols r.strings r.table ≡ true)
    whole = parts host r m m' ok

    symbol :
        (index : ℕ) (t : Bool) → symbol_ok is_t m r.symbols r.strings index ≡ t
        → pick (index_ok r.known index) (pick t (Ok (symbol_at m' r.symbols index)) (Err refusals.SymbolBytes)) (Err refusals.SymbolIndex)
        ≡ pick (index_ok r.known index) (pick t (Ok (symbol_at m r.symbols index)) (Err refusals.SymbolBytes)) (Err refusals.SymbolIndex)
    symbol index true e = rw (symbol_same is_t m m' agree r.symbols r.strings index e)
    symbol index false e = refl
