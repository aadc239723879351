-- The PT_LOAD headers of a file, header by header. Assumes nothing.
use mathlib.Core.Path.{◌≡◌, refl, sym, ap, ◌∙◌}
use mathlib.Core.List.{List, [], ◌∷◌, ◌++◌, append-nil, append_assoc}
use Prim.Native.Nat.{ℕ, zero, suc, ◌+◌, ◌≤◌, ◌<◌}
use native.Mathlib.Omega.{arith}
use native.Mathlib.Decide.{dec_le}
use native.Mathlib.Numerals.{add-one}
use borrow.Author.Tests.{eq-eqb, ne_eqb}
use lib.Dec.{eqb}
use lib.ListN.{length, take, length-append}
use Rattle.std.proofs.lemmas.List.{take_at}
use Rattle.words.specs.Choice.{pick}
use Rattle.object.specs.declared.program_header.Segment.{Segment}
use Rattle.object.specs.Header.{header_count}
use Rattle.object.specs.ProgramHeader.{type_at, segment_at, loads_in, loads_of}

module _ (file : List ℕ) (i : ℕ) where
  pub loads_one : type_at file i ≡ 1 → loads_in file (i + 1) ≡ loads_in file i ++ (segment_at file i ∷ [])
  unfolding loads_in
  loads_one e = rw (add-one, eq-eqb _ _ e)

  pub loads_none : (type_at file i ≡ 1 → ⊥) → loads_in file (i + 1) ≡ loads_in file i
  unfolding loads_in
  loads_none e = rw (add-one, ne_eqb _ _ e) (append-nil (loads_in file i))

-- the headers among fewer are the first among more
loads_grow : (file : List ℕ) (i n : ℕ) → i ≤ n → (more : List Segment) × (loads_in file n ≡ loads_in file i ++ more)
unfolding loads_in
loads_grow file i zero h = let e : i ≡ 0 = omega arith in rw e ([], refl)
loads_grow file i (suc n) h = go (dec_le i n) (λ l. loads_grow file i n l)
  where
    go :
        Dec (i ≤ n) → (i ≤ n → (more : List Segment) × (loads_in file n ≡ loads_in file i ++ more))
        → (more : List Segment) × (loads_in file (suc n) ≡ loads_in file i ++ more)
    go (yes l) ih =
        let last : List Segment = pick (eqb (type_at file n) 1) (segment_at file n ∷ []) [] in
        ((ih l).0 ++ last, ap (λ (ss : List Segment). ss ++ last) (ih l).1 ∙ append_assoc (loads_in file i) (ih l).0 last)
    go (no l) ih = let e : i ≡ suc n = omega arith in rw e ([], sym (append-nil (loads_in file (suc n))))

-- one more PT_LOAD than the record keeps
pub loads_over :
    (file : List ℕ) (i : ℕ) → length (loads_in file i) ≡ 16 → type_at file i ≡ 1 → i < header_count file
    → (16 < length (loads_of file)) × (loads_in file i ≡ take 16 (loads_of file))
loads_over file i full t h =
    let more = loads_grow file (i + 1) (header_count file) (omega arith) in
    let all : loads_of file ≡ loads_in file i ++ (segment_at file i ∷ more.0) =
    more.1 ∙ (ap (λ (ss : List Segment). ss ++ more.0) (loads_one file i t) ∙ append_assoc (loads_in file i) (segment_at file i ∷ []) more.0)
    in (
      omega (arith, full, ap (λ (ss : List Segment). length ss) all, length-append (loads_in file i) (segment_at file i ∷ more.0)),
      sym (ap (λ (ss : List Segment). take 16 ss) all ∙ take_at (loads_in file i) (segment_at file i ∷ more.0) 16 full),
    )
