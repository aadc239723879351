-- The set of a sheet with two more words and more bytes is the set with one more object. Assumes nothing.
use mathlib.Core.Path.{◌≡◌, refl, sym, ap, ◌∙◌}
use mathlib.Core.Bool.{true, true≢false}
use mathlib.Core.List.{List, [], ◌∷◌, ◌++◌}
use Prim.Native.Nat.{ℕ, ◌*◌, ◌≤◌}
use native.Mathlib.Omega.{arith}
use borrow.Author.Tests.{eqb-true, leb-true}
use lib.Dec.{eqb, leb}
use lib.ListN.{length, take, drop, length-drop}
use lib.Seq.{take-append-le, drop-append-le}
use Rattle.words.proofs.Choice.{both_true}
use Rattle.sheet.specs.Sheet.{kind_of, length_in, pair_ok, lib_words, total, sheet_ok, cut, Input, libs_of, inputs_of, set_of}

-- the parts of the first words are of the first bytes, those of the others of the rest
cut_append : (ws us bs cs : List ℕ) → total ws ≡ length bs → cut (ws ++ us) (bs ++ cs) ≡ cut ws bs ++ cut us cs
unfolding cut total
cut_append [] us [] cs e = refl
cut_append [] us (b ∷ bs) cs e = absurd (omega arith)
cut_append (w ∷ ws) us bs cs e =
    rw (take-append-le (length_in w) bs cs (omega arith), drop-append-le (length_in w) bs cs (omega arith))
    (ap (λ (ps : List (List ℕ)). take (length_in w) bs ∷ ps) (cut_append ws us (drop (length_in w) bs) cs (omega (arith, length-drop (length_in w) bs))))

-- an even number of parts, and two more
libs_append :
    (ws bs x y : List ℕ) → lib_words ws ≡ true
    → libs_of (cut ws bs ++ (x ∷ (y ∷ []))) ≡ libs_of (cut ws bs) ++ (record { file = x; name = y } ∷ [])
unfolding lib_words cut libs_of
libs_append [] bs x y e = refl
libs_append (f ∷ []) bs x y e = absurd (true≢false (sym e))
libs_append (f ∷ (n ∷ ws)) bs x y e =
    ap (λ (ls : List Input). record { file = take (length_in f) bs; name = take (length_in n) (drop (length_in f) bs) } ∷ ls)
    (libs_append ws (drop (length_in n) (drop (length_in f) bs)) x y (both_true (pair_ok f n) (lib_words ws) e).1)

-- a host, a program and libraries
pub record Longer (os os' : List Input) : Type 0 where
  pub host : Input
  pub program : Input
  pub libs : List Input
  pub added : Input
  pub is : os ≡ host ∷ (program ∷ libs)
  pub longer : os' ≡ host ∷ (program ∷ (libs ++ (added ∷ [])))

pub sheet_longer :
    (sheet bytes : List ℕ) (file_word name_word : ℕ) (added : List ℕ) → sheet_ok sheet (length bytes) ≡ true
    → Longer (set_of sheet bytes) (set_of (sheet ++ (file_word ∷ (name_word ∷ []))) (bytes ++ added))
unfolding sheet_ok inputs_of cut
sheet_longer [] bytes f n added e = absurd (true≢false (sym e))
sheet_longer (h ∷ []) bytes f n added e = absurd (true≢false (sym e))
sheet_longer (h ∷ (p ∷ ws)) bytes f n added e =
    let a = both_true (eqb (kind_of h) 1) _ e in
    let b = both_true (eqb (kind_of p) 2) _ a.1 in
    let c = both_true (leb (length ws) (62 * 2)) _ b.1 in
    let d = both_true (lib_words ws) (eqb (total (h ∷ (p ∷ ws))) (length bytes)) c.1 in
    let x : List ℕ = take (length_in f) added in
    let y : List ℕ = take (length_in n) (drop (length_in f) added) in
    let rest : List ℕ = drop (length_in p) (drop (length_in h) bytes) in
    record {
      host = record { file = take (length_in h) bytes; name = [] };
      program = record { file = take (length_in p) (drop (length_in h) bytes); name = [] };
      libs = libs_of (cut ws rest);
      added = record { file = x; name = y };
      is = refl;
      longer =
          ap inputs_of (cut_append (h ∷ (p ∷ ws)) (f ∷ (n ∷ [])) bytes added (eqb-true (total (h ∷ (p ∷ ws))) (length bytes) d.1))
          ∙ ap (λ (ls : List Input). record { file = take (length_in h) bytes; name = [] } ∷ (record { file = take (length_in p) (drop (length_in h) bytes); name = [] } ∷ ls))
          (libs_append ws rest x y d.0);
    }

-- ---- a host, a program and at most 62 libraries

pub record Shape (os : List Input) : Type 0 where
  pub host : Input
  pub program : Input
  pub libs : List Input
  pub is : os ≡ host ∷ (program ∷ libs)
  pub few : length libs ≤ 62

-- two words a library
libs_length : (ws bs : List ℕ) → 2 * length (libs_of (cut ws bs)) ≤ length ws
unfolding cut libs_of
libs_length [] bs = omega arith
libs_length (f ∷ []) bs = omega arith
libs_length (f ∷ (n ∷ ws)) bs = omega (arith, libs_length ws (drop (length_in n) (drop (length_in f) bs)))

pub sheet_shape : (sheet bytes : List ℕ) (n : ℕ) → sheet_ok sheet n ≡ true → Shape (set_of sheet bytes)
unfolding sheet_ok inputs_of cut
sheet_shape [] bytes n e = absurd (true≢false (sym e))
sheet_shape (h ∷ []) bytes n e = absurd (true≢false (sym e))
sheet_shape (h ∷ (p ∷ ws)) bytes n e =
    let a = both_true (eqb (kind_of h) 1) _ e in
    let b = both_true (eqb (kind_of p) 2) _ a.1 in
    let c = both_true (leb (length ws) (62 * 2)) _ b.1 in
    let rest : List ℕ = drop (length_in p) (drop (length_in h) bytes) in
    record {
      host = record { file = take (length_in h) bytes; name = [] };
      program = record { file = take (length_in p) (drop (length_in h) bytes); name = [] };
      libs = libs_of (cut ws rest);
      is = refl;
      few = omega (arith, libs_length ws rest, leb-true (length ws) (62 * 2) c.0);
    }
