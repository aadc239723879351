-- The sets of `Example` meet the conditions of demand 3, so its statement speaks of them. Assumes nothing.
use mathlib.Core.Path.{◌≡◌, refl, sym, subst}
use mathlib.Core.Logic.{⊎_elim}
use mathlib.Core.List.Memᴰ
use mathlib.Core.List.{List, [], ◌∷◌, Memᴰ}
use Prim.Native.Nat.{ℕ, zero, suc, ◌+◌, ◌≤◌, ◌<◌}
use native.Mathlib.Omega.{arith}
use borrow.Author.Tests.{ne_eqb}
use Rattle.words.specs.Memory.{mem, tab}
use Rattle.model.specs.Objects.{Objs, obj}
use Rattle.model.specs.Scope.{scope_answer, scan, resolve_copy}
use Rattle.model.specs.Relocation.{bound}
use Rattle.model.specs.Order.{times}
use Rattle.model.specs.Sound.{Order, Inside, Sound}
use Rattle.model.specs.Longer.{NotCopy, OnlyProgramCopies, Kept}
use Rattle.model.specs.Layout.{Fits, layout, objs_of}
use Rattle.model.proofs.Laid.{objs_apart}
use Rattle.model.proofs.Files.{longer_files}
use Rattle.model.proofs.Example.{make, host, program, first, second, added, S, T, order_s, order_t}

-- P of each number below n
abbrev Below : ℕ → (ℕ → Type 0) → Type 0
Below zero P = Unit {0}
Below (suc n) P = P 0 × Below n (λ k. P (suc k))

below : (n : ℕ) (P : ℕ → Type 0) → Below n P → (k : ℕ) → k < n → P k
below zero P hs k l = absurd (omega arith)
below (suc n) P hs zero l = hs.0
below (suc n) P hs (suc k) l = below n (λ j. P (suc j)) hs.1 k (omega arith)

-- P of each element
abbrev All : {A : Type 0} → (A → Type 0) → List A → Type 0
All P [] = Unit {0}
All P (x ∷ xs) = P x × All P xs

every : {A : Type 0} (P : A → Type 0) (xs : List A) → All P xs → (x : A) → Memᴰ x xs → P x
every P [] hs x m = elim m [ ]
every P (y ∷ ys) hs x m = ⊎_elim (λ e. subst P (sym e) hs.0) (λ t. every P ys hs.1 x t) (Memᴰ.cases_cons m)

abbrev WordsIn : Objs → ℕ → Type 0
WordsIn A j = All (λ p. p + 8 ≤ (obj A j).span) (obj A j).words

abbrev EntriesIn : Objs → ℕ → Type 0
EntriesIn A j = All (Inside A j) (obj A j).entries

sound_S : Sound S
unfolding objs_of layout resolve_copy scan scope_answer
sound_S =
    record {
      apart = objs_apart make (λ f off. omega arith) host program (first ∷ second ∷ []);
      words_in = λ k l g. every (λ p. p + 8 ≤ (obj S k).span) (obj S k).words (below 4 (WordsIn S) words k g);
      entries_in = λ k l g. every (Inside S k) (obj S k).entries (below 4 (EntriesIn S) entries k g);
    }
  where
    words : Below 4 (WordsIn S)
    words = (tt, ((omega arith, (omega arith, tt)), (tt, (tt, tt))))

    entries : Below 4 (EntriesIn S)
    entries = (
      tt,
      (
        (omega arith, (omega arith, ((λ _. omega arith), ((λ _. omega arith), (omega arith, tt))))),
        (
          (omega arith, (omega arith, tt)),
          ((omega arith, (omega arith, tt)), tt),
        ),
      ),
    )

sound_T : Sound T
unfolding objs_of layout resolve_copy scan scope_answer
sound_T =
    record {
      apart = objs_apart make (λ f off. omega arith) host program (first ∷ second ∷ added ∷ []);
      words_in = λ k l g. every (λ p. p + 8 ≤ (obj T k).span) (obj T k).words (below 5 (WordsIn T) words k g);
      entries_in = λ k l g. every (Inside T k) (obj T k).entries (below 5 (EntriesIn T) entries k g);
    }
  where
    words : Below 5 (WordsIn T)
    words = (tt, ((omega arith, (omega arith, tt)), (tt, (tt, (tt, tt)))))

    entries : Below 5 (EntriesIn T)
    entries = (
      tt,
      (
        (omega arith, (omega arith, ((λ _. omega arith), ((λ _. omega arith), (omega arith, tt))))),
        (
          (omega arith, (omega arith, tt)),
          (
            (omega arith, (omega arith, tt)),
            (((λ _. omega arith), tt), tt),
          ),
        ),
      ),
    )

order_S : Order S order_s
unfolding objs_of layout
order_S =
    record {
      front = 2 ∷ 3 ∷ [];
      split = refl;
      only = only;
      once = λ j l g. below 4 (λ k. 2 ≤ k → times k (2 ∷ 3 ∷ []) ≡ 1)
          ((λ z. absurd (omega arith)), ((λ z. absurd (omega arith)), ((λ z. refl), ((λ z. refl), tt)))) j g l;
    }
  where
    only : (j : ℕ) → 0 < times j (2 ∷ 3 ∷ []) → (2 ≤ j) × (j < 4)
    only zero l = absurd (omega arith)
    only (suc zero) l = absurd (omega arith)
    only (suc (suc zero)) l = omega arith
    only (suc (suc (suc zero))) l = omega arith
    only (suc (suc (suc (suc j)))) l =
        let no_more = rw (ne_eqb 2 (suc (suc (suc (suc j)))) (omega arith), ne_eqb 3 (suc (suc (suc (suc j)))) (omega arith)) at l in
        absurd (omega arith)

order_T : Order T order_t
unfolding objs_of layout
order_T =
    record {
      front = 3 ∷ 4 ∷ 2 ∷ [];
      split = refl;
      only = only;
      once = λ j l g. below 5 (λ k. 2 ≤ k → times k (3 ∷ 4 ∷ 2 ∷ []) ≡ 1) (
        (λ z. absurd (omega arith)),
        ((λ z. absurd (omega arith)), ((λ z. refl), ((λ z. refl), ((λ z. refl), tt)))),
      ) j g l;
    }
  where
    only : (j : ℕ) → 0 < times j (3 ∷ 4 ∷ 2 ∷ []) → (2 ≤ j) × (j < 5)
    only zero l = absurd (omega arith)
    only (suc zero) l = absurd (omega arith)
    only (suc (suc zero)) l = omega arith
    only (suc (suc (suc zero))) l = omega arith
    only (suc (suc (suc (suc zero)))) l = omega arith
    only (suc (suc (suc (suc (suc j))))) l =
        let no_more =
        rw (
          ne_eqb 3 (suc (suc (suc (suc (suc j))))) (omega arith),
          ne_eqb 4 (suc (suc (suc (suc (suc j))))) (omega arith),
          ne_eqb 2 (suc (suc (suc (suc (suc j))))) (omega arith),
        ) at l in
        absurd (omega arith)

only_program : OnlyProgramCopies S
unfolding objs_of layout
only_program k l g =
    every NotCopy (obj S k).entries
    (below 4 (λ j. 2 ≤ j → All NotCopy (obj S j).entries)
    ((λ z. tt), ((λ z. absurd (omega arith)), ((λ z. (tt, (tt, tt))), ((λ z. (tt, (tt, tt))), tt)))) k g l)

fits_S : Fits S 128
unfolding objs_of layout
fits_S = below 4 (λ k. (obj S k).offset + (obj S k).span ≤ 128) (omega arith, (omega arith, (omega arith, (omega arith, tt))))

fits_T : Fits T 160
unfolding objs_of layout
fits_T =
    below 5 (λ k. (obj T k).offset + (obj T k).span ≤ 160)
    (omega arith, (omega arith, (omega arith, (omega arith, (omega arith, tt)))))

-- in arenas of 128 and of 160 bytes
kept : Kept S T (mem (tab 128 (bound S order_s))) (mem (tab 160 (bound T order_t)))
kept =
    longer_files make host program (first ∷ second ∷ []) order_s 128 sound_S order_S fits_S only_program added order_t 160 sound_T order_T
    fits_T
