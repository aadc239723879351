-- Demand 3: a set and the same set with one more library at its end. Assumes nothing.
use mathlib.Core.Path.{◌≡◌, refl, sym, ap, ◌∙◌}
use mathlib.Core.Logic.{◌⊎◌, inl, inr, ⊎_elim, ◌≢◌}
use mathlib.Core.List.{List, [], ◌∷◌, Memᴰ}
use Prim.Native.Nat.{ℕ, ◌+◌, ◌-◌, ◌≤◌, ◌<◌, min}
use native.Mathlib.Omega.{arith}
use native.Mathlib.Decide.{dec_lt}
use Rattle.words.specs.Memory.{Mem, In, write}
use Rattle.model.specs.Symbols.{Wanted, Resolved, absent, answer}
use Rattle.model.specs.Objects.{Entry, fixed, symbol, copy, pass, Obj, Objs, all, count, obj, InSpan}
use Rattle.model.specs.Scope.{resolve, resolve_copy}
use Rattle.model.specs.Relocation.{add_words, copied, effect, relocate, run, place, placed, bound}
use Rattle.model.specs.Order.{times}
use Rattle.model.specs.Sound.{InsideCopy, Sound}
use Rattle.model.specs.Longer.{
  longer,
  NotCopy,
  OnlyProgramCopies,
  HostOrNowhere,
  NamedByte,
  Copies,
  CopiesFrom,
  Excepted,
  named,
  copy_of,
  Longer,
}
use Rattle.words.proofs.Memory.{out_empty, write_out, write_both, write_off, in_or_out}
use Rattle.model.proofs.Scope.{
  bound_where,
  obj_longer,
  count_longer,
  obj_last,
  resolve_kept,
  resolve_copy_kept,
  resolve_copy_range,
  ProgramOrLibrary,
}
use Rattle.model.proofs.Frame.{words_frame}
use Rattle.model.proofs.Agree.{Agree, Step, words_same, step_fixed, step_symbol, step_excepted, step_pass}
use Rattle.model.proofs.Orders.{
  Only,
  times_early,
  run_append,
  place_append,
  apart_out,
  run_keeps,
  run_once,
  relocate_agree,
}

-- the offset lies in some object's span
abbrev pub InSpans : Objs → ℕ → Type 0
InSpans S i = (k : ℕ) × (k < count S) × InSpan (obj S k) i

-- a COPY, whatever its answer, is a write of bytes that the entry names
copied_is :
    (S : Objs) (k p size : ℕ) (b : Resolved) (m : Mem) → InsideCopy S k p size b
    → (n : ℕ) × (f : ℕ → ℕ) × ((i : ℕ) → copied S ((obj S k).offset + p) size b m i ≡ write m ((obj S k).offset + p) n f i)
    × ((i : ℕ) → In ((obj S k).offset + p) n i → In ((obj S k).offset + p) size i × InSpan (obj S k) i)
unfolding copied
copied_is S k p size absent m h =
    (0, λ _. 0, λ i. sym (write_out m ((obj S k).offset + p) 0 (λ _. 0) i (out_empty _ 0 i (omega arith))), λ i w. absurd (omega arith))
copied_is S k p size (answer d s a) m h =
    (min size s.size, _, λ i. refl, λ i w. let g = h (omega arith) in ((omega arith, omega arith), (omega arith, omega arith)))

module _
    (S : Objs)
    (x : Obj)
    (sound : Sound S)
    (sound_t : Sound (longer S x))
    (only : OnlyProgramCopies S)
  where
    -- an entry without COPY, of an object of S, in both sets
    step_plain :
        (D : ℕ → Type 0) (k : ℕ) → 1 ≤ k → k < count S → (e : Entry) → Memᴰ e (obj S k).entries → NotCopy e
        → Step (Excepted S) D S (longer S x) k e
    step_plain D k l h (fixed p w v) mem n = step_fixed (Excepted S) D S (longer S x) k (obj_longer S x k h) p w v
    step_plain D k l h (symbol p w wanted f) mem n =
        ⊎_elim
        (λ outside. step_excepted (Excepted S) D S (longer S x) k (obj_longer S x k h) p w wanted f
        (λ i u. named (k, symbol p w wanted f, l, h, mem, (outside, u))))
        (λ (answered : ProgramOrLibrary (resolve S k wanted)). step_symbol (Excepted S) D S (longer S x) k (obj_longer S x k h) p w wanted f
        (resolve_kept S x k h wanted answered.0 answered.1 answered.2 answered.3 answered.4 ∙ sym answered.3))
        (bound_where (resolve S k wanted))
    step_plain D k l h (copy p wanted size) mem n = absurd n
    step_plain D k l h pass mem n = step_pass (Excepted S) D S (longer S x) k (obj_longer S x k h)

    -- a copy that the program's entry writes lies in the program's span
    copy_in_program :
        (e : Entry) (i j : ℕ) → Memᴰ e S.program.entries → Copies S e i j
        → InSpan S.program i
    copy_in_program (fixed p w n) i j mem c = absurd c
    copy_in_program (symbol p w wanted f) i j mem c = absurd c
    copy_in_program (copy p wanted size) i j mem c =
        go (resolve_copy S wanted) (sound.entries_in 1 (omega arith) (omega arith) (copy p wanted size) mem) c
      where
        go :
            (b : Resolved) → InsideCopy S 1 p size b → CopiesFrom S (S.program.offset + p) size b i j
            → InSpan S.program i
        go absent h c' = absurd c'
        go (answer d s a) h c' = let g = h (omega arith) in omega arith
    copy_in_program pass i j mem c = absurd c

    -- so an excepted byte of another object is named by an entry
    outside_program :
        (d : ℕ) → d < count S → d ≢ 1 → (i : ℕ) → InSpan (obj S d) i → Excepted S i → NamedByte S i
    outside_program d h ne i w (named n) = n
    outside_program d h ne i w (copy_of j e mem c n) =
        let v = copy_in_program e i j mem c in
        ⊎_elim (λ u. absurd (omega arith)) (λ u. absurd (omega arith))
        (apart_out S sound d 1 h (omega arith) ne i v)

    -- a COPY entry of the program, in both sets
    step_copy :
        (p : ℕ) (wanted : Wanted) (size : ℕ) → Memᴰ (copy p wanted size) S.program.entries
        → Step (Excepted S) (InSpans S) S (longer S x) 1 (copy p wanted size)
    unfolding effect copied
    step_copy p wanted size mem m m' old i w = ⊎_elim outside answered (bound_where (resolve_copy S wanted))
      where
        outside :
            HostOrNowhere (resolve_copy S wanted)
            → Excepted S i ⊎ (effect S 1 (copy p wanted size) m i ≡ effect (longer S x) 1 (copy p wanted size) m' i)
        outside b =
            let u = copied_is S 1 p size (resolve_copy S wanted) m (sound.entries_in 1 (omega arith) (omega arith) (copy p wanted size) mem) in
            let v =
            copied_is (longer S x) 1 p size (resolve_copy (longer S x) wanted) m'
            (sound_t.entries_in 1 (omega arith) (omega arith) (copy p wanted size) mem) in
            rw (u.2 i, v.2 i)
            (write_off m m' (S.program.offset + p) u.0 u.1 (S.program.offset + p) v.0 v.1 i
            (λ z. let g = u.3 i z in named (1, copy p wanted size, omega arith, omega arith, mem, (b, g.0, g.1)))
            (λ z. let g = v.3 i z in named (1, copy p wanted size, omega arith, omega arith, mem, (b, g.0, g.1)))
            (old i w))

        source :
            (b : ProgramOrLibrary (resolve_copy S wanted)) → In (S.program.offset + p) (min size b.1.size) i
            → Excepted S i
            ⊎ (m ((obj S b.0).offset + b.1.value + (i - (S.program.offset + p)))
            ≡ m' ((obj S b.0).offset + b.1.value + (i - (S.program.offset + p))))
        source b u =
            let in_spans = (rw b.3 at (sound.entries_in 1 (omega arith) (omega arith) (copy p wanted size) mem)) (omega arith) in
            let range = resolve_copy_range S wanted b.0 b.1 b.2 b.3 in
            ⊎_elim
            (λ E. inl (copy_of _ (copy p wanted size) mem (rw b.3 (i - (S.program.offset + p), omega arith, omega arith, refl))
            (outside_program b.0 range.0 range.1 _ (omega arith) E)))
            (λ e. inr e)
            (old ((obj S b.0).offset + b.1.value + (i - (S.program.offset + p)))
            (b.0, range.0, omega arith))

        answered :
            ProgramOrLibrary (resolve_copy S wanted)
            → Excepted S i ⊎ (effect S 1 (copy p wanted size) m i ≡ effect (longer S x) 1 (copy p wanted size) m' i)
        answered b =
            rw (
              b.3,
              resolve_copy_kept S x wanted b.0 b.1 b.2 b.3 b.4,
              obj_longer S x b.0 (resolve_copy_range S wanted b.0 b.1 b.2 b.3).0,
            )
            (write_both m m' (S.program.offset + p) (min size b.1.size) _ _ i (λ u. source b u) (old i w))

    step_program :
        (e : Entry) → Memᴰ e S.program.entries → Step (Excepted S) (InSpans S) S (longer S x) 1 e
    step_program (fixed p w n) mem = step_plain (InSpans S) 1 (omega arith) (omega arith) (fixed p w n) mem tt
    step_program (symbol p w wanted f) mem = step_plain (InSpans S) 1 (omega arith) (omega arith) (symbol p w wanted f) mem tt
    step_program (copy p wanted size) mem = step_copy p wanted size mem
    step_program pass mem = step_plain (InSpans S) 1 (omega arith) (omega arith) pass mem tt

    -- placed bytes of S's objects
    placed_same : (k : ℕ) → k < count S → (i : ℕ) → InSpan (obj S k) i → placed S i ≡ placed (longer S x) i
    unfolding placed place
    placed_same k h i w =
        let past = rw (obj_longer S x k h, obj_last S x) at (sound_t.apart k (count S) h (omega (arith, count_longer S x))) in
        sym
        (ap (λ (f : Mem). f i) (place_append (all S) (x ∷ []) (λ _. 0))
        ∙ write_out (place (all S) (λ _. 0)) x.offset x.span x.image i (inl (omega arith)))

    -- an offset of a span of S, in T
    in_longer :
        (k : ℕ) → k < count S → (i : ℕ) → InSpan (obj S k) i
        → InSpan (obj (longer S x) k) i
    in_longer k h i w = rw (obj_longer S x k h) w

    module _ (ks : List ℕ) (only_s : Only (count S) ks) (once_s : (j : ℕ) → 2 ≤ j → j < count S → times j ks ≡ 1)
        (js : List ℕ) (only_t : Only (count (longer S x)) js) (once_t : (j : ℕ) → 2 ≤ j → j < count (longer S x) → times j js ≡ 1)
      where
        -- the host's and the program's bytes after the libraries
        early_same :
            (k : ℕ) → k < 2 → (i : ℕ) → InSpan (obj S k) i
            → run S ks (placed S) i ≡ run (longer S x) js (placed (longer S x)) i
        early_same k l i w =
            run_keeps S sound ks only_s k (omega arith) (times_early (count S) ks k only_s l) (placed S) i w
            ∙ (placed_same k (omega arith) i w
            ∙ sym
            (run_keeps (longer S x) sound_t js only_t k (omega arith) (times_early (count (longer S x)) js k only_t l)
            (placed (longer S x)) i (in_longer k (omega arith) i w)))

        -- a library's bytes after the libraries
        library_agree :
            (k : ℕ) → 2 ≤ k → k < count S → Agree (Excepted S) (InSpan (obj S k))
            (run S ks (placed S)) (run (longer S x) js (placed (longer S x)))
        library_agree k l h i w =
            rw (
              run_once S sound ks only_s k l h (once_s k l h) (only k l h) (placed S) i w,
              run_once (longer S x) sound_t js only_t k l (omega (arith, count_longer S x))
                  (once_t k l (omega (arith, count_longer S x))) (rw (obj_longer S x k h) (only k l h)) (placed (longer S x)) i
                  (in_longer k h i w),
            )
            (relocate_agree (Excepted S) (InSpan (obj S k)) S (longer S x) k (obj_longer S x k h)
            (λ e mem. step_plain (InSpan (obj S k)) k (omega arith) h e mem (only k l h e mem))
            (placed S) (placed (longer S x))
            (λ j v. inr (words_same (obj S k) (obj S k).words (placed S) (placed (longer S x))
            (sound.words_in k (omega arith) h) (placed_same k h) j v)) i w)

        front_agree : Agree (Excepted S) (InSpans S) (run S ks (placed S)) (run (longer S x) js (placed (longer S x)))
        front_agree i (k, h, w) = go (dec_lt k 2)
          where
            go : Dec (k < 2) → Excepted S i ⊎ (run S ks (placed S) i ≡ run (longer S x) js (placed (longer S x)) i)
            go (yes l) = inr (early_same k l i w)
            go (no l) = library_agree k (omega arith) h i w

        program_agree :
            Agree (Excepted S) (InSpans S)
            (relocate S 1 (run S ks (placed S))) (relocate (longer S x) 1 (run (longer S x) js (placed (longer S x))))
        program_agree =
            relocate_agree (Excepted S) (InSpans S) S (longer S x) 1 refl step_program (run S ks (placed S))
            (run (longer S x) js (placed (longer S x))) words
          where
            words :
                Agree (Excepted S) (InSpans S) (add_words S.program S.program.words (run S ks (placed S)))
                (add_words S.program S.program.words (run (longer S x) js (placed (longer S x))))
            words i w =
                ⊎_elim
                (λ v. inr (words_same S.program S.program.words _ _ (sound.words_in 1 (omega arith) (omega arith))
                (early_same 1 (omega arith)) i v))
                (λ v. rw (
                  words_frame S.program S.program.words (run S ks (placed S)) i (sound.words_in 1 (omega arith) (omega arith)) v,
                  words_frame S.program S.program.words (run (longer S x) js (placed (longer S x))) i
                      (sound.words_in 1 (omega arith) (omega arith)) v,
                )
                (front_agree i w))
                (in_or_out S.program.offset S.program.span i)

-- demand 3
pub longer_holds : Longer
unfolding bound run
longer_holds S order sound o only x order' sound_t o' =
    record {
      names = resolve_kept S x;
      copy_names = resolve_copy_kept S x;
      bytes = λ k h i w.
          rw (
            o.split,
            o'.split,
            run_append S o.front (1 ∷ []) (placed S),
            run_append (longer S x) o'.front (1 ∷ []) (placed (longer S x)),
          )
          (program_agree S x sound sound_t only o.front o.only o.once o'.front o'.only o'.once i (k, h, w));
    }
