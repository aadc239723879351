-- What relocation leaves as it was: bytes that no entry writes, and so every byte outside the object's span. Assumes nothing.
use mathlib.Core.Path.{◌≡◌, refl, ◌∙◌}
use mathlib.Core.List.{List, [], ◌∷◌, Memᴰ}
use Prim.Native.Nat.{ℕ, ◌+◌, ◌≤◌, ◌<◌, min}
use native.Mathlib.Decide.{dec_lt}
use Rattle.words.specs.Memory.{Mem}
use Rattle.model.specs.Symbols.{Resolved, absent, answer}
use Rattle.model.specs.Objects.{Entry, fixed, symbol, copy, pass, Obj, Objs, count, obj}
use Rattle.model.specs.Scope.{resolve_copy}
use Rattle.model.specs.Relocation.{add_word, add_words, copied, effect, effects, relocate}
use Rattle.model.specs.Sound.{InsideCopy, Inside, Sound}
use Rattle.words.proofs.Memory.{Out, out_part, out_empty, write_out}

-- the arena offset lies outside the object's span
abbrev pub OutSpan : Obj → ℕ → Type 0
OutSpan o i = Out o.offset o.span i

-- a write of n bytes from `at` meets no byte of P
abbrev pub Clear : (ℕ → Type 0) → ℕ → ℕ → Type 0
Clear P at n = (i : ℕ) → P i → Out at n i

-- the same of a COPY with that answer
abbrev pub ClearCopy : (ℕ → Type 0) → ℕ → ℕ → Resolved → Type 0
ClearCopy P to size absent = Unit {0}
ClearCopy P to size (answer d s a) = Clear P to (min size s.size)

-- the entry of object k writes no byte of P
abbrev pub ClearEntry : (ℕ → Type 0) → Objs → ℕ → Entry → Type 0
ClearEntry P S k (fixed p w n) = Clear P ((obj S k).offset + p) w
ClearEntry P S k (symbol p w wanted f) = Clear P ((obj S k).offset + p) w
ClearEntry P S k (copy p wanted size) = ClearCopy P ((obj S k).offset + p) size (resolve_copy S wanted)
ClearEntry P S k pass = Unit {0}

-- bytes that nothing writes stay
module _ (P : ℕ → Type 0) where
  pub words_still :
      (o : Obj) (ps : List ℕ) → ((p : ℕ) → Memᴰ p ps → Clear P (o.offset + p) 8)
      → (m : Mem) (i : ℕ) → P i
      → add_words o ps m i ≡ m i
  unfolding add_words add_word
  words_still o [] h m i w = refl
  words_still o (p ∷ ps) h m i w =
      words_still o ps (λ q l. h q (Memᴰ.tail l)) (add_word o p m) i w
      ∙ write_out m (o.offset + p) 8 _ i (h p (Memᴰ.head refl) i w)

  copied_still :
      (S : Objs) (to size : ℕ) (b : Resolved) → ClearCopy P to size b → (m : Mem) (i : ℕ) → P i
      → copied S to size b m i ≡ m i
  unfolding copied
  copied_still S to size absent h m i w = refl
  copied_still S to size (answer d s a) h m i w = write_out m to (min size s.size) _ i (h i w)

  pub effect_still :
      (S : Objs) (k : ℕ) (e : Entry) → ClearEntry P S k e → (m : Mem) (i : ℕ) → P i
      → effect S k e m i ≡ m i
  unfolding effect
  effect_still S k (fixed p n v) h m i w = write_out m ((obj S k).offset + p) n _ i (h i w)
  effect_still S k (symbol p n wanted f) h m i w = write_out m ((obj S k).offset + p) n _ i (h i w)
  effect_still S k (copy p wanted size) h m i w =
      copied_still S ((obj S k).offset + p) size (resolve_copy S wanted) h m i w
  effect_still S k pass h m i w = refl

  pub effects_still :
      (S : Objs) (k : ℕ) (es : List Entry) → ((e : Entry) → Memᴰ e es → ClearEntry P S k e)
      → (m : Mem) (i : ℕ) → P i
      → effects S k es m i ≡ m i
  unfolding effects
  effects_still S k [] h m i w = refl
  effects_still S k (e ∷ es) h m i w =
      effects_still S k es (λ q l. h q (Memᴰ.tail l)) (effect S k e m) i w
      ∙ effect_still S k e (h e (Memᴰ.head refl)) m i w

clear_copy :
    (S : Objs) (k p size : ℕ) (b : Resolved) → InsideCopy S k p size b
    → ClearCopy (OutSpan (obj S k)) ((obj S k).offset + p) size b
clear_copy S k p size absent h = tt
clear_copy S k p size (answer d s a) h = go (dec_lt 0 (min size s.size))
  where
    go : Dec (0 < min size s.size) → Clear (OutSpan (obj S k)) ((obj S k).offset + p) (min size s.size)
    go (yes l) = out_part _ _ p (min size s.size) (h l).0
    go (no l) = λ i w. out_empty _ (min size s.size) i l

clear_entry : (S : Objs) (k : ℕ) (e : Entry) → Inside S k e → ClearEntry (OutSpan (obj S k)) S k e
clear_entry S k (fixed p w n) h = out_part _ _ p w h
clear_entry S k (symbol p w wanted f) h = out_part _ _ p w h
clear_entry S k (copy p wanted size) h = clear_copy S k p size (resolve_copy S wanted) h
clear_entry S k pass h = tt

pub words_frame :
    (o : Obj) (ps : List ℕ) (m : Mem) (i : ℕ) → ((p : ℕ) → Memᴰ p ps → p + 8 ≤ o.span)
    → OutSpan o i
    → add_words o ps m i ≡ m i
words_frame o ps m i h w =
    words_still (OutSpan o) o ps (λ p l. out_part _ _ p 8 (h p l)) m i w

-- relocation writes nothing outside the object's span
pub relocate_frame :
    (S : Objs) → Sound S → (k : ℕ) → 1 ≤ k → k < count S → (m : Mem) (i : ℕ)
    → OutSpan (obj S k) i
    → relocate S k m i ≡ m i
unfolding relocate
relocate_frame S sound k l h m i w =
    effects_still (OutSpan (obj S k)) S k (obj S k).entries
    (λ e x. clear_entry S k e (sound.entries_in k l h e x)) _ i w
    ∙ words_frame (obj S k) _ m i (sound.words_in k l h) w
