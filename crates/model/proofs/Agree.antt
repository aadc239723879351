-- Two memories that agree but for excepted bytes, and relocation of one object in both. Assumes nothing.
use mathlib.Core.Path.{◌≡◌, refl}
use mathlib.Core.Logic.{◌⊎◌, inl, inr}
use mathlib.Core.List.{List, [], ◌∷◌, Memᴰ}
use Prim.Native.Nat.{ℕ, ◌+◌, ◌≤◌}
use native.Mathlib.Omega.{arith}
use Rattle.words.specs.Memory.{Mem, In}
use Rattle.words.specs.Words.{le_at}
use Rattle.model.specs.Symbols.{Wanted}
use Rattle.model.specs.Objects.{Entry, fixed, symbol, pass, Obj, Objs, obj, InSpan}
use Rattle.model.specs.Scope.{resolve}
use Rattle.model.specs.Relocation.{add_word, add_words, effect, effects}
use Rattle.words.proofs.Memory.{write_both}
use Rattle.words.proofs.Words.{le_at_same}

-- equal on D but for E
abbrev pub Agree : (E D : ℕ → Type 0) → Mem → Mem → Type 0
Agree E D m m' = (i : ℕ) → D i → E i ⊎ (m i ≡ m' i)

pub exact : {P : Type 0} → ⊥ ⊎ P → P
exact (inl z) = absurd z
exact (inr p) = p

-- equal in the object's span, equal there after RELR
pub words_same :
    (o : Obj) (ps : List ℕ) (m m' : Mem) → ((p : ℕ) → Memᴰ p ps → p + 8 ≤ o.span)
    → ((i : ℕ) → InSpan o i → m i ≡ m' i)
    → (i : ℕ) → InSpan o i
    → add_words o ps m i ≡ add_words o ps m' i
unfolding add_words add_word
words_same o [] m m' h old i w = old i w
words_same o (p ∷ ps) m m' h old i w =
    words_same o ps (add_word o p m) (add_word o p m') (λ q l. h q (Memᴰ.tail l)) (λ j v. exact (one j v)) i w
  where
    word : le_at 8 m (o.offset + p) ≡ le_at 8 m' (o.offset + p)
    word = le_at_same 8 m m' (o.offset + p) (o.offset + p) (λ t l. old (o.offset + p + t) (let b = h p (Memᴰ.head refl) in omega arith))

    one : (j : ℕ) → InSpan o j → ⊥ ⊎ (add_word o p m j ≡ add_word o p m' j)
    one j v = write_both m m' (o.offset + p) 8 _ _ j (λ u. inr (rw word)) (inr (old j v))

-- one entry of object k, in the sets A and B
abbrev pub Step : (E D : ℕ → Type 0) → Objs → Objs → ℕ → Entry → Type 0
Step E D A B k e = (m m' : Mem) → Agree E D m m' → Agree E D (effect A k e m) (effect B k e m')

module _ (E D : ℕ → Type 0) (A B : Objs) (k : ℕ) (same : obj B k ≡ obj A k) where
  pub step_fixed : (p w n : ℕ) → Step E D A B k (fixed p w n)
  unfolding effect
  step_fixed p w n m m' old i d = rw same (write_both m m' ((obj A k).offset + p) w _ _ i (λ u. inr refl) (old i d))

  pub step_pass : Step E D A B k pass
  unfolding effect
  step_pass m m' old i d = old i d

  pub step_symbol :
      (p w : ℕ) (wanted : Wanted) (f : ℕ → ℕ) → resolve B k wanted ≡ resolve A k wanted → Step E D A B k (symbol p w wanted f)
  unfolding effect
  step_symbol p w wanted f e m m' old i d =
      rw (same, e) (write_both m m' ((obj A k).offset + p) w _ _ i (λ u. inr refl) (old i d))

  pub step_excepted :
      (p w : ℕ) (wanted : Wanted) (f : ℕ → ℕ) → ((i : ℕ) → In ((obj A k).offset + p) w i → E i)
      → Step E D A B k (symbol p w wanted f)
  unfolding effect
  step_excepted p w wanted f h m m' old i d =
      rw same (write_both m m' ((obj A k).offset + p) w _ _ i (λ u. inl (h i u)) (old i d))

pub effects_agree :
    (E D : ℕ → Type 0) (A B : Objs) (k : ℕ) (es : List Entry) → ((e : Entry) → Memᴰ e es → Step E D A B k e)
    → (m m' : Mem) → Agree E D m m'
    → Agree E D (effects A k es m) (effects B k es m')
unfolding effects
effects_agree E D A B k [] h m m' old = old
effects_agree E D A B k (e ∷ es) h m m' old =
    effects_agree E D A B k es (λ q l. h q (Memᴰ.tail l)) (effect A k e m) (effect B k e m')
    (h e (Memᴰ.head refl) m m' old)
