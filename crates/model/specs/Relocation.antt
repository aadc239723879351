-- The arena after placing and after binding. Document 01, "Placed bytes" and "Relocated bytes and report"; System V gABI,
-- "Relocation" (RELR); x86-64 psABI, "Relocation Types". The arena is a memory: a byte at each offset. Assumes nothing.
use Rattle.std.specs.Prelude.{List, [], ◌∷◌, ℕ, ◌+◌, min}
use Rattle.words.specs.Memory.{Mem, write}
use Rattle.words.specs.Words.{le_at, byte_of, sum64}
use Rattle.model.specs.Symbols.{Resolved, absent, answer}
use Rattle.model.specs.Objects.{Entry, fixed, symbol, copy, pass, Obj, Objs, all, obj}
use Rattle.model.specs.Scope.{resolve, resolve_copy}

-- each object's image at its offset
unfoldable pub place : List Obj → Mem → Mem
place [] m = m
place (o ∷ os) m = place os (write m o.offset o.span o.image)

-- "The rest of the arena is 0"
unfoldable pub placed : Objs → Mem
placed S = place (all S) (λ _. 0)

-- RELR: the word at the place "gains base modulo 2^64"
unfoldable pub add_word : Obj → ℕ → Mem → Mem
add_word o p m = write m (o.offset + p) 8 (byte_of (sum64 (le_at 8 m (o.offset + p)) o.base))

-- RELR: the words one after another
unfoldable pub add_words : Obj → List ℕ → Mem → Mem
add_words o [] m = m
add_words o (p ∷ ps) m = add_words o ps (add_word o p m)

-- "6 and 7 write the address or 0"
unfoldable pub address_or0 : Resolved → ℕ
address_or0 absent = 0
address_or0 (answer k s a) = a

-- 5 "copies the smaller of the two symbols' sizes" to the offset `to`, from where the answer's symbol stands in its object; refusal 18
-- leaves no absolute symbol here, and no source that overlaps `to`
unfoldable pub copied : Objs → ℕ → ℕ → Resolved → Mem → Mem
copied S to size absent m = m
copied S to size (answer d s a) m = write m to (min size s.size) (λ t. m ((obj S d).offset + s.value + t))

-- what an entry of object `k` does
unfoldable pub effect : Objs → ℕ → Entry → Mem → Mem
effect S k (fixed p w n) m = write m ((obj S k).offset + p) w (byte_of n)
effect S k (symbol p w wanted f) m = write m ((obj S k).offset + p) w (byte_of (f (address_or0 (resolve S k wanted))))
effect S k (copy p wanted size) m = copied S ((obj S k).offset + p) size (resolve_copy S wanted) m
effect S k pass m = m

-- the entries one after another
unfoldable pub effects : Objs → ℕ → List Entry → Mem → Mem
effects S k [] m = m
effects S k (e ∷ es) m = effects S k es (effect S k e m)

-- "each object: RELR, RELA, PLT"
unfoldable pub relocate : Objs → ℕ → Mem → Mem
relocate S k m = effects S k (obj S k).entries (add_words (obj S k) (obj S k).words m)

-- the objects of a list of numbers, one after another
unfoldable pub run : Objs → List ℕ → Mem → Mem
run S [] m = m
run S (k ∷ ks) m = run S ks (relocate S k m)

-- the bound arena, where the objects are relocated in that order
unfoldable pub bound : Objs → List ℕ → Mem
bound S order = run S order (placed S)
