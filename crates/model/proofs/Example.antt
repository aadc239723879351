-- A set and a longer one, computed from the definitions alone: what demand 3 excepts does happen, and where the order changes the
-- other bytes are equal. `ExampleBound` shows that both sets meet the conditions. Assumes nothing.
use mathlib.Core.Path.{◌≡◌, refl}
use mathlib.Core.Bool.{Bool, true, false}
use mathlib.Core.List.Memᴰ
use mathlib.Core.List.{List, [], ◌∷◌}
use Prim.Native.Nat.{ℕ, ◌+◌, ◌^◌}
use native.Mathlib.Omega.{arith}
use lib.Dec.{eqb}
use lib.ListN.{get_or}
use Rattle.words.specs.Choice.{pick}
use Rattle.words.specs.Memory.{Mem, write}
use Rattle.words.specs.Words.{le_at, byte_of}
use Rattle.model.specs.Symbols.{Wanted, by_name, Definition, Exported, none, hit, address, answer}
use Rattle.model.specs.Objects.{Entry, fixed, symbol, copy, Obj, Objs}
use Rattle.model.specs.Scope.{scope_answer, protected_of, scan, resolve, resolve_copy}
use Rattle.model.specs.Relocation.{
  place,
  placed,
  add_word,
  add_words,
  address_or0,
  copied,
  effect,
  effects,
  relocate,
  run,
  bound,
}
use Rattle.model.specs.Longer.{nowhere, to_host, Excepted, named, copy_of}
use Rattle.model.specs.Layout.{layout, objs_of}

-- ---- the files, already read; the arena's address is 4096, and a name is one byte

pub record File : Type 0 where
  pub span : ℕ
  pub image : Mem
  pub find : Wanted → Exported
  pub words : List ℕ
  pub entries : List Entry

abbrev pub make : File → ℕ → Obj
make f off =
    record {
      offset = off;
      span = f.span;
      base = 4096 + off;
      image = f.image;
      find = f.find;
      words = f.words;
      entries = f.entries;
    }

abbrev a : Wanted
a = by_name (97 ∷ [])

abbrev c : Wanted
c = by_name (99 ∷ [])

abbrev g : Wanted
g = by_name (103 ∷ [])

abbrev h : Wanted
h = by_name (104 ∷ [])

abbrev u : Wanted
u = by_name (117 ∷ [])

abbrev definition_of : Bool → ℕ → ℕ → Definition
definition_of absolute value size =
    record { index = 1; value = value; size = size; protected = false; absolute = absolute }

abbrev protected_at : ℕ → Definition
protected_at value = record { index = 1; value = value; size = 8; protected = true; absolute = false }

-- a symbol for the name of that one byte, else what is found besides
abbrev with : ℕ → Definition → (Wanted → Exported) → Wanted → Exported
with b s besides wanted = pick (eqb (get_or wanted.name 0 0) b) (hit s) (besides wanted)

abbrev nothing : Wanted → Exported
nothing wanted = none

-- at 0, defines a, g and h
abbrev pub host : File
host =
    record {
      span = 16;
      image = λ i. i;
      find = with 97 (definition_of false 8 8) (with 103 (definition_of false 4 2) (with 104 (definition_of false 3 2) nothing));
      words = [];
      entries = [];
    }

-- at 16, defines c where it copies it to; the word of h is one of RELR too
abbrev pub program : File
program =
    record {
      span = 64;
      image = λ i. 1;
      find = with 99 (definition_of false 16 16) nothing;
      words = 8 ∷ 48 ∷ [];
      entries =
          symbol 0 8 a (λ x. x) ∷ symbol 8 8 h (λ x. x) ∷ copy 16 c 16 ∷ copy 56 g 8 ∷ fixed 40 8 4117 ∷ [];
    }

-- at 80, defines a and c; its c holds the addresses of h and of a
abbrev pub first : File
first =
    record {
      span = 32;
      image = λ i. 2;
      find = with 97 (definition_of false 4 8) (with 99 (definition_of false 0 16) nothing);
      words = [];
      entries = symbol 0 8 h (λ x. x) ∷ symbol 8 8 a (λ x. x) ∷ [];
    }

-- at 112, defines a, protected
abbrev pub second : File
second =
    record {
      span = 16;
      image = λ i. 3;
      find = with 97 (protected_at 5) nothing;
      words = [];
      entries = symbol 0 8 a (λ x. x) ∷ symbol 8 8 u (λ x. x) ∷ [];
    }

-- at 128, defines g, h (absolute) and u, and has a COPY entry
abbrev pub added : File
added =
    record {
      span = 16;
      image = λ i. 4;
      find = with 103 (definition_of false 8 4) (with 104 (definition_of true (2 ^ 63 + 129) 2) (with 117 (definition_of false 2 1) nothing));
      words = [];
      entries = copy 0 c 4 ∷ [];
    }

abbrev pub S : Objs
S = objs_of make host program (first ∷ second ∷ [])

abbrev pub T : Objs
T = objs_of make host program (first ∷ second ∷ added ∷ [])

-- no library of S needs a listed one; in T, `first` needs `added`, which needs `second`, so S's libraries change places
abbrev pub order_s : List ℕ
order_s = 2 ∷ 3 ∷ 1 ∷ []

abbrev pub order_t : List ℕ
order_t = 3 ∷ 4 ∷ 2 ∷ 1 ∷ []

-- ---- names

-- a is the library's, not the host's
a_in_S : resolve S 1 a ≡ answer 2 (definition_of false 4 8) 4180
unfolding objs_of layout resolve scan scope_answer protected_of address
a_in_S = refl

-- but `second` finds its own, which is protected
a_in_second : resolve S 3 a ≡ answer 3 (protected_at 5) 4213
unfolding objs_of layout resolve scan scope_answer protected_of address
a_in_second = refl

-- c is the program's, but a library's for COPY
c_in_S : resolve S 1 c ≡ answer 1 (definition_of false 16 16) 4128
unfolding objs_of layout resolve scan scope_answer protected_of address
c_in_S = refl

c_for_copy : resolve_copy S c ≡ answer 2 (definition_of false 0 16) 4176
unfolding objs_of layout resolve_copy scan scope_answer address
c_for_copy = refl

-- h is the host's in S, and the added library's in T
h_in_S : resolve S 1 h ≡ answer 0 (definition_of false 3 2) 4099
unfolding objs_of layout resolve scan scope_answer protected_of address
h_in_S = refl

h_in_T : resolve T 1 h ≡ answer 4 (definition_of true (2 ^ 63 + 129) 2) (2 ^ 63 + 129)
unfolding objs_of layout resolve scan scope_answer protected_of address
h_in_T = refl

-- so is g for COPY
g_in_S : resolve_copy S g ≡ answer 0 (definition_of false 4 2) 4100
unfolding objs_of layout resolve_copy scan scope_answer address
g_in_S = refl

g_in_T : resolve_copy T g ≡ answer 4 (definition_of false 8 4) 4232
unfolding objs_of layout resolve_copy scan scope_answer address
g_in_T = refl

-- ---- bytes

abbrev at : Mem → List ℕ → List ℕ
at m [] = []
at m (i ∷ is) = m i ∷ at m is

-- the first and the last byte of h's address in the program; its first in `first`, and the copy of that in the program; a byte that
-- the COPY of g names, past what it writes in S; u's address in `second`
abbrev differing : List ℕ
differing = 24 ∷ 31 ∷ 80 ∷ 32 ∷ 74 ∷ 120 ∷ []

differing_S : at (bound S order_s) differing ≡ 3 ∷ 0 ∷ 3 ∷ 3 ∷ 1 ∷ 0 ∷ []
unfolding objs_of layout bound run relocate effects effect copied add_words add_word placed place write byte_of le_at
    resolve resolve_copy scan scope_answer protected_of address address_or0
differing_S = refl

differing_T : at (bound T order_t) differing ≡ 129 ∷ 128 ∷ 129 ∷ 129 ∷ 4 ∷ 130 ∷ []
unfolding objs_of layout bound run relocate effects effect copied add_words add_word placed place write byte_of le_at
    resolve resolve_copy scan scope_answer protected_of address address_or0
differing_T = refl

-- each of them is excepted

excepted_24 : Excepted S 24
unfolding objs_of layout resolve scan scope_answer protected_of
excepted_24 =
    named (1, symbol 8 8 h (λ x. x), omega arith, omega arith, Memᴰ.tail (Memᴰ.head refl), (to_host, omega arith))

excepted_31 : Excepted S 31
unfolding objs_of layout resolve scan scope_answer protected_of
excepted_31 =
    named (1, symbol 8 8 h (λ x. x), omega arith, omega arith, Memᴰ.tail (Memᴰ.head refl), (to_host, omega arith))

excepted_80 : Excepted S 80
unfolding objs_of layout resolve scan scope_answer protected_of
excepted_80 =
    named (2, symbol 0 8 h (λ x. x), omega arith, omega arith, Memᴰ.head refl, (to_host, omega arith))

-- a copy of the byte at 80
excepted_32 : Excepted S 32
unfolding objs_of layout resolve resolve_copy scan scope_answer protected_of
excepted_32 =
    copy_of 80 (copy 16 c 16) (Memᴰ.tail (Memᴰ.tail (Memᴰ.head refl))) (0, omega arith, refl, refl)
    (2, symbol 0 8 h (λ x. x), omega arith, omega arith, Memᴰ.head refl, (to_host, omega arith))

excepted_74 : Excepted S 74
unfolding objs_of layout resolve_copy scan scope_answer
excepted_74 =
    named (
      1,
      copy 56 g 8,
      omega arith,
      omega arith,
      Memᴰ.tail (Memᴰ.tail (Memᴰ.tail (Memᴰ.head refl))),
      (to_host, omega arith, omega arith),
    )

-- u is found nowhere in S
excepted_120 : Excepted S 120
unfolding objs_of layout resolve scan scope_answer protected_of
excepted_120 =
    named (3, symbol 8 8 u (λ x. x), omega arith, omega arith, Memᴰ.tail (Memᴰ.head refl), (nowhere, omega arith))

-- a's address in the program, in `first` and in `second`, the copy of the second of these in the program, and a word of RELR
abbrev equal : List ℕ
equal = 16 ∷ 88 ∷ 112 ∷ 40 ∷ 64 ∷ []

equal_S : at (bound S order_s) equal ≡ 84 ∷ 84 ∷ 117 ∷ 84 ∷ 17 ∷ []
unfolding objs_of layout bound run relocate effects effect copied add_words add_word placed place write byte_of le_at
    resolve resolve_copy scan scope_answer protected_of address address_or0
equal_S = refl

equal_T : at (bound T order_t) equal ≡ 84 ∷ 84 ∷ 117 ∷ 84 ∷ 17 ∷ []
unfolding objs_of layout bound run relocate effects effect copied add_words add_word placed place write byte_of le_at
    resolve resolve_copy scan scope_answer protected_of address address_or0
equal_T = refl
