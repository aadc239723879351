-- Laws of the words of the types, as the code goes over them. Assumes nothing.
use Rattle.std.proofs.Common.{◌≡◌, ℕ, ◌+◌, ◌^◌, ◌<◌, ◌≤◌, Bool, true, false, eqb, List, [], ◌∷◌, length, sym, refl, ap, ◌∙◌, arith, take_all}
use Rattle.std.specs.List.{list_all, enumerate_from}
use Rattle.std.specs.Prelude.{◌&&◌}
use Rattle.words.specs.Choice.{pick, both}
use Rattle.words.specs.Memory.{mem, tab, patch}
use Rattle.words.proofs.Slices.{mem_past, mem_tab, length_tab, tab_mem, take_patch, length_patch}
use Rattle.object.specs.RelocationTypes.{may_apply, type_word, word_ok, words_ok, supplied_word, supplied_types}

-- ---- 24 of all words

pub words_all : (i : ℕ) (words : List ℕ) → list_all (λ p. word_ok p.0 p.1) (enumerate_from i words) ≡ words_ok i words
unfolding words_ok
words_all i [] = refl
words_all i (word ∷ words) = go (word_ok i word) (words_all (i + 1) words)
  where
    go : (b : Bool) {x y : Bool} → x ≡ y → (b && x) ≡ both b y
    go true e = e
    go false e = refl

-- ---- the supplied words

-- a supplied word has 32 bits
pub supplied_small : (rtype : ℕ) → rtype < 64 → supplied_word rtype < 2 ^ 32
supplied_small rtype l = go (may_apply rtype) (eqb rtype 37)
  where
    go : (s t : Bool) → type_word (pick s 9 (pick t 11 10)) rtype < 2 ^ 32
    go true t = omega arith
    go false true = omega arith
    go false false = omega arith

pub supplied_in : (i : ℕ) → i < 64 → mem supplied_types i ≡ supplied_word i
unfolding supplied_types
supplied_in i l = mem_tab 64 supplied_word i l

pub supplied_length : length supplied_types ≡ 64
unfolding supplied_types
supplied_length = length_tab 64 supplied_word

pub supplied_past : (i : ℕ) → 64 ≤ i → mem supplied_types i ≡ 0
supplied_past i l = mem_past supplied_types i (omega (arith, supplied_length))

-- a slice that is filled with them
pub supplied_filled : (xs : List ℕ) → patch xs 0 (length xs) (mem supplied_types) ≡ tab (length xs) (mem supplied_types)
supplied_filled xs =
    sym (take_all (length xs) (patch xs 0 (length xs) (mem supplied_types)) (omega (arith, length_patch xs 0 (length xs) (mem supplied_types))))
    ∙ take_patch xs (length xs) (mem supplied_types) (omega arith)

-- one of 64 words is they
pub supplied_all : tab 64 (mem supplied_types) ≡ supplied_types
supplied_all = ap (λ (n : ℕ). tab n (mem supplied_types)) (sym supplied_length) ∙ tab_mem supplied_types
