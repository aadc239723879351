-- The dynamic array. System V gABI, "Dynamic Section" (Elf64_Dyn: d_tag, d_un; the array ends at DT_NULL). Document 01, "The object
-- record": "Entries of 16 bytes run until tag 0; unknown tags are skipped. A repeated tag: the last counts"; refusal 9, "its entries
-- through the first of tag 0 not wholly inside the span". An image is the list of the bytes of the span. Assumes nothing.
use Rattle.std.specs.Prelude.{Bool, true, false, List, [], ◌∷◌, ℕ, zero, suc, ◌+◌, ◌-◌, ◌/◌, eqb, length, Option, Some, is_some}
use Rattle.words.specs.Choice.{pick}
use Rattle.words.specs.Memory.{mem}
use Rattle.words.specs.Words.{le_at}

-- an entry: d_tag and d_un
pub record Item : Type 0 where
  pub tag : ℕ
  pub value : ℕ

abbrev pub item_at : List ℕ → ℕ → Item
item_at image at = record { tag = le_at 8 (mem image) at; value = le_at 8 (mem image) (at + 8) }

-- how many whole entries fit from `at` to the end of the span
abbrev pub item_room : List ℕ → ℕ → ℕ
item_room image at = (length image - at) / 16

-- the entries from `at` before the first of tag 0, of at most `n`; and whether one of the `n` has tag 0
unfoldable pub items_in : ℕ → List ℕ → ℕ → List Item
items_in zero image at = []
items_in (suc n) image at =
    pick (eqb (le_at 8 (mem image) at) 0) [] (item_at image at ∷ items_in n image (at + 16))

unfoldable pub end_in : ℕ → List ℕ → ℕ → Bool
end_in zero image at = false
end_in (suc n) image at = pick (eqb (le_at 8 (mem image) at) 0) true (end_in n image (at + 16))

abbrev pub items_of : List ℕ → ℕ → List Item
items_of image at = items_in (item_room image at) image at

abbrev pub ends_inside : List ℕ → ℕ → Bool
ends_inside image at = end_in (item_room image at) image at

-- ---- the entries of a tag; a field is what they give: a value, where there is one

-- "A repeated tag: the last counts"; `d` where there is none
unfoldable pub last_value : ℕ → Option ℕ → List Item → Option ℕ
last_value tag d [] = d
last_value tag d (x ∷ xs) = last_value tag (pick (eqb x.tag tag) (Some x.value) d) xs

-- the first counts; `d` where it is given
unfoldable pub first_of : ℕ → Option ℕ → List Item → Option ℕ
first_of tag d [] = d
first_of tag d (x ∷ xs) = first_of tag (pick (eqb x.tag tag) (pick (is_some d) d (Some x.value)) d) xs

-- the values of all, in their order
unfoldable pub all_of : ℕ → List Item → List ℕ
all_of tag [] = []
all_of tag (x ∷ xs) = pick (eqb x.tag tag) (x.value ∷ all_of tag xs) (all_of tag xs)
