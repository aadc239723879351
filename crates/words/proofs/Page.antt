-- The laws of page rounding. Assumes nothing.
use Rattle.std.proofs.Common.{◌≡◌, ℕ, ◌+◌, ◌%◌, ◌<◌, ◌≤◌, [], ◌∷◌, map, refl, arith}
use Rattle.words.specs.Page.{page_size, page_start, page_offset, page_end}

module _ (a : ℕ) where
  -- an offset is its page's start and how far it is into it
  pub page_split : page_start a + page_offset a ≡ a
  page_split = omega arith

  pub start_aligned : page_start a % page_size ≡ 0
  start_aligned = omega arith

  pub end_aligned : page_end a % page_size ≡ 0
  end_aligned = omega arith

  -- rounding goes less than a page down, and less than a page up
  pub start_near : (page_start a ≤ a) × (a < page_start a + page_size)
  start_near = (omega arith, omega arith)

  pub end_near : (a ≤ page_end a) × (page_end a < a + page_size)
  end_near = (omega arith, omega arith)

  -- a multiple of the page size stays, rounded either way
  pub start_of_aligned : a % page_size ≡ 0 → page_start a ≡ a
  start_of_aligned h = omega arith

  pub end_of_aligned : a % page_size ≡ 0 → page_end a ≡ a
  end_of_aligned h = omega arith

pub start_monotone : (a b : ℕ) → a ≤ b → page_start a ≤ page_start b
start_monotone a b h = omega arith

pub end_monotone : (a b : ℕ) → a ≤ b → page_end a ≤ page_end b
end_monotone a b h = omega arith

-- document 01: an end of 0x3000 gives 0x3000, 0x3001 gives 0x4000
pub end_cases : map page_end (0x3000 ∷ 0x3001 ∷ []) ≡ 0x3000 ∷ 0x4000 ∷ []
end_cases = refl
