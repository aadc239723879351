-- Pages. Document 01, "Pages are 4,096 bytes"; "rounded down to a page", "rounded up to a page: an end of 0x3000 gives 0x3000, 0x3001
-- gives 0x4000". System V gABI, "Program Loading": segments are mapped by pages. Assumes nothing.
use Rattle.std.specs.Prelude.{ℕ, ◌+◌, ◌-◌, ◌*◌, ◌/◌, ◌%◌}

abbrev pub page_size : ℕ
page_size = 4096

-- the start of the page that holds the offset
abbrev pub page_start : ℕ → ℕ
page_start a = a / page_size * page_size

-- how far the offset is into its page
abbrev pub page_offset : ℕ → ℕ
page_offset a = a % page_size

-- the least multiple of the page size that is no less
abbrev pub page_end : ℕ → ℕ
page_end a = (a + (page_size - 1)) / page_size * page_size
