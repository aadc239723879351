-- Document 01, "Proved cases": all of them hold. Assumes nothing.
use mathlib.Core.Path.{refl}
use Rattle.words.specs.Hash.{elf_hash, gnu_hash}
use Rattle.model.specs.Order.{visit, order_of}
use Rattle.object.specs.RelocationTypes.{applied_row}
use Rattle.object.specs.Entries.{relr_of, bit_words, relr_words}
use Rattle.object.specs.SymbolCount.{count_of}
use Rattle.binder.specs.Instance.{entry_by}
use Rattle.demands.specs.Cases.{Cases}

pub cases : Cases
unfolding elf_hash gnu_hash relr_of bit_words relr_words applied_row visit order_of count_of entry_by
cases =
    record {
      elf_empty = refl;
      elf_ab = refl;
      elf_aaaaaaa = refl;
      gnu_empty = refl;
      gnu_a = refl;
      gnu_ab = refl;
      relr_odd = refl;
      relr_empty = refl;
      order_needs = refl;
      order_cycle = refl;
      order_none = λ ns. refl;
      symbol_count = λ image t. refl;
      relative = λ image r p s. refl;
    }
