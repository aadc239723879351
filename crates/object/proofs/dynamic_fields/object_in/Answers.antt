use Rattle.object.specs.Record.{record_in}
use Rattle.object.proofs.dynamic_fields.object_in.Goals as goal

pub returns-clause-held : goal.returns-clause-held
unfolding record_in
returns-clause-held c =
    rw (
      ← c.deref.ensures.0,
      ← c.align_of-align.ensures,
      ← c.field_in.ensures,
      ← c.unwrap_or-strings.ensures,
      ← c.field_in-2.ensures,
      ← c.unwrap_or-symbols.ensures,
      ← c.field_in-rela.ensures,
      ← c.field_in-relasz.ensures,
      ← c.field_in-jmprel.ensures,
      ← c.field_in-pltrelsz.ensures,
      ← c.field_in-relr.ensures,
      ← c.field_in-relrsz.ensures,
      ← c.unwrap_or.ensures,
      ← c.unwrap_or-2.ensures,
      ← c.unwrap_or-3.ensures,
      ← c.table_in-table.ensures,
      ← c.symbol_count-known.ensures,
      ← c.entry_count-relas.ensures.0,
      ← c.entry_count-plts.ensures.0,
      ← c.entry_count-relrs.ensures.0,
    )
