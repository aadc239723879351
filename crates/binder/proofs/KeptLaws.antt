-- No entry of RELA or PLT writes to the table bytes of its object: specs/RunSteps.antt. Assumes nothing.
use Rattle.std.proofs.Common.{◌≡◌, ℕ, ◌+◌, ◌<◌, ◌≤◌, min, Bool, true, false, ◌⊎◌, List, length, sym, refl, ◌∙◌, subst, inl, inr, arith, length-drop, length-take, Ok, Err, Result, Option, None, Some}
use native.Mathlib.Decide.{dec_lt}
use Rattle.words.specs.Choice.{pick}
use Rattle.words.specs.Memory.{mem, In, patch, from}
use Rattle.words.proofs.Memory.{Out, in_or_out, write_out}
use Rattle.words.proofs.Slices.{mem_past, mem_part, mem_patch_at, length_patch}
use Rattle.words.specs.declared.refusal.Refusal.{Refusal}
use Rattle.object.specs.TableBytes.{in_writable}
use Rattle.object.specs.Record.{Record, is_table_of, checked_symbol, name_of}
use Rattle.object.proofs.FineLaws.{fine_same}
use Rattle.object.specs.declared.symbol.Symbol.{Symbol}
use Rattle.object.specs.declared.hash_tables.Definition.{Definition}
use Rattle.object.specs.declared.relocate.Rela.{Rela}
use Rattle.object.specs.RelocationTypes.{Calculation, Row, no_search, in_scope, ignored, passed_over, turned_away, marked_refuse, copies, writes}
use Rattle.scope.specs.Steps.Links.{link_at}
use Rattle.scope.specs.declared.links.Link.{Link}
use Rattle.scope.specs.declared.scope.Hit.{Hit}
use Rattle.std.specs.Prelude.{◌==◌}
use Rattle.binder.specs.Verdict.{Verdict, passed, refused}
use Rattle.binder.specs.declared.report.Progress.{Progress}
use Rattle.binder.specs.declared.turn.Turn.{Turn}
use Rattle.binder.specs.declared.relocate.Symbols.{Symbols}
use Rattle.binder.specs.declared.relocate.Sought.{Sought}
use Rattle.binder.specs.declared.relocate.Sought.TheVariants.{Known, Searched, Missing}
use Rattle.binder.specs.Steps.Relocating.{Left, left, wrote, Noted, noted, with_arena, with_report, image_in, report_sum, note_of, unresolved_of, keeps, kept_as, kept_for, keeps_weak, written_number, written_bytes, field_of, fixed_of, sought_or, field_noted, write_sought, copy_fits, copy_bytes, copy_of, sought_for, sought_for_copy, sought_of, copying_of, run_action}
use Rattle.binder.specs.Steps.RunSteps.{TablesKept, SymbolsOf}
use Rattle.binder.proofs.SteadyLaws.{table_out}

-- a byte that a write leaves
patch_out : (xs : List ℕ) (at n : ℕ) (f : ℕ → ℕ) (i : ℕ) → Out at n i → mem (patch xs at n f) i ≡ mem xs i
patch_out xs at n f i out = go (dec_lt i (length xs))
  where
    go : Dec (i < length xs) → mem (patch xs at n f) i ≡ mem xs i
    go (yes h) = mem_patch_at xs at n f i h ∙ write_out (mem xs) at n f i out
    go (no h) = mem_past (patch xs at n f) i (omega (arith, length_patch xs at n f)) ∙ sym (mem_past xs i (omega arith))

module _ (t : Turn) (r : Record) where
  pub kept_none : (a : List ℕ) → TablesKept t r a a
  kept_none a = record { long = refl; bytes = λ i h. refl }

  pub kept_then : (a b c : List ℕ) → TablesKept t r a b → TablesKept t r b c → TablesKept t r a c
  kept_then a b c x y = record { long = y.long ∙ x.long; bytes = λ i h. y.bytes i h ∙ x.bytes i h }

  -- a write to a writable segment
  pub kept_write : (a : List ℕ) (q n : ℕ) (g : ℕ → ℕ) → in_writable r.segments q n ≡ true → TablesKept t r a (patch a (t.offset + q) n g)
  kept_write a q n g w = record { long = length_patch a (t.offset + q) n g; bytes = λ i h. go i h (dec_lt i t.span) }
    where
      out : (i : ℕ) → is_table_of r i ≡ true → In (t.offset + q) n (t.offset + i) ⊎ Out (t.offset + q) n (t.offset + i) → Out (t.offset + q) n (t.offset + i)
      out i h (inl x) = absurd (table_out r.span r.segments q n i w h (omega arith))
      out i h (inr x) = x

      past : (b : List ℕ) (i : ℕ) → t.span ≤ i → length (image_in b t) ≤ i
      past b i h = simp length-take (omega arith)

      go : (i : ℕ) → is_table_of r i ≡ true → Dec (i < t.span) → mem (image_in (patch a (t.offset + q) n g) t) i ≡ mem (image_in a t) i
      go i h (yes l) =
          mem_part t.span t.offset (patch a (t.offset + q) n g) i l
          ∙ (patch_out a (t.offset + q) n g (t.offset + i) (out i h (in_or_out (t.offset + q) n (t.offset + i)))
          ∙ sym (mem_part t.span t.offset a i l))
      go i h (no l) =
          mem_past (image_in (patch a (t.offset + q) n g) t) i (past (patch a (t.offset + q) n g) i (omega arith))
          ∙ sym (mem_past (image_in a t) i (past a i (omega arith)))

  -- the object's symbols stay
  pub kept_symbols : (y : Symbols) (a b : List ℕ) → TablesKept t r a b → SymbolsOf t r y a → SymbolsOf t r y b
  kept_symbols y a b x s =
      record {
        symbols = s.symbols;
        strings = s.strings;
        fine = fine_same (image_in a t) (image_in b t) r y.fits y.ends s.fine long x.bytes;
      }
    where
      long : length (image_in b t) ≡ length (image_in a t)
      long = simp (length-take, length-drop, x.long)

  -- ---- an entry

  abbrev pub Keeps : List ℕ → Left → Type 0
  Keeps a (left met p b report) = TablesKept t r a b

  module _ (a : List ℕ) where
    noted_keeps : (x : Noted) → Keeps a (with_arena a x)
    noted_keeps (noted p report) = kept_none a

  module _ (table : List ℕ) (i : ℕ) (e : Rela) (p : Progress) (a report : List ℕ) where
    module _ (f : Calculation) where
      -- a write where 17 was passed, or 22
      field_keeps :
          (v : ℕ) (q : Progress) (notes : List ℕ) → in_writable r.segments e.place f.width ≡ true → Keeps a (with_report q notes (field_of t e f v a))
      unfolding field_of
      field_keeps v q notes w = go (f.fits (written_number t e f v))
        where
          go : (b : Bool)
              → Keeps a (with_report q notes (pick b (wrote passed (patch a (t.offset + e.place) f.width (written_bytes t e f v))) (wrote (refused 22 t.number) a)))
          go true = kept_write a e.place f.width (written_bytes t e f v) w
          go false = kept_none a

      fixed_keeps : Keeps a (with_report p report (fixed_of t r.segments e f a))
      unfolding fixed_of
      fixed_keeps = go (in_writable r.segments e.place f.width) refl
        where
          go : (b : Bool) → in_writable r.segments e.place f.width ≡ b
              → Keeps a (with_report p report (pick b (field_of t e f 0 a) (wrote (refused 17 t.number) a)))
          go true w = field_keeps 0 p report w
          go false w = kept_none a

      noted_field : (x : Noted) → in_writable r.segments e.place f.width ≡ true → Keeps a (field_noted t e f a x)
      noted_field (noted q notes) w = field_keeps 0 q notes w

      sought_keeps : (x : Sought) → in_writable r.segments e.place f.width ≡ true → Keeps a (write_sought t e f i (Ok x) p a report)
      unfolding write_sought
      sought_keeps (Known v) w = field_keeps v p report w
      sought_keeps (Searched v) w = field_keeps v (keeps (kept_as e.symbol v) p) report w
      sought_keeps (Missing y) w = noted_field (keeps_weak e.symbol y (unresolved_of y t.number i p report)) w

      symbolic_keeps : (searched : ℕ → Bool) (c : Result Symbol Refusal) → Keeps a (write_sought t e f i (sought_of table t r e searched f p.kept a c) p a report)
      unfolding sought_of write_sought
      symbolic_keeps searched (Err n) = kept_none a
      symbolic_keeps searched (Ok y) =
          go (in_writable r.segments e.place f.width) refl
          (pick (searched e.symbol) (sought_or (kept_for p.kept e.symbol) y (sought_for table t a (name_of (image_in a t) r y))) (Known 0))
        where
          go : (b : Bool) → in_writable r.segments e.place f.width ≡ b → (x : Sought) → Keeps a (write_sought t e f i (pick b (Ok x) (refused 17 t.number)) p a report)
          go true w x = sought_keeps x w
          go false w x = kept_none a

    copied_keeps : (s : Link) (d : Definition) (n : ℕ) → Keeps a (with_report p report (copy_bytes t r.segments e.place s d n a))
    unfolding copy_bytes
    copied_keeps s d n = go (n == 0) (in_writable r.segments e.place n) refl (copy_fits (length a) t e.place s d n)
      where
        go : (z b : Bool) → in_writable r.segments e.place n ≡ b → (c : Bool)
            → Keeps a
            (with_report p report
            (pick z (wrote passed a)
            (pick b
            (pick c (wrote passed (patch a (t.offset + e.place) n (from (s.offset + d.value) (mem a)))) (wrote (refused 18 t.number) a))
            (wrote (refused 17 t.number) a))))
        go true b w c = kept_none a
        go false true w true = kept_write a e.place n (from (s.offset + d.value) (mem a)) w
        go false true w false = kept_none a
        go false false w c = kept_none a

    copy_keeps : (y : Symbol) (s : Option Hit) → Keeps a (copy_of table t r.segments e i y s p a report)
    unfolding copy_of
    copy_keeps y None = noted_keeps a (unresolved_of y t.number i p report)
    copy_keeps y (Some hit) = copied_keeps (link_at table hit.object) hit.definition (min y.size hit.definition.size)

    copying_keeps : (c : Result Symbol Refusal) → Keeps a (copying_of table t r e i c p a report)
    unfolding copying_of
    copying_keeps (Err n) = kept_none a
    copying_keeps (Ok y) = copy_keeps y (sought_for_copy table a (name_of (image_in a t) r y))

    entry_keeps : (x : Row) → Keeps a (run_action table t r i e x p a report)
    unfolding run_action
    entry_keeps ignored = kept_none a
    entry_keeps passed_over = noted_keeps a (note_of (report_sum 7 i) p report)
    entry_keeps turned_away = kept_none a
    entry_keeps marked_refuse = kept_none a
    entry_keeps (writes no_search f) = fixed_keeps f
    entry_keeps (writes (in_scope searched) f) = symbolic_keeps f searched (checked_symbol (image_in a t) r e.symbol)
    entry_keeps copies = copying_keeps (checked_symbol (image_in a t) r e.symbol)

    pub entry_kept : (x : Row) (met : Verdict) (q : Progress) (b words : List ℕ) → left met q b words ≡ run_action table t r i e x p a report → TablesKept t r a b
    entry_kept x met q b words h = subst (Keeps a) (sym h) (entry_keeps x)
