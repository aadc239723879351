-- One entry of RELA or PLT, over the arena as it is at the entry's turn, does what the definitions say of the placed bytes. Assumes nothing.
use Rattle.std.proofs.Common.{◌≡◌, ℕ, ◌+◌, ◌^◌, ◌<◌, ◌≤◌, min, Bool, true, false, not, eqb, ◌⊎◌, List, [], ◌∷◌, ◌++◌, length, sym, refl, ap, ◌∙◌, subst, inl, inr, ⊎_elim, append-nil, arith, eqb-true, Ok, Err, Result, Option, None, Some}
use Rattle.words.specs.Choice.{pick, both}
use Rattle.words.specs.Memory.{Mem, mem, from, write, patch}
use Rattle.words.proofs.Memory.{write_none}
use Rattle.model.specs.Symbols.{Wanted, absent, answer}
use Rattle.model.specs.Symbols as model
use Rattle.model.specs.Objects.{Entry, fixed, symbol, Objs, count, obj}
use Rattle.model.specs.Scope.{resolve, resolve_copy}
use Rattle.model.specs.Relocation.{address_or0, copied, effect}
use Rattle.model.proofs.Scope.{resolve_copy_range}
use Rattle.model.proofs.OrderLaws.{decide}
use Rattle.words.specs.Refusal.{refusal_number}
use Rattle.words.specs.declared.refusal.Refusal.{Refusal}
use Rattle.words.specs.declared.refusal.Refusal.TheVariants as refusals
use Rattle.object.specs.Refusal.{require}
use Rattle.object.specs.TableBytes.{in_writable}
use Rattle.object.specs.Symbol.{symbol_at, symbol_name, binding_of}
use Rattle.object.specs.HashCheck.{symbol_ok}
use Rattle.object.specs.Record.{Record, index_ok, is_table_of, checked_symbol, name_of}
use Rattle.object.specs.declared.symbol.Symbol.{Symbol}
use Rattle.object.specs.declared.relocate.Rela.{Rela}
use Rattle.object.specs.RelocationTypes.{Calculation, Row, no_search, in_scope, ignored, passed_over, turned_away, marked_refuse, copies, writes}
use Rattle.object.specs.declared.hash_tables.Definition.{Definition}
use Rattle.binder.specs.Instance.{File, file_image, file_record, definition_of, entry_by, wanted_by}
use Rattle.binder.specs.Setting.{Setting}
use Rattle.binder.specs.Verdict.{Verdict, passed, refused, verdict, copy_ok, copy_refusal, field_refusal, symbol_then, refusal_by}
use Rattle.binder.specs.Report.{report_word, unresolved, undefined_by, is_passed}
use Rattle.scope.specs.Steps.Links.{link_at}
use Rattle.binder.specs.Steps.ScopeModel.{scoped_of}
use Rattle.binder.specs.Steps.Relocating.{Left, left, wrote, Noted, noted, with_arena, with_report, image_in, report_sum, note_of, mark_undefined, unresolved_of, written_number, written_bytes, field_of, fixed_of, sought_by, field_noted, write_sought, copy_fits, copy_bytes, copy_of, turn_of, sought_for, sought_for_copy, keeps, kept_as, kept_for, sought_or, sought_of, copying_of, run_action, keeps_weak}
use Rattle.scope.specs.declared.links.Link.{Link}
use Rattle.binder.specs.declared.turn.Turn.{Turn}
use Rattle.scope.specs.declared.scope.Hit.{Hit}
use Rattle.binder.specs.declared.relocate.Sought.TheVariants.{Known}
use Rattle.binder.specs.declared.report.Kept.{Kept}
use Rattle.binder.specs.declared.report.Progress.{Progress}
use Rattle.binder.proofs.InsideLaws.{name_is, writable_inside}
use Rattle.binder.proofs.Steady.{set, file_at, LoadedSet, Steady, Written}
use Rattle.binder.proofs.SteadyLaws.{lies, readings, searches, copy_searches, written_then, write_steady, copy_tests}
use Rattle.binder.proofs.ReportFill.{Going, NotedGoing, KeptAs, earlier, earlier_none, going_length, word_going, marked_going, keeps_going, note_kept, unresolved_kept}
use Rattle.binder.proofs.Runs.{Ran, verdict_none, ran_refused, ran_passed}

-- ---- symbols

-- the symbol of an entry is checked, or refused by a number that is not 0
abbrev pub SymbolCase : List ℕ → Record → ℕ → Type 0
SymbolCase image r index =
    ((checked_symbol image r index ≡ Ok (symbol_at image r.symbols index))
    × (symbol_ok (is_table_of r) image r.symbols r.strings index ≡ true))
    ⊎ ((z : Refusal) × (refusal_number z ≡ 0 → ⊥) × (checked_symbol image r index ≡ Err z))

pub symbol_case : (image : List ℕ) (r : Record) (index : ℕ) → SymbolCase image r index
unfolding checked_symbol
symbol_case image r index =
    ⊎_elim
    (λ (s : index_ok r.known index ≡ true).
    ⊎_elim (λ (t : symbol_ok (is_table_of r) image r.symbols r.strings index ≡ true). inl (rw (s, t), t))
    (λ (t : symbol_ok (is_table_of r) image r.symbols r.strings index ≡ false). inr (refusals.SymbolBytes, (λ e. omega arith), rw (s, t)))
    (decide (symbol_ok (is_table_of r) image r.symbols r.strings index)))
    (λ (s : index_ok r.known index ≡ false). inr (refusals.SymbolIndex, (λ e. omega arith), rw s))
    (decide (index_ok r.known index))

pub refused_checked : {P : Type 0} (z : Refusal) (y : Symbol) → Err z ≡ Ok y → P
refused_checked z y e = let z : ◌≡◌ {A = ℕ} 0 1 = cc in absurd (omega arith)

checked_same : (x y : Symbol) → ◌≡◌ {A = Result Symbol Refusal} (Ok x) (Ok y) → x ≡ y
checked_same x y e = cc

-- the same symbol is checked in two images
same_symbol :
    (image image' : List ℕ) (r : Record) (index : ℕ) → checked_symbol image' r index ≡ Ok (symbol_at image r.symbols index)
    → symbol_at image r.symbols index ≡ symbol_at image' r.symbols index
same_symbol image image' r index e =
    ⊎_elim (λ c. checked_same (symbol_at image r.symbols index) (symbol_at image' r.symbols index) (sym e ∙ c.0))
    (λ c. refused_checked c.0 (symbol_at image r.symbols index) (sym c.2 ∙ e)) (symbol_case image' r index)

-- a weak symbol: no word, and its absence is kept
weak_keeps :
    (x : ℕ) (y : Symbol) (k i : ℕ) (p : Progress) (report : List ℕ) → eqb (binding_of y) 2 ≡ true
    → keeps_weak x y (unresolved_of y k i p report) ≡ noted (keeps (kept_as x 0) p) report
unfolding unresolved_of
weak_keeps x y k i p report e =
    ap (λ (b : Bool). keeps_weak x y (pick b (noted p report) (mark_undefined k (note_of (report_sum 6 i) p report)))) e
    ∙ ap (λ (b : Bool). noted (pick b (keeps (kept_as x 0) p) p) report) e

-- a symbol that is not weak: nothing is kept
strong_keeps : (x : ℕ) (y : Symbol) (q : Noted) → eqb (binding_of y) 2 ≡ false → keeps_weak x y q ≡ q
strong_keeps x y (noted p report) e = rw e

module _ (setting : Setting) (size : ℕ) (table : List ℕ) (h pr : File) (fs : List File) where
  abbrev address : ℕ
  address = setting.address

  abbrev S : Objs
  S = set setting size table h pr fs

  module _ (L : LoadedSet setting size table h pr fs) (k : ℕ) (lo : 1 ≤ k) (hi : k < count (set setting size table h pr fs))
      (n : ℕ) (a₀ : List ℕ) where
    abbrev t : Turn
    t = turn_of table k

    abbrev f : File
    f = file_at setting size table h pr fs k

    abbrev r : Record
    r = file_record f

    abbrev image : List ℕ
    image = file_image f

    -- the kept answer is the one that the definitions have for its symbol
    abbrev Rightly : Kept → Type 0
    Rightly x =
        ((o : ℕ) × (z : model.Definition) × (resolve S k (wanted_by image r x.symbol) ≡ answer o z x.address))
        ⊎ ((resolve S k (wanted_by image r x.symbol) ≡ absent)
        × (eqb (binding_of (symbol_at image r.symbols x.symbol)) 2 ≡ true)
        × (x.address ≡ 0))

    abbrev pub RightlyKept : Progress → Type 0
    RightlyKept p = (x : Kept) → p.kept ≡ Some x → Rightly x

    -- none is
    pub none_kept : (p : Progress) → p.kept ≡ None → RightlyKept p
    none_kept p e x f = let z : ◌≡◌ {A = ℕ} 0 1 = cc in absurd (omega arith)

    -- this one is
    this_kept : (p : Progress) (x : Kept) → Rightly x → RightlyKept (keeps (Some x) p)
    this_kept p x h x' f = let same : x ≡ x' = cc in subst Rightly same h

    -- while the object `k` is relocated: the words of the report, the memory, the other objects' bytes as in `a₀`, and the kept answer
    pub record Doing (ws : List ℕ) (u : ℕ) (m : Mem) (p : Progress) (a report : List ℕ) : Type 0 where
      pub going : Going ws u n p report
      pub memory : mem a ≡ m
      pub written : Written setting size table h pr fs a₀ a k
      pub kept : RightlyKept p

    link_offset : (d : ℕ) → d < count S → (link_at table d).offset ≡ (obj S d).offset
    link_offset d l = ap (λ (s : Link). s.offset) (lies setting size table h pr fs L d l).link

    base_is : t.base ≡ (obj S k).base
    base_is = (lies setting size table h pr fs L k hi).base

    module _ (ws : List ℕ) (u : ℕ) (m : Mem) (p : Progress) (a report : List ℕ) (d : Doing ws u m p a report) where
      steady : Steady setting size table h pr fs a
      steady = d.written.steady

      -- a write to the object
      wrote_to :
          (q w : ℕ) (g : ℕ → ℕ) → in_writable r.segments q w ≡ true
          → Written setting size table h pr fs a₀ (patch a (t.offset + q) w g) k
          × (mem (patch a (t.offset + q) w g) ≡ write m ((obj S k).offset + q) w g)
      wrote_to q w g e =
          let x = write_steady setting size table h pr fs L a steady k hi q w e g in
          rw (link_offset k hi) (
            written_then setting size table h pr fs a₀ a (patch a ((obj S k).offset + q) w g) k d.written x.0,
            x.1 ∙ ap (λ (m : Mem). write m ((obj S k).offset + q) w g) d.memory,
          )

      -- no refusal, and no word
      pub plain :
          (v : Verdict) (m' : Mem) (a' : List ℕ) → v ≡ passed → Written setting size table h pr fs a₀ a' k → mem a' ≡ m'
          → Ran size n v (Doing (ws ++ []) (earlier u 0) m') (left passed p a' report)
      plain v m' a' e w same =
          ran_passed size n v (Doing (ws ++ []) (earlier u 0) m') p a' report e w.steady.size_is
          (going_length ws u n p report d.going)
          record { going = rw (append-nil ws, earlier_none u) d.going; memory = same; written = w; kept = d.kept }

      -- no refusal, and what was noted
      with_words :
          (v : Verdict) (vs : List ℕ) (u' : ℕ) (m' : Mem) (a' : List ℕ) (q : Noted) → v ≡ passed → NotedGoing vs u' n q
          → KeptAs p.kept q → Written setting size table h pr fs a₀ a' k → mem a' ≡ m'
          → Ran size n v (Doing vs u' m') (with_arena a' q)
      with_words v vs u' m' a' (noted p' report') e g z w same =
          ran_passed size n v (Doing vs u' m') p' a' report' e w.steady.size_is (going_length vs u' n p' report' g)
          record { going = g; memory = same; written = w; kept = λ x f. d.kept x (sym z ∙ f) }

      -- no refusal, no word, and an answer is kept
      with_answer :
          (v : Verdict) (x : Kept) (m' : Mem) (a' : List ℕ) → v ≡ passed → Rightly x
          → Written setting size table h pr fs a₀ a' k → mem a' ≡ m'
          → Ran size n v (Doing (ws ++ []) (earlier u 0) m') (left passed (keeps (Some x) p) a' report)
      with_answer v x m' a' e z w same =
          ran_passed size n v (Doing (ws ++ []) (earlier u 0) m') (keeps (Some x) p) a' report e w.steady.size_is
          (going_length ws u n p report d.going)
          record {
            going = rw (append-nil ws, earlier_none u) (keeps_going ws u n (Some x) p report d.going);
            memory = same;
            written = w;
            kept = this_kept p x z;
          }

      -- a refusal
      stopped :
          (z : ℕ) (D : Progress → List ℕ → List ℕ → Type 0) → (z ≡ 0 → ⊥) → Ran size n (verdict z k) D (left (refused z k) p a report)
      stopped z D ne = ran_refused size n z k D p a report ne steady.size_is (going_length ws u n p report d.going)

      -- a symbol that was found nowhere
      unresolved_going :
          (i : ℕ) → i < 2 ^ 28 → (y : Symbol)
          → NotedGoing (ws ++ pick (not (eqb (binding_of y) 2)) (report_word 6 i ∷ []) []) (earlier u (pick (not (eqb (binding_of y) 2)) k 0)) n
          (unresolved_of y k i p report)
      unfolding unresolved_of
      unresolved_going i l y = go (eqb (binding_of y) 2)
        where
          go :
              (b : Bool)
              → NotedGoing (ws ++ pick (not b) (report_word 6 i ∷ []) []) (earlier u (pick (not b) k 0)) n
              (pick b (noted p report) (mark_undefined k (note_of (report_sum 6 i) p report)))
          go true = rw (append-nil ws, earlier_none u) d.going
          go false =
              marked_going (ws ++ (report_word 6 i ∷ [])) u n k (note_of (report_sum 6 i) p report)
              (word_going ws u n p report d.going 6 i (omega arith))

      -- ---- the field of an entry, where 17 was passed

      -- 22, or what is left where the number fits
      field_ran :
          (e : Rela) (f : Calculation) (v : ℕ) (q : Progress) (notes : List ℕ) (D : Progress → List ℕ → List ℕ → Type 0) → length notes ≡ n
          → Ran size n (verdict 0 k) D (left passed q (patch a (t.offset + e.place) f.width (written_bytes t e f v)) notes)
          → Ran size n (verdict (require (f.fits (written_number t e f v)) 22 0) k) D (with_report q notes (field_of t e f v a))
      unfolding field_of require
      field_ran e f v q notes D long x = go (f.fits (written_number t e f v))
        where
          go : (b : Bool)
              → Ran size n (verdict (require b 22 0) k) D
              (with_report q notes (pick b (wrote passed (patch a (t.offset + e.place) f.width (written_bytes t e f v))) (wrote (refused 22 k) a)))
          go true = x
          go false = ran_refused size n 22 k D q a notes (λ e. omega arith) steady.size_is long

      -- no word, and what is kept stays
      known_ran :
          (e : Rela) (f : Calculation) (v : ℕ) → in_writable r.segments e.place f.width ≡ true
          → Ran size n (verdict (require (f.fits (written_number t e f v)) 22 0) k)
          (Doing (ws ++ []) (earlier u 0) (write m ((obj S k).offset + e.place) f.width (written_bytes t e f v)))
          (with_report p report (field_of t e f v a))
      known_ran e f v w =
          let x = wrote_to e.place f.width (written_bytes t e f v) w in
          field_ran e f v p report _ (going_length ws u n p report d.going)
          (plain (verdict 0 k) (write m ((obj S k).offset + e.place) f.width (written_bytes t e f v))
          (patch a (t.offset + e.place) f.width (written_bytes t e f v)) (verdict_none 0 k refl) x.0 x.1)

      -- ---- a write without a search

      fixed_ran :
          (e : Rela) (f : Calculation) (b : Bool) → in_writable r.segments e.place f.width ≡ b
          → Ran size n (verdict (require b 17 (require (f.fits (written_number t e f 0)) 22 0)) k)
          (Doing (ws ++ []) (earlier u 0) (write m ((obj S k).offset + e.place) f.width (written_bytes t e f 0)))
          (with_report p report (pick b (field_of t e f 0 a) (wrote (refused 17 k) a)))
      unfolding require
      fixed_ran e f true w = known_ran e f 0 w
      fixed_ran e f false w = stopped 17 _ (λ e. omega arith)

      -- ---- the entry's symbol

      symbol_step :
          (index : ℕ) (rest : Symbol → ℕ) (D : Progress → List ℕ → List ℕ → Type 0) (act : Result Symbol Refusal → Left)
          → ((z : Refusal) → act (Err z) ≡ left (refused (refusal_number z) k) p a report)
          → (symbol_ok (is_table_of r) image r.symbols r.strings index ≡ true
          → symbol_at image r.symbols index ≡ symbol_at (image_in a t) r.symbols index
          → Ran size n (verdict (rest (symbol_at image r.symbols index)) k) D (act (Ok (symbol_at image r.symbols index))))
          → Ran size n (verdict (symbol_then (checked_symbol image r index) rest) k) D (act (checked_symbol (image_in a t) r index))
      symbol_step index rest D act refuses goes =
          subst
          (λ (c : Result Symbol Refusal). Ran size n (verdict (symbol_then (checked_symbol image r index) rest) k) D (act c))
          (sym same)
          (⊎_elim
          (λ c.
          subst (λ (x : Result Symbol Refusal). Ran size n (verdict (symbol_then x rest) k) D (act x)) (sym c.0)
          (goes c.1 (same_symbol image (image_in a t) r index (same ∙ c.0))))
          (λ c.
          subst (λ (x : Result Symbol Refusal). Ran size n (verdict (symbol_then x rest) k) D (act x)) (sym c.2)
          (subst (λ (st : Left). Ran size n (verdict (refusal_number c.0) k) D st) (sym (refuses c.0)) (stopped (refusal_number c.0) D c.1)))
          (symbol_case image r index))
        where
          same : checked_symbol (image_in a t) r index ≡ checked_symbol image r index
          same = (readings setting size table h pr fs L a steady k hi).symbols index

      name_same :
          (index : ℕ) → symbol_ok (is_table_of r) image r.symbols r.strings index ≡ true
          → symbol_at image r.symbols index ≡ symbol_at (image_in a t) r.symbols index
          → name_of (image_in a t) r (symbol_at image r.symbols index) ≡ symbol_name image r.symbols r.strings index
      name_same index ok e =
          ap (name_of (image_in a t) r) e
          ∙ (name_is (image_in a t) r index ∙ (readings setting size table h pr fs L a steady k hi).names index ok)

      -- ---- a write with a search

      module _ (i : ℕ) (l : i < 2 ^ 28) (e : Rela) where
        abbrev y : Symbol
        y = symbol_at image r.symbols e.symbol

        abbrev name : List ℕ
        name = symbol_name image r.symbols r.strings e.symbol

        abbrev sought : Wanted
        sought = wanted_by image r e.symbol

        -- the words and the mark of an entry whose search has the answer
        abbrev After : model.Resolved → Mem → Progress → List ℕ → List ℕ → Type 0
        After x m' =
            Doing (ws ++ pick (unresolved image r e x) (report_word 6 i ∷ []) []) (earlier u (pick (unresolved image r e x) k 0)) m'

        abbrev here : ℕ → Kept
        here v = record { symbol = e.symbol; address = v }

        module _ (f : Calculation) where
          -- what such an entry leaves, where 17 was passed and its search has the answer
          abbrev WrittenBy : model.Resolved → Left → Type 0
          WrittenBy x st =
              Ran size n (verdict (require (f.fits (written_number t e f (address_or0 x))) 22 0) k)
              (After x (write m ((obj S k).offset + e.place) f.width (written_bytes t e f (address_or0 x)))) st

          -- found nowhere, with a word or none
          noted_ran :
              (vs : List ℕ) (u' : ℕ) (q : Noted) → in_writable r.segments e.place f.width ≡ true → NotedGoing vs u' n q
              → KeptAs p.kept q
              → Ran size n (verdict (require (f.fits (written_number t e f 0)) 22 0) k)
              (Doing vs u' (write m ((obj S k).offset + e.place) f.width (written_bytes t e f 0))) (field_noted t e f a q)
          noted_ran vs u' (noted p' report') w g z =
              let x = wrote_to e.place f.width (written_bytes t e f 0) w in
              field_ran e f 0 p' report' _ (going_length vs u' n p' report' g)
              (with_words (verdict 0 k) vs u' (write m ((obj S k).offset + e.place) f.width (written_bytes t e f 0))
              (patch a (t.offset + e.place) f.width (written_bytes t e f 0)) (noted p' report') (verdict_none 0 k refl) g z x.0 x.1)

          -- an answer is kept
          new_ran :
              (v : ℕ) → in_writable r.segments e.place f.width ≡ true → Rightly (here v)
              → Ran size n (verdict (require (f.fits (written_number t e f v)) 22 0) k)
              (Doing (ws ++ []) (earlier u 0) (write m ((obj S k).offset + e.place) f.width (written_bytes t e f v)))
              (with_report (keeps (kept_as e.symbol v) p) report (field_of t e f v a))
          new_ran v w z =
              let x = wrote_to e.place f.width (written_bytes t e f v) w in
              field_ran e f v (keeps (kept_as e.symbol v) p) report _ (going_length ws u n p report d.going)
              (with_answer (verdict 0 k) (here v) (write m ((obj S k).offset + e.place) f.width (written_bytes t e f v))
              (patch a (t.offset + e.place) f.width (written_bytes t e f v)) (verdict_none 0 k refl) z x.0 x.1)

          -- found nowhere: a weak symbol's absence is kept
          nowhere_ran :
              absent ≡ resolve S k sought → in_writable r.segments e.place f.width ≡ true → (b : Bool) → eqb (binding_of y) 2 ≡ b
              → WrittenBy absent (field_noted t e f a (keeps_weak e.symbol y (unresolved_of y k i p report)))
          unfolding address_or0
          nowhere_ran eq w true b =
              subst (λ (q : Noted). WrittenBy absent (field_noted t e f a q)) (sym (weak_keeps e.symbol y k i p report b))
              (rw b (new_ran 0 w (inr (sym eq, b, refl))))
          nowhere_ran eq w false b =
              subst (λ (q : Noted). WrittenBy absent (field_noted t e f a q)) (sym (strong_keeps e.symbol y (unresolved_of y k i p report) b))
              (noted_ran (ws ++ pick (not (eqb (binding_of y) 2)) (report_word 6 i ∷ []) []) (earlier u (pick (not (eqb (binding_of y) 2)) k 0))
              (unresolved_of y k i p report) w (unresolved_going i l y) (unresolved_kept y k i p report))

          found_ran :
              (s : Option Hit) → scoped_of s ≡ resolve S k sought → in_writable r.segments e.place f.width ≡ true
              → WrittenBy (resolve S k sought) (write_sought t e f i (Ok (sought_by y s)) p a report)
          unfolding scoped_of write_sought address_or0
          found_ran None eq w =
              subst (λ (x : model.Resolved). WrittenBy x (write_sought t e f i (Ok (sought_by y None)) p a report)) eq (nowhere_ran eq w (eqb (binding_of y) 2) refl)
          found_ran (Some hit) eq w =
              subst (λ (x : model.Resolved). WrittenBy x (write_sought t e f i (Ok (sought_by y (Some hit))) p a report)) eq
              (new_ran hit.address w (inl (hit.object, definition_of hit.definition, sym eq)))

          kept_ran :
              (x : Kept) → p.kept ≡ Some x → x.symbol ≡ e.symbol → in_writable r.segments e.place f.width ≡ true
              → WrittenBy (resolve S k sought) (with_report p report (field_of t e f x.address a))
          unfolding address_or0
          kept_ran x is same w =
              ⊎_elim
              (λ z. subst (λ (z : model.Resolved). WrittenBy z (with_report p report (field_of t e f x.address a))) (sym z.2) (known_ran e f x.address w))
              (λ z.
              subst (λ (z : model.Resolved). WrittenBy z (with_report p report (field_of t e f x.address a))) (sym z.0)
              (rw z.1
              (subst
              (λ (v : ℕ).
              Ran size n (verdict (require (f.fits (written_number t e f v)) 22 0) k)
              (Doing (ws ++ []) (earlier u 0) (write m ((obj S k).offset + e.place) f.width (written_bytes t e f v)))
              (with_report p report (field_of t e f x.address a)))
              z.2 (known_ran e f x.address w))))
              (subst (λ (s : ℕ). Rightly (record { symbol = s; address = x.address })) same (d.kept x is))

          answered_ran :
              (s : Option Hit) → scoped_of s ≡ resolve S k sought → in_writable r.segments e.place f.width ≡ true → (kept : Option Kept) → p.kept ≡ kept
              → WrittenBy (resolve S k sought) (write_sought t e f i (Ok (sought_or (kept_for kept e.symbol) y s)) p a report)
          unfolding write_sought
          answered_ran s eq w None is = found_ran s eq w
          answered_ran s eq w (Some x) is = go (eqb x.symbol e.symbol) refl
            where
              go :
                  (b : Bool) → eqb x.symbol e.symbol ≡ b
                  → WrittenBy (resolve S k sought) (write_sought t e f i (Ok (sought_or (pick b (Some x.address) None) y s)) p a report)
              go true same = kept_ran x is (eqb-true x.symbol e.symbol same) w
              go false same = found_ran s eq w

          -- the entry of the definitions: by the search, or by 0 where there is none
          abbrev entry_now : Bool → Entry
          entry_now c =
              pick c (symbol e.place f.width sought (λ v. written_number t e f v)) (fixed e.place f.width (written_number t e f 0))

          symbolic_by :
              (s : Option Hit) → scoped_of s ≡ resolve S k sought → (b : Bool) → in_writable r.segments e.place f.width ≡ b → (c : Bool)
              → Ran size n (verdict (require b 17 (require (f.fits (written_number t e f (pick c (address_or0 (resolve S k sought)) 0))) 22 0)) k)
              (Doing (ws ++ pick (both c (unresolved image r e (resolve S k sought))) (report_word 6 i ∷ []) [])
              (earlier u (pick (both c (unresolved image r e (resolve S k sought))) k 0)) (effect S k (entry_now c) m))
              (write_sought t e f i
              (pick b (Ok (pick c (sought_or (kept_for p.kept e.symbol) y s) (Known 0))) (refused 17 k)) p a report)
          unfolding require effect write_sought
          symbolic_by s eq true w true = answered_ran s eq w p.kept refl
          symbolic_by s eq true w false = known_ran e f 0 w
          symbolic_by s eq false w c = stopped 17 _ (λ e. omega arith)

          symbolic_ran :
              (searched : ℕ → Bool)
              → Ran size n
              (verdict
              (symbol_then (checked_symbol image r e.symbol)
              (λ y. field_refusal t.base r e f (pick (searched e.symbol) (address_or0 (resolve S k sought)) 0))) k)
              (Doing (ws ++ pick (both (searched e.symbol) (unresolved image r e (resolve S k sought))) (report_word 6 i ∷ []) [])
              (earlier u (pick (both (searched e.symbol) (unresolved image r e (resolve S k sought))) k 0))
              (effect S k (entry_now (searched e.symbol)) m))
              (write_sought t e f i (sought_of table t r e searched f p.kept a (checked_symbol (image_in a t) r e.symbol)) p a report)
          unfolding sought_of write_sought
          symbolic_ran searched =
              symbol_step e.symbol
              (λ y. field_refusal t.base r e f (pick (searched e.symbol) (address_or0 (resolve S k sought)) 0)) _
              (λ c. write_sought t e f i (sought_of table t r e searched f p.kept a c) p a report) (λ z. refl)
              (λ ok same.
              symbolic_by (sought_for table t a (name_of (image_in a t) r y))
              (ap (λ (x : List ℕ). scoped_of (sought_for table t a x)) (name_same e.symbol ok same)
              ∙ searches setting size table h pr fs L a steady k hi name)
              (in_writable r.segments e.place f.width) refl (searched e.symbol))

        -- ---- 5

        module _ (o : ℕ) (ol : o < count S) (x : Definition) (v : ℕ) where
          abbrev many : ℕ
          many = min y.size x.size

          abbrev source : Mem → Mem
          source m = λ i. m ((obj S o).offset + x.value + i)

          abbrev to : ℕ
          to = (obj S k).offset + e.place

          copy_fits_lem :
              (b : Bool) → in_writable r.segments e.place many ≡ true
              → Ran size n (verdict (require b 18 0) k) (Doing (ws ++ []) (earlier u 0) (write m to many (source m)))
              (with_report p report
              (pick b (wrote passed (patch a (t.offset + e.place) many (from ((link_at table o).offset + x.value) (mem a))))
              (wrote (refused 18 k) a)))
          unfolding require
          copy_fits_lem true w =
              let z = wrote_to e.place many (from ((link_at table o).offset + x.value) (mem a)) w in
              plain (verdict 0 k) (write m to many (source m))
              (patch a (t.offset + e.place) many (from ((link_at table o).offset + x.value) (mem a))) (verdict_none 0 k refl) z.0
              (z.1
              ∙ (ap (λ (s : ℕ). write m to many (from (s + x.value) (mem a))) (link_offset o ol)
              ∙ ap (λ (q : Mem). write m to many (source q)) d.memory))
          copy_fits_lem false w = stopped 18 _ (λ e. omega arith)

          fits_is :
              in_writable r.segments e.place many ≡ true
              → copy_fits (length a) t e.place (link_at table o) x many ≡ copy_ok S k e.place o (definition_of x) many
          fits_is w =
              ap (λ (s : ℕ). copy_fits s t e.place (link_at table o) x many) steady.size_is
              ∙ copy_tests setting size table h pr fs L k o hi ol e.place many
              (writable_inside f.host f.bytes e.place many w) x

          copy_writable :
              (b : Bool) → in_writable r.segments e.place many ≡ b
              → Ran size n (verdict (require b 17 (require (copy_ok S k e.place o (definition_of x) many) 18 0)) k)
              (Doing (ws ++ []) (earlier u 0) (write m to many (source m)))
              (with_report p report
              (pick b
              (pick (copy_fits (length a) t e.place (link_at table o) x many)
              (wrote passed (patch a (t.offset + e.place) many (from ((link_at table o).offset + x.value) (mem a))))
              (wrote (refused 18 k) a))
              (wrote (refused 17 k) a)))
          unfolding require
          copy_writable true w = rw (fits_is w) (copy_fits_lem (copy_ok S k e.place o (definition_of x) many) w)
          copy_writable false w = stopped 17 _ (λ e. omega arith)

          copy_some :
              (b : Bool) → eqb many 0 ≡ b
              → Ran size n
              (verdict
              (pick b 0
              (require (in_writable r.segments e.place many) 17 (require (copy_ok S k e.place o (definition_of x) many) 18 0))) k)
              (Doing (ws ++ []) (earlier u 0) (write m to many (source m)))
              (with_report p report
              (pick b (wrote passed a)
              (pick (in_writable r.segments e.place many)
              (pick (copy_fits (length a) t e.place (link_at table o) x many)
              (wrote passed (patch a (t.offset + e.place) many (from ((link_at table o).offset + x.value) (mem a))))
              (wrote (refused 18 k) a))
              (wrote (refused 17 k) a))))
          copy_some true z =
              plain (verdict 0 k) (write m to many (source m)) a (verdict_none 0 k refl) d.written
              (d.memory ∙ sym (ap (λ (s : ℕ). write m to s (source m)) (eqb-true many 0 z) ∙ write_none m to (source m)))
          copy_some false z = copy_writable (in_writable r.segments e.place many) refl

        copy_by :
            (x : model.Resolved) (s : Option Hit) → scoped_of s ≡ x → ((o : ℕ) (z : model.Definition) (v : ℕ) → x ≡ answer o z v → o < count S)
            → Ran size n (verdict (copy_refusal S k r e.place y.size x) k)
            (After x (copied S ((obj S k).offset + e.place) y.size x m)) (copy_of table t r.segments e i y s p a report)
        unfolding scoped_of copy_of copy_refusal copied copy_bytes
        copy_by x None eq range =
            subst
            (λ (x : model.Resolved).
            Ran size n (verdict (copy_refusal S k r e.place y.size x) k)
            (After x (copied S ((obj S k).offset + e.place) y.size x m)) (copy_of table t r.segments e i y None p a report))
            eq
            (with_words (verdict 0 k) (ws ++ pick (not (eqb (binding_of y) 2)) (report_word 6 i ∷ []) []) (earlier u (pick (not (eqb (binding_of y) 2)) k 0))
            m a (unresolved_of y k i p report) (verdict_none 0 k refl) (unresolved_going i l y) (unresolved_kept y k i p report) d.written
            d.memory)
        copy_by x (Some hit) eq range =
            subst
            (λ (x : model.Resolved).
            Ran size n (verdict (copy_refusal S k r e.place y.size x) k)
            (After x (copied S ((obj S k).offset + e.place) y.size x m)) (copy_of table t r.segments e i y (Some hit) p a report))
            eq
            (copy_some hit.object (range hit.object (definition_of hit.definition) hit.address (sym eq)) hit.definition hit.address (eqb (min y.size hit.definition.size) 0) refl)

        copy_ran :
            Ran size n
            (verdict
            (symbol_then (checked_symbol image r e.symbol)
            (λ y. copy_refusal S k r e.place y.size (resolve_copy S sought))) k)
            (After (resolve_copy S sought) (copied S ((obj S k).offset + e.place) y.size (resolve_copy S sought) m))
            (copying_of table t r e i (checked_symbol (image_in a t) r e.symbol) p a report)
        unfolding copying_of
        copy_ran =
            symbol_step e.symbol (λ y. copy_refusal S k r e.place y.size (resolve_copy S sought))
            (After (resolve_copy S sought) (copied S ((obj S k).offset + e.place) y.size (resolve_copy S sought) m))
            (λ c. copying_of table t r e i c p a report) (λ z. refl)
            (λ ok same.
            (copy_by (resolve_copy S sought) (sought_for_copy table a (name_of (image_in a t) r y))
            (ap (λ (x : List ℕ). scoped_of (sought_for_copy table a x)) (name_same e.symbol ok same)
            ∙ copy_searches setting size table h pr fs L a steady name)
            (λ o z v q. (resolve_copy_range S sought o z v q).0)))

        -- ---- any entry

        -- the words of an entry
        abbrev pub words_by : Row → List ℕ
        words_by x =
            pick (undefined_by S k image r e x) (report_word 6 i ∷ []) (pick (is_passed x) (report_word 7 i ∷ []) [])

        -- an entry of an object with that base
        abbrev EntryRan : ℕ → Row → Type 0
        EntryRan base x =
            Ran size n (verdict (refusal_by S k image r e x) k)
            (Doing (ws ++ words_by x) (earlier u (pick (undefined_by S k image r e x) k 0)) (effect S k (entry_by image r base e x) m))
            (run_action table t r i e x p a report)

        entry_by_lem : (x : Row) → EntryRan t.base x
        unfolding refusal_by undefined_by entry_by effect run_action fixed_of
        entry_by_lem ignored = plain (verdict 0 k) m a (verdict_none 0 k refl) d.written d.memory
        entry_by_lem passed_over =
            with_words (verdict 0 k) (ws ++ (report_word 7 i ∷ [])) (earlier u 0) m a (note_of (report_sum 7 i) p report) (verdict_none 0 k refl)
            (rw (earlier_none u) (word_going ws u n p report d.going 7 i (omega arith))) (note_kept (report_sum 7 i) p report)
            d.written d.memory
        entry_by_lem turned_away = stopped 16 _ (λ e. omega arith)
        entry_by_lem marked_refuse = stopped 25 _ (λ e. omega arith)
        entry_by_lem (writes no_search f) =
            subst
            (λ (base : ℕ).
            Ran size n (verdict (field_refusal base r e f 0) k)
            (Doing (ws ++ []) (earlier u 0) (write m ((obj S k).offset + e.place) f.width (written_bytes t e f 0)))
            (with_report p report (fixed_of t r.segments e f a)))
            base_is (fixed_ran e f (in_writable r.segments e.place f.width) refl)
        entry_by_lem (writes (in_scope searched) f) =
            subst
            (λ (base : ℕ).
            Ran size n
            (verdict
            (symbol_then (checked_symbol image r e.symbol)
            (λ y. field_refusal base r e f (pick (searched e.symbol) (address_or0 (resolve S k sought)) 0))) k)
            (Doing (ws ++ pick (both (searched e.symbol) (unresolved image r e (resolve S k sought))) (report_word 6 i ∷ []) [])
            (earlier u (pick (both (searched e.symbol) (unresolved image r e (resolve S k sought))) k 0))
            (effect S k (entry_now f (searched e.symbol)) m))
            (write_sought t e f i (sought_of table t r e searched f p.kept a (checked_symbol (image_in a t) r e.symbol)) p a report))
            base_is (symbolic_ran f searched)
        entry_by_lem copies = copy_ran

        pub entry_ran : (x : Row) → EntryRan (obj S k).base x
        entry_ran x = subst (λ (base : ℕ). EntryRan base x) base_is (entry_by_lem x)
