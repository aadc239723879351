-- 9 bytes for each word of the report hold all that is printed. Assumes nothing.
use Rattle.std.proofs.Common.{Err}
use mathlib.Core.Path.{◌≡◌, refl, ap, ◌∙◌}
use mathlib.Core.Bool.{Bool, true, false}
use mathlib.Core.List.{List, [], ◌∷◌, ◌++◌}
use Prim.Native.Nat.{ℕ, ◌+◌, ◌-◌, ◌*◌, ◌≤◌}
use native.Mathlib.Omega.{arith}
use borrow.Author.Tests.{leb-true}
use lib.Dec.{leb}
use lib.ListN.{length, take, drop, replicate, length-append, length-replicate}
use Rattle.words.specs.Choice.{pick}
use Rattle.words.specs.Memory.{mem, tab, patch}
use Rattle.words.specs.Names.{until_zero}
use Rattle.words.proofs.NameLaws.{name_short}
use Rattle.words.proofs.Slices.{take_patch, tab_mem}
use Rattle.sheet.specs.Sheet.{set_of}
use Rattle.binder.specs.declared.Policy.{Policy}
use Rattle.binder.specs.declared.Policy.TheVariants.{Lenient}
use Rattle.binder.specs.Setting.{Setting, supplied_at}
use Rattle.binder.specs.Verdict.{Verdict, passed, first, order_verdict}
use Rattle.binder.specs.Report.{order_words, first_undefined}
use Rattle.binder.specs.SetOrder.{set_order}
use Rattle.binder.specs.Bind as binding
use Rattle.binder.specs.Bind.{files_of, names_of, objects_of, unless, types_verdict, allows, relocate_verdict, Outcome, outcome, outcome_of, bind_of}
use Rattle.binder.proofs.OutcomeLaws.{first_passed, unless_passed, sheet_verdict, bind_one}
use Rattle.program.specs.Program.{arena_bytes, arena_address, report_words, count_in, word_in, start_in, whole, answer_to, program_of, digits, width_from, decimal_of, hex_line, hex_lines, refused_text, object_text, refusal_line, lines_of, written, print, AllPrinted}
use Rattle.program.proofs.PrintLaws.{digits_length, width_most, next_place}

-- ---- the report is as long as it was

abbrev report_in : Outcome → List ℕ
report_in (outcome answer arena report) = report

of_outcome :
    (size words : ℕ) (v : Verdict) (arena report : List ℕ) → (v ≡ passed → length report ≤ words)
    → length (report_in (outcome_of size words v arena report)) ≡ words
unfolding binding.outcome_of
of_outcome size words (Err m) arena report h = length-replicate words 0
of_outcome size words passed arena report h =
    omega (arith, h refl, length-append report (replicate (words - length report) 0), length-replicate {A = ℕ} (words - length report) 0)

of_bind :
    (setting : Setting) (sheet bytes : List ℕ) (size : ℕ) (policy : Policy) (words : ℕ) → length (report_in (bind_of setting sheet bytes size policy words)) ≡ words
unfolding binding.bind_in binding.relocate_verdict
of_bind setting sheet bytes size policy words =
    let files = files_of (set_of sheet bytes) in
    let S = objects_of setting files in
    let order = set_order files (names_of (set_of sheet bytes)) in
    let room = leb (length (order_words setting.row S files order)) words in
    let last = first (unless (allows policy (first_undefined setting.row S files order)) 19 (first_undefined setting.row S files order)) (unless room 20 0) in
    ap (λ (o : Outcome). length (report_in o)) (bind_one setting sheet bytes size policy words)
    ∙ of_outcome size words (first (sheet_verdict setting (types_verdict setting) sheet bytes size) (relocate_verdict setting.row S files order policy words)) _ (order_words setting.row S files order)
    (λ e.
    let p = first_passed (sheet_verdict setting (types_verdict setting) sheet bytes size) (relocate_verdict setting.row S files order policy words) e in
    let q = first_passed (order_verdict setting.row S files [] order) last p.1 in
    let r = first_passed (unless (allows policy (first_undefined setting.row S files order)) 19 (first_undefined setting.row S files order)) (unless room 20 0) q.1 in
    leb-true (length (order_words setting.row S files order)) words (unless_passed room 20 0 r.1))

picked : (t : Bool) (a b : Outcome) (n : ℕ) → length (report_in a) ≡ n → length (report_in b) ≡ n → length (report_in (pick t a b)) ≡ n
picked true a b n h g = h
picked false a b n h g = g

of_program : (input : List ℕ) → length (report_in (program_of input)) ≡ report_words
unfolding program_of answer_to
of_program input =
    picked (whole input) _ _ report_words
    (of_bind (supplied_at arena_address) (tab (count_in input) (word_in input)) (drop (start_in input) input) arena_bytes Lenient report_words) (length-replicate {A = ℕ} report_words 0)

-- ---- the lines are as long as they may be

line_length : (w : ℕ) → length (hex_line w) ≡ 9
unfolding hex_line
line_length w = length-append (digits 16 8 w) (10 ∷ []) ∙ ap (λ (n : ℕ). n + 1) (digits_length 8 16 w)

lines_length : (ws : List ℕ) → length (hex_lines ws) ≡ 9 * length ws
unfolding hex_lines
lines_length [] = refl
lines_length (w ∷ ws) = omega (arith, length-append (hex_line w) (hex_lines ws), line_length w, lines_length ws)

decimal_length : (v : ℕ) → length (decimal_of v) ≤ 10
unfolding decimal_of
decimal_length v = omega (arith, digits_length (width_from 9 1 v) 10 v, width_most 9 1 v)

refusal_length : (n k : ℕ) → length (refusal_line n k) ≤ 37
unfolding refusal_line
refusal_length n k =
    let a = decimal_of n in
    let b = decimal_of k in
    omega (
      arith,
      decimal_length n,
      decimal_length k,
      length-append refused_text (a ++ (object_text ++ (b ++ (10 ∷ [])))),
      length-append a (object_text ++ (b ++ (10 ∷ []))),
      length-append object_text (b ++ (10 ∷ [])),
      length-append b (10 ∷ []),
    )

of_lines : (o : Outcome) → length (report_in o) ≡ report_words → length (lines_of o) ≤ 9 * report_words
of_lines (outcome passed arena report) h = omega (arith, h, lines_length (until_zero report), name_short report)
of_lines (outcome (Err m) arena report) h = omega (arith, refusal_length m.number m.object)

-- ---- so all of them are printed

slice : (lines out exit : List ℕ) (r : ℕ) → length lines ≤ length out → written exit r ≡ print (written out 0) lines → r ≡ length lines → take r exit ≡ lines
unfolding print
slice lines out exit r fits e n =
    let all : exit ≡ patch out 0 (length lines) (mem lines) = cc in
    rw (n, all) (take_patch out (length lines) (mem lines) fits ∙ tab_mem lines)

pub all_printed : AllPrinted
all_printed input out exit r room e =
    let lines = lines_of (program_of input) in
    let fits : length lines ≤ length out = omega (arith, of_lines (program_of input) (of_program input)) in
    slice lines out exit r fits e (omega (arith, fits, next_place out 0 lines e))
