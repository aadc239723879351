-- Refusals 14 to 18, 22 and 25 of a set without 28: what relocating the objects meets, entry by entry. Document 01, "Refused, in checking order".
-- `Verdict` has them with 28; proofs/CrossLaws joins the two. Assumes nothing.
use Rattle.std.specs.Prelude.{ℕ, List, [], ◌∷◌, slice_index_or}
use Rattle.model.specs.Objects.{Objs}
use Rattle.object.specs.RelocationTypes.{Row}
use Rattle.object.specs.Record.{Record}
use Rattle.object.specs.declared.relocate.Rela.{Rela}
use Rattle.binder.specs.Instance.{File, file_image, file_record, named_words, relas_of}
use Rattle.binder.specs.Verdict.{Verdict, passed, first, verdict, entry_refusal, words_verdict, no_file}

unfoldable pub plain_entries : (ℕ → Row) → Objs → ℕ → List ℕ → Record → List Rela → Verdict
plain_entries row S k image r [] = passed
plain_entries row S k image r (e ∷ es) = first (verdict (entry_refusal row S k image r e) k) (plain_entries row S k image r es)

unfoldable pub plain_object : (ℕ → Row) → Objs → ℕ → File → Verdict
plain_object row S k f =
    first (words_verdict k (file_record f) (named_words (file_image f) (file_record f)))
    (plain_entries row S k (file_image f) (file_record f) (relas_of (file_image f) (file_record f)))

unfoldable pub plain_order : (ℕ → Row) → Objs → List File → List ℕ → Verdict
plain_order row S files [] = passed
plain_order row S files (k ∷ ks) = first (plain_object row S k (slice_index_or files k no_file)) (plain_order row S files ks)
