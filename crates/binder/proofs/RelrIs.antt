-- The words that RELR's entries name, added one after another over the arena as it is, are those of the placed bytes alone: the same refusal,
-- and the same arena where there is none. Assumes nothing.
use Rattle.std.proofs.Common.{◌≡◌, ℕ, zero, suc, ◌+◌, ◌*◌, ◌/◌, ◌%◌, ◌^◌, ◌<◌, ◌≤◌, min, Bool, true, false, eqb, List, [], ◌∷◌, ◌++◌, length, sym, refl, ap, ◌∙◌, true≢false, pow-suc, zero-add, div-one, add-one, arith, eqb-true}
use native.Mathlib.Nat.{div-div-eq-div-mul}
use native.Mathlib.Decide.{dec_lt}
use borrow.Author.Tests.{eqb-false}
use Rattle.words.specs.Choice.{pick}
use Rattle.words.specs.Memory.{mem}
use Rattle.words.specs.Words.{le_at, byte_of, sum64}
use Rattle.model.specs.Objects.{Obj, Objs, count, obj}
use Rattle.model.specs.Relocation.{add_word, add_words}
use Rattle.object.specs.TableBytes.{in_writable}
use Rattle.object.specs.Refusal.{require}
use Rattle.object.specs.Entries.{relr_at, relrs_from, relr_of, Location, none, word, Word, place, nowhere, word_after, bit_words, relr_entry_words, next_location, relr_words}
use Rattle.object.specs.Record.{Record}
use Rattle.object.specs.declared.relocate.Relr.{Relr}
use Rattle.object.specs.declared.relocate.Relr.TheVariants.{Address, Bitmap}
use Rattle.scope.specs.declared.links.Link.{Link}
use Rattle.binder.specs.declared.turn.Turn.{Turn}
use Rattle.binder.specs.Instance.{File, file_image, file_record, places_of, named_words}
use Rattle.binder.specs.Setting.{Setting}
use Rattle.binder.specs.Verdict.{first, verdict, word_refusal, words_verdict, Verdict}
use Rattle.binder.specs.Steps.Relocating.{Moved, image_in, far, cut_to32, Summed, summed, Shifted, shifted, word_added, add_bits, bits_added, add_relr, then_relr, add_relrs, summed_in, run_relrs, part_of, with_part, turn_of}
use Rattle.binder.proofs.InsideLaws.{writable_inside}
use Rattle.binder.proofs.Runs.{first_assoc, first_met}
use Rattle.binder.proofs.PartLaws.{with_same, part_with, with_again, word_added_lem}
use Rattle.binder.proofs.Steady as steady
use Rattle.binder.proofs.SteadyLaws as laws

-- ---- words one after another

verdict_append : (k : ℕ) (r : Record) (ws vs : List Word) → words_verdict k r (ws ++ vs) ≡ first (words_verdict k r ws) (words_verdict k r vs)
unfolding words_verdict
verdict_append k r [] vs = refl
verdict_append k r (w ∷ ws) vs =
    ap (λ (v : Verdict). first (verdict (word_refusal r w) k) v) (verdict_append k r ws vs)
    ∙ sym (first_assoc (verdict (word_refusal r w) k) (words_verdict k r ws) (words_verdict k r vs))

words_append : (o : Obj) (ws vs : List Word) (m : ℕ → ℕ) → add_words o (places_of (ws ++ vs)) m ≡ add_words o (places_of vs) (add_words o (places_of ws) m)
unfolding add_words places_of
words_append o [] vs m = refl
words_append o (place p ∷ ws) vs m = words_append o ws vs (add_word o p m)
words_append o (nowhere ∷ ws) vs m = words_append o ws vs m

-- ---- entries

-- an entry of two tables that are the same
relr_at_lem : (x y : List ℕ) (at i n : ℕ) → relrs_from x at i n ≡ relrs_from y at i n → (j : ℕ) → j < n → relr_at x at (i + j) ≡ relr_at y at (i + j)
unfolding relrs_from
relr_at_lem x y at i zero e j l = absurd (omega arith)
relr_at_lem x y at i (suc n) e zero l = let s : i + 0 ≡ i = omega arith in rw s (cc)
relr_at_lem x y at i (suc n) e (suc j) l =
    let s : i + suc j ≡ i + 1 + j = omega arith in
    let e' : relrs_from x at (i + 1) n ≡ relrs_from y at (i + 1) n = cc in
    rw s (relr_at_lem x y at (i + 1) n e' j (omega arith))

-- the bits that are left after bit `j`
bits_next : (bitmap j : ℕ) → bitmap / 2 ^ j / 2 ≡ bitmap / 2 ^ (j + 1)
bits_next bitmap j = rw (div-div-eq-div-mul bitmap (2 ^ j) 2, add-one j, pow-suc 2 j)

-- the code's location for the definition's
abbrev Sits : Location → ℕ → Type 0
Sits none l = l ≡ far
Sits (word w) l = l ≡ min w far

module _ (setting : Setting) (size : ℕ) (table : List ℕ) (h p : File) (fs : List File) where
  abbrev address : ℕ
  address = setting.address

  abbrev S : Objs
  S = steady.set setting size table h p fs

  abbrev file : ℕ → File
  file k = steady.file_at setting size table h p fs k

  abbrev LoadedSet : Type 0
  LoadedSet = steady.LoadedSet setting size table h p fs

  abbrev Steady : List ℕ → Type 0
  Steady a = steady.Steady setting size table h p fs a

  abbrev Written : List ℕ → List ℕ → ℕ → Type 0
  Written a b k = steady.Written setting size table h p fs a b k

  -- ---- what a part of the words leaves

  -- the words `ws` of object `k` were added to the arena `a`: the refusal `z`, 0 for none, and the arena `b`
  record Ran (k : ℕ) (ws : List Word) (z : ℕ) (a b : List ℕ) : Type 0 where
    verdict_is : verdict z k ≡ words_verdict k (file_record (file k)) ws
    done : z ≡ 0 → (mem b ≡ add_words (obj S k) (places_of ws) (mem a)) × Written a b k
    length_is : length b ≡ size

  ran_none : (k : ℕ) (a : List ℕ) → Steady a → Ran k [] 0 a a
  unfolding words_verdict verdict add_words places_of
  ran_none k a s = record { verdict_is = refl; done = λ e. (refl, laws.written_none setting size table h p fs a k s); length_is = s.size_is }

  ran_then : (k : ℕ) (ws vs : List Word) (z : ℕ) (a b c : List ℕ) → Ran k ws 0 a b → Ran k vs z b c → Ran k (ws ++ vs) z a c
  unfolding verdict
  ran_then k ws vs z a b c u v =
      record {
        verdict_is =
            v.verdict_is
            ∙ (ap (λ (x : Verdict). first x (words_verdict k (file_record (file k)) vs)) u.verdict_is
            ∙ sym (verdict_append k (file_record (file k)) ws vs));
        done = λ e. (
          (v.done e).0
              ∙ (ap (λ (m : ℕ → ℕ). add_words (obj S k) (places_of vs) m) (u.done refl).0 ∙ sym (words_append (obj S k) ws vs (mem a))),
          laws.written_then setting size table h p fs a b c k (u.done refl).1 (v.done e).1,
        );
        length_is = v.length_is;
      }

  ran_stops : (k : ℕ) (ws vs : List Word) (z : ℕ) (a b : List ℕ) → (z ≡ 0 → ⊥) → Ran k ws z a b → Ran k (ws ++ vs) z a b
  ran_stops k ws vs z a b n u =
      record {
        verdict_is =
            sym (first_met z k (words_verdict k (file_record (file k)) vs) n)
            ∙ (ap (λ (x : Verdict). first x (words_verdict k (file_record (file k)) vs)) u.verdict_is
            ∙ sym (verdict_append k (file_record (file k)) ws vs));
        done = λ e. absurd (n e);
        length_is = u.length_is;
      }

  -- all words that RELR names
  pub record RelrEnded (k z : ℕ) (a a' : List ℕ) : Type 0 where
    pub verdict_is : verdict z k ≡ words_verdict k (file_record (file k)) (named_words (file_image (file k)) (file_record (file k)))
    pub done :
        z ≡ 0
        → (mem a' ≡ add_words (obj S k) (places_of (named_words (file_image (file k)) (file_record (file k)))) (mem a)) × Written a a' k
    pub length_is : length a' ≡ size

  module _ (L : LoadedSet) (k : ℕ) (low : 1 ≤ k) (member : k < count S) where
    abbrev r : Record
    r = file_record (file k)

    abbrev t : Turn
    t = turn_of table k

    long : (a : List ℕ) → Steady a → t.offset ≤ length a
    long a s =
        let at = laws.lies setting size table h p fs L k member in
        omega (arith, at.object.fits, ap (λ (x : Link). x.offset) at.link, s.size_is)

    -- the arena in which the word at `q` of the object gained the base
    abbrev added : ℕ → List ℕ → List ℕ
    added q a = with_part t a (word_added t.base q (part_of t a))

    -- ---- one word

    -- no place from 2^28 on is in a writable segment
    far_out : (q : ℕ) → 2 ^ 28 ≤ q → in_writable r.segments q 8 ≡ false
    far_out q l = go (in_writable r.segments q 8) refl
      where
        go : (b : Bool) → in_writable r.segments q 8 ≡ b → b ≡ false
        go false e = refl
        go true e =
            let i = writable_inside (file k).host (file k).bytes q 8 e in
            let f = (laws.lies setting size table h p fs L k member).object.fits in
            let s = L.small in
            absurd (omega arith)

    -- the definition's word for the code's place
    record Same (w : Word) (q : ℕ) : Type 0 where
      refusal_is : word_refusal r w ≡ require (in_writable r.segments q 8) 17 0
      place_is : in_writable r.segments q 8 ≡ true → w ≡ place q

    same_place : (q : ℕ) → Same (place q) q
    same_place q = record { refusal_is = refl; place_is = λ e. refl }

    -- both past all segments
    same_far : (w : Word) (q : ℕ) → word_refusal r w ≡ 17 → 2 ^ 28 ≤ q → Same w q
    unfolding require
    same_far w q e l =
        record { refusal_is = rw (far_out q l) e; place_is = λ i. absurd (true≢false (sym i ∙ far_out q l)) }

    same_after : (location : Location) (l j : ℕ) → Sits location l → Same (word_after location j) (l + 8 * j)
    unfolding require
    same_after none l j e = same_far nowhere (l + 8 * j) refl (omega arith)
    same_after (word w) l j e = go (dec_lt w far)
      where
        go : Dec (w < far) → Same (place (w + 8 * j)) (l + 8 * j)
        go (yes f) = let s : l ≡ w = omega arith in rw s (same_place (w + 8 * j))
        go (no f) = same_far (place (w + 8 * j)) (l + 8 * j) (rw (far_out (w + 8 * j) (omega arith))) (omega arith)

    -- the code's word is the model's
    added_is :
        (q : ℕ) (a : List ℕ) → Steady a → in_writable r.segments q 8 ≡ true
        → Written a (added q a) k × (mem (added q a) ≡ add_word (obj S k) q (mem a))
    unfolding add_word
    added_is q a s e =
        let at = laws.lies setting size table h p fs L k member in
        let offset_is : t.offset ≡ (obj S k).offset = ap (λ (x : Link). x.offset) at.link in
        let g : ℕ → ℕ = byte_of (sum64 (le_at 8 (mem a) ((obj S k).offset + q)) (obj S k).base) in
        rw (word_added_lem t a (long a s) q, at.base, offset_is) (laws.write_steady setting size table h p fs L a s k member q 8 e g)

    ran_word : (w : Word) (q : ℕ) (a : List ℕ) → Same w q → Steady a → in_writable r.segments q 8 ≡ true → Ran k (w ∷ []) 0 a (added q a)
    unfolding words_verdict verdict add_words places_of require
    ran_word w q a same s e =
        let i = added_is q a s e in
        rw (same.place_is e)
        (record {
          verdict_is = rw e;
          done = λ z. (i.1, i.0);
          length_is = i.0.steady.size_is;
        })

    ran_refused : (w : Word) (q : ℕ) (a : List ℕ) → Same w q → Steady a → in_writable r.segments q 8 ≡ false → Ran k (w ∷ []) 17 a a
    unfolding words_verdict verdict require
    ran_refused w q a same s e =
        record { verdict_is = rw (same.refusal_is, e); done = λ z. absurd (omega arith); length_is = s.size_is }

    -- ---- a bitmap

    ran_bits :
        (location : Location) (l bitmap : ℕ) → Sits location l → (n j : ℕ) (q bits : ℕ) → q ≡ l + 8 * j → bits ≡ bitmap / 2 ^ j
        → (a : List ℕ) → Steady a → (z : ℕ) (x : List ℕ) → summed z x ≡ add_bits t.base r.segments n q bits (part_of t a)
        → Ran k (bit_words location bitmap j n) z a (with_part t a x)
    unfolding add_bits bit_words
    ran_bits location l bitmap at zero j q bits eq eb a s z x e =
        let ez : z ≡ 0 = cc in
        let ea : x ≡ part_of t a = cc in
        rw (ez, ea, with_same t a) (ran_none k a s)
    ran_bits location l bitmap at (suc n) j q bits eq eb a s z x e =
        go (eqb (bitmap / 2 ^ j % 2) 1) (in_writable r.segments q 8) refl (rw eb at e)
        (λ c sc ec. ran_bits location l bitmap at n (j + 1) (q + 8) (bitmap / 2 ^ j / 2) (omega arith) (bits_next bitmap j) c sc z x ec)
      where
        next : List ℕ → Summed
        next y = add_bits t.base r.segments n (q + 8) (bitmap / 2 ^ j / 2) y

        rest : List Word
        rest = bit_words location bitmap (j + 1) n

        same : Same (word_after location j) q
        same = rw eq (same_after location l j at)

        go :
            (set may : Bool) → in_writable r.segments q 8 ≡ may
            → summed z x ≡ pick set (pick may (next (word_added t.base q (part_of t a))) (summed 17 (part_of t a))) (next (part_of t a))
            → ((c : List ℕ) → Steady c → summed z x ≡ next (part_of t c) → Ran k rest z c (with_part t c x))
            → Ran k (pick set (word_after location j ∷ []) [] ++ rest) z a (with_part t a x)
        go true true ey e more =
            let u = ran_word (word_after location j) q a same s ey in
            ran_then k (word_after location j ∷ []) rest z a (added q a) (with_part t a x) u
            (rw (with_again t a (long a s) (word_added t.base q (part_of t a)) x) at
            (more (added q a) (u.done refl).1.steady (rw (part_with t a (long a s) (word_added t.base q (part_of t a))) e)))
        go true false ey e more =
            let ez : z ≡ 17 = cc in
            let ea : x ≡ part_of t a = cc in
            rw (ez, ea, with_same t a) (ran_stops k (word_after location j ∷ []) rest 17 a a (λ n. omega arith) (ran_refused (word_after location j) q a same s ey))
        go false may ey e more = more a s e

    -- ---- an entry

    record RanEntry (location : Location) (e : Relr) (m : Moved) (a b : List ℕ) : Type 0 where
      words : Ran k (relr_entry_words location e) m.refusal a b
      next : m.refusal ≡ 0 → Sits (next_location location e) m.location

    sits_moved : (location : Location) (l bitmap : ℕ) → Sits location l → Sits (next_location location (Bitmap bitmap)) (min (l + 504) far)
    sits_moved none l bitmap at = omega arith
    sits_moved (word w) l bitmap at = omega arith

    ran_entry :
        (location : Location) (l : ℕ) → Sits location l → (e : Relr) (a : List ℕ) → Steady a → (m : Moved) (x : List ℕ)
        → shifted m x ≡ add_relr t.base r.segments l e (part_of t a)
        → RanEntry location e m a (with_part t a x)
    unfolding add_relr
    ran_entry location l at (Address q) a s m x e = go (in_writable r.segments q 8) refl e
      where
        go :
            (y : Bool) → in_writable r.segments q 8 ≡ y
            → shifted m x
            ≡ pick y (shifted (record { refusal = 0; location = min (q + 8) far }) (word_added t.base q (part_of t a)))
            (shifted (record { refusal = 17; location = l }) (part_of t a))
            → RanEntry location (Address q) m a (with_part t a x)
        go true ey e =
            let em : m ≡ record { refusal = 0; location = min (q + 8) far } = cc in
            let eb : x ≡ word_added t.base q (part_of t a) = cc in
            rw (em, eb) (record { words = ran_word (place q) q a (same_place q) s ey; next = λ z. refl })
        go false ey e =
            let em : m ≡ record { refusal = 17; location = l } = cc in
            let eb : x ≡ part_of t a = cc in
            rw (em, eb, with_same t a) (record { words = ran_refused (place q) q a (same_place q) s ey; next = λ z. absurd (omega arith) })
    ran_entry location l at (Bitmap bits) a s m x e = go (add_bits t.base r.segments 63 l bits (part_of t a)) refl e
      where
        go :
            (v : Summed) → v ≡ add_bits t.base r.segments 63 l bits (part_of t a) → shifted m x ≡ bits_added t.base r.segments l v
            → RanEntry location (Bitmap bits) m a (with_part t a x)
        go (summed z c) ev e =
            let em : m ≡ record { refusal = z; location = min (l + 504) far } = cc in
            let eb : x ≡ c = cc in
            rw (em, eb)
            (record {
              words = ran_bits location l bits at 63 0 l bits (omega arith) (sym (div-one bits)) a s z c ev;
              next = λ n. sits_moved location l bits at;
            })

    -- ---- the entries

    -- entry `i` of the arena is that of the placed bytes
    entry_is : (a : List ℕ) → Steady a → (i : ℕ) → i < r.relrs → relr_at (image_in a t) r.relr i ≡ relr_at (file_image (file k)) r.relr i
    entry_is a s i l =
        let e = (laws.readings setting size table h p fs L a s k member).relrs (L.others k low member) in
        rw (zero-add i) at (relr_at_lem (image_in a t) (file_image (file k)) r.relr 0 r.relrs e i l)

    ran_entries :
        (n i : ℕ) → i + n ≤ r.relrs → (location : Location) (l : ℕ) → Sits location l → (a : List ℕ) → Steady a
        → (z : ℕ) (y : List ℕ) → summed z y ≡ add_relrs t r n i l (part_of t a)
        → Ran k (relr_words location (relrs_from (file_image (file k)) r.relr i n)) z a (with_part t a y)
    unfolding add_relrs relr_words relrs_from
    ran_entries zero i few location l at a s z y e =
        let ez : z ≡ 0 = cc in
        let ea : y ≡ part_of t a = cc in
        rw (ez, ea, with_same t a) (ran_none k a s)
    ran_entries (suc n) i few location l at a s z y e =
        go (add_relr t.base r.segments l x (part_of t a)) refl (rw (entry_is a s i (omega arith)) at e)
        (λ v lv at' c sc ec. ran_entries n (i + 1) (omega arith) v lv at' c sc z y ec)
      where
        x : Relr
        x = relr_of (relr_at (file_image (file k)) r.relr i)

        rest : Location → List Word
        rest v = relr_words v (relrs_from (file_image (file k)) r.relr (i + 1) n)

        go :
            (w : Shifted) → w ≡ add_relr t.base r.segments l x (part_of t a) → summed z y ≡ then_relr (add_relrs t r n (i + 1)) w
            → ((v : Location) (lv : ℕ) → Sits v lv → (c : List ℕ) → Steady c → summed z y ≡ add_relrs t r n (i + 1) lv (part_of t c) → Ran k (rest v) z c (with_part t c y))
            → Ran k (relr_entry_words location x ++ rest (next_location location x)) z a (with_part t a y)
        go (shifted m c) ey e more = ends (eqb m.refusal 0) refl e
          where
            here : RanEntry location x m a (with_part t a c)
            here = ran_entry location l at x a s m c ey

            ends :
                (d : Bool) → eqb m.refusal 0 ≡ d → summed z y ≡ pick d (add_relrs t r n (i + 1) m.location c) (summed m.refusal c)
                → Ran k (relr_entry_words location x ++ rest (next_location location x)) z a (with_part t a y)
            ends true ed e =
                let ez : m.refusal ≡ 0 = eqb-true _ _ ed in
                let u : Ran k (relr_entry_words location x) 0 a (with_part t a c) = rw ez at here.words in
                ran_then k (relr_entry_words location x) (rest (next_location location x)) z a (with_part t a c) (with_part t a y) u
                (rw (with_again t a (long a s) c y) at
                (more (next_location location x) m.location (here.next ez) (with_part t a c) (u.done refl).1.steady (rw (part_with t a (long a s) c) e)))
            ends false ed e =
                let ez : z ≡ m.refusal = cc in
                let eb : y ≡ c = cc in
                rw (ez, eb)
                (ran_stops k (relr_entry_words location x) (rest (next_location location x)) m.refusal a (with_part t a c) (eqb-false _ _ ed) here.words)

  pub relr_is :
      LoadedSet → (k : ℕ) → 1 ≤ k → k < count S → (a : List ℕ) → Steady a → (z : ℕ) (a' : List ℕ)
      → summed z a' ≡ run_relrs (turn_of table k) (file_record (file k)) a
      → RelrEnded k z a a'
  unfolding named_words run_relrs
  relr_is L k low member a s z a' e = go (add_relrs (turn_of table k) (file_record (file k)) (file_record (file k)).relrs 0 far (part_of (turn_of table k) a)) refl (rw n at e)
    where
      n : cut_to32 (file_record (file k)).relrs ≡ (file_record (file k)).relrs
      n = omega (arith, (laws.counts setting size table h p fs L k low member).2)

      go :
          (v : Summed) → v ≡ add_relrs (turn_of table k) (file_record (file k)) (file_record (file k)).relrs 0 far (part_of (turn_of table k) a) → summed z a' ≡ summed_in (turn_of table k) a v
          → RelrEnded k z a a'
      go (summed z' x) ev e =
          let ez : z ≡ z' = cc in
          let ea : a' ≡ with_part (turn_of table k) a x = cc in
          let u = ran_entries L k low member (file_record (file k)).relrs 0 (omega arith) none far refl a s z' x ev in
          rw (ez, ea) (record { verdict_is = u.verdict_is; done = u.done; length_is = u.length_is })
