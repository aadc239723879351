-- How the first copy that crosses an earlier one is found: by the sizes of the program's own symbols, where only the program copies; else in
-- rounds, each of which compares all copies with 1,024 earlier ones. Document 02, (h). `Verdict` has what it comes to. Assumes nothing.
use Rattle.std.specs.Prelude.{◌≡◌, ℕ, ◌+◌, ◌^◌, ◌<◌, ◌≤◌, min, Bool, true, false, ◌⊎◌, List, [], ◌∷◌, ◌++◌, length, get_or, take, drop, ◌==◌, nat_le, nat_lt, slice_index, slice_index_or, Ok, Err, Result, Option, None, Some, IfSome, IsSomeAnd}
use Rattle.std.specs.List.{filter_map}
use Rattle.words.specs.Choice.{pick, both, some}
use Rattle.words.specs.Memory.{inside}
use Rattle.words.specs.declared.refusal.Refusal.{Refusal}
use Rattle.object.specs.RelocationTypes.{Row, ignored, passed_over, turned_away, marked_refuse, copies, writes}
use Rattle.object.specs.Entries.{relas_from}
use Rattle.object.specs.Symbol.{symbol_at}
use Rattle.object.specs.Record.{Record, checked_symbol, name_of}
use Rattle.object.specs.declared.hash_tables.Definition.{Definition}
use Rattle.object.specs.declared.symbol.Symbol.{Symbol}
use Rattle.object.specs.declared.relocate.Rela.{Rela}
use Rattle.sheet.specs.Sheet.{Input, no_input}
use Rattle.scope.specs.Steps.Links.{link_at}
use Rattle.scope.specs.declared.links.Link.{Link}
use Rattle.scope.specs.declared.scope.Hit.{Hit}
use Rattle.binder.specs.Copies.{crosses}
use Rattle.binder.specs.Steps.Relocating.{image_in, cut_to32, copy_fits, sought_for_copy, turn_of, again_refusal, again_record, row_at}
use Rattle.binder.specs.declared.turn.Turn.{Turn}
use Rattle.binder.specs.declared.crossing.Copy.{Copy}
use Rattle.binder.specs.declared.crossing.Walk.{Walk}
use Rattle.binder.specs.declared.crossing.Claim.{Claim}
use Rattle.binder.specs.declared.crossing.Tables.{Tables}
use Rattle.binder.specs.declared.crossing.Crossing.{Crossing}

-- ---- the copies, as the code finds them

-- entries of that row copy
abbrev pub copies_row : Row → Bool
copies_row ignored = false
copies_row passed_over = false
copies_row turned_away = false
copies_row marked_refuse = false
copies_row (writes sought f) = false
copies_row copies = true

-- `n` bytes of the definition `d`, in the object at the link `s`, to the place `to`
unfoldable pub copy_linked : ℕ → Turn → ℕ → Link → Definition → ℕ → Option Copy
copy_linked size t to s d n =
    pick (n == 0) None (pick (copy_fits size t to s d n) (Some (record { to = t.offset + to; source = s.offset + d.value; size = n })) None)

unfoldable pub copy_to : List ℕ → ℕ → Turn → Rela → Symbol → Option Hit → Option Copy
copy_to table size t e y None = None
copy_to table size t e y (Some hit) = copy_linked size t e.place (link_at table hit.object) hit.definition (min y.size hit.definition.size)

module _ (table a : List ℕ) where
  unfoldable pub copy_checked : Turn → Record → Rela → Result Symbol Refusal → Option Copy
  copy_checked t r e (Err x) = None
  copy_checked t r e (Ok y) = copy_to table (length a) t e y (sought_for_copy table a (name_of (image_in a t) r y))

  -- the copy of an entry, by the row of its type
  unfoldable pub copy_seen : Turn → Record → Rela → Row → Option Copy
  copy_seen t r e ignored = None
  copy_seen t r e passed_over = None
  copy_seen t r e turned_away = None
  copy_seen t r e marked_refuse = None
  copy_seen t r e (writes sought f) = None
  copy_seen t r e copies = copy_checked t r e (checked_symbol (image_in a t) r e.symbol)

  abbrev pub seen_of : Turn → Record → Rela → Option Copy
  seen_of t r e = copy_seen t r e (row_at table e.rtype)

abbrev pub no_rela : Rela
no_rela = record { place = 0; rtype = 0; symbol = 0; addend = 0 }

abbrev pub tables_of : Record → Tables
tables_of r =
    record { symbols = r.symbols; rela = r.rela; relas = cut_to32 r.relas; plt = r.plt; plts = cut_to32 r.plts }

-- RELA, then PLT
unfoldable pub entries_by : List ℕ → Tables → List Rela
entries_by image r = relas_from image r.rela 0 r.relas ++ relas_from image r.plt 0 r.plts

abbrev pub entries_of : List ℕ → Record → List Rela
entries_of image r = entries_by image (tables_of r)

-- ---- a round: the copies from number `first` on are kept, 1,024 at most

abbrev pub round : ℕ
round = 1024

-- those of the copies `ys` that a round compares with
abbrev pub compared : ℕ → List Copy → List Copy
compared first ys = take round (drop first ys)

-- each crosses none of those before it that `part` takes; `earlier` stand before all
unfoldable pub EachApart : (List Copy → List Copy) → List Copy → List Copy → Type 0
EachApart part earlier [] = Unit {0}
EachApart part earlier (c ∷ cs) = (some (crosses c) (part earlier) ≡ false) × EachApart part (earlier ++ (c ∷ [])) cs

-- each crosses none before it
abbrev pub Quiet : List Copy → List Copy → Type 0
Quiet = EachApart (λ ys. ys)

-- a walk has seen the copies `ys`, of which each crosses none of the round before it, and keeps those of the round
pub record Seen (ys : List Copy) (w : Walk) : Type 0 where
  pub count : length ys ≡ w.seen
  pub apart : EachApart (compared w.first) [] ys
  pub kept : w.kept.items ≡ compared w.first ys

-- the entries before the one at which a walk stopped, or all
abbrev pub before : List Rela → Option ℕ → List Rela
before es None = es
before es (Some j) = take j es

-- entry `j` of `es`, of which `f` gives the copies, crosses one of `earlier`
pub record CrossesOne (f : Rela → Option Copy) (es : List Rela) (j : ℕ) (earlier : List Copy) : Type 0 where
  pub entry : j < length es
  pub crossed : IsSomeAnd (f (slice_index_or es j no_rela)) (λ c. some (crosses c) earlier ≡ true)

-- a walk went on through the entries `es`, of which `f` gives the copies; or stopped at one that crosses an earlier one
abbrev pub WalksOn : Walk → (Rela → Option Copy) → List Rela → Walk → Option ℕ → Type 0
WalksOn w f es w' r =
    (ys : List Copy) → Seen ys w
    → Seen (ys ++ filter_map f (before es r)) w' × IfSome r (λ j. CrossesOne f es j (ys ++ filter_map f (take j es)))

-- ---- the objects

-- the copies of object `k`, and of the objects of an order
module _ (table : List ℕ) (os : List Input) (a : List ℕ) where
  abbrev pub again_of : ℕ → Record
  again_of k = again_record (image_in a (turn_of table k)) (get_or os k no_input).file

  abbrev pub seen_at : ℕ → Rela → Option Copy
  seen_at k = seen_of table a (turn_of table k) (again_of k)

  abbrev pub entries_at : ℕ → List Rela
  entries_at k = entries_of (image_in a (turn_of table k)) (again_of k)

  unfoldable pub copies_among : List ℕ → List Copy
  copies_among [] = []
  copies_among (k ∷ ks) = filter_map (seen_at k) (entries_at k) ++ copies_among ks

  -- the records of the objects are read again without a refusal
  abbrev pub Readable : List ℕ → Type 0
  Readable ks = (i : ℕ) → i < length ks → again_refusal (image_in a (turn_of table (slice_index ks i))) (get_or os (slice_index ks i) no_input).file ≡ 0

  -- the copies before entry `j` of the object at the place `i` of the order
  abbrev pub copies_before : List ℕ → ℕ → ℕ → List Copy
  copies_before ks i j = copies_among (take i ks) ++ filter_map (seen_at (slice_index ks i)) (take j (entries_at (slice_index ks i)))

  -- the entry at which a copy crosses one of the earlier ones
  pub record CrossesAt (ks : List ℕ) (i j : ℕ) : Type 0 where
    pub object : i < length ks
    pub crossed : CrossesOne (seen_at (slice_index ks i)) (entries_at (slice_index ks i)) j (copies_before ks i j)

  -- the copies before the first that crosses an earlier one, or all
  abbrev pub copies_met : List ℕ → Option Crossing → List Copy
  copies_met ks None = copies_among ks
  copies_met ks (Some m) = copies_before ks m.index m.entry

  abbrev pub Met : List ℕ → Option Crossing → Type 0
  Met ks m = IfSome m (λ c. CrossesAt ks c.index c.entry)

  -- a walk over an order
  pub record Passed (ks : List ℕ) (w : Walk) (m : Option Crossing) : Type 0 where
    pub scanned : Seen (copies_met ks m) w
    pub met : Met ks m

  -- the first copy that crosses an earlier one, or none does
  pub record FirstCrossing (ks : List ℕ) (m : Option Crossing) : Type 0 where
    pub quiet : Quiet [] (copies_met ks m)
    pub met : Met ks m

-- its numbers are some of an order of `n` objects
abbrev pub Bounded : ℕ → Crossing → Type 0
Bounded n m = (m.entry ≤ 2 ^ 33) × (m.index < n)

-- ---- claims: the bytes of an object that its copies may write

-- of an entry: its place, and the size of its own symbol; none where that is 0
unfoldable pub claim_of : List ℕ → ℕ → Rela → Option Claim
claim_of image symbols e =
    pick (e.rtype == 5)
    (pick ((symbol_at image symbols e.symbol).size == 0) None
    (Some (record { place = e.place; size = (symbol_at image symbols e.symbol).size })))
    None

abbrev pub claims : Option Claim → ℕ → Bool
claims None b = false
claims (Some c) b = inside c.place c.size b

-- of the bytes `low` to `high` none is claimed twice; `earlier` stand before all
unfoldable pub ClaimedOnce : (Rela → Option Claim) → ℕ → ℕ → List Rela → List Rela → Type 0
ClaimedOnce f low high earlier [] = Unit {0}
ClaimedOnce f low high earlier (e ∷ es) =
    ((b : ℕ) → low ≤ b → b < high → claims (f e) b ≡ true → some (λ d. claims (f d) b) earlier ≡ false)
    × ClaimedOnce f low high (earlier ++ (e ∷ [])) es

-- it holds of the claim of each
unfoldable pub EachClaim : (Rela → Option Claim) → (Claim → Type 0) → List Rela → Type 0
EachClaim f P [] = Unit {0}
EachClaim f P (e ∷ es) = IfSome (f e) P × EachClaim f P es

-- it ends inside `end` bytes
abbrev pub EndsIn : ℕ → Claim → Type 0
EndsIn end c = c.place + c.size ≤ end

-- a window of marks: 1 for a byte that is claimed, else 0
abbrev pub window : ℕ
window = 32768

-- the marks `low` to `high` were 0 and became 1
pub record MarksTaken (marks marks' : List ℕ) (low high : ℕ) : Type 0 where
  pub were : (x : ℕ) → low ≤ x → x < high → slice_index marks x ≡ 0
  pub are : (x : ℕ) → slice_index marks' x ≡ pick (both (nat_le low x) (nat_lt x high)) 1 (slice_index marks x)

module _ (image : List ℕ) (r : Tables) where
  abbrev pub claim_by : Rela → Option Claim
  claim_by = claim_of image r.symbols

  -- in the window from `w` on; the next claim behind it is at `next` or above
  pub record ClaimedIn (w next : ℕ) : Type 0 where
    pub once : ClaimedOnce claim_by w (w + window) [] (entries_by image r)
    pub ends : EachClaim claim_by (EndsIn (length image)) (entries_by image r)
    pub behind : EachClaim claim_by (λ c. (b : ℕ) → inside c.place c.size b ≡ true → w + window ≤ b → next ≤ b) (entries_by image r)
    pub ahead : w < next

  -- no byte is claimed twice, and each claim ends inside the image
  pub record ClaimsApart : Type 0 where
    pub once : ClaimedOnce claim_by 0 (length image) [] (entries_by image r)
    pub ends : EachClaim claim_by (EndsIn (length image)) (entries_by image r)

-- no entry is a COPY entry
unfoldable pub NoCopies : List Rela → Type 0
NoCopies [] = Unit {0}
NoCopies (e ∷ es) = ((e.rtype == 5) ≡ false) × NoCopies es

-- only the last object of an order has COPY entries, if one has, and that is the program, whose claims are apart
abbrev pub PlainlyApart : List ℕ → List Input → List ℕ → List ℕ → Type 0
PlainlyApart table os a ks =
    (i : ℕ) → i < length ks
    → NoCopies (entries_at table os a (slice_index ks i))
    ⊎ ((i + 1 ≡ length ks) × (slice_index ks i ≡ 1) × ClaimsApart (image_in a (turn_of table 1)) (tables_of (again_of table os a 1)))

abbrev pub CrossingIn : List ℕ → List Input → List ℕ → List ℕ → Option Crossing → Type 0
CrossingIn table os a ks m = ((m ≡ None) × PlainlyApart table os a ks) ⊎ FirstCrossing table os a ks m
