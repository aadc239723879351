-- An arena while a loaded set is relocated: what stays in it. Definitions for the proofs; their laws are in SteadyLaws. Assumes nothing.
use Rattle.std.proofs.Common.{◌≡◌, ℕ, ◌+◌, ◌*◌, ◌^◌, ◌<◌, ◌≤◌, true, false, List, ◌∷◌, length, get_or}
use Rattle.words.specs.Memory.{Mem, mem, write, patch}
use Rattle.model.specs.Objects.{Objs, count, obj}
use Rattle.model.specs.Scope.{resolve, resolve_copy}
use Rattle.model.specs.Layout.{objs_of}
use Rattle.object.specs.TableBytes.{Agree, in_writable}
use Rattle.object.specs.Record.{is_table_of}
use Rattle.object.specs.Invariant.{SameReadings}
use Rattle.object.specs.Placed.{object_span}
use Rattle.object.specs.declared.hash_tables.Definition.{Definition}
use Rattle.model.specs.Symbols.{by_name}
use Rattle.binder.specs.Instance.{File, file_image, file_record, definition_of, object_from}
use Rattle.binder.specs.Setting.{Setting}
use Rattle.binder.specs.Verdict.{passed, no_file, copy_ok}
use Rattle.scope.specs.Steps.Links.{link_at, count_in, address_in}
use Rattle.binder.specs.Steps.Prepared.{load_from, link_of, place_files, Linked}
use Rattle.scope.specs.Steps.ScopeCode.{image_at}
use Rattle.binder.specs.Steps.ScopeModel.{scoped_of}
use Rattle.binder.specs.Steps.Relocating.{turn_of, image_in, sought_for, sought_for_copy, again_refusal, again_record, copy_fits, row_at}
use Rattle.binder.proofs.Lies.{ObjectLies}

module _ (setting : Setting) (size : ℕ) (table : List ℕ) (h p : File) (fs : List File) where
  abbrev address : ℕ
  address = setting.address

  abbrev pub files : List File
  files = h ∷ (p ∷ fs)

  abbrev pub file_at : ℕ → File
  file_at k = get_or files k no_file

  abbrev pub set : Objs
  set = objs_of (object_from setting) h p fs

  -- refusals 2, 4 to 12 and 21 were passed, and the table has the links, the count, the address and the words of the types
  pub record LoadedSet : Type 0 where
    pub others : (k : ℕ) → 1 ≤ k → k < count set → (file_at k).host ≡ false
    pub loads : load_from setting size 0 0 files ≡ passed
    pub links : Linked setting table 0 0 files
    pub counted : count_in table ≡ count set
    pub addressed : address_in table ≡ address
    pub typed : (rtype : ℕ) → row_at table rtype ≡ setting.row rtype
    pub end : address + size ≤ 2 ^ 63
    pub small : size ≤ 2 ^ 28

  -- the bytes of object `k` are as they were placed
  abbrev pub PlacedAt : List ℕ → ℕ → Type 0
  PlacedAt a k = image_at a (link_at table k) ≡ file_image (file_at k)

  -- the table bytes of every object are
  pub record Steady (a : List ℕ) : Type 0 where
    pub size_is : length a ≡ size
    pub tables : (k : ℕ) → k < count set → Agree (is_table_of (file_record (file_at k))) (file_image (file_at k)) (image_at a (link_at table k))

  -- object `k` lies at its link
  pub record At (k : ℕ) : Type 0 where
    pub object : ObjectLies setting size h p fs k
    pub link : link_at table k ≡ link_of (file_at k) (obj set k).offset
    -- base = address + offset, without wrapping
    pub base : (turn_of table k).base ≡ (obj set k).base

  -- a write to object `k` left the other objects' bytes
  pub record Written (a a' : List ℕ) (k : ℕ) : Type 0 where
    pub steady : Steady a'
    pub others : (j : ℕ) → j < count set → (j ≡ k → ⊥) → image_at a' (link_at table j) ≡ image_at a (link_at table j)

  -- ---- the laws, as SteadyLaws proves them

  abbrev pub EachLies : Type 0
  EachLies = LoadedSet → (k : ℕ) → k < count set → At k

  -- the placed arena
  abbrev pub Starts : Type 0
  Starts = LoadedSet → (a : List ℕ) (m : Mem) → length a ≡ size → mem a ≡ place_files setting files 0 m → (k : ℕ) → k < count set → PlacedAt a k

  abbrev pub PlacedSteady : Type 0
  PlacedSteady = LoadedSet → (a : List ℕ) → length a ≡ size → ((k : ℕ) → k < count set → PlacedAt a k) → Steady a

  -- all that is read is as it was
  abbrev pub Readings : Type 0
  Readings =
      LoadedSet → (a : List ℕ) → Steady a → (k : ℕ) → k < count set
      → SameReadings (file_at k).host (file_record (file_at k)) (file_image (file_at k)) (image_at a (link_at table k))

  abbrev pub Searches : Type 0
  Searches =
      LoadedSet → (a : List ℕ) → Steady a → (k : ℕ) → k < count set → (name : List ℕ)
      → scoped_of (sought_for table (turn_of table k) a name) ≡ resolve set k (by_name name)

  abbrev pub CopySearches : Type 0
  CopySearches =
      LoadedSet → (a : List ℕ) → Steady a → (name : List ℕ) → scoped_of (sought_for_copy table a name) ≡ resolve_copy set (by_name name)

  -- a write to a writable segment
  abbrev pub Writes : Type 0
  Writes =
      LoadedSet → (a : List ℕ) → Steady a → (k : ℕ) → k < count set → (q n : ℕ) → in_writable (file_record (file_at k)).segments q n ≡ true
      → (g : ℕ → ℕ)
      → Written a (patch a ((obj set k).offset + q) n g) k
      × (mem (patch a ((obj set k).offset + q) n g) ≡ write (mem a) ((obj set k).offset + q) n g)

  -- the tests of refusal 18 in the code are the definition's
  abbrev pub CopyTests : Type 0
  CopyTests =
      LoadedSet → (k d : ℕ) → k < count set → d < count set → (q n : ℕ) → q + n ≤ object_span (file_at k).host (file_at k).bytes
      → (x : Definition) → copy_fits size (turn_of table k) q (link_at table d) x n ≡ copy_ok set k q d (definition_of x) n

  -- the counted relocation entries of program and libraries are in the span
  abbrev pub Counts : Type 0
  Counts =
      LoadedSet → (k : ℕ) → 1 ≤ k → k < count set
      → (24 * (file_record (file_at k)).relas ≤ 2 ^ 28) × (24 * (file_record (file_at k)).plts ≤ 2 ^ 28) × (8 * (file_record (file_at k)).relrs ≤ 2 ^ 28)

  -- the record that is read again at the object's turn
  abbrev pub Again : Type 0
  Again =
      LoadedSet → (a : List ℕ) (k : ℕ) → 1 ≤ k → k < count set → PlacedAt a k
      → (again_refusal (image_in a (turn_of table k)) (file_at k).bytes ≡ 0)
      × (again_record (image_in a (turn_of table k)) (file_at k).bytes ≡ file_record (file_at k))
