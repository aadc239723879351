-- What the functions below `read_object` are told of the record's struct. Assumes nothing.
use Rattle.std.specs.Prelude.{◌≡◌, ◌*◌, ◌^◌, ◌<◌}
use Rattle.object.specs.declared.dynamic_fields.ObjectData.{ObjectData}
use Rattle.object.specs.declared.table_bytes.Bounds.{Bounds}

-- the bounds are its own
pub record BoundsOf (o : ObjectData) (b : Bounds) : Type 0 where
  pub span : b.span ≡ o.span
  pub segments : b.segments.now ≡ o.segments.items

-- the counted bytes fit a usize
pub record RelocationCounts (o : ObjectData) : Type 0 where
  pub relas : 24 * o.relas < 2 ^ 64
  pub plts : 24 * o.plts < 2 ^ 64
  pub relrs : 8 * o.relrs < 2 ^ 64
