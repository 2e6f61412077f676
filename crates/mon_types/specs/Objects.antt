-- The numbers of the objects that have locks, this project's own.
use Rattle.std.specs.Prelude.{ℕ, ◌+◌}
use Rattle.mon_types.specs.declared.object.ObjectId.{ObjectId}
use Rattle.mon_types.specs.declared.object.ObjectId.TheVariants as objects

-- enclave slots from 0, thread slots from 16, regions from 64, cells from 128
abbrev pub object_number : ObjectId → ℕ
object_number (objects.Enclave e) = e
object_number (objects.Thread t) = 16 + t
object_number (objects.Region r) = 64 + r
object_number (objects.Cell c) = 128 + c

-- how many words an object's row has
unfoldable pub width : ObjectId → ℕ
width (objects.Enclave e) = 29
width (objects.Thread t) = 37
width (objects.Region r) = 2
width (objects.Cell c) = 1
