-- The objects of a machine and the order in which they are tried. This project's own.
use Rattle.std.specs.Prelude.{ℕ, ◌^◌, ◌<◌, List, All}
use Rattle.std.specs.List.{AllPairs}
use Rattle.mon_types.specs.Shape.{Shape}
use Rattle.mon_types.specs.Objects.{object_number}
use Rattle.mon_types.specs.declared.thread.Mode.{Mode}
use Rattle.mon_types.specs.declared.object.ObjectId.{ObjectId}
use Rattle.mon_types.specs.declared.object.ObjectId.TheVariants as objects
use Rattle.mon_types.specs.declared.object.Tried.{Tried}
use Rattle.mon_types.specs.Modes.{own_slot, own_thread}

-- the machine has the object: it has 8 enclave slots, 16 thread slots, and as many regions and cells as
-- its shape says
abbrev pub HasObject : Shape → ObjectId → Type 0
HasObject shape (objects.Enclave e) = e < 8
HasObject shape (objects.Thread t) = t < 16
HasObject shape (objects.Region r) = r < shape.regions
HasObject shape (objects.Cell c) = c < shape.cores

-- a core of the machine, in a mode that names slots that are there
pub record IsCaller (shape : Shape) (core : ℕ) (mode : Mode) : Type 0 where
  pub there : core < shape.cores
  pub slot : own_slot mode < 8
  pub thread : own_thread mode < 16

-- the one object is tried before the other
abbrev pub IsBefore : ObjectId → ObjectId → Type 0
IsBefore x y = object_number x < object_number y

-- objects of the machine, each before all later ones
pub record AreInOrder (shape : Shape) (tried : List ObjectId) : Type 0 where
  pub there : All (HasObject shape) tried
  pub ascending : AllPairs IsBefore tried

-- the sets have a place for the object: there can be one of this number, and no higher one of its kind is in them
abbrev pub HasPlace : Tried → ObjectId → Type 0
HasPlace t (objects.Enclave e) = (e < 8) × (t.enclaves < 2 ^ e)
HasPlace t (objects.Thread h) = (h < 16) × (t.threads < 2 ^ h)
HasPlace t (objects.Region r) = (r < 64) × (t.regions < 2 ^ r)
HasPlace t (objects.Cell c) = (c < 16) × (t.cells < 2 ^ c)
