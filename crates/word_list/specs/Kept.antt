-- What always holds of the list of words and of its room. This project's own.
use Rattle.std.specs.Prelude.{◌≡◌, ℕ, ◌≤◌, List, [], length, slice_index, vec_capacity}
use Rattle.mon_types.specs.Shape.{Shape}
use Rattle.mon_types.specs.declared.object.ObjectId.{ObjectId}
use Rattle.dram_map.specs.Addresses.{word_total}
use Rattle.lock_plan.specs.Objects.{HasObject}
use Rattle.protocol.specs.Places.{Lock}
use Rattle.protocol.specs.Layout.{dram_from, place_index}
use Rattle.word_list.specs.declared.pieces.Pieces.{Pieces}
use Rattle.word_list.specs.declared.room.Room.{Room}
use Rattle.word_list.specs.Finds.{IsLockWord}
use Rattle.word_list.specs.Pieces.{joined}

-- every lock is free, or held by a call of a core below 16 with a serial of 32 bits
abbrev pub LocksAreWords : Shape → List ℕ → Type 0
LocksAreWords shape words =
    (o : ObjectId) → HasObject shape o → IsLockWord (slice_index words (place_index shape (Lock o)))

-- the lists are empty, and have room for each region, enclave slot, thread slot and cell
pub record HasRoom (shape : Shape) (room : Room) : Type 0 where
  pub no_regions : room.regions.items ≡ []
  pub regions : shape.regions ≤ vec_capacity room.regions
  pub no_enclaves : room.enclaves.items ≡ []
  pub enclaves : 8 ≤ vec_capacity room.enclaves
  pub no_threads : room.threads.items ≡ []
  pub threads : 16 ≤ vec_capacity room.threads
  pub none_flushed : room.flushed.items ≡ []
  pub flushed : shape.cores ≤ vec_capacity room.flushed

-- the pieces are as long as the machine's shape says, locks are lock words, and the room is there
pub record IsKept (shape : Shape) (words : Pieces) (room : Room) : Type 0 where
  pub table : length words.table.items ≡ dram_from shape
  pub dram : length words.dram.items ≡ word_total shape
  pub locks : LocksAreWords shape (joined words)
  pub spare : HasRoom shape room
