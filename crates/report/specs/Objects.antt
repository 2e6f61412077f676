-- Objects and measurements in the text of a report. All of it is this project's own format.
use Rattle.std.specs.Prelude.{ℕ, ◌+◌, List, [], ◌∷◌, ◌++◌, codes}
use Rattle.std.specs.List.{flat_map}
use Rattle.std.specs.Fmt.{decimal}
use Rattle.mon_types.specs.declared.region.Owner.{Owner}
use Rattle.mon_types.specs.declared.region.Owner.TheVariants as owners
use Rattle.mon_types.specs.declared.object.ObjectId.{ObjectId}
use Rattle.mon_types.specs.declared.object.ObjectId.TheVariants as objects
use Rattle.mon_types.specs.declared.object.Tried.{Tried}
use Rattle.mon_types.specs.Bits.{members}
use Rattle.mon_model.specs.Measure.{to_bytes}
use Rattle.text_out.specs.Texts.{hex_text}

-- an object: its kind's letter and its number, as e3, t12, r5, c0
unfoldable pub object_text : ObjectId → List ℕ
object_text (objects.Enclave e) = codes "e" ++ decimal e
object_text (objects.Thread t) = codes "t" ++ decimal t
object_text (objects.Region r) = codes "r" ++ decimal r
object_text (objects.Cell c) = codes "c" ++ decimal c

-- an owner: os, or its enclave, as e3
unfoldable pub owner_text : Owner → List ℕ
owner_text owners.Os = codes "os"
owner_text (owners.Enclave e) = codes "e" ++ decimal e

-- a number behind the letter of its kind
abbrev pub lettered : List ℕ → ℕ → List ℕ
lettered letter i = letter ++ decimal i

-- the objects of a kind whose numbers below `count` are in a set, ascending
abbrev pub members_text : List ℕ → ℕ → ℕ → List ℕ
members_text letter set count = flat_map (lettered letter) (members set count)

-- the letter of an enclave slot, after a space
unfoldable pub enclave_letter : List ℕ
enclave_letter = codes " e"

-- that of a thread slot
unfoldable pub thread_letter : List ℕ
thread_letter = codes " t"

-- that of a region
unfoldable pub region_letter : List ℕ
region_letter = codes " r"

-- that of a core's flush clock
unfoldable pub cell_letter : List ℕ
cell_letter = codes " c"

-- the tried objects, ascending: enclaves, threads, regions, cells
abbrev pub tried_text : Tried → List ℕ
tried_text t =
    members_text enclave_letter t.enclaves 8 ++ members_text thread_letter t.threads 16
    ++ members_text region_letter t.regions 64 ++ members_text cell_letter t.cells 16

-- the four words of a measurement, as the digest of 32 bytes that they are: 64 hexadecimal digits
abbrev pub measure_text : List ℕ → List ℕ
measure_text words = hex_text (to_bytes words)

-- the texts of a list's items, of which each is given its number in the list, counted from i
abbrev pub numbered : {X : Type 0} → (ℕ → X → List ℕ) → ℕ → List X → List ℕ
numbered text i [] = []
numbered text i (x ∷ xs) = text i x ++ numbered text (i + 1) xs
