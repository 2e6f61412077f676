-- The rows of words of a state's objects, and those that a call has read. This project's own.
use Rattle.std.specs.Prelude.{ℕ, Bool, false, ◌==◌, if◌then◌else◌, List, [], ◌∷◌}
use Rattle.mon_types.specs.Owns.{region_row}
use Rattle.mon_types.specs.Enclaves.{enclave_row}
use Rattle.mon_types.specs.Threads.{thread_row}
use Rattle.mon_types.specs.Cells.{cell_row}
use Rattle.mon_types.specs.declared.object.ObjectId.{ObjectId}
use Rattle.mon_types.specs.declared.object.ObjectId.TheVariants as objects
use Rattle.mon_model.specs.State.{State, region_at, enclave_at, thread_at, flushed_at}

-- the words of the row of an object in a state
unfoldable pub row_words : State → ObjectId → List ℕ
row_words s (objects.Enclave e) = enclave_row (enclave_at s e)
row_words s (objects.Thread t) = thread_row (thread_at s t)
row_words s (objects.Region r) = region_row (region_at s r)
row_words s (objects.Cell c) = cell_row (flushed_at s c)

-- what a call has found: the objects that it has taken, the last one first, each with the words of its row
abbrev pub Found : Type 0
Found = List (ObjectId × List ℕ)

-- the objects alone
unfoldable pub objects_of : Found → List ObjectId
objects_of [] = []
objects_of (p ∷ found) = p.0 ∷ objects_of found

-- whether two objects are one
unfoldable pub same_object : ObjectId → ObjectId → Bool
same_object (objects.Enclave a) (objects.Enclave b) = a == b
same_object (objects.Thread a) (objects.Thread b) = a == b
same_object (objects.Region a) (objects.Region b) = a == b
same_object (objects.Cell a) (objects.Cell b) = a == b
same_object _ _ = false

-- the words that were found for an object, none where it was not taken
unfoldable pub words_of : Found → ObjectId → List ℕ
words_of [] o = []
words_of (p ∷ found) o = if same_object p.0 o then p.1 else words_of found o
