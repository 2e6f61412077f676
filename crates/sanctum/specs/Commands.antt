-- What can be asked of the program. This project's own.
use Rattle.std.specs.Prelude.{ℕ, List, [], ◌∷◌, ◌++◌}
use Rattle.mon_types.specs.Shape.{Shape}

-- where an image comes from: it is that of the plain machine, or the file of this name has it
pub data Origin : Type 0 where
  Plain : Origin
  File : List ℕ → Origin

-- to run the script of this name on the machine of an image and print the report, by the program's cores or by the
-- machine of one core; to write an image in version 2; to assemble the text of this name and write the image of a
-- machine of this size; to print what is counted of the trace of this name
pub data Command : Type 0 where
  Run : Origin → List ℕ → Command
  Solo : Origin → List ℕ → Command
  Convert : Origin → Command
  Pack : List ℕ → Shape → Command
  Llc : List ℕ → Command

-- the file that has an image, if one has
abbrev pub named_by : Origin → List (List ℕ)
named_by Plain = []
named_by (File name) = name ∷ []

-- the files that a command names, in the order in which they are read
abbrev pub files_of : Command → List (List ℕ)
files_of (Run origin script) = named_by origin ++ script ∷ []
files_of (Solo origin script) = named_by origin ++ script ∷ []
files_of (Convert origin) = named_by origin
files_of (Pack text shape) = text ∷ []
files_of (Llc trace) = trace ∷ []

-- a file has the image, and this holds of its name
abbrev pub IsNamed : (List ℕ → Type 0) → Origin → Type 0
IsNamed P Plain = ⊥
IsNamed P (File name) = P name
