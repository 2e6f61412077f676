-- Files in memory, as pairs of a name and its bytes. All of it is this project's own.
use Rattle.std.specs.Prelude.{ℕ, List, [], ◌∷◌, length, drop, min, Option, Some, None, if◌then◌else◌, unwrap_or, string_bytes, String}
use Rattle.std.specs.Str.{bytes_eq}
use Rattle.std.specs.Global.{Vec, Global}

-- the bytes of the first file of a name
abbrev pub file_of : List (String Global × Vec ℕ) → List ℕ → Option (List ℕ)
file_of [] name = None
file_of (file ∷ more) name = if bytes_eq (string_bytes file.0) name then Some file.1.items else file_of more name

-- the same, where a name that no file has is an empty file
abbrev pub still_file_of : List (String Global × Vec ℕ) → List ℕ → Option (List ℕ)
still_file_of files name = Some (unwrap_or (file_of files name) [])

-- how many bytes a read gets: as many as the file has from the place on, and as there is room for
abbrev pub piece_size : List ℕ → ℕ → ℕ → ℕ
piece_size bytes at room = min (length (drop at bytes)) room
