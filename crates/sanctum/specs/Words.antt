-- The words of the command line, and the table of commands. This project's own.
use Rattle.std.specs.Prelude.{ℕ, List, [], ◌∷◌, Option, Some, None, if◌then◌else◌, codes, String, string_bytes}
use Rattle.std.specs.Option.{option_and_then, option_map}
use Rattle.std.specs.Str.{bytes_eq}
use Rattle.std.specs.Global.{Global}
use Rattle.mon_types.specs.Shape.{Shape, shape_of, is_shape}
use Rattle.text_in.specs.Numbers.{canonical_of, up_to}
use Rattle.sanctum.specs.Commands.{Origin, Plain, File, Command, Run, Solo, Convert, Pack, Llc}
use Rattle.sanctum.specs.declared.orders.Source.{Source}
use Rattle.sanctum.specs.declared.orders.Source.TheVariants as sources
use Rattle.sanctum.specs.declared.orders.Order.{Order}
use Rattle.sanctum.specs.declared.orders.Order.TheVariants as orders

-- ---- fixed words

-- the word of the command that runs a script on the plain machine
unfoldable pub script_word : List ℕ
script_word = codes "script"

-- the word of the command that runs a script on the machine of an image
unfoldable pub run_word : List ℕ
run_word = codes "run"

-- the word of the command that runs a script on the machine of one core
unfoldable pub solo_word : List ℕ
solo_word = codes "solo"

-- the word of the command that writes an image in version 2
unfoldable pub convert_word : List ℕ
convert_word = codes "convert"

-- the word of the command that makes an image
unfoldable pub pack_word : List ℕ
pack_word = codes "pack"

-- the word of the command that counts hits
unfoldable pub llc_word : List ℕ
llc_word = codes "llc"

-- the word that stands for the plain machine in the place of an image
unfoldable pub plain_word : List ℕ
plain_word = codes "-"

-- ---- the table of commands

-- the image that a word names
abbrev pub origin_of : List ℕ → Origin
origin_of word = if bytes_eq word plain_word then Plain else File word

-- the number below 256 that a word is: decimal digits without a sign or a leading zero
abbrev pub number_of : List ℕ → Option ℕ
number_of word = up_to 255 (canonical_of word)

-- the size of a machine, where it is within the limits; none is 256 or more
abbrev pub size_of : ℕ → ℕ → ℕ → ℕ → Option Shape
size_of cores regions pages shift =
    if is_shape (shape_of cores regions pages shift) then Some (shape_of cores regions pages shift) else None

-- the size of a machine that four words say
abbrev pub size_of_words : List ℕ → List ℕ → List ℕ → List ℕ → Option Shape
size_of_words cores regions pages shift =
    option_and_then
    (λ c. option_and_then
    (λ r. option_and_then (λ p. option_and_then (λ s. size_of c r p s) (number_of shift)) (number_of pages))
    (number_of regions))
    (number_of cores)

-- `script SCRIPT`, which is `run - SCRIPT`; `convert IMAGE` and `llc TRACE`
abbrev pub command_of_two : List ℕ → List ℕ → Option Command
command_of_two command word =
    if bytes_eq command script_word then Some (Run Plain word)
    else if bytes_eq command convert_word then Some (Convert (origin_of word))
    else if bytes_eq command llc_word then Some (Llc word)
    else None

-- `run IMAGE SCRIPT` and `solo IMAGE SCRIPT`
abbrev pub command_of_three : List ℕ → List ℕ → List ℕ → Option Command
command_of_three command image script =
    if bytes_eq command run_word then Some (Run (origin_of image) script)
    else if bytes_eq command solo_word then Some (Solo (origin_of image) script)
    else None

-- `pack ASM CORES REGIONS PAGES SHIFT`
abbrev pub command_of_pack : List ℕ → List ℕ → Option Shape → Option Command
command_of_pack command word shape =
    if bytes_eq command pack_word then option_map (λ size. Pack word size) shape else None

-- what the words ask for; None where they are no line of the table of commands
abbrev pub command_of : List (String Global) → Option Command
command_of [] = None
command_of (command ∷ []) = None
command_of (command ∷ first ∷ []) = command_of_two (string_bytes command) (string_bytes first)
command_of (command ∷ first ∷ second ∷ []) =
    command_of_three (string_bytes command) (string_bytes first) (string_bytes second)
command_of (command ∷ first ∷ second ∷ third ∷ []) = None
command_of (command ∷ first ∷ second ∷ third ∷ fourth ∷ []) = None
command_of (command ∷ first ∷ cores ∷ regions ∷ pages ∷ shift ∷ []) =
    command_of_pack (string_bytes command) (string_bytes first)
    (size_of_words (string_bytes cores) (string_bytes regions) (string_bytes pages) (string_bytes shift))
command_of (command ∷ first ∷ second ∷ third ∷ fourth ∷ fifth ∷ other ∷ more) = None

-- ---- as the program holds it

-- the same source, with the bytes of its name
abbrev pub source_said : Source → Origin
source_said sources.Plain = Plain
source_said (sources.File name) = File name.now

-- the same order, with the bytes of its names
abbrev pub order_said : Order → Command
order_said (orders.Run source name) = Run (source_said source) name.now
order_said (orders.Solo source name) = Solo (source_said source) name.now
order_said (orders.Convert source) = Convert (source_said source)
order_said (orders.Pack name config) = Pack name.now config
order_said (orders.Llc name) = Llc name.now
