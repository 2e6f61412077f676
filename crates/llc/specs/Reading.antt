-- Reading a trace line by line from the start, with the first fault that is met. All of it is this project's own.
use Rattle.std.specs.Prelude.{ℕ, ◌+◌, ◌-◌, ◌^◌, ◌&&◌, nat_le, nat_lt, if◌then◌else◌, List, [], ◌∷◌, ◌++◌, length, codes, Option, Some, None, Result, Ok, Err}
use Rattle.std.specs.Option.{option_and_then, option_map, option_to_list, ok_or}
use Rattle.std.specs.Str.{bytes_eq}
use Rattle.mon_types.specs.Shape.{Shape, shape_of, is_shape}
use Rattle.dram_map.specs.Addresses.{is_in_dram}
use Rattle.text_in.specs.Cuts.{before_comment}
use Rattle.text_in.specs.Lines.{lines_of}
use Rattle.text_in.specs.Words.{words_of}
use Rattle.text_in.specs.Numbers.{unsigned_of, up_to}
use Rattle.reader_answers.specs.Steps.{◌>>=◌}
use Rattle.llc.specs.declared.fault.TraceFault.{TraceFault}
use Rattle.llc.specs.declared.fault.TraceFault.TheVariants as faults
use Rattle.llc.specs.declared.line.Head.{Head}
use Rattle.llc.specs.declared.trace.Trace.{Trace}
use Rattle.llc.specs.Grammar.{limit}

-- ---- lines

-- the words of a line
abbrev pub words_in : List ℕ → List (List ℕ)
words_in text = words_of (before_comment text)

-- the first of these words as a number of 8 bits, and the words behind it
abbrev pub first_number : List (List ℕ) → Option (ℕ × List (List ℕ))
first_number [] = None
first_number (word ∷ words) = option_map (λ n. (n, words)) (up_to 255 (unsigned_of word))

-- the head with these numbers, where each is within its limits
abbrev pub head_with : ℕ → ℕ → ℕ → ℕ → Option Head
head_with regions pages shift ways =
    if is_shape (shape_of 1 regions pages shift) && nat_le 1 ways && nat_le ways 16
    then Some (record { config = shape_of 1 regions pages shift; ways = ways })
    else None

-- the value, where no words are left
abbrev pub at_end : {A : Type 0} → Option A → List (List ℕ) → Option A
at_end value [] = value
at_end value (word ∷ words) = None

-- the head with these numbers, where the last of them, the ways, has no word behind it
abbrev pub with_ways : ℕ → ℕ → ℕ → ℕ × List (List ℕ) → Option Head
with_ways regions pages shift found = at_end (head_with regions pages shift found.0) found.1

-- the head with these numbers, the last of which is the shift, and the next one
abbrev pub with_shift : ℕ → ℕ → ℕ × List (List ℕ) → Option Head
with_shift regions pages found = option_and_then (with_ways regions pages found.0) (first_number found.1)

-- the head with these numbers, the last of which is the pages, and the next two
abbrev pub with_pages : ℕ → ℕ × List (List ℕ) → Option Head
with_pages regions found = option_and_then (with_shift regions found.0) (first_number found.1)

-- the head with this number, the regions, and the next three
abbrev pub with_regions : ℕ × List (List ℕ) → Option Head
with_regions found = option_and_then (with_pages found.0) (first_number found.1)

-- the head with the four numbers that these words are
unfoldable pub head_numbers : List (List ℕ) → Option Head
head_numbers words = option_and_then with_regions (first_number words)

-- the head that these words are
abbrev pub head_of : List (List ℕ) → Option Head
head_of [] = None
head_of (word ∷ words) = if bytes_eq word (codes "cache") then head_numbers words else None

-- the head that the words of line n are, if there are words
abbrev pub first_of : ℕ → List (List ℕ) → Result (Option Head) TraceFault
first_of n [] = Ok None
first_of n (word ∷ words) = ok_or (option_map Some (head_of (word ∷ words))) (faults.BadLine n)

-- the number, where it is an address in DRAM
abbrev pub in_dram : Shape → Option ℕ → Option ℕ
in_dram shape number = option_and_then (λ address. if is_in_dram shape address then Some address else None) number

-- the access that these words are, the first of which is this one; None where they are none
abbrev pub access_with : Shape → List ℕ → List (List ℕ) → Option ℕ
access_with shape word words = at_end (in_dram shape (up_to (2 ^ 64 - 1) (unsigned_of word))) words

-- the access that the words of line n are, if there are words
abbrev pub access_of : Shape → ℕ → List (List ℕ) → Result (Option ℕ) TraceFault
access_of shape n [] = Ok None
access_of shape n (word ∷ words) = ok_or (option_map Some (access_with shape word words)) (faults.BadLine n)

-- ---- the whole file

-- the accesses of these lines, the first of which has this number
unfoldable pub accesses_from : Shape → ℕ → List (List ℕ) → Result (List ℕ) TraceFault
accesses_from shape n [] = Ok []
accesses_from shape n (text ∷ texts) = do
  access ← access_of shape n (words_in text)
  others ← accesses_from shape (n + 1) texts
  Ok (option_to_list access ++ others)

-- the trace with this head, and the accesses of the lines behind it, the first of which has this number
abbrev pub trace_behind : Head → ℕ → List (List ℕ) → Result Trace TraceFault
trace_behind head n texts =
    accesses_from head.config n texts
    >>= λ addresses. Ok (record { config = head.config; ways = head.ways; addresses = addresses })

-- the same, where the line before these was the head, or was empty and this is read from there on
abbrev pub trace_at : Option Head → ℕ → List (List ℕ) → Result Trace TraceFault → Result Trace TraceFault
trace_at None n texts later = later
trace_at (Some head) n texts later = trace_behind head n texts

-- the trace that these lines are, the first of which has this number
unfoldable pub trace_from : ℕ → List (List ℕ) → Result Trace TraceFault
trace_from n [] = Err (faults.BadLine n)
trace_from n (text ∷ texts) = do
  head ← first_of n (words_in text)
  trace_at head (n + 1) texts (trace_from (n + 1) texts)

-- the trace that the bytes are
unfoldable pub trace_of : List ℕ → Result Trace TraceFault
trace_of bytes = if nat_lt limit (length bytes) then Err faults.TooLong else trace_from 1 (lines_of bytes)
