-- The grammar of traces, apart from the way in which they are read. All of it is this project's own.
use Rattle.std.specs.Prelude.{◌≡◌, ℕ, ◌≤◌, ◌⊎◌, true, List, [], ◌∷◌, ◌++◌, length, codes, Option, Some, None, ⊤}
use Rattle.std.specs.Option.{option_to_list}
use Rattle.mon_types.specs.Shape.{Shape, is_shape}
use Rattle.dram_map.specs.Addresses.{is_in_dram}
use Rattle.text_in.specs.Bytes.{is_no_sign, Are}
use Rattle.text_in.specs.Lines.{AreTextLines, IsComment}
use Rattle.text_in.specs.Words.{AreWords}
use Rattle.text_in.specs.Numbers.{IsUnsigned}
use Rattle.llc.specs.declared.trace.Trace.{Trace}

-- ---- lines

-- a line has these words, and then a comment if any
pub record HasWords (text : List ℕ) (words : List (List ℕ)) : Type 0 where
  pub front : List ℕ
  pub comment : List ℕ
  pub text_is : text ≡ front ++ comment
  pub plain : Are is_no_sign front
  pub is_comment : IsComment comment
  pub are_words : AreWords front words

-- the words are these numbers
abbrev pub AreNumbers : List (List ℕ) → List ℕ → Type 0
AreNumbers [] [] = ⊤
AreNumbers [] (n ∷ ns) = ⊥
AreNumbers (word ∷ words) [] = ⊥
AreNumbers (word ∷ words) (n ∷ ns) = IsUnsigned word n × AreNumbers words ns

-- the words are `cache` and the numbers of regions, of pages in a region, of the shift and of the ways, each within its
-- limits; the machine has one core
pub record IsHead (words : List (List ℕ)) (shape : Shape) (ways : ℕ) : Type 0 where
  pub numbers : List (List ℕ)
  pub words_are : words ≡ codes "cache" ∷ numbers
  pub are_numbers : AreNumbers numbers (shape.regions ∷ shape.pages ∷ shape.shift ∷ ways ∷ [])
  pub one_core : shape.cores ≡ 1
  pub within : is_shape shape ≡ true
  pub some : 1 ≤ ways
  pub few : ways ≤ 16

-- the words are one number, and that is an address in DRAM
pub record IsAddress (shape : Shape) (words : List (List ℕ)) (address : ℕ) : Type 0 where
  pub word : List ℕ
  pub words_are : words ≡ word ∷ []
  pub is_number : IsUnsigned word address
  pub in_dram : is_in_dram shape address ≡ true

-- the words of a line behind the first are an access, or there are none
abbrev pub IsAccess : Shape → List (List ℕ) → Option ℕ → Type 0
IsAccess shape words None = words ≡ []
IsAccess shape words (Some address) = IsAddress shape words address

-- ---- the whole file

-- the lines behind the first have these accesses, empty ones none
abbrev pub AreAccesses : Shape → List (List ℕ) → List ℕ → Type 0
AreAccesses shape [] addresses = addresses ≡ []
AreAccesses shape (text ∷ texts) addresses =
    (words : List (List ℕ)) × (access : Option ℕ) × (others : List ℕ)
    × HasWords text words × IsAccess shape words access
    × (addresses ≡ option_to_list access ++ others) × AreAccesses shape texts others

-- the lines are empty ones, then the head, and then accesses
abbrev pub AreTraceLines : List (List ℕ) → Trace → Type 0
AreTraceLines [] trace = ⊥
AreTraceLines (text ∷ texts) trace =
    (HasWords text [] × AreTraceLines texts trace)
    ⊎ ((words : List (List ℕ)) × HasWords text words × IsHead words trace.config trace.ways
    × AreAccesses trace.config texts trace.addresses)

-- the most bytes of a trace
abbrev pub limit : ℕ
limit = 16777216

-- the bytes are this trace
pub record IsTrace (bytes : List ℕ) (trace : Trace) : Type 0 where
  pub within : length bytes ≤ limit
  pub texts : List (List ℕ)
  pub are_texts : AreTextLines bytes texts
  pub are_lines : AreTraceLines texts trace
