-- Machines from which the runs begin, all of the plain shape: 8 regions of one page each, so page p is region p, and
-- its words stand from place 512 * p on. This project's own.
use Rattle.std.specs.Prelude.{ℕ, ◌+◌, ◌*◌, ◌^◌, Bool, List, [], ◌∷◌, replicate, slice_index, slice_set, Some}
use Rattle.mon_types.specs.Shape.{plain}
use Rattle.mon_types.specs.Enclaves.{empty_enclave}
use Rattle.mon_types.specs.Threads.{empty_thread}
use Rattle.mon_types.specs.declared.region.Owner.TheVariants as owners
use Rattle.mon_types.specs.declared.region.Region.{Region}
use Rattle.mon_types.specs.declared.region.Region.TheVariants as regions
use Rattle.mon_types.specs.declared.enclave.Enclave.{Enclave}
use Rattle.mon_types.specs.declared.enclave.Stage.TheVariants as stages
use Rattle.mon_types.specs.declared.thread.Mode.TheVariants as modes
use Rattle.mon_types.specs.declared.thread.Thread.{Thread}
use Rattle.mon_types.specs.declared.thread.ThreadState.{ThreadState}
use Rattle.mon_types.specs.declared.thread.ThreadState.TheVariants as states
use Rattle.mon_types.specs.declared.script.Line.{Line}
use Rattle.mon_model.specs.State.{State, start}
use Rattle.dram_map.specs.Addresses.{frame_of}
use Rattle.dram_map.specs.Words.{zero_words}
use Rattle.sv39_pte.specs.Tables.{pointer_pte, leaf_pte}
use Rattle.core_context.specs.Changes.{begun_contexts}
use Rattle.solo.specs.Core.{Core, guest_start, set_register}
use Rattle.solo.specs.Solo.{core_from}

-- ---- words

-- a word to be stored at a place
pub record Stored : Type 0 where
  pub place : ℕ
  pub word : ℕ

-- this word at this place
abbrev pub at : ℕ → ℕ → Stored
at place word = record { place = place; word = word }

-- the words after these were stored
abbrev pub with_words : List ℕ → List Stored → List ℕ
with_words words [] = words
with_words words (s ∷ rest) = with_words (slice_set words s.place s.word) rest

-- DRAM of zeros but for these words
abbrev pub memory : List Stored → List ℕ
memory stored = with_words (zero_words (plain 1)) stored

-- the word that holds two instructions, one behind the other
abbrev pub two : ℕ → ℕ → ℕ
two first second = first + second * 2 ^ 32

-- ---- instructions

-- addi x5, x5, 1
abbrev pub count : ℕ
count = 0x00128293

-- jal x0, -4
abbrev pub back : ℕ
back = 0xFFDFF06F

-- ecall
abbrev pub ecall : ℕ
ecall = 0x00000073

-- ebreak
abbrev pub ebreak : ℕ
ebreak = 0x00100073

-- sfence.vma
abbrev pub sfence : ℕ
sfence = 0x12000073

-- ld x5, 0(x6)
abbrev pub load : ℕ
load = 0x00033283

-- sd x7, 0(x6)
abbrev pub store : ℕ
store = 0x00733023

-- amoadd.w x5, x7, (x6)
abbrev pub add_word : ℕ
add_word = 0x007322AF

-- ---- what is looked at

-- the pc
abbrev pub pc_of : Core → ℕ
pc_of c = c.contexts.current.pc

-- a register
abbrev pub reg_of : Core → ℕ → ℕ
reg_of c x = slice_index c.contexts.current.regs x

-- four registers from this one on
abbrev pub regs_from : Core → ℕ → List ℕ
regs_from c x = reg_of c x ∷ reg_of c (x + 1) ∷ reg_of c (x + 2) ∷ reg_of c (x + 3) ∷ []

-- ---- the OS

-- the core at its start, with these words in DRAM
abbrev pub os_core : List Stored → Core
os_core stored = record {
  state = start (plain 1);
  made = 0;
  contexts = begun_contexts 0 (record { pc = 0x8000_0000; sp = 0 });
  guest = guest_start;
  words = memory stored;
  answers = [];
  log = [];
}

-- the same with these addresses or values in x6 and x7
abbrev pub with_x6_x7 : Core → ℕ → ℕ → Core
with_x6_x7 c x6 x7 = set_register (set_register c 6 x6) 7 x7

-- the same with another satp
abbrev pub with_satp : Core → ℕ → Core
with_satp c satp = record c { guest = record c.guest { satp = satp } }

-- the OS's code: it counts in x5, over and over
abbrev pub counting : Core
counting = os_core (at 0 (two count back) ∷ [])

-- ---- page tables of the OS: on page 7, then 6, then 1

-- the satp of Sv39 whose root is page 7
abbrev pub tables_satp : ℕ
tables_satp = 8 * 2 ^ 60 + frame_of 7

-- the pte of a leaf on a page with these bits: 0xCF has D, A, X, W, R and V, and no U
abbrev pub os_leaf : ℕ → ℕ → ℕ
os_leaf page bits = frame_of page * 2 ^ 10 + bits

-- the tables of addresses from 0x8000_0000 on, with this pte for the first page
abbrev pub tables : ℕ → List Stored
tables pte = at 3586 (pointer_pte 6) ∷ at 3072 (pointer_pte 1) ∷ at 512 pte ∷ []

-- ---- an enclave in slot 0

-- its range is 0x10000 to 0x14000, and its regions are 2 to 5
abbrev pub enclave_0 : Enclave
enclave_0 = record empty_enclave {
  stage = stages.Initialized;
  base = 0x10000;
  size = 0x4000;
  regions = 0x3C;
  root = Some 2;
  next_page = 6;
  threads = 1;
}

-- its regions are its own since tickets 11 to 14, and the others are the OS's
abbrev pub shared_regions : List Region
shared_regions =
    regions.Owned owners.Os 0
    ∷ regions.Owned owners.Os 0
    ∷ regions.Owned (owners.Enclave 0) 11
    ∷ regions.Owned (owners.Enclave 0) 12
    ∷ regions.Owned (owners.Enclave 0) 13
    ∷ regions.Owned (owners.Enclave 0) 14
    ∷ regions.Owned owners.Os 0
    ∷ regions.Owned owners.Os 0
    ∷ []

-- its thread, at 0x10000, with nothing saved
abbrev pub thread_0 : ThreadState → Thread
thread_0 state = record empty_thread { state = state; entry = 0x10000; sp = 0x12000 }

-- the monitor's state, where its thread is Ready and the core runs for the OS
abbrev pub ready_state : State
ready_state = record (start (plain 1)) {
  regions = shared_regions;
  enclaves = slice_set (start (plain 1)).enclaves 0 enclave_0;
  threads = slice_set (start (plain 1)).threads 0 (thread_0 (states.Ready 0));
}

-- the same, where the core is inside with it
abbrev pub inside_state : State
inside_state = record ready_state {
  threads = slice_set (start (plain 1)).threads 0 (thread_0 (states.Running 0));
  modes = modes.Inside 0 0 ∷ [];
}

-- Its page tables, on pages 2, 3 and 4: 0x10000 leads to page 5 for every access, and 0x11000 to page 1, which is the
-- OS's.
abbrev pub own_tables : List Stored
own_tables =
    at 1024 (pointer_pte 3) ∷ at 1536 (pointer_pte 4) ∷ at 2064 (leaf_pte 5 7) ∷ at 2065 (leaf_pte 1 7) ∷ []

-- at 0x10000, first two instructions of the enclave; the OS counts
abbrev pub enclave_code : ℕ → List Stored
enclave_code word = at 0 (two count back) ∷ at 2560 word ∷ own_tables

-- the core runs for the OS and the enclave's thread is Ready, where the enclave's first two instructions are these
abbrev pub ready_core : ℕ → Core
ready_core word = record (os_core (enclave_code word)) { state = ready_state }

-- The core is inside the enclave, at its first instruction, with 7 in x7, and the OS will go on with its counting.
-- A line of the script entered it, or not.
abbrev pub inside_core : Bool → ℕ → Core
inside_core by_line word = record (ready_core word) {
  state = inside_state;
  contexts = record {
    current = record { pc = 0x10000; regs = slice_set (replicate 32 0) 7 7 };
    os = record { pc = 0x8000_0000; regs = replicate 32 0 };
  };
  guest = record guest_start { by_line = by_line };
}

-- ---- runs

-- the core after these lines, from line 1 on
abbrev pub after_lines : Core → List Line → Core
after_lines c script = core_from c 1 script
