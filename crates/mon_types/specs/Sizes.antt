-- How much there is of each thing, and where the addresses of enclaves end. This project's own; the size of a page is
-- that of Sv39 in the RISC-V Privileged ISA.
use Rattle.std.specs.Prelude.{ℕ, ◌^◌}

-- the bytes of a page
abbrev pub page_bytes : ℕ
page_bytes = 4096

-- its words of 64 bits
abbrev pub page_words : ℕ
page_words = 512

-- the enclave slots
abbrev pub slot_count : ℕ
slot_count = 8

-- the thread slots
abbrev pub thread_count : ℕ
thread_count = 16

-- the first address past those that an enclave may have
abbrev pub address_end : ℕ
address_end = 2 ^ 38
