-- What a walk of the content finds on an address's path; the levels of tables are those of Sv39 of the RISC-V
-- Privileged ISA. This project's own.
use Rattle.std.specs.Prelude.{ℕ, List, map, Option}
use Rattle.mon_types.specs.Shape.{Shape}
use Rattle.mon_types.specs.declared.call.Call.{Call}
use Rattle.mon_model.specs.State.{State, enclave_at}
use Rattle.sv39_pte.specs.Tables.{path_below}
use Rattle.mon_enclaves.specs.LoadReply.{slot_of, call_path}
use Rattle.loaded_pages.specs.Content.{Content}

-- the words of so many ptes at most, from a root down
abbrev pub words_below : Shape → Content → ℕ → ℕ → Option ℕ → List ℕ
words_below shape content va count root = map content (path_below shape content va count root)

-- the places on the path of a call that loads
abbrev pub call_places : State → Content → Call → List ℕ
call_places s content call = call_path s.shape content (enclave_at s (slot_of call)) call

-- the words on it
abbrev pub call_words : State → Content → Call → List ℕ
call_words s content call = map content (call_places s content call)
