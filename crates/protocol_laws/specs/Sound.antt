-- That states are sound: at the start, and after each call of any core at a ticket of 32 bits. This project's own.
use Rattle.std.specs.Prelude.{◌≡◌, ℕ, ◌<◌, ◌^◌, true, List}
use Rattle.mon_types.specs.Shape.{Shape, is_shape}
use Rattle.mon_types.specs.declared.call.Call.{Call}
use Rattle.mon_model.specs.State.{State, start}
use Rattle.mon_model.specs.Step.{reply_of, after}
use Rattle.mon_records.specs.Ranges.{IsCall}
use Rattle.loaded_pages.specs.Content.{Content, zero_content, content_after}
use Rattle.protocol_laws.specs.Known.{IsSound}

-- the start, with zeros as content
abbrev pub StartIsSound : Type 0
StartIsSound =
    (shape : Shape) (core : ℕ) → is_shape shape ≡ true → core < shape.cores
    → IsSound core (start shape) zero_content

-- after a call of another core or its own, whatever words of a page it has read
abbrev pub StaysSound : Type 0
StaysSound =
    (core other : ℕ) (s : State) (content : Content) (call : Call) (words digest : List ℕ) (ticket : ℕ)
    → IsSound core s content → IsSound other s content → IsCall call → ticket < 2 ^ 32
    → IsSound core (after s other call digest ticket) (content_after s (reply_of s other call) call words content)
