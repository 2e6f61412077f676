-- The lines of the monitor's tables in a report, this project's own format.
use Rattle.std.specs.Prelude.{ℕ, ◌+◌, List, [], ◌∷◌, ◌++◌, codes}
use Rattle.std.specs.Fmt.{decimal}
use Rattle.mon_types.specs.declared.region.Region.{Region}
use Rattle.mon_types.specs.declared.region.Region.TheVariants as regions
use Rattle.mon_types.specs.declared.enclave.Stage.{Stage}
use Rattle.mon_types.specs.declared.enclave.Stage.TheVariants as stages
use Rattle.mon_types.specs.declared.enclave.Mailbox.{Mailbox}
use Rattle.mon_types.specs.declared.enclave.Mailbox.TheVariants as mailboxes
use Rattle.mon_types.specs.declared.enclave.Enclave.{Enclave}
use Rattle.mon_types.specs.declared.thread.ThreadState.{ThreadState}
use Rattle.mon_types.specs.declared.thread.ThreadState.TheVariants as states
use Rattle.mon_types.specs.declared.thread.Thread.{Thread}
use Rattle.mon_types.specs.declared.thread.Mode.{Mode}
use Rattle.mon_types.specs.declared.thread.Mode.TheVariants as modes
use Rattle.text_out.specs.Texts.{spaced, all_spaced}
use Rattle.report.specs.Objects.{owner_text, measure_text, numbered}

-- the line of a region: free, owned, blocked or offered
unfoldable pub region_line : ℕ → Region → List ℕ
region_line r regions.Free = codes "region " ++ decimal r ++ codes " free\n"
region_line r (regions.Owned owner since) =
    codes "region " ++ decimal r ++ codes " owned " ++ owner_text owner ++ codes " since " ++ decimal since
    ++ codes "\n"
region_line r (regions.Blocked owner since at) =
    codes "region " ++ decimal r ++ codes " blocked " ++ owner_text owner ++ codes " since " ++ decimal since
    ++ codes " at " ++ decimal at ++ codes "\n"
region_line r (regions.Offered to at) =
    codes "region " ++ decimal r ++ codes " offered e" ++ decimal to ++ codes " at " ++ decimal at ++ codes "\n"

-- which mailbox of which enclave slot
unfoldable pub mailbox_head : ℕ → ℕ → List ℕ
mailbox_head e m = codes "mailbox " ++ decimal e ++ spaced m

-- the line of a mailbox: closed, expecting a sender, or full with the sender's slot, four words and the
-- sender's measurement
unfoldable pub mailbox_line : ℕ → ℕ → Mailbox → List ℕ
mailbox_line e m mailboxes.Closed = mailbox_head e m ++ codes " closed\n"
mailbox_line e m (mailboxes.Expecting from) = mailbox_head e m ++ codes " expecting " ++ decimal from ++ codes "\n"
mailbox_line e m (mailboxes.Full from words measure) =
    mailbox_head e m ++ codes " full " ++ decimal from ++ all_spaced words ++ codes " " ++ measure_text measure
    ++ codes "\n"

-- a stage; an empty slot is not printed
unfoldable pub stage_text : Stage → List ℕ
stage_text stages.Empty = []
stage_text stages.Loading = codes " loading"
stage_text stages.Initialized = codes " initialized"

-- an enclave slot with its stage and the enclave's range
unfoldable pub enclave_head : ℕ → Enclave → List ℕ
enclave_head e enclave =
    codes "enclave " ++ decimal e ++ stage_text enclave.stage ++ codes " base " ++ decimal enclave.base
    ++ codes " size " ++ decimal enclave.size

-- the line of an enclave: its stage and range, how many threads it has, and its measurement
unfoldable pub enclave_line : ℕ → Enclave → List ℕ
enclave_line e enclave =
    enclave_head e enclave ++ codes " threads " ++ decimal enclave.threads ++ codes " measure "
    ++ measure_text enclave.measure ++ codes "\n"

-- the line of an enclave, and those of its mailboxes
abbrev pub held_slot_text : ℕ → Enclave → List ℕ
held_slot_text e enclave = enclave_line e enclave ++ numbered (mailbox_line e) 0 enclave.mail

-- nothing where the slot is at stage Empty, else this text
abbrev pub unless_empty : Stage → List ℕ → List ℕ
unless_empty stages.Empty text = []
unless_empty stages.Loading text = text
unless_empty stages.Initialized text = text

-- the lines of an enclave slot
abbrev pub enclave_text : ℕ → Enclave → List ℕ
enclave_text e enclave = unless_empty enclave.stage (held_slot_text e enclave)

-- the line of a thread slot in this state, with the ticket of its saved exit; none for an empty slot
unfoldable pub state_line : ℕ → ThreadState → ℕ → List ℕ
state_line t states.Empty saved_at = []
state_line t (states.Ready enclave) saved_at =
    codes "thread " ++ decimal t ++ codes " ready e" ++ decimal enclave ++ codes " saved " ++ decimal saved_at
    ++ codes "\n"
state_line t (states.Running enclave) saved_at =
    codes "thread " ++ decimal t ++ codes " running e" ++ decimal enclave ++ codes " saved " ++ decimal saved_at
    ++ codes "\n"

-- the line of a thread slot: its state, its enclave and its saved exit
abbrev pub thread_text : ℕ → Thread → List ℕ
thread_text t thread = state_line t thread.state thread.saved_at

-- the line of a core: for whom it runs, and the ticket of its last flush
unfoldable pub core_line : ℕ → Mode → ℕ → List ℕ
core_line c modes.Os flushed = codes "core " ++ decimal c ++ codes " os flushed " ++ decimal flushed ++ codes "\n"
core_line c (modes.Inside enclave thread) flushed =
    codes "core " ++ decimal c ++ codes " in e" ++ decimal enclave ++ codes " t" ++ decimal thread ++ codes " flushed "
    ++ decimal flushed ++ codes "\n"

-- the lines of cores, counted from c, by their modes and flush tickets
abbrev pub core_lines : ℕ → List Mode → List ℕ → List ℕ
core_lines c [] flushed = []
core_lines c (mode ∷ modes) [] = []
core_lines c (mode ∷ modes) (ticket ∷ flushed) = core_line c mode ticket ++ core_lines (c + 1) modes flushed
