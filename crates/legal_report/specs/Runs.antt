-- Small reports of a machine of one core and two regions of one page, written out by hand, and what each of them is
-- found to be. This project's own.
use Rattle.std.specs.Prelude.{ℕ, List, ◌++◌, codes}

-- the first two lines
unfoldable pub head : List ℕ
head = codes "sanctum report 1\nmachine cores 1 regions 2 pages 1 shift 0\n"

-- a flush, which answers Ok
unfoldable pub flush : List ℕ
flush = codes "call 1 core 0 serial 0 flush = ok tried c0\n"

-- the line that begins the log
unfoldable pub log : List ℕ
log = codes "log 0\n"

-- the flush in the log
unfoldable pub entry : List ℕ
entry = codes "entry 1\n"

-- the tables but for their last line and the end
unfoldable pub regions : List ℕ
regions = codes "region 0 owned os since 0\nregion 1 owned os since 0\n"

-- the core has not flushed
unfoldable pub never_flushed : List ℕ
never_flushed = codes "core 0 os flushed 0\n"

-- it has flushed at ticket 1
unfoldable pub flushed_once : List ℕ
flushed_once = codes "core 0 os flushed 1\n"

-- the last line
unfoldable pub end : List ℕ
end = codes "end\n"

-- ---- legal ones

-- nothing happened
abbrev pub nothing_happened : List ℕ
nothing_happened = head ++ (log ++ (regions ++ (never_flushed ++ end)))

-- one flush
abbrev pub one_flush : List ℕ
one_flush = head ++ (flush ++ (log ++ (entry ++ (regions ++ (flushed_once ++ end)))))

-- ---- ones that fail

-- these lines in place of the flush
abbrev pub with_call : List ℕ → List ℕ
with_call call = head ++ (call ++ (log ++ (entry ++ (regions ++ (flushed_once ++ end)))))

-- these in place of its entry
abbrev pub with_entry : List ℕ → List ℕ
with_entry events = head ++ (flush ++ (log ++ (events ++ (regions ++ (flushed_once ++ end)))))

-- these events where nothing happened
abbrev pub with_events : List ℕ → List ℕ
with_events events = head ++ (log ++ (events ++ (regions ++ (never_flushed ++ end))))

-- this end where nothing happened
abbrev pub with_end : List ℕ → List ℕ
with_end last = head ++ (log ++ (regions ++ last))

-- a reply that the monitor does not give
unfoldable pub forged_reply : List ℕ
forged_reply = codes "call 1 core 0 serial 0 flush = invalid_state tried c0\n"

-- a ticket one up
unfoldable pub late_ticket : List ℕ
late_ticket = codes "call 2 core 0 serial 0 flush = ok tried c0\n"

-- a serial one up
unfoldable pub late_serial : List ℕ
late_serial = codes "call 1 core 0 serial 1 flush = ok tried c0\n"

-- a flush that tries nothing
unfoldable pub untried : List ℕ
untried = codes "call 1 core 0 serial 0 flush = ok tried\n"

-- a lock that the core itself holds
unfoldable pub own_lock : List ℕ
own_lock = codes "call 1 core 0 serial 0 flush = concurrent c0 0 0 tried c0\n"

-- a number with a leading zero
unfoldable pub leading_zero : List ℕ
leading_zero = codes "call 01 core 0 serial 0 flush = ok tried c0\n"

-- an entry with a ticket that the core has not
unfoldable pub other_entry : List ℕ
other_entry = codes "entry 2\n"

-- a touch of a period that never began
unfoldable pub no_period : List ℕ
no_period = codes "touch 1 7\n"

-- a touch twice with nothing between
unfoldable pub twice : List ℕ
twice = codes "touch 1 0\ntouch 1 0\n"

-- a stop at no line
unfoldable pub no_line : List ℕ
no_line = codes "limit 0\n"

-- a limit, and a trap behind it
unfoldable pub behind_limit : List ℕ
behind_limit = codes "limit 3\ntrap 3 2 0\n"

-- a core that has flushed, without a flush
unfoldable pub other_table : List ℕ
other_table = codes "core 0 os flushed 1\nend\n"

-- no end
unfoldable pub no_end : List ℕ
no_end = codes "core 0 os flushed 0\n"

-- a line behind the end
unfoldable pub line_more : List ℕ
line_more = codes "core 0 os flushed 0\nend\nend\n"
