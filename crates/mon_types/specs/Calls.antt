-- The numbers, names and arguments of the calls, all this project's own.
use Rattle.std.specs.Prelude.{ℕ, List, [], ◌∷◌, ◌==◌, if◌then◌else◌, slice_index, codes}
use Rattle.mon_types.specs.declared.call.Call.{Call}
use Rattle.mon_types.specs.declared.call.Call.TheVariants as calls

-- the number of a call
abbrev pub call_number : Call → ℕ
call_number (calls.Block r) = 1
call_number (calls.Free r) = 2
call_number (calls.Assign r to) = 3
call_number calls.Flush = 4
call_number (calls.RegionInfo r) = 5
call_number (calls.Create e base size) = 6
call_number (calls.LoadTable e va level page) = 7
call_number (calls.LoadPage e va page src perms) = 8
call_number (calls.LoadThread e t entry sp) = 9
call_number (calls.Init e) = 10
call_number (calls.DeleteThread e t) = 11
call_number (calls.Delete e) = 12
call_number (calls.Enter e t) = 13
call_number calls.Exit = 14
call_number (calls.Aex saved) = 15
call_number calls.Restore = 16
call_number (calls.Accept m from) = 17
call_number (calls.Send to m w0 w1 w2 w3) = 18
call_number (calls.Read m) = 19
call_number (calls.EnclaveInfo e) = 20
call_number (calls.SetSatp v) = 21
call_number (calls.AcceptRegion r) = 22
call_number (calls.Reserve e va page perms) = 23
call_number (calls.Unknown number args) = number

-- the name of a call; a call of no known number has the name of the line that makes it
unfoldable pub call_name : Call → List ℕ
call_name (calls.Block r) = codes "block"
call_name (calls.Free r) = codes "free"
call_name (calls.Assign r to) = codes "assign"
call_name calls.Flush = codes "flush"
call_name (calls.RegionInfo r) = codes "region_info"
call_name (calls.Create e base size) = codes "create"
call_name (calls.LoadTable e va level page) = codes "load_table"
call_name (calls.LoadPage e va page src perms) = codes "load_page"
call_name (calls.LoadThread e t entry sp) = codes "load_thread"
call_name (calls.Init e) = codes "init"
call_name (calls.DeleteThread e t) = codes "delete_thread"
call_name (calls.Delete e) = codes "delete"
call_name (calls.Enter e t) = codes "enter"
call_name calls.Exit = codes "exit"
call_name (calls.Aex saved) = codes "aex"
call_name calls.Restore = codes "restore"
call_name (calls.Accept m from) = codes "accept"
call_name (calls.Send to m w0 w1 w2 w3) = codes "send"
call_name (calls.Read m) = codes "read"
call_name (calls.EnclaveInfo e) = codes "enclave_info"
call_name (calls.SetSatp v) = codes "set_satp"
call_name (calls.AcceptRegion r) = codes "accept_region"
call_name (calls.Reserve e va page perms) = codes "reserve"
call_name (calls.Unknown number args) = codes "ecall"

-- the arguments of a call in order; one of no known number has its number before them
abbrev pub call_args : Call → List ℕ
call_args (calls.Block r) = r ∷ []
call_args (calls.Free r) = r ∷ []
call_args (calls.Assign r to) = r ∷ to ∷ []
call_args calls.Flush = []
call_args (calls.RegionInfo r) = r ∷ []
call_args (calls.Create e base size) = e ∷ base ∷ size ∷ []
call_args (calls.LoadTable e va level page) = e ∷ va ∷ level ∷ page ∷ []
call_args (calls.LoadPage e va page src perms) = e ∷ va ∷ page ∷ src ∷ perms ∷ []
call_args (calls.LoadThread e t entry sp) = e ∷ t ∷ entry ∷ sp ∷ []
call_args (calls.Init e) = e ∷ []
call_args (calls.DeleteThread e t) = e ∷ t ∷ []
call_args (calls.Delete e) = e ∷ []
call_args (calls.Enter e t) = e ∷ t ∷ []
call_args calls.Exit = []
call_args (calls.Aex saved) = saved
call_args calls.Restore = []
call_args (calls.Accept m from) = m ∷ from ∷ []
call_args (calls.Send to m w0 w1 w2 w3) = to ∷ m ∷ w0 ∷ w1 ∷ w2 ∷ w3 ∷ []
call_args (calls.Read m) = m ∷ []
call_args (calls.EnclaveInfo e) = e ∷ []
call_args (calls.SetSatp v) = v ∷ []
call_args (calls.AcceptRegion r) = r ∷ []
call_args (calls.Reserve e va page perms) = e ∷ va ∷ page ∷ perms ∷ []
call_args (calls.Unknown number args) = number ∷ args

-- the call of this number with these six words, of which it takes as many as it has arguments; 0, 15 (which
-- the machine alone makes) and numbers above 23 are of no call that can be asked for
unfoldable pub call_of : ℕ → ℕ → ℕ → ℕ → ℕ → ℕ → ℕ → Call
call_of number a b c d e f =
    if number == 1 then calls.Block a else
    if number == 2 then calls.Free a else
    if number == 3 then calls.Assign a b else
    if number == 4 then calls.Flush else
    if number == 5 then calls.RegionInfo a else
    if number == 6 then calls.Create a b c else
    if number == 7 then calls.LoadTable a b c d else
    if number == 8 then calls.LoadPage a b c d e else
    if number == 9 then calls.LoadThread a b c d else
    if number == 10 then calls.Init a else
    if number == 11 then calls.DeleteThread a b else
    if number == 12 then calls.Delete a else
    if number == 13 then calls.Enter a b else
    if number == 14 then calls.Exit else
    if number == 16 then calls.Restore else
    if number == 17 then calls.Accept a b else
    if number == 18 then calls.Send a b c d e f else
    if number == 19 then calls.Read a else
    if number == 20 then calls.EnclaveInfo a else
    if number == 21 then calls.SetSatp a else
    if number == 22 then calls.AcceptRegion a else
    if number == 23 then calls.Reserve a b c d else
    calls.Unknown number (a ∷ b ∷ c ∷ d ∷ e ∷ f ∷ [])

-- the call that a number and a list of six words name
abbrev pub call_of_registers : ℕ → List ℕ → Call
call_of_registers number args =
    let arg = slice_index args in
    call_of number (arg 0) (arg 1) (arg 2) (arg 3) (arg 4) (arg 5)
