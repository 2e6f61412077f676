-- Replies of Ok with so many words, and which replies are Ok. This project's own.
use Rattle.std.specs.Prelude.{ℕ, Bool, true, false, if◌then◌else◌, List, [], ◌∷◌}
use Rattle.mon_types.specs.declared.reply.Reply.{Reply}
use Rattle.mon_types.specs.declared.reply.Reply.TheVariants as replies

-- Ok with no words
abbrev pub done : Reply
done = replies.Ok 0 (0 ∷ 0 ∷ 0 ∷ 0 ∷ 0 ∷ 0 ∷ 0 ∷ 0 ∷ [])

-- Ok with no words where a call may be made, else InvalidState
abbrev pub done_if : Bool → Reply
done_if may = if may then done else replies.InvalidState

-- Ok with one word
abbrev pub ok_with_word : ℕ → Reply
ok_with_word a = replies.Ok 1 (a ∷ 0 ∷ 0 ∷ 0 ∷ 0 ∷ 0 ∷ 0 ∷ 0 ∷ [])

-- Ok with four words
abbrev pub ok_with_four : ℕ → ℕ → ℕ → ℕ → Reply
ok_with_four a b c d = replies.Ok 4 (a ∷ b ∷ c ∷ d ∷ 0 ∷ 0 ∷ 0 ∷ 0 ∷ [])

-- Ok with eight words
abbrev pub ok_with_eight : List ℕ → Reply
ok_with_eight words = replies.Ok 8 words

-- whether the call was carried out
abbrev pub is_done : Reply → Bool
is_done (replies.Ok count words) = true
is_done replies.InvalidValue = false
is_done replies.InvalidState = false
is_done replies.AccessDenied = false
is_done (replies.ConcurrentCall lock holder serial) = false
is_done replies.NotFlushed = false
is_done replies.Unsupported = false

-- whether the call met a lock that another core held
abbrev pub is_concurrent : Reply → Bool
is_concurrent (replies.Ok count words) = false
is_concurrent replies.InvalidValue = false
is_concurrent replies.InvalidState = false
is_concurrent replies.AccessDenied = false
is_concurrent (replies.ConcurrentCall lock holder serial) = true
is_concurrent replies.NotFlushed = false
is_concurrent replies.Unsupported = false
