-- What is known of a call that answers Ok.
use Rattle.std.proofs.Common.{◌≡◌, ℕ, ◌+◌, ◌≤◌, true, List, ◌++◌, length, map, drop, refl, ap, arith}
use Rattle.std.proofs.lemmas.List.{length-append, length-map, length-take}
use Rattle.dram_map.specs.Addresses.{first_word}
use Rattle.dram_map.specs.Words.{word_at}
use Rattle.mon_types.specs.Replies.{is_done}
use Rattle.mon_types.specs.declared.call.Call.{Call}
use Rattle.mon_types.specs.declared.call.Call.TheVariants as calls
use Rattle.mon_model.specs.State.{State}
use Rattle.mon_model.specs.Step.{reply_of}
use Rattle.mon_model.specs.InRange.{IsInRange}
use Rattle.mon_model.proofs.InRange.{in_range}
use Rattle.mon_model.proofs.Carried.{Carried, carried}
use Rattle.hist.specs.History.{digest_of}
use Rattle.solo.specs.Calls.{source_words, page_input, digest_for}

pub done_in_range : (s : State) (core : ℕ) (call : Call) → is_done (reply_of s core call) ≡ true → IsInRange s.shape call
done_in_range s core call h =
    let ok : Carried s core call = carried s core call h in
    in_range s.shape call ok.value

pub digest_is : (words : List ℕ) (call : Call) (at : ℕ) → digest_of (page_input words call at) ≡ digest_for words call
digest_is words (calls.LoadPage e va page src perms) at = refl
digest_is words _ at = refl

-- ---- the words that a call loads are few

few_source : (words : List ℕ) (call : Call) → length (source_words words call) ≤ 512
few_source words (calls.LoadPage e va page src perms) = omega (arith, length-take 512 (drop (first_word src) words))
few_source words _ = omega arith

-- after the words of at most three places, and the source
pub few_answers : (old mid new words places : List ℕ) (call : Call) → length places ≤ 3
    → mid ≡ old ++ map (word_at words) places → new ≡ mid ++ source_words words call → length new ≤ length old + 515
few_answers old mid new words places call few is so =
    omega (arith, few_source words call, ap length is, ap length so, length-append old (map (word_at words) places), length-append mid (source_words words call), length-map places (word_at words))
