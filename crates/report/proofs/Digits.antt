-- The hexadecimal digits of several words.
use Rattle.std.proofs.Common.{◌≡◌, ℕ, ◌+◌, ◌<◌, List, [], ◌∷◌, ◌++◌, length, take, get_or, sym, ap, ◌∙◌, append_assoc, append-nil}
use Rattle.std.proofs.lemmas.List.{take_more}
use Rattle.std.proofs.lemmas.Grind.{flat_map-append}
use Rattle.mon_model.specs.Measure.{number_bytes, to_bytes}
use Rattle.text_out.specs.Texts.{hex_text}
use Rattle.text_out.proofs.Hex.{hex_text-append, no_hex}
use Rattle.report.specs.Objects.{measure_text}

-- the digits of one word more
pub measure_more : (words : List ℕ) (i d : ℕ) → i < length words → measure_text (take (i + 1) words) ≡ measure_text (take i words) ++ hex_text (number_bytes (get_or words i d))
measure_more words i d lt =
    ap measure_text (take_more words i d lt) ∙ ap hex_text (flat_map-append number_bytes (take i words) (get_or words i d ∷ []))
    ∙ hex_text-append (to_bytes (take i words)) (number_bytes (get_or words i d) ++ []) ∙ ap (λ bytes. measure_text (take i words) ++ hex_text bytes) (append-nil (number_bytes (get_or words i d)))

-- a line that grew by the digits of the next word
pub measure_grows : (words base old new : List ℕ) (i d : ℕ) → i < length words → old ≡ base ++ measure_text (take i words) → new ≡ old ++ hex_text (number_bytes (get_or words i d)) → new ≡ base ++ measure_text (take (i + 1) words)
measure_grows words base old new i d lt before grown =
    grown ∙ ap (λ line. line ++ hex_text (number_bytes (get_or words i d))) before ∙ append_assoc base (measure_text (take i words)) (hex_text (number_bytes (get_or words i d))) ∙ ap (λ text. base ++ text) (sym (measure_more words i d lt))

pub measure_begun : (line : List ℕ) → line ≡ line ++ measure_text []
measure_begun line = sym (ap (λ text. line ++ text) no_hex ∙ append-nil line)
