-- The lines of events and of the machine: what is printed is read, and what is read is printed so.
use Rattle.std.proofs.Common.{◌≡◌, ℕ, ◌-◌, ◌<◌, ◌≤◌, ◌^◌, Bool, true, cond, ltb, List, [], ◌∷◌, ◌++◌, Option, Some, None, refl, sym, ap, subst, ◌∙◌, arith, append_assoc, inl, inr}
use Rattle.std.specs.Prelude.{codes, IfSome}
use Rattle.std.specs.Str.{bytes_eq}
use Rattle.std.specs.Fmt.{decimal}
use Rattle.std.proofs.lemmas.Bool.{cases_Bool, ltb-true, lt-ltb}
use Rattle.std.proofs.lemmas.Bool.Decides.{nat_tests}
use Rattle.std.proofs.lemmas.List.{append-nil}
use Rattle.std.proofs.lemmas.Slice.Eq.{bytes_eq-Decides}
use Rattle.mon_types.specs.Shape.{Shape, shape_of, is_shape}
use Rattle.mon_types.specs.LimitLaws.{few_cores, few_regions}
use Rattle.hist.specs.declared.event.Why.TheVariants as whys
use Rattle.text_in.specs.Words.{AreWords}
use Rattle.report.specs.Events.{entry_line, trap_line, limit_line, event_line}
use Rattle.report.specs.Report.{machine_line}
use Rattle.report_lines.specs.declared.event.EventLine.{EventLine}
use Rattle.report_lines.specs.declared.event.EventLine.TheVariants as lines
use Rattle.report_lines.specs.Fits.{FitsEvent}
use Rattle.report_lines.specs.Forms.{IsMachineLine, event_text, IsEventLine}
use Rattle.report_lines.specs.Reading.{◌>>=◌, words_in, number_at, behind_word, small_at, shape_with, shape_at, if_machine_printed, machine_in, entry_event, touch_event, trap_event, limit_event, event_at, if_event_printed, event_in}
use Rattle.report_lines.proofs.Told.{IsSolid, Behind, nothing, spaced_word, word_first, solid_number, line_words}
use Rattle.report_lines.proofs.Numbers.{number_read, number_found}
use Rattle.report_lines.proofs.Parts.{bind_some, if_some, some_same}

-- ---- words

last_word : (word : List ℕ) → IsSolid word → Behind (32 ∷ word) (word ∷ [])
last_word word w = subst (λ (t : List ℕ). Behind (32 ∷ t) (word ∷ [])) (append-nil word) (spaced_word word [] [] w nothing)

-- ---- events

-- the words of the line of an event
abbrev event_words : EventLine → List (List ℕ)
event_words (lines.Entry ticket) = codes "entry" ∷ decimal ticket ∷ []
event_words (lines.Touch region since) = codes "touch" ∷ decimal region ∷ decimal since ∷ []
event_words (lines.Stop line (whys.Trap cause value)) = codes "trap" ∷ decimal line ∷ decimal cause ∷ decimal value ∷ []
event_words (lines.Stop line whys.Limit) = codes "limit" ∷ decimal line ∷ []

-- what stands before its end
abbrev pub event_body : EventLine → List ℕ
event_body (lines.Entry ticket) = codes "entry" ++ (32 ∷ decimal ticket)
event_body (lines.Touch region since) = codes "touch" ++ (32 ∷ (decimal region ++ (32 ∷ decimal since)))
event_body (lines.Stop line (whys.Trap cause value)) = codes "trap" ++ (32 ∷ (decimal line ++ (32 ∷ (decimal cause ++ (32 ∷ decimal value)))))
event_body (lines.Stop line whys.Limit) = codes "limit" ++ (32 ∷ decimal line)

pub event_is : (event : EventLine) → event_text event ≡ event_body event ++ 10 ∷ []
unfolding entry_line event_line trap_line limit_line
event_is (lines.Entry ticket) = refl
event_is (lines.Touch region since) = simp append_assoc
event_is (lines.Stop line (whys.Trap cause value)) = simp append_assoc
event_is (lines.Stop line whys.Limit) = refl

event_told : (shape : Shape) (event : EventLine) → shape.regions ≤ 64 → FitsEvent shape event → AreWords (event_body event) (event_words event)
event_told shape (lines.Entry ticket) few h =
    word_first (codes "entry") _ _ (record { some = omega arith; solid = refl }) (last_word (decimal ticket) (solid_number ticket (omega (arith, h))))
event_told shape (lines.Touch region since) few h =
    word_first (codes "touch") _ _ (record { some = omega arith; solid = refl })
    (spaced_word (decimal region) _ _ (solid_number region (omega (arith, h.0))) (last_word (decimal since) (solid_number since (omega (arith, h.1)))))
event_told shape (lines.Stop line (whys.Trap cause value)) few h =
    word_first (codes "trap") _ _ (record { some = omega arith; solid = refl })
    (spaced_word (decimal line) _ _ (solid_number line (omega (arith, h.0)))
    (spaced_word (decimal cause) _ _ (solid_number cause h.1.0) (last_word (decimal value) (solid_number value h.1.1))))
event_told shape (lines.Stop line whys.Limit) few h =
    word_first (codes "limit") _ _ (record { some = omega arith; solid = refl }) (last_word (decimal line) (solid_number line (omega (arith, h.0))))

event_read : (shape : Shape) (event : EventLine) → shape.regions ≤ 64 → FitsEvent shape event → event_at shape (event_words event) ≡ Some event
unfolding event_at
event_read shape (lines.Entry ticket) few h = rw (number_read (2 ^ 32 - 1) ticket [] (omega (arith, h)) (omega arith)) refl
event_read shape (lines.Touch region since) few h =
    rw (
      number_read 255 region (decimal since ∷ []) (omega (arith, h.0)) (omega arith),
      number_read (2 ^ 32 - 1) since [] (omega (arith, h.1)) (omega arith),
      lt-ltb region shape.regions h.0,
    ) refl
event_read shape (lines.Stop line (whys.Trap cause value)) few h =
    rw (
      number_read (2 ^ 32 - 1) line (decimal cause ∷ decimal value ∷ []) (omega (arith, h.0)) (omega arith),
      number_read (2 ^ 64 - 1) cause (decimal value ∷ []) (omega (arith, h.1.0)) (omega arith),
      number_read (2 ^ 64 - 1) value [] (omega (arith, h.1.1)) (omega arith),
    ) refl
event_read shape (lines.Stop line whys.Limit) few h = rw (number_read (2 ^ 32 - 1) line [] (omega (arith, h.0)) (omega arith)) refl

pub event_in_is : (shape : Shape) (line : List ℕ) (event : EventLine) → is_shape shape ≡ true → IsEventLine shape line event → event_in shape line ≡ Some event
unfolding event_in
event_in_is shape line event valid h =
    let few = few_regions shape valid in
    let words : words_in line ≡ event_words event = line_words line (event_body event) (event_words event) (h.printed ∙ event_is event) (event_told shape event few h.fits) in
    let read : event_at shape (words_in line) ≡ Some event = ap (event_at shape) words ∙ event_read shape event few h.fits in
    ap (λ (o : Option EventLine). o >>= if_event_printed line) read
    ∙ ap (λ (b : Bool). cond b (Some event) None) ((bytes_eq-Decides line (event_text event)).1 h.printed)

pub event_only : (shape : Shape) (line : List ℕ) (result : Option EventLine) → is_shape shape ≡ true → result ≡ event_in shape line → (event : EventLine) → IsEventLine shape line event → result ≡ Some event
event_only shape line result valid is event h = is ∙ event_in_is shape line event valid h

-- ---- what is read fits

entry_fits : (shape : Shape) (words : List (List ℕ)) (event : EventLine) → entry_event words ≡ Some event → FitsEvent shape event
entry_fits shape words event e =
    let a = bind_some (number_at (2 ^ 32 - 1) words) (λ ticket. Some (lines.Entry ticket.0)) event e in
    let small : a.0.0 ≤ 2 ^ 32 - 1 = number_found (2 ^ 32 - 1) words a.0 a.1 in
    let fits : a.0.0 < 2 ^ 32 = omega arith in
    subst (FitsEvent shape) (some_same (lines.Entry a.0.0) event a.2) fits

touch_fits : (shape : Shape) (words : List (List ℕ)) (event : EventLine) → touch_event shape words ≡ Some event → FitsEvent shape event
touch_fits shape words event e =
    let a = bind_some (number_at 255 words) _ event e in
    let b = bind_some (number_at (2 ^ 32 - 1) a.0.1) _ event a.2 in
    let c = if_some (ltb a.0.0 shape.regions) (lines.Touch a.0.0 b.0.0) event b.2 in
    let small : b.0.0 ≤ 2 ^ 32 - 1 = number_found (2 ^ 32 - 1) a.0.1 b.0 b.1 in
    let fits : b.0.0 < 2 ^ 32 = omega arith in
    subst (FitsEvent shape) c.1 (ltb-true a.0.0 shape.regions c.0, fits)

trap_fits : (shape : Shape) (words : List (List ℕ)) (event : EventLine) → trap_event words ≡ Some event → FitsEvent shape event
trap_fits shape words event e =
    let a = bind_some (number_at (2 ^ 32 - 1) words) _ event e in
    let b = bind_some (number_at (2 ^ 64 - 1) a.0.1) _ event a.2 in
    let c = bind_some (number_at (2 ^ 64 - 1) b.0.1) _ event b.2 in
    let small_a : a.0.0 ≤ 2 ^ 32 - 1 = number_found (2 ^ 32 - 1) words a.0 a.1 in
    let small_b : b.0.0 ≤ 2 ^ 64 - 1 = number_found (2 ^ 64 - 1) a.0.1 b.0 b.1 in
    let small_c : c.0.0 ≤ 2 ^ 64 - 1 = number_found (2 ^ 64 - 1) b.0.1 c.0 c.1 in
    let fits_a : a.0.0 < 2 ^ 32 = omega arith in
    let fits_b : b.0.0 < 2 ^ 64 = omega arith in
    let fits_c : c.0.0 < 2 ^ 64 = omega arith in
    subst (FitsEvent shape) (some_same (lines.Stop a.0.0 (whys.Trap b.0.0 c.0.0)) event c.2) (fits_a, (fits_b, fits_c))

limit_fits : (shape : Shape) (words : List (List ℕ)) (event : EventLine) → limit_event words ≡ Some event → FitsEvent shape event
limit_fits shape words event e =
    let a = bind_some (number_at (2 ^ 32 - 1) words) (λ line. Some (lines.Stop line.0 whys.Limit)) event e in
    let small : a.0.0 ≤ 2 ^ 32 - 1 = number_found (2 ^ 32 - 1) words a.0 a.1 in
    let fits : a.0.0 < 2 ^ 32 = omega arith in
    subst (FitsEvent shape) (some_same (lines.Stop a.0.0 whys.Limit) event a.2) (fits, tt)

none_is : (shape : Shape) (event : EventLine) → ◌≡◌ {A = Option EventLine} None (Some event) → FitsEvent shape event
none_is shape event e = absurd cc

event_fits : (shape : Shape) (words : List (List ℕ)) (event : EventLine) → event_at shape words ≡ Some event → FitsEvent shape event
unfolding event_at
event_fits shape [] event e = absurd cc
event_fits shape (word ∷ words) event e =
    elim (cases_Bool (bytes_eq word (codes "entry"))) [
      | inl t ↦ entry_fits shape words event (rw t at e)
      | inr f ↦
          let e2 = rw f at e in
          elim (cases_Bool (bytes_eq word (codes "touch"))) [
            | inl t ↦ touch_fits shape words event (rw t at e2)
            | inr g ↦
                let e3 = rw g at e2 in
                elim (cases_Bool (bytes_eq word (codes "trap"))) [
                  | inl t ↦ trap_fits shape words event (rw t at e3)
                  | inr k ↦
                      let e4 = rw k at e3 in
                      elim (cases_Bool (bytes_eq word (codes "limit"))) [
                        | inl t ↦ limit_fits shape words event (rw t at e4)
                        | inr l ↦ none_is shape event (rw l at e4)
                      ]
                ]
          ]
    ]

pub event_in_found : (shape : Shape) (line : List ℕ) (event : EventLine) → event_in shape line ≡ Some event → IsEventLine shape line event
unfolding event_in
event_in_found shape line event e =
    let a = bind_some (event_at shape (words_in line)) (if_event_printed line) event e in
    let c = if_some (bytes_eq line (event_text a.0)) a.0 event a.2 in
    subst (IsEventLine shape line) c.1 (record { fits = event_fits shape (words_in line) a.0 a.1; printed = (bytes_eq-Decides line (event_text a.0)).0 c.0 })

pub event_found_if : (shape : Shape) (line : List ℕ) (result : Option EventLine) → result ≡ event_in shape line → IfSome result (λ event. IsEventLine shape line event)
event_found_if shape line None is = tt
event_found_if shape line (Some event) is = event_in_found shape line event (sym is)

-- ---- the machine

abbrev machine_words : Shape → List (List ℕ)
machine_words m =
    codes "machine" ∷ codes "cores" ∷ decimal m.cores ∷ codes "regions" ∷ decimal m.regions ∷ codes "pages" ∷ decimal m.pages
    ∷ codes "shift" ∷ decimal m.shift ∷ []

abbrev pub machine_body : Shape → List ℕ
machine_body m =
    codes "machine" ++ (codes " cores" ++ (32 ∷ (decimal m.cores ++ (codes " regions" ++ (32 ∷ (decimal m.regions
    ++ (codes " pages" ++ (32 ∷ (decimal m.pages ++ (codes " shift" ++ (32 ∷ decimal m.shift)))))))))))

pub machine_is : (m : Shape) → machine_line m ≡ machine_body m ++ 10 ∷ []
unfolding machine_line
machine_is m = simp append_assoc

pub record IsSmall (m : Shape) : Type 0 where
  pub cores : m.cores < 256
  pub regions : m.regions < 256
  pub pages : m.pages < 256
  pub shift : m.shift < 256

pub small_shape : (m : Shape) → is_shape m ≡ true → IsSmall m
small_shape m h = record {
  cores = omega (arith, few_cores m h);
  regions = omega (arith, few_regions m h);
  pages = grind (arith, nat_tests);
  shift = grind (arith, nat_tests);
}

machine_told : (m : Shape) → IsSmall m → AreWords (machine_body m) (machine_words m)
machine_told m h =
    word_first (codes "machine") _ _ (record { some = omega arith; solid = refl })
    (spaced_word (codes "cores") _ _ (record { some = omega arith; solid = refl })
    (spaced_word (decimal m.cores) _ _ (solid_number m.cores (omega (arith, h.cores)))
    (spaced_word (codes "regions") _ _ (record { some = omega arith; solid = refl })
    (spaced_word (decimal m.regions) _ _ (solid_number m.regions (omega (arith, h.regions)))
    (spaced_word (codes "pages") _ _ (record { some = omega arith; solid = refl })
    (spaced_word (decimal m.pages) _ _ (solid_number m.pages (omega (arith, h.pages)))
    (spaced_word (codes "shift") _ _ (record { some = omega arith; solid = refl })
    (last_word (decimal m.shift) (solid_number m.shift (omega (arith, h.shift)))))))))))

shape_kept : (m : Shape) → is_shape m ≡ true → shape_with m.cores m.regions m.pages m.shift ≡ Some m
shape_kept m h = ap (λ (b : Bool). cond b (Some m) None) h

machine_read : (m : Shape) → is_shape m ≡ true → IsSmall m → shape_at (machine_words m) ≡ Some m
unfolding shape_at
machine_read m valid h =
    rw (
      number_read 255 m.cores (codes "regions" ∷ decimal m.regions ∷ codes "pages" ∷ decimal m.pages ∷ codes "shift" ∷ decimal m.shift ∷ []) (omega (arith, h.cores)) (omega arith),
      number_read 255 m.regions (codes "pages" ∷ decimal m.pages ∷ codes "shift" ∷ decimal m.shift ∷ []) (omega (arith, h.regions)) (omega arith),
      number_read 255 m.pages (codes "shift" ∷ decimal m.shift ∷ []) (omega (arith, h.pages)) (omega arith),
      number_read 255 m.shift [] (omega (arith, h.shift)) (omega arith),
    ) (shape_kept m valid)

pub machine_in_is : (line : List ℕ) (m : Shape) → IsMachineLine line m → machine_in line ≡ Some m
unfolding machine_in
machine_in_is line m h =
    let small = small_shape m h.fits in
    let words : words_in line ≡ machine_words m = line_words line (machine_body m) (machine_words m) (h.printed ∙ machine_is m) (machine_told m small) in
    let read : shape_at (words_in line) ≡ Some m = ap shape_at words ∙ machine_read m h.fits small in
    ap (λ (o : Option Shape). o >>= if_machine_printed line) read
    ∙ ap (λ (b : Bool). cond b (Some m) None) ((bytes_eq-Decides line (machine_line m)).1 h.printed)

pub machine_only : (line : List ℕ) (result : Option Shape) → result ≡ machine_in line → (m : Shape) → IsMachineLine line m → result ≡ Some m
machine_only line result is m h = is ∙ machine_in_is line m h

shape_fits : (words : List (List ℕ)) (m : Shape) → shape_at words ≡ Some m → is_shape m ≡ true
unfolding shape_at
shape_fits words m e =
    let a = bind_some (behind_word words) _ m e in
    let b = bind_some (small_at a.0) _ m a.2 in
    let c = bind_some (small_at b.0.1) _ m b.2 in
    let d = bind_some (small_at c.0.1) _ m c.2 in
    let f = bind_some (small_at d.0.1) _ m d.2 in
    let g = if_some (is_shape (shape_of b.0.0 c.0.0 d.0.0 f.0.0)) (shape_of b.0.0 c.0.0 d.0.0 f.0.0) m f.2 in
    subst (λ (s : Shape). is_shape s ≡ true) g.1 g.0

pub machine_in_found : (line : List ℕ) (m : Shape) → machine_in line ≡ Some m → IsMachineLine line m
unfolding machine_in
machine_in_found line m e =
    let a = bind_some (shape_at (words_in line)) (if_machine_printed line) m e in
    let c = if_some (bytes_eq line (machine_line a.0)) a.0 m a.2 in
    subst (IsMachineLine line) c.1 (record { fits = shape_fits (words_in line) a.0 a.1; printed = (bytes_eq-Decides line (machine_line a.0)).0 c.0 })

pub machine_found_if : (line : List ℕ) (result : Option Shape) → result ≡ machine_in line → IfSome result (λ m. IsMachineLine line m)
machine_found_if line None is = tt
machine_found_if line (Some m) is = machine_in_found line m (sym is)
