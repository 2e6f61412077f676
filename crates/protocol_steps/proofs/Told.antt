-- The content is what `LoadedPages` says of the entries and the cores' answers, and each page that an entry has read stands
-- in its core's answers.
use Rattle.std.proofs.Common.{◌≡◌, ◌<◌, ◌≤◌, ◌∙◌, ℕ, Option, Some, None, List, [], ◌∷◌, ◌++◌, map, length, take, drop, ap, sym, refl, subst, append-nil, length-take, length-drop, arith}
use Rattle.std.specs.List.{range_with_len, slice_index_or, AllByRecursion}
use Rattle.std.proofs.lemmas.List.{take-append-le, drop-append-le}
use Rattle.std.proofs.lemmas.List.FromFn.{get_or-map-range_with_len}
use Rattle.mon_types.specs.Shape.{Shape}
use Rattle.mon_model.specs.State.{State, start}
use Rattle.hist.specs.declared.event.Entry.{Entry}
use Rattle.hist.specs.declared.event.PageInput.{PageInput}
use Rattle.hist.specs.History.{after_entry, after_entries}
use Rattle.hist.proofs.Ordered.{all_joined}
use Rattle.loaded_pages.specs.Content.{Content, zero_content, content_after}
use Rattle.loaded_pages.specs.History.{words_read, entry_words, after_one, content_from, IsPageRead, HasReadPage, HaveReadPages}
use Rattle.protocol.specs.declared.action.Draft.{Draft}
use Rattle.protocol.specs.Views.{Moves, entry_of, answers_of, answered}
use Rattle.protocol.specs.Runs.{Made, moves_with}
use Rattle.protocol_laws.specs.Safe.{HasRead, drawn_content}
use Rattle.protocol_steps.proofs.Views.{each_moves}

-- the answers of each core, one after the other
abbrev pub all_answers : Shape → (ℕ → List ℕ) → List (List ℕ)
all_answers shape ans = map ans (range_with_len 0 shape.cores)

-- the content that a history tells, where these are the cores' answers
pub record Told (shape : Shape) (ans : ℕ → List ℕ) (h : List Entry) (content : Content) : Type 0 where
  pub read : HaveReadPages (all_answers shape ans) h
  pub is : content ≡ content_from (all_answers shape ans) (start shape) h zero_content

answers_at : (shape : Shape) (ans : ℕ → List ℕ) (core : ℕ) → core < shape.cores → slice_index_or (all_answers shape ans) core [] ≡ ans core
answers_at shape ans core lt = get_or-map-range_with_len ans 0 shape.cores core core [] lt (omega arith)

-- ---- answers grow

part_same : (xs ys : List ℕ) (n at : ℕ) → 0 < n → length (take n (drop at xs)) ≡ n → take n (drop at (xs ++ ys)) ≡ take n (drop at xs)
part_same xs ys n at some long =
    let count : n ≤ length (drop at xs) = omega (arith, length-take n (drop at xs), long) in
    let low : at ≤ length xs = omega (arith, length-drop at xs, count, some) in
    ap (take n) (drop-append-le at xs ys low) ∙ take-append-le n (drop at xs) ys count

words_grow : (page : Option PageInput) (xs ys : List ℕ) → ((p : PageInput) → page ≡ Some p → length (take 512 (drop p.at xs)) ≡ 512) → words_read page (xs ++ ys) ≡ words_read page xs
words_grow None xs ys long = refl
words_grow (Some p) xs ys long = part_same xs ys 512 p.at (omega arith) (long p refl)

module _ (shape : Shape) (ans more : ℕ → List ℕ) (grows : (core : ℕ) → core < shape.cores → (ys : List ℕ) × (more core ≡ ans core ++ ys)) where
  page_long : (page : Option PageInput) (e : Entry) → HasReadPage (all_answers shape ans) e page → e.page ≡ page → e.core < shape.cores → (p : PageInput) → page ≡ Some p → length (take 512 (drop p.at (ans e.core))) ≡ 512
  page_long None e read is lt p f = absurd (none f)
    where
      none : None ≡ Some p → ⊥
      none g = cc
  page_long (Some page) e read is lt p f =
      ap (λ (z : List ℕ). length (take 512 (drop p.at z))) (sym (answers_at shape ans e.core lt))
      ∙ ap (λ z. length (take 512 (drop z (slice_index_or (all_answers shape ans) e.core [])))) (ap (λ z. z.at) (sym (same f)))
      ∙ ap (λ (o : Option PageInput). length (words_read o (slice_index_or (all_answers shape ans) e.core []))) (sym is) ∙ read.count
    where
      same : Some page ≡ Some p → page ≡ p
      same g = cc

  words_same : (e : Entry) → e.core < shape.cores → HasReadPage (all_answers shape ans) e e.page → entry_words (all_answers shape more) e ≡ entry_words (all_answers shape ans) e
  words_same e lt read =
      let g = grows e.core lt in
      ap (words_read e.page) (answers_at shape more e.core lt ∙ g.1) ∙ words_grow e.page (ans e.core) g.0 (page_long e.page e read refl lt)
      ∙ ap (words_read e.page) (sym (answers_at shape ans e.core lt))

  read_more : (e : Entry) (page : Option PageInput) → entry_words (all_answers shape more) e ≡ entry_words (all_answers shape ans) e → HasReadPage (all_answers shape ans) e page → HasReadPage (all_answers shape more) e page
  read_more e None same read = tt
  read_more e (Some page) same read = subst (IsPageRead page) (sym same) read

  reads_more : (h : List Entry) → AllByRecursion (λ e. e.core < shape.cores) h → HaveReadPages (all_answers shape ans) h → HaveReadPages (all_answers shape more) h
  reads_more [] cores read = tt
  reads_more (e ∷ h) cores read = (read_more e e.page (words_same e cores.0 read.0) read.0, reads_more h cores.1 read.1)

  content_same : (s : State) (h : List Entry) (content : Content) → AllByRecursion (λ e. e.core < shape.cores) h → HaveReadPages (all_answers shape ans) h → content_from (all_answers shape more) s h content ≡ content_from (all_answers shape ans) s h content
  content_same s [] content cores read = refl
  content_same s (e ∷ h) content cores read =
      ap (λ words. content_from (all_answers shape more) (after_entry s e) h (content_after s e.reply e.call words content)) (words_same e cores.0 read.0)
      ∙ content_same (after_entry s e) h (after_one (all_answers shape ans) s e content) cores.1 read.1

  pub told_grow : (h : List Entry) (content : Content) → AllByRecursion (λ e. e.core < shape.cores) h → Told shape ans h content → Told shape more h content
  told_grow h content cores told = record {
    read = reads_more h cores told.read;
    is = told.is ∙ sym (content_same (start shape) h zero_content cores told.read);
  }

-- a move makes answers longer
pub answers_grow : (moved : ℕ → Moves) (made : Made) (core : ℕ) → (ys : List ℕ) × (answers_of (moves_with core made (moved core)) ≡ answers_of (moved core) ++ ys)
unfolding answers_of
answers_grow moved made core = each_moves (λ core ms. (ys : List ℕ) × (answers_of ms ≡ answers_of (moved core) ++ ys)) moved made
    (answered made.move made.outcome, refl) (λ q ne. ([], sym (append-nil (answers_of (moved q))))) core

-- ---- one entry more

from_more : (answers : List (List ℕ)) (s : State) (h : List Entry) (e : Entry) (content : Content) → content_from answers s (h ++ e ∷ []) content ≡ after_one answers (after_entries s h) e (content_from answers s h content)
from_more answers s [] e content = refl
from_more answers s (x ∷ h) e content = from_more answers (after_entry s x) h e (after_one answers s x content)

read_one : (shape : Shape) (ans : ℕ → List ℕ) (e : Entry) (page : Option PageInput) (answers : List ℕ) → e.page ≡ page → slice_index_or (all_answers shape ans) e.core [] ≡ answers → HasRead page answers → HasReadPage (all_answers shape ans) e page
read_one shape ans e None answers is same read = tt
read_one shape ans e (Some page) answers is same read =
    subst (IsPageRead page) (ap (λ (z : List ℕ). words_read (Some page) z) (sym same) ∙ ap (λ (o : Option PageInput). words_read o (slice_index_or (all_answers shape ans) e.core [])) (sym is)) read

pub told_drawn : (shape : Shape) (ans : ℕ → List ℕ) (h : List Entry) (s : State) (content : Content) (core : ℕ) (draft : Draft) (ticket : ℕ) (answers : List ℕ) → core < shape.cores → ans core ≡ answers → after_entries (start shape) h ≡ s → HasRead draft.page answers → Told shape ans h content → Told shape ans (h ++ entry_of core draft ticket ∷ []) (drawn_content s draft answers content)
unfolding drawn_content
told_drawn shape ans h s content core draft ticket answers lt mine now read told =
    let e : Entry = entry_of core draft ticket in
    let at : slice_index_or (all_answers shape ans) core [] ≡ answers = answers_at shape ans core lt ∙ mine in
    record {
      read = all_joined (λ x. HasReadPage (all_answers shape ans) x x.page) h (e ∷ []) told.read (read_one shape ans e draft.page answers refl at read, tt);
      is = ap (λ z. content_after s draft.reply draft.call (words_read draft.page answers) z) told.is
          ∙ ap (λ (z : List ℕ). content_after s draft.reply draft.call (words_read draft.page z) (content_from (all_answers shape ans) (start shape) h zero_content)) (sym at)
          ∙ ap (λ z. content_after z draft.reply draft.call (entry_words (all_answers shape ans) e) (content_from (all_answers shape ans) (start shape) h zero_content)) (sym now)
          ∙ sym (from_more (all_answers shape ans) (start shape) h e zero_content);
    }
