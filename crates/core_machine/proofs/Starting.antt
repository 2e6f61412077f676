-- The cores of a machine before its first step.
use Rattle.std.proofs.Common.{◌≡◌, ◌∙◌, ◌+◌, ◌<◌, ◌≤◌, ℕ, zero, suc, true, false, None, List, [], ◌∷◌, ◌++◌, length, get_or, ap, sym, refl, subst, arith}
use Rattle.std.specs.List.{AllByRecursion}
use Rattle.mon_types.specs.Shape.{is_shape}
use Rattle.mon_types.specs.declared.image.Image.{Image}
use Rattle.mon_types.specs.declared.image.Start.{Start}
use Rattle.mon_types.specs.declared.script.Line.{Line}
use Rattle.mon_types.specs.declared.thread.Mode.TheVariants as modes
use Rattle.core_context.specs.declared.contexts.Contexts.{Contexts}
use Rattle.core_context.specs.Changes.{begun_contexts}
use Rattle.tlb.specs.declared.entry.Entry.{Entry}
use Rattle.protocol.specs.Views.{core_log, answers_of}
use Rattle.core_behaviour.specs.Course.{left_of}
use Rattle.core_behaviour.specs.Core.{start_at}
use Rattle.core_behaviour.specs.Lines.{lines_from, core_behaviour}
use Rattle.core_behaviour.specs.Runs.{lines_of, course_of}
use Rattle.call_machine.specs.Kept.{Called}
use Rattle.core_machine.specs.declared.work.Work.TheVariants as works
use Rattle.core_machine.specs.declared.progress.Progress.{Progress}
use Rattle.core_machine.specs.Own.{core_of}
use Rattle.core_machine.specs.Meaning.{Stands}
use Rattle.core_machine.specs.Kept.{work_stands, IsSound}
use Rattle.core_machine.specs.Follows.{Follows}
use Rattle.core_machine.specs.Start.{AreLines, IsAtStart, AreAtStart}

-- ---- one core

-- a core that has done nothing
abbrev pub fresh : Image → ℕ → Contexts → List Entry → List Line → Called → Progress
fresh image number contexts cache lines call = record {
  lines = lines;
  at = 0;
  own = record {
    config = image.config;
    number = number;
    contexts = contexts;
    satp = 0;
    space = record { base = 0; size = 0; root = 0 };
    by_line = false;
    cache = cache;
    pending = None;
    mode = modes.Os;
    serial = 0;
    counts = record { events = 0; answers = 0 };
  };
  work = works.Begins;
  call = call;
  begun = record { events = 0; answers = 0 };
}

pub start_sound : (image : Image) (number : ℕ) (contexts : Contexts) (cache : List Entry) (lines : List Line) (call : Called)
    → is_shape image.config ≡ true → number < image.config.cores → AreLines lines → IsSound (fresh image number contexts cache lines call)
unfolding work_stands
start_sound image number contexts cache lines call shape core given = record {
  own = record { valid = shape; core = core; slot = omega arith; thread = omega arith; calls = omega arith };
  script = record { scripted = given.scripted; few = given.few; at = omega arith };
  stands = (omega arith, omega arith);
}

pub start_follows : (image : Image) (number : ℕ) (start : Start) (contexts : Contexts) (cache : List Entry) (lines : List Line) (call : Called)
    → start ≡ start_at image.starts number → contexts ≡ begun_contexts number start → cache ≡ [] → Follows (fresh image number contexts cache lines call) (core_behaviour image number lines) []
unfolding Stands left_of core_log answers_of
start_follows image number start contexts cache lines call is_start is_contexts is_cache = record {
  begun = tt;
  counts = record { events = refl; answers = refl; serial = refl; mode = refl };
  left =
      ap (λ x. lines_from image.config 1 lines (core_of (fresh image number x [] lines call).own [] [])) (sym (is_contexts ∙ ap (begun_contexts number) is_start))
      ∙ ap (λ x. lines_from image.config 1 lines (core_of (fresh image number contexts x lines call).own [] [])) (sym is_cache);
}

-- ---- many

pub lines_at : (script : List (List Line)) (n : ℕ) (lines : List Line) → AllByRecursion AreLines script → n < length script → lines ≡ get_or script n lines → AreLines lines
lines_at [] n lines all there is = absurd (omega (arith, there))
lines_at (x ∷ xs) zero lines all there is = subst AreLines (sym is) all.0
lines_at (x ∷ xs) (suc n) lines all there is = lines_at xs n lines all.1 (omega (arith, there)) is

lines_are : (script : List (List Line)) (n : ℕ) (lines : List Line) → n < length script → lines ≡ get_or script n lines → lines ≡ lines_of script n
lines_are [] n lines there is = absurd (omega (arith, there))
lines_are (x ∷ xs) zero lines there is = is
lines_are (x ∷ xs) (suc n) lines there is = lines_are xs n lines (omega (arith, there)) is

-- the core of a number has the lines of that number
pub is_at_start : (image : Image) (script : List (List Line)) (m n : ℕ) (lines : List Line) (k : Progress) → m ≡ n → n < length script → lines ≡ get_or script n lines
    → k.own.number ≡ m → Follows k (core_behaviour image m lines) [] → IsAtStart image script n k
is_at_start image script m n lines k e there is number f = record {
  number = number ∙ e;
  follows = subst (λ l. Follows k (core_behaviour image n l) []) (lines_are script n lines there is) (subst (λ i. Follows k (core_behaviour image i lines) []) e f);
}

pub one_more : (image : Image) (script : List (List Line)) (number : ℕ) (ks : List Progress) (k : Progress) → AreAtStart image script number ks
    → IsAtStart image script (number + length ks) k → AreAtStart image script number (ks ++ k ∷ [])
one_more image script number [] k made is =
    let e : number + 0 ≡ number = omega arith in
    (subst (λ n. IsAtStart image script n k) e is, tt)
one_more image script number (x ∷ ks) k made is =
    let e : number + length (x ∷ ks) ≡ number + 1 + length ks = omega arith in
    (made.0, one_more image script (number + 1) ks k made.1 (subst (λ n. IsAtStart image script n k) e is))
