-- A machine before its first step.
use Rattle.std.proofs.Common.{◌≡◌, ◌∙◌, ◌+◌, ℕ, zero, suc, false, true, Some, List, [], ◌∷◌, ◌++◌, length, map, ap, sym, refl, subst, arith}
use Rattle.std.specs.List.{slice_get, range_with_len}
use Rattle.std.proofs.lemmas.List.{length-map}
use Rattle.std.proofs.lemmas.List.FromFn.{length-map-range_with_len}
use Rattle.mon_types.specs.Shape.{Shape}
use Rattle.mon_types.specs.declared.image.Image.{Image}
use Rattle.mon_types.specs.declared.script.Line.{Line}
use Rattle.dram_map.specs.Addresses.{word_total, word_start}
use Rattle.image_memory.specs.StartMemory.{word_among, start_memory}
use Rattle.protocol.specs.Places.{first_memory}
use Rattle.protocol.specs.Views.{core_log, answers_of}
use Rattle.protocol.specs.Runs.{moves_of, memory_after}
use Rattle.core_behaviour.specs.Runs.{start_words}
use Rattle.core_machine.specs.declared.progress.Progress.{Progress}
use Rattle.core_machine.specs.declared.start.Machine.{Machine}
use Rattle.core_machine.specs.Start.{IsAtStart, AreAtStart}
use Rattle.word_list.specs.Listed.{Listed, StandsFor}
use Rattle.lab.specs.declared.lab_core.LabCore.{LabCore}
use Rattle.lab.specs.declared.bench.Bench.{Bench}
use Rattle.lab.specs.declared.room.Room.{Room}
use Rattle.lab.specs.Fresh.{new_core}
use Rattle.lab.specs.Cores.{CoreStands}
use Rattle.lab.specs.Stands.{HasRoom, Stands, IsMade}

pub start_length : (image : Image) → length (start_words image) ≡ word_total image.config
unfolding start_memory
start_length image = length-map-range_with_len (λ i. word_among image.segments (word_start i) 0) 0 (word_total image.config)

new_stands : (image : Image) (script : List (List Line)) (core : ℕ) (m : Progress) → IsAtStart image script core m → CoreStands image script core [] (new_core m)
unfolding core_log answers_of
new_stands image script core m h = record {
  number = h.number;
  follows = h.follows;
  log = refl;
  room = refl;
  answers = refl;
  ended = λ t. absurd (let e : false ≡ true = t in cc);
}

new_cores : (image : Image) (script : List (List Line)) (first : ℕ) (ms : List Progress) → AreAtStart image script first ms → (core : ℕ) (k : LabCore) → slice_get (map new_core ms) core ≡ Some k → CoreStands image script (first + core) [] k
new_cores image script first [] h core k e = absurd (cc)
new_cores image script first (m ∷ ms) h zero k e =
    let same : new_core m ≡ k = cc in
    subst (CoreStands image script (first + 0) []) same (subst (λ n. CoreStands image script n [] (new_core m)) (let e : first ≡ first + 0 = omega arith in e) (new_stands image script first m h.0))
new_cores image script first (m ∷ ms) h (suc core) k e =
    subst (λ n. CoreStands image script n [] k) (let e : first + 1 + core ≡ first + suc core = omega arith in e) (new_cores image script (first + 1) ms h.1 core k e)

pub stands_at_start : (image : Image) (script : List (List Line)) (m : Machine) (b : Bench) → IsMade image script m → b.config ≡ m.config → b.words.shape ≡ m.config → StandsFor b.words (first_memory m.config m.dram)
    → b.cores.items ≡ map new_core m.cores → HasRoom (length m.cores) b.room → Stands image script [] b
unfolding memory_after moves_of
stands_at_start image script m b made config shape words cores room = record {
  config = config ∙ made.config;
  made = record { said = made.said; given = tt; lines = λ core lt. tt };
  words = record {
    shape = shape ∙ made.config;
    holds = subst (λ d. StandsFor b.words (first_memory image.config d)) made.dram (subst (λ c. StandsFor b.words (first_memory c m.dram)) made.config words);
  };
  count = ap length cores ∙ length-map m.cores new_core ∙ made.count;
  each = λ core k e.
      subst (λ n. CoreStands image script n [] k) (let e : 0 + core ≡ core = omega arith in e)
      (new_cores image script 0 m.cores made.cores core k (subst (λ z. slice_get z core ≡ Some k) cores e));
  room = subst (λ n. HasRoom n b.room) made.count room;
}

-- the same of whatever image and script it is made
pub all_at_start : (m : Machine) (b : Bench) → b.config ≡ m.config → b.words.shape ≡ m.config → StandsFor b.words (first_memory m.config m.dram) → b.cores.items ≡ map new_core m.cores → HasRoom (length m.cores) b.room
    → (image : Image) (script : List (List Line)) → IsMade image script m → Stands image script [] b
all_at_start m b config shape words cores room = λ image script made. stands_at_start image script m b made config shape words cores room

-- one core more is made
pub map_one : (ms : List Progress) (m : Progress) → map new_core (ms ++ m ∷ []) ≡ map new_core ms ++ new_core m ∷ []
map_one [] m = refl
map_one (x ∷ ms) m = ap (λ (ks : List LabCore). new_core x ∷ ks) (map_one ms m)

pub map_same : (ms : List Progress) → map (λ m. m) ms ≡ ms
map_same [] = refl
map_same (m ∷ ms) = ap (λ (xs : List Progress). m ∷ xs) (map_same ms)

-- words stand for the same DRAM
pub same_words : (words : Listed) (shape : Shape) (d e : List ℕ) → d ≡ e → StandsFor words (first_memory shape d) → StandsFor words (first_memory shape e)
same_words words shape d e is s = subst (λ z. StandsFor words (first_memory shape z)) is s

-- room for as many
pub same_room : (n m : ℕ) (room : Room) → n ≡ m → HasRoom n room → HasRoom m room
same_room n m room is h = subst (λ k. HasRoom k room) is h
