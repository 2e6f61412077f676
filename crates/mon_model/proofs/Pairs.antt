-- Two states that agree on the objects that a call tries.
use Rattle.std.proofs.Common.{◌≡◌, ℕ, zero, suc, List, [], ◌∷◌, length, get_or, set, refl, ◌∙◌, ap, sym, arith}
use Rattle.std.proofs.lemmas.List.{length-set}
use Rattle.mon_types.specs.Enclaves.{empty_enclave}
use Rattle.mon_types.specs.Threads.{empty_thread}
use Rattle.mon_types.specs.declared.region.Region.{Region}
use Rattle.mon_types.specs.declared.region.Region.TheVariants as regions
use Rattle.mon_types.specs.declared.enclave.Enclave.{Enclave}
use Rattle.mon_types.specs.declared.enclave.Loaded.{Loaded}
use Rattle.mon_types.specs.declared.thread.Thread.{Thread}
use Rattle.mon_types.specs.declared.thread.Mode.{Mode}
use Rattle.mon_types.specs.declared.thread.Mode.TheVariants as modes
use Rattle.mon_types.specs.declared.object.ObjectId.{ObjectId}
use Rattle.mon_types.specs.declared.object.ObjectId.TheVariants as objects
use Rattle.mon_model.specs.State.{State, IsWhole, with_region, with_enclave, with_thread, with_flushed, with_mode, with_slot}
use Rattle.mon_model.specs.Laws.{AgreeOn}
use Rattle.mon_model.proofs.Members.{IsIn}

-- ---- tables, and what is written into both

-- ys is as long as xs, and has the same at these numbers
pub record Like {X : Type 0} (At : ℕ → Type 0) (d : X) (xs ys : List X) : Type 0 where
  pub long : length ys ≡ length xs
  pub same : (j : ℕ) → At j → get_or ys j d ≡ get_or xs j d

set_same : {X : Type 0} (xs ys : List X) (i j : ℕ) (x d : X) → length ys ≡ length xs → get_or ys j d ≡ get_or xs j d → get_or (set ys i x) j d ≡ get_or (set xs i x) j d
set_same [] [] i j x d l e = refl
set_same [] (b ∷ ys) i j x d l e = absurd (omega arith)
set_same (a ∷ xs) [] i j x d l e = absurd (omega arith)
set_same (a ∷ xs) (b ∷ ys) zero zero x d l e = refl
set_same (a ∷ xs) (b ∷ ys) zero (suc j) x d l e = e
set_same (a ∷ xs) (b ∷ ys) (suc i) zero x d l e = e
set_same (a ∷ xs) (b ∷ ys) (suc i) (suc j) x d l e = set_same xs ys i j x d (omega arith) e

like_set : {X : Type 0} (At : ℕ → Type 0) (d : X) (xs ys : List X) (i : ℕ) (x y : X) → Like At d xs ys → y ≡ x → Like At d (set xs i x) (set ys i y)
like_set At d xs ys i x y h e = rw e (record {
  long = length-set ys i x ∙ h.long ∙ sym (length-set xs i x);
  same = λ j a. set_same xs ys i j x d h.long (h.same j a);
})

-- two states of a machine that are alike where these objects are
pub record Pair (s t : State) (core : ℕ) (tried : List ObjectId) : Type 0 where
  pub shape : t.shape ≡ s.shape
  pub cores : length s.flushed ≡ s.shape.cores
  pub regions : Like (λ r. IsIn tried (objects.Region r)) regions.Free s.regions t.regions
  pub enclaves : Like (λ e. IsIn tried (objects.Enclave e)) empty_enclave s.enclaves t.enclaves
  pub threads : Like (λ h. IsIn tried (objects.Thread h)) empty_thread s.threads t.threads
  pub flushed : Like (λ c. IsIn tried (objects.Cell c)) 0 s.flushed t.flushed
  pub modes : Like (λ c. c ≡ core) modes.Os s.modes t.modes
  pub loaded : Like (λ e. IsIn tried (objects.Enclave e)) [] s.loaded t.loaded

pub pair : (s t : State) (core : ℕ) (tried : List ObjectId) → IsWhole s → IsWhole t → AgreeOn s t core tried → Pair s t core tried
pair s t core tried a b h =
    let regions_long : length t.regions ≡ length s.regions = b.regions ∙ ap (λ m. m.regions) h.shape ∙ sym a.regions in
    let flushed_long : length t.flushed ≡ length s.flushed = b.flushed ∙ ap (λ m. m.cores) h.shape ∙ sym a.flushed in
    let modes_long : length t.modes ≡ length s.modes = b.modes ∙ ap (λ m. m.cores) h.shape ∙ sym a.modes in
    record {
      shape = h.shape;
      cores = a.flushed;
      regions = record { long = regions_long; same = λ j m. h.region j m.place };
      enclaves = record { long = b.enclaves ∙ sym a.enclaves; same = λ j m. h.enclave j m.place };
      threads = record { long = b.threads ∙ sym a.threads; same = λ j m. h.thread j m.place };
      flushed = record { long = flushed_long; same = λ j m. h.cell j m.place };
      modes = record { long = modes_long; same = λ j e. rw e h.mode };
      loaded = record { long = b.loaded ∙ sym a.loaded; same = λ j m. h.items j m.place };
    }

pub agree : (s t : State) (core : ℕ) (tried : List ObjectId) → Pair s t core tried → AgreeOn s t core tried
agree s t core tried p = record {
  shape = p.shape;
  region = λ j m. p.regions.same j (record { place = m });
  enclave = λ j m. p.enclaves.same j (record { place = m });
  items = λ j m. p.loaded.same j (record { place = m });
  thread = λ j m. p.threads.same j (record { place = m });
  cell = λ j m. p.flushed.same j (record { place = m });
  mode = p.modes.same core refl;
}

pub with_regions : (s t : State) (core : ℕ) (tried : List ObjectId) (r : ℕ) (x y : Region) → Pair s t core tried → y ≡ x → Pair (with_region s r x) (with_region t r y) core tried
with_regions s t core tried r x y p g = record {
  shape = p.shape;
  cores = p.cores;
  regions = like_set _ _ _ _ r _ _ p.regions g;
  enclaves = p.enclaves;
  threads = p.threads;
  flushed = p.flushed;
  modes = p.modes;
  loaded = p.loaded;
}

pub with_enclaves : (s t : State) (core : ℕ) (tried : List ObjectId) (e : ℕ) (x y : Enclave) → Pair s t core tried → y ≡ x → Pair (with_enclave s e x) (with_enclave t e y) core tried
with_enclaves s t core tried e x y p g = record {
  shape = p.shape;
  cores = p.cores;
  regions = p.regions;
  enclaves = like_set _ _ _ _ e _ _ p.enclaves g;
  threads = p.threads;
  flushed = p.flushed;
  modes = p.modes;
  loaded = p.loaded;
}

pub with_slots : (s t : State) (core : ℕ) (tried : List ObjectId) (e : ℕ) (x y : Enclave) (xs ys : List Loaded) → Pair s t core tried → y ≡ x → ys ≡ xs → Pair (with_slot s e x xs) (with_slot t e y ys) core tried
with_slots s t core tried e x y xs ys p g h = record {
  shape = p.shape;
  cores = p.cores;
  regions = p.regions;
  enclaves = like_set _ _ _ _ e _ _ p.enclaves g;
  threads = p.threads;
  flushed = p.flushed;
  modes = p.modes;
  loaded = like_set _ _ _ _ e _ _ p.loaded h;
}

pub with_threads : (s t : State) (core : ℕ) (tried : List ObjectId) (i : ℕ) (x y : Thread) → Pair s t core tried → y ≡ x → Pair (with_thread s i x) (with_thread t i y) core tried
with_threads s t core tried i x y p g = record {
  shape = p.shape;
  cores = p.cores;
  regions = p.regions;
  enclaves = p.enclaves;
  threads = like_set _ _ _ _ i _ _ p.threads g;
  flushed = p.flushed;
  modes = p.modes;
  loaded = p.loaded;
}

pub with_cells : (s t : State) (core : ℕ) (tried : List ObjectId) (c k : ℕ) → Pair s t core tried → Pair (with_flushed s c k) (with_flushed t c k) core tried
with_cells s t core tried c k p = record {
  shape = p.shape;
  cores = length-set s.flushed c k ∙ p.cores;
  regions = p.regions;
  enclaves = p.enclaves;
  threads = p.threads;
  flushed = like_set _ _ _ _ c _ _ p.flushed refl;
  modes = p.modes;
  loaded = p.loaded;
}

pub with_modes : (s t : State) (core : ℕ) (tried : List ObjectId) (x : Mode) → Pair s t core tried → Pair (with_mode s core x) (with_mode t core x) core tried
with_modes s t core tried x p = record {
  shape = p.shape;
  cores = p.cores;
  regions = p.regions;
  enclaves = p.enclaves;
  threads = p.threads;
  flushed = p.flushed;
  modes = like_set _ _ _ _ core _ _ p.modes refl;
  loaded = p.loaded;
}
