-- What a call that loads nothing leaves of a loading enclave: its root, its next page and its items, and no region that
-- was not its own or idle; or an enclave that was just created.
use Rattle.std.proofs.Common.{◌≡◌, ◌⊎◌, inl, inr, ◌∙◌, ◌<◌, ℕ, Bool, true, false, cond, eqb, Some, None, List, [], ◌∷◌, length, ap, sym, refl, subst, get_or, set}
use Rattle.std.proofs.lemmas.Bool.{cases_eq}
use Rattle.std.proofs.lemmas.List.{get_or-set_same, get_or-set_other}
use Rattle.mon_types.specs.Enclaves.{empty_enclave}
use Rattle.mon_types.specs.declared.enclave.Stage.{Stage}
use Rattle.mon_types.specs.declared.enclave.Stage.TheVariants as stages
use Rattle.mon_types.specs.declared.enclave.Mailbox.TheVariants as boxes
use Rattle.mon_types.specs.declared.enclave.Enclave.{Enclave}
use Rattle.mon_types.specs.declared.enclave.Loaded.{Loaded}
use Rattle.mon_types.specs.declared.thread.Mode.{Mode}
use Rattle.mon_types.specs.declared.thread.Mode.TheVariants as modes
use Rattle.mon_types.specs.declared.call.Call.{Call}
use Rattle.mon_types.specs.declared.call.Call.TheVariants as calls
use Rattle.mon_model.specs.State.{State, IsWhole, region_at, enclave_at, loaded_at, mode_of}
use Rattle.mon_types.specs.Bits.{has_bit}
use Rattle.mon_types.specs.Replies.{is_done}
use Rattle.mon_model.specs.RegionCalls.{is_loading, is_initialized, assign_reply, with_assigned, gains_region, loses_region}
use Rattle.mon_model.specs.EnclaveCalls.{created, initialized}
use Rattle.mon_model.specs.ThreadCalls.{with_thread_loaded, without_thread}
use Rattle.mon_model.specs.MailCalls.{with_mailbox, sent}
use Rattle.mon_types.specs.Owns.{os_word}
use Rattle.mon_model.specs.InRange.{IsInRange}
use Rattle.mon_model.proofs.InRange.{in_range}
use Rattle.mon_types.specs.Modes.{own_slot}
use Rattle.mon_model.specs.EveryStep.{own_field, deleted_field}
use Rattle.mon_model.specs.Step.{reply_of, held_reply, after, effect, without_own_region, regions_of}
use Rattle.mon_facts.specs.Facts.{FactsHold}
use Rattle.mon_model.proofs.Bits.{none-has, with-keeps}
use Rattle.mon_model.proofs.Carried.{carried}
use Rattle.mon_model.specs.RegionStep.{is_idle}
use Rattle.mon_model.proofs.Writes.{at_set}
use Rattle.loaded_pages.proofs.Idle.{gained, assign_idle, accept_idle}

-- the calls that load nothing
abbrev pub LoadsNothing : Call → Type 0
LoadsNothing (calls.LoadTable e va level page) = ⊥
LoadsNothing (calls.LoadPage e va page src perms) = ⊥
LoadsNothing (calls.Reserve e va page perms) = ⊥
LoadsNothing _ = Unit {0}

-- the enclave x with its items xs, and later y with ys
pub record Stays (s : State) (x y : Enclave) (xs ys : List Loaded) : Type 0 where
  pub loading : is_loading x.stage ≡ true
  pub root : y.root ≡ x.root
  pub next : y.next_page ≡ x.next_page
  pub items : ys ≡ xs
  pub regions : (r : ℕ) → has_bit y.regions r ≡ true → (has_bit x.regions r ≡ true) ⊎ (is_idle (region_at s r) ≡ true)
  pub keeps : (r : ℕ) → has_bit x.regions r ≡ true → has_bit y.regions r ≡ true

pub record Begins (y : Enclave) (ys : List Loaded) : Type 0 where
  pub root : y.root ≡ None
  pub items : ys ≡ []
  pub regions : (r : ℕ) → has_bit y.regions r ≡ false

pub record Later (s t : State) (e : ℕ) : Type 0 where
  pub is : Stays s (enclave_at s e) (enclave_at t e) (loaded_at s e) (loaded_at t e) ⊎ Begins (enclave_at t e) (loaded_at t e)

pub same_enclave : (s : State) (x : Enclave) (xs : List Loaded) → is_loading x.stage ≡ true → Stays s x x xs xs
same_enclave s x xs l = record { loading = l; root = refl; next = refl; items = refl; regions = λ r h. inl h; keeps = λ r h. h }

-- tables of enclaves and items that are what they were
same_later : (s t : State) (e : ℕ) → t.enclaves ≡ s.enclaves → t.loaded ≡ s.loaded → is_loading (enclave_at t e).stage ≡ true → Later s t e
same_later s t e f g l =
    let x : enclave_at t e ≡ enclave_at s e = ap (λ z. get_or z e empty_enclave) f in
    let xs : loaded_at t e ≡ loaded_at s e = ap (λ z. get_or z e []) g in
    record { is = inl (subst (λ z. Stays s (enclave_at s e) z (loaded_at s e) (loaded_at t e)) (sym x) (subst (λ z. Stays s (enclave_at s e) (enclave_at s e) (loaded_at s e) z) (sym xs) (same_enclave s (enclave_at s e) (loaded_at s e) (ap (λ z. is_loading z.stage) (sym x) ∙ l)))) }

-- one record set, where it is loading, it stays
set_later : (s t : State) (i e : ℕ) (y : Enclave) → t.enclaves ≡ set s.enclaves i y → t.loaded ≡ s.loaded → (is_loading y.stage ≡ true → Stays s (enclave_at s i) y (loaded_at s i) (loaded_at s i)) → is_loading (enclave_at t e).stage ≡ true → Later s t e
set_later s t i e y f g h l =
    let xs : loaded_at t e ≡ loaded_at s e = ap (λ z. get_or z e []) g in
    elim (at_set s.enclaves i e y empty_enclave) [
      | inl k ↦ let now : enclave_at t e ≡ y = ap (λ z. get_or z e empty_enclave) f ∙ k.1 in
          record {
            is = inl (subst (λ z. Stays s (enclave_at s e) z (loaded_at s e) (loaded_at t e)) (sym now) (subst (λ z. Stays s (enclave_at s e) y (loaded_at s e) z) (sym xs)
                (subst (λ z. Stays s (enclave_at s z) y (loaded_at s z) (loaded_at s z)) (sym k.0) (h (ap (λ z. is_loading z.stage) (sym now) ∙ l)))));
          }
      | inr k ↦ let now : enclave_at t e ≡ enclave_at s e = ap (λ z. get_or z e empty_enclave) f ∙ k in
          record { is = inl (subst (λ z. Stays s (enclave_at s e) z (loaded_at s e) (loaded_at t e)) (sym now) (subst (λ z. Stays s (enclave_at s e) (enclave_at s e) (loaded_at s e) z) (sym xs) (same_enclave s (enclave_at s e) (loaded_at s e) (ap (λ z. is_loading z.stage) (sym now) ∙ l)))) }
    ]

same_parts : (s : State) (x y : Enclave) (xs : List Loaded) → y.stage ≡ x.stage → y.root ≡ x.root → y.next_page ≡ x.next_page → y.regions ≡ x.regions → is_loading y.stage ≡ true → Stays s x y xs xs
same_parts s x y xs a b c d l = record { loading = ap is_loading (sym a) ∙ l; root = b; next = c; items = refl; regions = λ r h. inl (ap (λ z. has_bit z r) (sym d) ∙ h); keeps = λ r h. ap (λ z. has_bit z r) d ∙ h }

-- a core that is inside an enclave is inside one that has begun
own_later : (s t : State) (mode : Mode) (q e : ℕ) → t.enclaves ≡ (without_own_region s mode q).enclaves → t.loaded ≡ s.loaded → ((i h : ℕ) → mode ≡ modes.Inside i h → is_initialized (enclave_at s i).stage ≡ true) → is_loading (enclave_at t e).stage ≡ true → Later s t e
own_later s t modes.Os q e f g started l = same_later s t e f g l
own_later s t (modes.Inside i h) q e f g started l =
    set_later s t i e (loses_region (enclave_at s i) q) f g (λ k. absurd (clash (started i h refl) k)) l
  where
    clash : is_initialized (enclave_at s i).stage ≡ true → is_loading (enclave_at s i).stage ≡ true → ⊥
    clash a b = both (enclave_at s i).stage a b
      where
        both : (st : Stage) → is_initialized st ≡ true → is_loading st ≡ true → ⊥
        both stages.Empty a b = cc
        both stages.Loading a b = cc
        both stages.Initialized a b = cc

gains_stays : (s : State) (x : Enclave) (xs : List Loaded) (q : ℕ) → is_idle (region_at s q) ≡ true → is_loading x.stage ≡ true → Stays s x (gains_region x q) xs xs
gains_stays s x xs q free l = record {
  loading = l;
  root = refl;
  next = refl;
  items = refl;
  regions = λ r h. elim (gained x.regions q r h) [
    | inl e ↦ inr (ap (λ z. is_idle (region_at s z)) e ∙ free)
    | inr g ↦ inl g
  ];
  keeps = λ r h. with-keeps x.regions q r h;
}

assigned_stays : (b : Bool) (s : State) (x : Enclave) (xs : List Loaded) (q : ℕ) → is_idle (region_at s q) ≡ true → is_loading (cond b x (gains_region x q)).stage ≡ true → Stays s x (cond b x (gains_region x q)) xs xs
assigned_stays true s x xs q free l = same_enclave s x xs l
assigned_stays false s x xs q free l = gains_stays s x xs q free l

assign_later : (b : Bool) (s u t : State) (q to e : ℕ) → u.enclaves ≡ s.enclaves → u.loaded ≡ s.loaded → t.enclaves ≡ set s.enclaves to (with_assigned (enclave_at s to) q) → t.loaded ≡ s.loaded →
    is_done (assign_reply (cond b None (Some (enclave_at s to))) (region_at s q)) ≡ true → is_loading (enclave_at (cond b u t) e).stage ≡ true → Later s (cond b u t) e
assign_later true s u t q to e f g h k d l = same_later s u e f g l
assign_later false s u t q to e f g h k d l =
    set_later s t to e (with_assigned (enclave_at s to) q) h k (assigned_stays (is_initialized (enclave_at s to).stage) s (enclave_at s to) (loaded_at s to) q (assign_idle (enclave_at s to) (region_at s q) d)) l

-- a slot that is set with no items
slot_later : (s t : State) (i e : ℕ) (y : Enclave) → i < length s.enclaves → i < length s.loaded → t.enclaves ≡ set s.enclaves i y → t.loaded ≡ set s.loaded i [] → ((xs : List Loaded) → xs ≡ [] → is_loading y.stage ≡ true → Begins y xs) → is_loading (enclave_at t e).stage ≡ true → Later s t e
slot_later s t i e y a b f g h l = elim (cases_eq e i) [
  | inl same ↦
      let now : enclave_at t e ≡ y = ap (λ z. get_or z e empty_enclave) f ∙ ap (λ z. get_or (set s.enclaves i y) z empty_enclave) same ∙ get_or-set_same s.enclaves i y empty_enclave a in
      let none : loaded_at t e ≡ [] = ap (λ z. get_or z e []) g ∙ ap (λ z. get_or (set s.loaded i []) z []) same ∙ get_or-set_same s.loaded i [] [] b in
      record { is = inr (subst (λ z. Begins z (loaded_at t e)) (sym now) (h (loaded_at t e) none (ap (λ z. is_loading z.stage) (sym now) ∙ l))) }
  | inr ne ↦ record { is = inl (old (ap (λ z. get_or z e empty_enclave) f ∙ get_or-set_other s.enclaves i e y empty_enclave ne) (ap (λ z. get_or z e []) g ∙ get_or-set_other s.loaded i e [] [] ne)) }
]
  where
    old : enclave_at t e ≡ enclave_at s e → loaded_at t e ≡ loaded_at s e → Stays s (enclave_at s e) (enclave_at t e) (loaded_at s e) (loaded_at t e)
    old a b = subst (λ z. Stays s (enclave_at s e) z (loaded_at s e) (loaded_at t e)) (sym a) (subst (λ z. Stays s (enclave_at s e) (enclave_at s e) (loaded_at s e) z) (sym b) (same_enclave s (enclave_at s e) (loaded_at s e) (ap (λ z. is_loading z.stage) (sym a) ∙ l)))

effect_later : (s : State) (core : ℕ) (call : Call) (digest : List ℕ) (k e : ℕ) → IsWhole s → FactsHold s → IsInRange s.shape call → LoadsNothing call → is_done (held_reply s core call) ≡ true → is_loading (enclave_at (effect s core call digest k) e).stage ≡ true → Later s (effect s core call digest k) e
effect_later s core (calls.Block q) digest k e w facts a c d l = own_later s (effect s core (calls.Block q) digest k) (mode_of s core) q e refl (own_field (λ x. x.loaded) (λ t i x. refl) s (mode_of s core) q) (λ i h m. facts.initialized i h (facts.inside core i h m)) l
effect_later s core (calls.Assign q to) digest k e w facts a c d l = assign_later (eqb to os_word) s _ _ q to e refl refl refl refl d l
effect_later s core (calls.Create i base size) digest k e w facts a c d l =
    slot_later s (effect s core (calls.Create i base size) digest k) i e (created base size) (subst (λ z. i < z) (sym w.enclaves) a) (subst (λ z. i < z) (sym w.loaded) a) refl refl (λ xs none m. record { root = refl; items = none; regions = λ r. none-has r }) l
effect_later s core (calls.Delete i) digest k e w facts a c d l =
    let same_enclaves = deleted_field (λ x. x.enclaves) (λ t r x. refl) s (regions_of s i) k in
    let same_items = deleted_field (λ x. x.loaded) (λ t r x. refl) s (regions_of s i) k in
    slot_later s (effect s core (calls.Delete i) digest k) i e empty_enclave (subst (λ z. i < z) (sym w.enclaves) a) (subst (λ z. i < z) (sym w.loaded) a) (ap (λ z. set z i empty_enclave) same_enclaves) (ap (λ z. set z i []) same_items) (λ xs none m. absurd (cc)) l
effect_later s core (calls.LoadTable i va level page) digest k e w facts a c d l = absurd c
effect_later s core (calls.LoadPage i va page src perms) digest k e w facts a c d l = absurd c
effect_later s core (calls.Reserve i va page perms) digest k e w facts a c d l = absurd c
effect_later s core (calls.LoadThread i h entry sp) digest k e w facts a c d l =
    set_later s (effect s core (calls.LoadThread i h entry sp) digest k) i e (with_thread_loaded (enclave_at s i) entry sp) refl refl (same_parts s (enclave_at s i) _ (loaded_at s i) refl refl refl refl) l
effect_later s core (calls.Init i) digest k e w facts a c d l = set_later s (effect s core (calls.Init i) digest k) i e (initialized (enclave_at s i)) refl refl (λ m. absurd (cc)) l
effect_later s core (calls.DeleteThread i h) digest k e w facts a c d l =
    set_later s (effect s core (calls.DeleteThread i h) digest k) i e (without_thread (enclave_at s i)) refl refl (same_parts s (enclave_at s i) _ (loaded_at s i) refl refl refl refl) l
effect_later s core (calls.Accept m from) digest k e w facts a c d l =
    let i = own_slot (mode_of s core) in set_later s (effect s core (calls.Accept m from) digest k) i e (with_mailbox (enclave_at s i) m (boxes.Expecting from)) refl refl (same_parts s (enclave_at s i) _ (loaded_at s i) refl refl refl refl) l
effect_later s core (calls.Send to m w0 w1 w2 w3) digest k e w facts a c d l =
    set_later s (effect s core (calls.Send to m w0 w1 w2 w3) digest k) to e (with_mailbox (enclave_at s to) m (sent (own_slot (mode_of s core)) (w0 ∷ w1 ∷ w2 ∷ w3 ∷ []) (enclave_at s (own_slot (mode_of s core))).measure)) refl refl (same_parts s (enclave_at s to) _ (loaded_at s to) refl refl refl refl) l
effect_later s core (calls.Read m) digest k e w facts a c d l =
    let i = own_slot (mode_of s core) in set_later s (effect s core (calls.Read m) digest k) i e (with_mailbox (enclave_at s i) m boxes.Closed) refl refl (same_parts s (enclave_at s i) _ (loaded_at s i) refl refl refl refl) l
effect_later s core (calls.AcceptRegion q) digest k e w facts a c d l =
    let i = own_slot (mode_of s core) in set_later s (effect s core (calls.AcceptRegion q) digest k) i e (gains_region (enclave_at s i) q) refl refl (gains_stays s (enclave_at s i) (loaded_at s i) q (accept_idle i (region_at s q) d)) l
effect_later s core _ digest k e w facts a c d l = same_later s _ e refl refl l

pub after_later : (s : State) (core : ℕ) (call : Call) (digest : List ℕ) (k e : ℕ) → IsWhole s → FactsHold s → LoadsNothing call → is_loading (enclave_at (after s core call digest k) e).stage ≡ true → Later s (after s core call digest k) e
after_later s core call digest k e w facts c l = by (is_done (reply_of s core call)) refl l
  where
    by : (b : Bool) → is_done (reply_of s core call) ≡ b → is_loading (enclave_at (cond b (effect s core call digest k) s) e).stage ≡ true → Later s (cond b (effect s core call digest k) s) e
    by true d l = let h = carried s core call d in effect_later s core call digest k e w facts (in_range s.shape call h.value) c h.held l
    by false d l = same_later s s e refl refl l
