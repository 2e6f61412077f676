-- The reply is decided: what the tree says of that, by what was found, is what the call goes on with.
use Rattle.std.proofs.Common.{◌≡◌, ◌∙◌, ◌+◌, ◌-◌, ℕ, true, false, Option, Some, None, List, [], ◌∷◌, ◌++◌, length, ap, sym, refl, arith}
use Rattle.std.proofs.Math.Path.{fun_ext}
use Rattle.mon_types.specs.Sizes.{page_words}
use Rattle.mon_types.specs.Replies.{is_done}
use Rattle.mon_types.specs.declared.call.Call.{Call}
use Rattle.mon_types.specs.declared.call.Call.TheVariants as calls
use Rattle.mon_model.specs.State.{enclave_at}
use Rattle.mon_model.specs.OnCore.{is_load_page}
use Rattle.mon_model.specs.Step.{reply_of}
use Rattle.sv39_pte.specs.Tables.{last_place}
use Rattle.mon_enclaves.specs.LoadReply.{is_load, slot_of, va_of, path_length, words_reply, source_of}
use Rattle.mon_records.specs.Rows.{objects_of}
use Rattle.mon_records.specs.Rebuilt.{state_of}
use Rattle.protocol.specs.CallTree.{Tree, onto, finish, early_writes, early_if, decided, decided_by, loads_if, loaded, load_if, walk_below, copy_page, copy_words, page_read, put_pte, places_of, ptes_of}
use Rattle.call_machine.specs.declared.work.Work.{Work}
use Rattle.call_machine.specs.Rest.{early_rest}
use Rattle.call_machine.specs.Meaning.{objects_in, issuer, found, known, draws, refuses, with_places, copied, copies, target_of}
use Rattle.call_machine.specs.Stands.{IsHolding, IsLocked}
use Rattle.call_machine.proofs.Found.{objects_found}
use Rattle.call_machine.proofs.EarlyWrites.{IsSame}
use Rattle.call_machine.proofs.Reading.{found_same}
use Rattle.call_machine.proofs.Draws.{finish_ok, finish_refused, early_ok, rises_is}

-- ---- ptes with their places

pub places_with : (ps xs : List ℕ) → length ps ≡ length xs → places_of (with_places ps xs) ≡ ps
unfolding with_places
places_with [] xs e = refl
places_with (p ∷ ps) [] e = absurd (omega arith)
places_with (p ∷ ps) (x ∷ xs) e = ap (λ l. p ∷ l) (places_with ps xs (omega arith))

pub ptes_with : (ps xs : List ℕ) → length ps ≡ length xs → ptes_of (with_places ps xs) ≡ xs
unfolding with_places
ptes_with [] [] e = refl
ptes_with [] (x ∷ xs) e = absurd (omega arith)
ptes_with (p ∷ ps) [] e = absurd (omega arith)
ptes_with (p ∷ ps) (x ∷ xs) e = ap (λ l. x ∷ l) (ptes_with ps xs (omega arith))

pub with_long : (ps xs : List ℕ) → length ps ≡ length xs → length (with_places ps xs) ≡ length xs
unfolding with_places
with_long [] [] e = refl
with_long [] (x ∷ xs) e = absurd (omega arith)
with_long (p ∷ ps) [] e = absurd (omega arith)
with_long (p ∷ ps) (x ∷ xs) e = omega (arith, with_long ps xs (omega arith))

pub with_last : (ps xs : List ℕ) (p x : ℕ) → length ps ≡ length xs → with_places (ps ++ p ∷ []) (xs ++ x ∷ []) ≡ with_places ps xs ++ (p, x) ∷ []
unfolding with_places
with_last [] [] p x e = refl
with_last [] (y ∷ xs) p x e = absurd (omega arith)
with_last (q ∷ ps) [] p x e = absurd (omega arith)
with_last (q ∷ ps) (y ∷ xs) p x e = ap (λ l. (q, y) ∷ l) (with_last ps xs p x (omega arith))

-- ---- decided

module _ (w : Work) (locked : IsLocked w) where
  holding : IsHolding w (known w) []
  holding = locked.locking.holding

  objs : objects_of (found w) ≡ onto (objects_in w) []
  unfolding objects_of
  objs = objects_found (objects_in w) w.stood.items []

  pub same_found : IsSame (objects_in w) (found w) w.stood.items
  same_found = found_same (known w).shape 144 (objects_in w) w.stood.items (rises_is w (known w) holding) (omega (arith, locked.locking.long))

  -- by records alone
  pub records_ok : is_load w.call ≡ false → w.reply ≡ reply_of (known w) w.core w.call → is_done w.reply ≡ true
      → decided w.config (issuer w) w.call (found w) ≡ early_rest w.call (objects_in w) w.held.regions.items w.stood.items (draws w None)
  unfolding decided decided_by early_if
  records_ok no_load reply is_ok =
      ap (λ b. decided_by b (issuer w) w.call (known w) (found w)) no_load
      ∙ ap (λ r. early_writes (early_if (is_done r) (known w) w.call) (found w) (finish (issuer w) w.call r None (objects_of (found w)) (known w))) (sym reply)
      ∙ ap (λ b. early_writes (early_if b (known w) w.call) (found w) (finish (issuer w) w.call w.reply None (objects_of (found w)) (known w))) is_ok
      ∙ early_ok w (known w) holding (found w) objs locked.tried w.stood.items is_ok same_found

  pub records_refused : is_load w.call ≡ false → w.reply ≡ reply_of (known w) w.core w.call → is_done w.reply ≡ false
      → decided w.config (issuer w) w.call (found w) ≡ refuses w
  unfolding decided decided_by early_if early_writes
  records_refused no_load reply no_ok =
      ap (λ b. decided_by b (issuer w) w.call (known w) (found w)) no_load
      ∙ ap (λ r. early_writes (early_if (is_done r) (known w) w.call) (found w) (finish (issuer w) w.call r None (objects_of (found w)) (known w))) (sym reply)
      ∙ ap (λ b. early_writes (early_if b (known w) w.call) (found w) (finish (issuer w) w.call w.reply None (objects_of (found w)) (known w))) no_ok
      ∙ finish_refused w (known w) holding (found w) objs locked.tried (found w) no_ok locked.locking.input

  -- by ptes
  pub ptes_refused : (ptes : List (ℕ × ℕ)) → w.reply ≡ words_reply (known w) w.call (ptes_of ptes) → is_done w.reply ≡ false
      → loaded (issuer w) w.call (known w) (found w) ptes ≡ refuses w
  unfolding loaded load_if
  ptes_refused ptes reply no_ok =
      ap (λ r. load_if (is_done r) (issuer w) w.call r ptes (known w) (found w)) (sym reply)
      ∙ ap (λ b. load_if b (issuer w) w.call w.reply ptes (known w) (found w)) no_ok
      ∙ finish_refused w (known w) holding (found w) objs locked.tried (found w) no_ok locked.locking.input

  put_same : (at : Option ℕ) (s t : Tree) → s ≡ t → put_pte at w.call s ≡ put_pte at w.call t
  put_same at s t e = ap (put_pte at w.call) e

  -- a page is copied
  pub page_ok : (ptes : List (ℕ × ℕ)) → w.reply ≡ words_reply (known w) w.call (ptes_of ptes) → is_done w.reply ≡ true
      → is_load_page w.call ≡ true → places_of ptes ≡ w.places.items → length ptes ≡ length w.ptes.items → w.page.items ≡ []
      → loaded (issuer w) w.call (known w) (found w) ptes ≡ copies w 0
  unfolding loaded load_if copy_page copies copied
  page_ok ptes reply is_ok load_page places many none =
      ap (λ r. load_if (is_done r) (issuer w) w.call r ptes (known w) (found w)) (sym reply)
      ∙ ap (λ b. load_if b (issuer w) w.call w.reply ptes (known w) (found w)) is_ok
      ∙ by_call w.call load_page refl
    where
      behind : (words : List ℕ) → put_pte (last_place (places_of ptes)) w.call (finish (issuer w) w.call w.reply (Some (page_read (w.answers + length ptes) words)) (objects_of (found w)) (known w) (found w)) ≡ copied w (w.page.items ++ words)
      behind words =
          ap (λ l. put_pte (last_place l) w.call (finish (issuer w) w.call w.reply (Some (page_read (w.answers + length ptes) words)) (objects_of (found w)) (known w) (found w))) places
          ∙ ap (λ n. put_pte (last_place w.places.items) w.call (finish (issuer w) w.call w.reply (Some (page_read (w.answers + n) words)) (objects_of (found w)) (known w) (found w))) many
          ∙ put_same (last_place w.places.items) _ _ (finish_ok w (known w) holding (found w) objs locked.tried (Some (page_read (w.answers + length w.ptes.items) words)) (found w) w.stood.items is_ok same_found)
          ∙ ap (λ l. copied w (l ++ words)) (sym none)

      by_call : (call : Call) → is_load_page call ≡ true → w.call ≡ call
          → copy_page call (w.answers + length ptes) (λ page. put_pte (last_place (places_of ptes)) w.call (finish (issuer w) w.call w.reply page (objects_of (found w)) (known w) (found w)))
          ≡ copy_words (page_words - 0) 0 (source_of call) (target_of call) (λ words. copied w (w.page.items ++ words))
      by_call (calls.LoadPage e va page src perms) h is = ap (copy_words page_words 0 src page) (fun_ext behind)
      by_call _ h is = absurd (cc)

  -- no page is copied
  pub pte_ok : (ptes : List (ℕ × ℕ)) → w.reply ≡ words_reply (known w) w.call (ptes_of ptes) → is_done w.reply ≡ true
      → is_load_page w.call ≡ false → places_of ptes ≡ w.places.items
      → loaded (issuer w) w.call (known w) (found w) ptes ≡ put_pte (last_place w.places.items) w.call (draws w None w.stood.items)
  unfolding loaded load_if copy_page
  pte_ok ptes reply is_ok no_page places =
      ap (λ r. load_if (is_done r) (issuer w) w.call r ptes (known w) (found w)) (sym reply)
      ∙ ap (λ b. load_if b (issuer w) w.call w.reply ptes (known w) (found w)) is_ok
      ∙ by_call w.call no_page
      ∙ ap (λ l. put_pte (last_place l) w.call (finish (issuer w) w.call w.reply None (objects_of (found w)) (known w) (found w))) places
      ∙ put_same (last_place w.places.items) _ _ (finish_ok w (known w) holding (found w) objs locked.tried None (found w) w.stood.items is_ok same_found)
    where
      by_call : (call : Call) → is_load_page call ≡ false
          → copy_page call (w.answers + length ptes) (λ page. put_pte (last_place (places_of ptes)) w.call (finish (issuer w) w.call w.reply page (objects_of (found w)) (known w) (found w)))
          ≡ put_pte (last_place (places_of ptes)) w.call (finish (issuer w) w.call w.reply None (objects_of (found w)) (known w) (found w))
      by_call (calls.LoadPage e va page src perms) h = absurd (cc)
      by_call _ h = refl

  -- a call that loads
  pub loads_ok : is_load w.call ≡ true → w.reply ≡ words_reply (known w) w.call [] → is_done w.reply ≡ true
      → decided w.config (issuer w) w.call (found w)
      ≡ walk_below w.config (va_of w.call) (path_length w.call) (enclave_at (known w) (slot_of w.call)).root (loaded (issuer w) w.call (known w) (found w))
  unfolding decided decided_by loads_if state_of
  loads_ok load reply is_ok =
      ap (λ b. decided_by b (issuer w) w.call (known w) (found w)) load
      ∙ ap (λ r. loads_if (is_done r) (issuer w) w.call (known w) (found w)) (sym reply)
      ∙ ap (λ b. loads_if b (issuer w) w.call (known w) (found w)) is_ok

  pub loads_refused : is_load w.call ≡ true → w.reply ≡ words_reply (known w) w.call [] → is_done w.reply ≡ false
      → decided w.config (issuer w) w.call (found w) ≡ refuses w
  unfolding decided decided_by loads_if
  loads_refused load reply no_ok =
      ap (λ b. decided_by b (issuer w) w.call (known w) (found w)) load
      ∙ ap (λ r. loads_if (is_done r) (issuer w) w.call (known w) (found w)) (sym reply)
      ∙ ap (λ b. loads_if b (issuer w) w.call (known w) (found w)) no_ok
      ∙ ptes_refused [] reply no_ok
