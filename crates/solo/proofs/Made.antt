-- What a call makes of the core, from what each part of it was made.
use Rattle.std.proofs.Common.{◌≡◌, ℕ, ◌+◌, Bool, true, false, cond, List, [], ◌∷◌, ◌++◌, length, map, Option, None, sym, ap, ◌∙◌, append_assoc, append-nil}
use Rattle.mon_types.specs.declared.call.Call.{Call}
use Rattle.mon_types.specs.declared.reply.Reply.{Reply}
use Rattle.mon_types.specs.declared.object.Tried.{Tried}
use Rattle.mon_types.specs.Replies.{is_done}
use Rattle.mon_model.specs.Step.{reply_of, effect, after}
use Rattle.mon_model.specs.Tries.{tries, tried_set}
use Rattle.hist.specs.declared.event.PageInput.{PageInput}
use Rattle.hist.specs.declared.event.Event.TheVariants as events
use Rattle.hist.specs.History.{digest_of}
use Rattle.dram_map.specs.Words.{word_at}
use Rattle.core_context.specs.declared.after.After.TheVariants as afters
use Rattle.core_context.specs.Changes.{ok_change}
use Rattle.core_context.specs.declared.origin.Origin.{Origin}
use Rattle.solo.specs.Core.{Core}
use Rattle.solo.specs.Calls.{pte_places, source_words, page_input, digest_for, stored, guest_after, called}
use Rattle.core_context.specs.Origins.{contexts_by}
use Rattle.solo.proofs.Done.{digest_is}

-- the parts of a core after a call, where the places, the page, the reply and the tried objects are these
pub record HasParts (origin : Origin) (c : Core) (call : Call) (places : List ℕ) (page : Option PageInput) (reply : Reply) (tried : Tried) (d : Core) : Type 0 where
  pub ok : is_done (reply_of c.state 0 call) ≡ true
  pub path : places ≡ pte_places c call
  pub told : page ≡ page_input c.words call (length c.answers + length places)
  pub answers_so : reply ≡ reply_of c.state 0 call
  pub objects : tried ≡ tried_set (tries c.state 0 call)
  pub state : d.state ≡ after c.state 0 call (digest_of page) (c.made + 1)
  pub made : d.made ≡ c.made + 1
  pub contexts : d.contexts ≡ contexts_by origin call (ok_change c.state 0 call) (reply_of c.state 0 call) c.contexts
  pub guest : d.guest ≡ guest_after origin call c.guest
  pub words : d.words ≡ stored c.state.shape call places c.words
  pub answers : d.answers ≡ c.answers ++ map (word_at c.words) places ++ source_words c.words call
  pub log : d.log ≡ c.log ++ events.Entry record { ticket = c.made + 1; core = 0; serial = c.made; call = call; page = page; reply = reply; tried = tried } ∷ []

pub made_so : (origin : Origin) (c : Core) (call : Call) (places : List ℕ) (page : Option PageInput) (reply : Reply) (tried : Tried) (d : Core) → HasParts origin c call places page reply tried d → d ≡ called origin c call
made_so origin c call places page reply tried d p =
    let at : ℕ = length c.answers + length places in
    let same_at : at ≡ length c.answers + length (pte_places c call) = ap (λ (l : List ℕ). length c.answers + length l) p.path in
    let state : d.state ≡ (called origin c call).state =
    p.state ∙ ap (λ (i : Option PageInput). after c.state 0 call (digest_of i) (c.made + 1)) p.told ∙ ap (λ (digest : List ℕ). after c.state 0 call digest (c.made + 1)) (digest_is c.words call at) in
    let contexts : d.contexts ≡ (called origin c call).contexts =
    p.contexts ∙ sym (ap (λ (b : Bool). contexts_by origin call (cond b (ok_change c.state 0 call) afters.Nothing) (reply_of c.state 0 call) c.contexts) p.ok) in
    let guest : d.guest ≡ (called origin c call).guest = p.guest ∙ sym (ap (λ (b : Bool). cond b (guest_after origin call c.guest) c.guest) p.ok) in
    let words : d.words ≡ (called origin c call).words =
    p.words ∙ ap (λ (l : List ℕ). stored c.state.shape call l c.words) p.path ∙ sym (ap (λ (b : Bool). cond b (stored c.state.shape call (pte_places c call) c.words) c.words) p.ok) in
    let answers : d.answers ≡ (called origin c call).answers =
    p.answers ∙ append_assoc c.answers (map (word_at c.words) places) (source_words c.words call)
    ∙ ap (λ (l : List ℕ). c.answers ++ (map (word_at c.words) l ++ source_words c.words call)) p.path
    ∙ sym (ap (λ (b : Bool). c.answers ++ (map (word_at c.words) (pte_places c call) ++ cond b (source_words c.words call) [])) p.ok) in
    let page_so : page ≡ cond (is_done (reply_of c.state 0 call)) (page_input c.words call (length c.answers + length (pte_places c call))) None =
    p.told ∙ ap (page_input c.words call) same_at ∙ sym (ap (λ (b : Bool). cond b (page_input c.words call (length c.answers + length (pte_places c call))) None) p.ok) in
    let log : d.log ≡ (called origin c call).log =
    p.log ∙ (λ i. c.log ++ events.Entry record { ticket = c.made + 1; core = 0; serial = c.made; call = call; page = page_so i; reply = p.answers_so i; tried = p.objects i } ∷ []) in
    λ i. record { state = state i; made = p.made i; contexts = contexts i; guest = guest i; words = words i; answers = answers i; log = log i }

-- the parts of a core after a call that is refused
pub record IsRefused (origin : Origin) (c : Core) (call : Call) (places : List ℕ) (page : Option PageInput) (reply : Reply) (tried : Tried) (d : Core) : Type 0 where
  pub refused : is_done (reply_of c.state 0 call) ≡ false
  pub path : places ≡ pte_places c call
  pub told : page ≡ None
  pub answers_so : reply ≡ reply_of c.state 0 call
  pub objects : tried ≡ tried_set (tries c.state 0 call)
  pub state : d.state ≡ after c.state 0 call (digest_of page) (c.made + 1)
  pub made : d.made ≡ c.made + 1
  pub contexts : d.contexts ≡ contexts_by origin call afters.Nothing (reply_of c.state 0 call) c.contexts
  pub guest : d.guest ≡ c.guest
  pub words : d.words ≡ c.words
  pub answers : d.answers ≡ c.answers ++ map (word_at c.words) places
  pub log : d.log ≡ c.log ++ events.Entry record { ticket = c.made + 1; core = 0; serial = c.made; call = call; page = page; reply = reply; tried = tried } ∷ []

pub refused_so : (origin : Origin) (c : Core) (call : Call) (places : List ℕ) (page : Option PageInput) (reply : Reply) (tried : Tried) (d : Core) → IsRefused origin c call places page reply tried d → d ≡ called origin c call
refused_so origin c call places page reply tried d p =
    let stays : (digest : List ℕ) → after c.state 0 call digest (c.made + 1) ≡ c.state = λ digest. ap (λ (b : Bool). cond b (effect c.state 0 call digest (c.made + 1)) c.state) p.refused in
    let state : d.state ≡ (called origin c call).state = p.state ∙ stays (digest_of page) ∙ sym (stays (digest_for c.words call)) in
    let contexts : d.contexts ≡ (called origin c call).contexts =
    p.contexts ∙ sym (ap (λ (b : Bool). contexts_by origin call (cond b (ok_change c.state 0 call) afters.Nothing) (reply_of c.state 0 call) c.contexts) p.refused) in
    let guest : d.guest ≡ (called origin c call).guest = p.guest ∙ sym (ap (λ (b : Bool). cond b (guest_after origin call c.guest) c.guest) p.refused) in
    let words : d.words ≡ (called origin c call).words =
    p.words ∙ sym (ap (λ (b : Bool). cond b (stored c.state.shape call (pte_places c call) c.words) c.words) p.refused) in
    let answers : d.answers ≡ (called origin c call).answers =
    p.answers ∙ ap (λ (l : List ℕ). c.answers ++ map (word_at c.words) l) p.path
    ∙ ap (λ (l : List ℕ). c.answers ++ l) (sym (append-nil (map (word_at c.words) (pte_places c call))))
    ∙ sym (ap (λ (b : Bool). c.answers ++ (map (word_at c.words) (pte_places c call) ++ cond b (source_words c.words call) [])) p.refused) in
    let page_so : page ≡ cond (is_done (reply_of c.state 0 call)) (page_input c.words call (length c.answers + length (pte_places c call))) None =
    p.told ∙ sym (ap (λ (b : Bool). cond b (page_input c.words call (length c.answers + length (pte_places c call))) None) p.refused) in
    let log : d.log ≡ (called origin c call).log =
    p.log ∙ (λ i. c.log ++ events.Entry record { ticket = c.made + 1; core = 0; serial = c.made; call = call; page = page_so i; reply = p.answers_so i; tried = p.objects i } ∷ []) in
    λ i. record { state = state i; made = p.made i; contexts = contexts i; guest = guest i; words = words i; answers = answers i; log = log i }
