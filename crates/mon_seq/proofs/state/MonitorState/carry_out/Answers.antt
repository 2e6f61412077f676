use Rattle.std.proofs.Common.{◌≡◌, sym, ap, ◌∙◌, subst, slice_set}
use Rattle.mon_types.specs.Shape.{Shape}
use Rattle.mon_model.specs.State.{State, mode_of}
use Rattle.mon_model.specs.InRange.{IsInRange}
use Rattle.mon_model.proofs.InRange.{in_range}
use Rattle.mon_model.specs.OnCore.{mode_by}
use Rattle.mon_model.specs.Step.{after}
use Rattle.mon_model.specs.Tries.{tries}
use Rattle.mon_model.proofs.Carried.{Carried, carried}
use Rattle.lock_plan.specs.Records.{records_of}
use Rattle.mon_seq.specs.Put.{with_held, loaded_after, HasRoomFor}
use Rattle.mon_seq.proofs.Gathered.{caller}
use Rattle.mon_seq.proofs.Put.{item_room, room_held, put_all_back}
use Rattle.mon_seq.proofs.state.MonitorState.carry_out.Goals as goal

pub change_items-requires-clause-arguments : goal.change_items-requires-clause-arguments
change_items-requires-clause-arguments c =
    let s : State = c.args.self.now in
    let ok : Carried s c.args.core c.args.call.now = carried s c.args.core c.args.call.now c.requires.done in
    subst (λ (x : State). IsInRange x.shape c.args.call.now) (sym c.put_back.ensures) (in_range s.shape c.args.call.now ok.value)

pub change_items-requires-clause-room : goal.change_items-requires-clause-room
change_items-requires-clause-room c =
    let s : State = c.args.self.now in
    let ok : Carried s c.args.core c.args.call.now = carried s c.args.core c.args.call.now c.requires.done in
    subst (λ (x : State). HasRoomFor x c.args.call.now) (sym c.put_back.ensures)
    (room_held s c.apply.new.held c.args.call.now (item_room s c.args.core c.args.call.now c.requires.tables (in_range s.shape c.args.call.now ok.value) ok.held))

pub change_mode-requires-clause-arguments : goal.change_mode-requires-clause-arguments
change_mode-requires-clause-arguments c =
    let s : State = c.args.self.now in
    let ok : Carried s c.args.core c.args.call.now = carried s c.args.core c.args.call.now c.requires.done in
    let shape : c.change_items.new.self.shape ≡ s.shape = ap (λ (x : State). x.shape) c.change_items.ensures ∙ ap (λ (x : State). x.shape) c.put_back.ensures in
    subst (λ (m : Shape). IsInRange m c.args.call.now) (sym shape) (in_range s.shape c.args.call.now ok.value)

pub returns : goal.returns
returns c =
    let s : State = c.args.self.now in
    let call = c.args.call.now in
    let core = c.args.core in
    let t : State = after s core call c.args.digest.now c.args.ticket in
    let left : c.apply.new.held ≡ records_of t (tries s core call) =
    c.apply.ensures.in_states s
    (record { whole = c.requires.tables.whole; machine = sym (ap (λ (x : State). x.shape) c.self.view_is); caller = sym c.mode-mode.ensures; records = c.requires.held })
    (caller s core c.requires.tables c.requires.core) c.requires.done in
    c.change_mode.ensures
    ∙ ap (λ (x : State). record x { modes = slice_set x.modes core (mode_by call (mode_of x core)) })
    (c.change_items.ensures ∙ ap (λ (x : State). record x { loaded = loaded_after call x.loaded }) (c.put_back.ensures ∙ ap (with_held s) left))
    ∙ put_all_back s core call c.args.digest.now c.args.ticket c.requires.tables.whole c.requires.done
