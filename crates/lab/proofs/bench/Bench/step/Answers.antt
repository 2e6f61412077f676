use Rattle.std.proofs.Common.{◌≡◌, ◌∙◌, ◌<◌, ℕ, Some, not, length, set, ap, sym, refl, subst, arith}
use Rattle.std.specs.List.{slice_get}
use Rattle.std.proofs.lemmas.Grind.{common_steps}
use Rattle.std.proofs.lemmas.Option.{gets, same_Some}
use Rattle.lab.specs.declared.lab_core.LabCore.{LabCore}
use Rattle.lab.specs.Stands.{Stands}
use Rattle.lab.specs.Cores.{makes_move}
use Rattle.lab.specs.Steps.{course_left}
use Rattle.lab.proofs.Among.{at_core, core_there, stands_stepped, goes_stepped, set_same}
use Rattle.lab.proofs.bench.Bench.step.Goals as goal

pub step-requires : goal.step-requires
step-requires c =
    let r = c.requires.reached in
    let b = c.args.self.now in
    let there : c.args.core < length b.cores.items = core_there r.image r.script r.run b c.args.core r.stands c.requires.core in
    let at : slice_get b.cores.items c.args.core ≡ Some c.index_mut-stepping.result.now = grind (arith, common_steps, gets) in
    record { image = r.image; script = r.script; run = r.run; goes = at_core r.image r.script r.run b c.args.core _ r.stands at }

pub returns-clause-goes : goal.returns-clause-goes
returns-clause-goes c =
    let r = c.requires.reached in
    let b = c.args.self.now in
    let there : c.args.core < length b.cores.items = core_there r.image r.script r.run b c.args.core r.stands c.requires.core in
    let at : slice_get b.cores.items c.args.core ≡ Some c.index_mut-stepping.result.now = grind (arith, common_steps, gets) in
    goes_stepped b _ c.args.core c.index_mut-stepping.result.now c.step.new.self at refl refl
    (ap (λ (i : ℕ). set b.cores.items i c.step.new.self) (let e : c.from.result ≡ c.args.core = omega arith in e)) c.step.ensures.takes

pub returns-clause-reached : goal.returns-clause-reached
returns-clause-reached c =
    let r = c.requires.reached in
    let b = c.args.self.now in
    let there : c.args.core < length b.cores.items = core_there r.image r.script r.run b c.args.core r.stands c.requires.core in
    let at : slice_get b.cores.items c.args.core ≡ Some c.index_mut-stepping.result.now = grind (arith, common_steps, gets) in
    record {
      image = r.image;
      script = r.script;
      run = _;
      stands = stands_stepped r.image r.script r.run b _ c.args.core c.index_mut-stepping.result.now c.step.new.self r.stands at refl refl
          (ap (λ (i : ℕ). set b.cores.items i c.step.new.self) (let e : c.from.result ≡ c.args.core = omega arith in e)) c.step.ensures.takes;
    }

pub returns-clause-answers : goal.returns-clause-answers
returns-clause-answers c = λ k is.
    let r = c.requires.reached in
    let b = c.args.self.now in
    let there : c.args.core < length b.cores.items = core_there r.image r.script r.run b c.args.core r.stands c.requires.core in
    let at : slice_get b.cores.items c.args.core ≡ Some c.index_mut-stepping.result.now = grind (arith, common_steps, gets) in
    c.step.ensures.answers ∙ ap (λ (q : LabCore). not q.ended) (same_Some _ _ (sym at ∙ is))

pub returns-clause-ends : goal.returns-clause-ends
returns-clause-ends c = λ image script run s k is.
    let b = c.args.self.now in
    let there : c.args.core < length b.cores.items = core_there image script run b c.args.core s c.requires.core in
    let at : slice_get b.cores.items c.args.core ≡ Some c.index_mut-stepping.result.now = grind (arith, common_steps, gets) in
    let e : c.from.result ≡ c.args.core = omega arith in
    let new : k ≡ c.step.new.self = same_Some _ _ (sym is ∙ ap (λ (i : ℕ). slice_get (set b.cores.items i c.step.new.self) c.args.core) e ∙ set_same b.cores.items c.args.core c.step.new.self there) in
    ap (λ (q : LabCore). q.ended) new ∙ c.step.ensures.ends image script run (at_core image script run b c.args.core _ s at)
