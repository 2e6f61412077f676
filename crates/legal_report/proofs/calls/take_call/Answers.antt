use Rattle.std.proofs.Common.{◌≡◌, ℕ, ◌<◌, true, false, take, ap, sym, subst, refl, ◌∙◌, rules, arith}
use Rattle.mon_types.specs.Shape.{Shape}
use Rattle.mon_types.specs.Replies.{is_concurrent}
use Rattle.mon_model.specs.State.{State}
use Rattle.mon_seq.specs.Sequential.{Sequential}
use Rattle.legal_report.specs.Kept.{calls_told}
use Rattle.legal_report.proofs.Named.{of_shape}
use Rattle.legal_report.proofs.Decided.{met_decided, made_decided, met_leaves, made_leaves, met_none}
use Rattle.legal_report.proofs.calls.take_call.Goals as goal

pub make-requires : goal.make-requires
make-requires c =
    let config = c.args.calls.now.config.now in record {
      core =
          subst (λ (n : ℕ). c.at-entry.result.core < n)
          (sym (ap (λ (m : Sequential). m.state.shape.cores) c.requires.state ∙ ap (λ (x : Shape). x.cores) (of_shape config (take c.args.k (calls_told c.args.calls.now))))) c.at-entry.ensures.fits.core;
      ticket = omega (arith, c.requires.k, c.requires.laid.count, c.requires.laid.size, ap (λ (m : Sequential). m.ticket) c.requires.state);
    }

pub returns-in-ConcurrentCall-clause-right : goal.returns-in-ConcurrentCall-clause-right
returns-in-ConcurrentCall-clause-right c =
    let number = c.is_numbered.ensures.0 c.if-not-is_numbered.false in record {
      entry = c.at-entry.result;
      there = c.at-entry.ensures.call;
      decided =
          met_decided c.args.calls.now.config.now (calls_told c.args.calls.now) c.args.k c.at-entry.result c.at-entry.ensures.call number.0 number.1 c.at-entry.ensures.fits
          c.in-ConcurrentCall.lock c.in-ConcurrentCall.holder c.in-ConcurrentCall.serial c.met_held_lock-right.result c.in-ConcurrentCall.is c.met_held_lock-right.ensures;
    }

pub returns-in-ConcurrentCall-clause-after : goal.returns-in-ConcurrentCall-clause-after
returns-in-ConcurrentCall-clause-after c = λ yes.
    met_leaves c.args.calls.now.config.now (calls_told c.args.calls.now) c.args.k c.at-entry.result c.at-entry.ensures.call c.args.monitor.now c.skip.new.self c.requires.state c.skip.ensures (ap is_concurrent c.in-ConcurrentCall.is)

pub returns-in_default : goal.returns-in_default
returns-in_default c =
    let number = c.is_numbered.ensures.0 c.if-not-is_numbered.false in
    let none = met_none c.at-entry.result.reply c.in_default.not-ConcurrentCall in record {
      right = record {
        entry = c.at-entry.result;
        there = c.at-entry.ensures.call;
        decided =
            made_decided c.args.calls.now.config.now (calls_told c.args.calls.now) c.args.k c.at-entry.result c.at-entry.ensures.call number.0 number.1 c.at-entry.ensures.fits
            c.args.monitor.now.state c.make.result (ap (λ (m : Sequential). m.state) c.requires.state) none c.make.ensures.right;
      };
      after = λ yes.
          made_leaves c.args.calls.now.config.now (calls_told c.args.calls.now) c.args.k c.at-entry.result c.at-entry.ensures.call c.args.monitor.now c.make.new.monitor c.requires.state c.make.ensures.after none;
    }
