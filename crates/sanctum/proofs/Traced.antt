-- From the answers of the reader of traces to those of the program.
use Rattle.std.proofs.Common.{◌≡◌, ℕ, List, Option, Some, None, Result, Ok, Err, refl}
use Rattle.std.specs.Prelude.{IfSome}
use Rattle.sm_ports.specs.declared.failed.Failed.{Failed}
use Rattle.reader_answers.specs.declared.errors.FileError.{FileError}
use Rattle.reader_answers.specs.declared.errors.FileError.TheVariants as errors
use Rattle.reader_answers.specs.Answers.{FileOnly, FileExact}
use Rattle.llc.specs.Grammar.{IsTrace}
use Rattle.llc.specs.Reading.{trace_of}
use Rattle.llc.specs.declared.fault.TraceFault.{TraceFault}
use Rattle.llc.specs.declared.trace.Trace.{Trace}
use Rattle.sanctum.specs.Commands.{Llc}
use Rattle.sanctum.specs.Sources.{Files}
use Rattle.sanctum.specs.Traces.{HasFirstTraceFault}
use Rattle.sanctum.specs.Refused.{refused_trace}
use Rattle.sanctum.specs.Causes.{IsReason}
use Rattle.sanctum.proofs.Told.{one_of}

-- results of reading
abbrev no_trace : FileError TraceFault → Result Trace (FileError TraceFault)
no_trace error = Err error

abbrev faulty : TraceFault → Result Trace TraceFault
faulty fault = Err fault

abbrev good : Trace → Result Trace TraceFault
good trace = Ok trace

not_both : (trace : Trace) (fault : TraceFault) → good trace ≡ faulty fault → ⊥
not_both trace fault e = cc

first_fault : (told : Option (List ℕ)) (fault : TraceFault) → FileOnly IsTrace (λ t. t) told (no_trace (errors.Fault fault)) → FileExact trace_of (λ t. t) told (no_trace (errors.Fault fault)) → IfSome told (λ bytes. HasFirstTraceFault bytes fault)
first_fault None fault only exact = tt
first_fault (Some bytes) fault only exact = record { first = exact; outside = λ trace is. not_both trace fault (only trace is) }

-- a trace that was not read is a reason
pub llc_refused : (files : Files) (rose : List ℕ → Type 0) (name : List ℕ) (error : FileError TraceFault) → FileOnly IsTrace (λ t. t) (files name) (no_trace error) → FileExact trace_of (λ t. t) (files name) (no_trace error)
    → ((failed : Failed) → no_trace error ≡ no_trace (errors.Read failed) → rose name) → IsReason (Llc name) files rose (refused_trace error)
llc_refused files rose name (errors.Fault fault) only exact on_read = first_fault (files name) fault only exact
llc_refused files rose name (errors.Read failed) only exact on_read = one_of rose name (on_read failed refl)
llc_refused files rose name errors.Memory only exact on_read = tt
