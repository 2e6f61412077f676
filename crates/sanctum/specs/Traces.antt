-- What is printed of a trace, and what is wrong with the bytes of one. This project's own.
use Rattle.std.specs.Prelude.{◌≡◌, ℕ, List, Option, Err, IfSome}
use Rattle.llc.specs.Grammar.{IsTrace}
use Rattle.llc.specs.Hits.{AreHits, hits_of}
use Rattle.llc.specs.Reading.{trace_of}
use Rattle.llc.specs.Tallies.{llc_text}
use Rattle.llc.specs.declared.fault.TraceFault.{TraceFault}
use Rattle.llc.specs.declared.trace.Trace.{Trace}

-- The text has a line for each region of the trace that the bytes are, with how many accesses and hits it has, and then
-- the last line; what is counted as hits are hits.
pub record IsCounted (told : Option (List ℕ)) (text : List ℕ) : Type 0 where
  pub trace : Trace
  pub read : IfSome told (λ bytes. IsTrace bytes trace)
  pub counted : text ≡ llc_text trace
  pub hits : AreHits trace.config trace.ways trace.addresses (hits_of trace.config trace.ways trace.addresses)

-- the bytes are outside the grammar of traces or pass its limit, and this is their first fault
pub record HasFirstTraceFault (bytes : List ℕ) (fault : TraceFault) : Type 0 where
  pub first : trace_of bytes ≡ Err fault
  pub outside : (trace : Trace) → IsTrace bytes trace → ⊥
