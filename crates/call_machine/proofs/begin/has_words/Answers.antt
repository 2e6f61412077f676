use Rattle.std.proofs.Common.{sym, subst}
use Rattle.mon_records.specs.Ranges.{IsCall}
use Rattle.call_machine.proofs.begin.has_words.Goals as goal

pub returns-in-Block : goal.returns-in-Block
returns-in-Block c = subst IsCall (sym c.in-Block.is) (record { words = c.words.ensures; all = tt })

pub returns-in-Free : goal.returns-in-Free
returns-in-Free c = subst IsCall (sym c.in-Free.is) (record { words = c.words-in-Free.ensures; all = tt })

pub returns-in-Assign : goal.returns-in-Assign
returns-in-Assign c = subst IsCall (sym c.in-Assign.is) (record { words = c.words-in-Assign.ensures; all = tt })

pub returns-in-Flush : goal.returns-in-Flush
returns-in-Flush c = subst IsCall (sym c.in-Flush.is) (record { words = tt; all = tt })

pub returns-in-RegionInfo : goal.returns-in-RegionInfo
returns-in-RegionInfo c = subst IsCall (sym c.in-RegionInfo.is) (record { words = c.words-in-RegionInfo.ensures; all = tt })

pub returns-in-Create : goal.returns-in-Create
returns-in-Create c = subst IsCall (sym c.in-Create.is) (record { words = c.words-in-Create.ensures; all = tt })

pub returns-in-LoadTable : goal.returns-in-LoadTable
returns-in-LoadTable c = subst IsCall (sym c.in-LoadTable.is) (record { words = c.words-in-LoadTable.ensures; all = tt })

pub returns-in-LoadPage : goal.returns-in-LoadPage
returns-in-LoadPage c = subst IsCall (sym c.in-LoadPage.is) (record { words = c.words-in-LoadPage.ensures; all = tt })

pub returns-in-LoadThread : goal.returns-in-LoadThread
returns-in-LoadThread c = subst IsCall (sym c.in-LoadThread.is) (record { words = c.words-in-LoadThread.ensures; all = tt })

pub returns-in-Init : goal.returns-in-Init
returns-in-Init c = subst IsCall (sym c.in-Init.is) (record { words = c.words-in-Init.ensures; all = tt })

pub returns-in-DeleteThread : goal.returns-in-DeleteThread
returns-in-DeleteThread c = subst IsCall (sym c.in-DeleteThread.is) (record { words = c.words-in-DeleteThread.ensures; all = tt })

pub returns-in-Delete : goal.returns-in-Delete
returns-in-Delete c = subst IsCall (sym c.in-Delete.is) (record { words = c.words-in-Delete.ensures; all = tt })

pub returns-in-Enter : goal.returns-in-Enter
returns-in-Enter c = subst IsCall (sym c.in-Enter.is) (record { words = c.words-in-Enter.ensures; all = tt })

pub returns-in-Exit : goal.returns-in-Exit
returns-in-Exit c = subst IsCall (sym c.in-Exit.is) (record { words = tt; all = tt })

pub returns-in-Aex : goal.returns-in-Aex
returns-in-Aex c = subst IsCall (sym c.in-Aex.is) (record { words = c.array_words.ensures.words; all = c.array_words.ensures.all })

pub returns-in-Restore : goal.returns-in-Restore
returns-in-Restore c = subst IsCall (sym c.in-Restore.is) (record { words = tt; all = tt })

pub returns-in-Accept : goal.returns-in-Accept
returns-in-Accept c = subst IsCall (sym c.in-Accept.is) (record { words = c.words-in-Accept.ensures; all = tt })

pub returns-in-Send : goal.returns-in-Send
returns-in-Send c = subst IsCall (sym c.in-Send.is) (record { words = c.words-in-Send.ensures; all = tt })

pub returns-in-Read : goal.returns-in-Read
returns-in-Read c = subst IsCall (sym c.in-Read.is) (record { words = c.words-in-Read.ensures; all = tt })

pub returns-in-EnclaveInfo : goal.returns-in-EnclaveInfo
returns-in-EnclaveInfo c = subst IsCall (sym c.in-EnclaveInfo.is) (record { words = c.words-in-EnclaveInfo.ensures; all = tt })

pub returns-in-SetSatp : goal.returns-in-SetSatp
returns-in-SetSatp c = subst IsCall (sym c.in-SetSatp.is) (record { words = c.words-in-SetSatp.ensures; all = tt })

pub returns-in-AcceptRegion : goal.returns-in-AcceptRegion
returns-in-AcceptRegion c = subst IsCall (sym c.in-AcceptRegion.is) (record { words = c.words-in-AcceptRegion.ensures; all = tt })

pub returns-in-Reserve : goal.returns-in-Reserve
returns-in-Reserve c = subst IsCall (sym c.in-Reserve.is) (record { words = c.words-in-Reserve.ensures; all = tt })

pub returns-in-Unknown : goal.returns-in-Unknown
returns-in-Unknown c = subst IsCall (sym c.in-Unknown.is) (record { words = (c.words-in-Unknown.ensures.0, c.array_words-in-Unknown.ensures.words); all = c.array_words-in-Unknown.ensures.all })
