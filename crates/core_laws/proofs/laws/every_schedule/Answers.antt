use Rattle.core_laws.proofs.AtEnd.{every_schedule}
use Rattle.core_laws.proofs.laws.every_schedule.Goals as goal

pub returns-clause-legal : goal.returns-clause-legal
returns-clause-legal c image script q f said h x = (every_schedule image script q f said h x).legal

pub returns-clause-tables : goal.returns-clause-tables
returns-clause-tables c image script q f said h x = (every_schedule image script q f said h x).tables

pub returns-clause-busy : goal.returns-clause-busy
returns-clause-busy c image script q f said h x = (every_schedule image script q f said h x).busy

pub returns-clause-safe : goal.returns-clause-safe
returns-clause-safe c image script q f said h x = (every_schedule image script q f said h x).safe

pub returns-clause-zeros : goal.returns-clause-zeros
returns-clause-zeros c image script q f said h x = (every_schedule image script q f said h x).zeros

pub returns-clause-loading : goal.returns-clause-loading
returns-clause-loading c image script q f said h x = (every_schedule image script q f said h x).loading

pub returns-clause-read : goal.returns-clause-read
returns-clause-read c image script q f said h x = (every_schedule image script q f said h x).read
