use Rattle.rv_asm.proofs.WholeGrammar.{assembled_found, assembled_only}
use Rattle.rv_asm.proofs.program.assemble.Goals as goal

pub returns-clause-found : goal.returns-clause-found
returns-clause-found c = assembled_found c.args.limit c.args.text.now (λ words. words.items) c.assemble_text.result c.assemble_text.ensures.exact c.assemble_text.ensures.few

pub returns-clause-only : goal.returns-clause-only
returns-clause-only c made is = assembled_only c.args.limit c.args.text.now made _ is c.assemble_text.ensures.exact
